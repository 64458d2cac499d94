-- Some value is none of the type.
use Rattle.std.proofs.Common.{List, ap, subst, sym, ◌∙◌}
use Rattle.std.specs.Prelude.{All}
use Rattle.std.specs.List.{list_any}
use Rattle.bit_outcomes.specs.declared.told.Member.{Member}
use Rattle.bit_outcomes.specs.Asked.{is_out}
use Rattle.bit_outcomes.specs.Telling.{IsThere}
use Rattle.bit_outcomes.proofs.OfAsked.{outside_told}
use Rattle.bit_outcomes.proofs.items.outside_edge.Goals as goal

pub returns-in_ok-edge-in-Some-clause-value : goal.returns-in_ok-edge-in-Some-clause-value
returns-in_ok-edge-in-Some-clause-value c = λ v o h a i.
    let second = c.in_ok-edge-in-Some.ensures.extends.kept v h in
    let first = c.in_ok-any-in-Some.ensures.extends.kept v second in
    let row = rw c.in-Some.is at c.in_ok-row.ensures.told in
    let members = c.as_slice.ensures in
    outside_told v c.args.declared.now c.in-Some.row.fault c.negation.result c.in_ok-any-in-Some.any c.in_ok-edge-in-Some.edge c.in-Some.row.members o c.negation.ensures
    (c.in_ok-edge-in-Some.ensures.value v h)
    (λ t. c.in_ok-any-in-Some.ensures.value v second (subst (λ (ms : List Member). All (IsThere v) ms) (sym members) t) ∙ ap (list_any (is_out v c.args.declared.now)) members)
    (row v o first a) i
