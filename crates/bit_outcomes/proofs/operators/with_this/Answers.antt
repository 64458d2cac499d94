-- The values and this one.
use Rattle.std.proofs.Common.{List, subst, sym, ap, ◌++◌, ◌∷◌, [], ◌∙◌}
use Rattle.std.specs.Prelude.{All}
use Rattle.std.proofs.lemmas.List.Elements.{All-push}
use Rattle.bit_operators.specs.declared.symbolic.Symbolic.{Symbolic}
use Rattle.bit_operators.specs.Denoting.{StandsIn}
use Rattle.bit_outcomes.proofs.Kept.{symbolic_kept, symbolics_kept}
use Rattle.bit_outcomes.proofs.operators.with_this.Goals as goal

pub returns-clause-stands : goal.returns-clause-stands
returns-clause-stands c =
    let g = c.args.graph.now in
    let k = c.or.new.self in
    let grown = c.in_ok-fault.ensures.extends in
    let xs = c.args.made.values in (
      c.in_ok-fault.ensures.stands,
      subst (λ (ss : List Symbolic). All (StandsIn k) ss) (sym (c.in_ok-push.ensures.ok ∙ ap (λ (y : Symbolic). xs ++ y ∷ []) c.in_ok-copy.ensures))
          (All-push (StandsIn k) xs c.args.x.now (symbolics_kept g k grown xs c.requires.made_stands.1) (symbolic_kept g k grown c.args.x.now c.requires.x_stands)),
    )
