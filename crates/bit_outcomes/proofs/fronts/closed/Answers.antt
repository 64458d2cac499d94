-- The rest.
use Rattle.std.proofs.Common.{◌∙◌, ◌||◌, ℕ, Bool, ap}
use Rattle.bit_graph.specs.Meaning.{Consistent, edge_value}
use Rattle.smv_meaning.specs.declared.outcome.Evaluation.{Evaluation}
use Rattle.bit_outcomes.specs.declared.members.Row.{Row}
use Rattle.bit_outcomes.specs.Telling.{Tells, TellsSet}
use Rattle.bit_outcomes.proofs.OfFronts.{front_closed, some_of}
use Rattle.bit_outcomes.proofs.fronts.closed.Goals as goal

pub returns-in_ok-members-in-Some-clause-told : goal.returns-in_ok-members-in-Some-clause-told
returns-in_ok-members-in-Some-clause-told c = λ v f r h before told.
    let second = c.in_ok-members-in-Some.ensures.extends.kept v h in
    let first = c.in_ok-fault-in-Some.ensures.extends.kept v second in
    let early = c.in_ok-of_rest-in-Some.ensures.extends.kept v first in
    let x = c.args.front in
    let row = c.in-Some.row in
    let of_row : TellsSet v row.fault row.members r =
    some_of (λ (q : Row). (u : ℕ → Bool) (o : Evaluation) → Consistent u c.args.graph.now → Tells u c.args.rest.now o → TellsSet u q.fault q.members o) c.in_ok-as_row.field-0 row c.in-Some.is
    c.in_ok-as_row.ensures.told v r early told in
    front_closed v x f before row.fault c.in_ok-fault-in-Some.fault row.members c.in_ok-members-in-Some.members
    (c.in_ok-fault-in-Some.ensures.value v second ∙ ap (λ q. edge_value v x.fault || q) (c.in_ok-of_rest-in-Some.ensures.value v first))
    (λ n a b. c.in_ok-members-in-Some.ensures.there v h n a b) (λ w n. c.in_ok-members-in-Some.ensures.value v w h n) r of_row
