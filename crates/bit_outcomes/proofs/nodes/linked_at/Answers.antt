-- Two nodes are the operands.
use Rattle.std.proofs.Common.{[], ◌∷◌}
use Rattle.std.proofs.lemmas.List.Elements.{All-cons, All-nil}
use Rattle.smv_meaning.specs.Tables.{outcome_at}
use Rattle.bit_outcomes.specs.Telling.{ToldStands}
use Rattle.bit_outcomes.proofs.OfNodes.{tells_two}
use Rattle.bit_outcomes.proofs.nodes.linked_at.Goals as goal

pub applied-requires : goal.applied-requires
applied-requires c =
    let g = c.args.graph.now in
    let one = c.in_ok-one in
    let other = c.in_ok-other in
    All-cons (ToldStands g) one.one (other.other ∷ []) (one.ensures.stands g c.requires) (All-cons (ToldStands g) other.other [] (other.ensures.stands g c.requires) (All-nil (ToldStands g)))

pub returns-clause-told : goal.returns-clause-told
returns-clause-told c = λ place v os h all.
    c.in_ok-told.ensures.told place v (outcome_at os c.args.a ∷ outcome_at os c.args.b ∷ []) h
    (tells_two v c.in_ok-one.one c.in_ok-other.other (outcome_at os c.args.a) (outcome_at os c.args.b) (c.in_ok-one.ensures.told v os all) (c.in_ok-other.ensures.told v os all))
