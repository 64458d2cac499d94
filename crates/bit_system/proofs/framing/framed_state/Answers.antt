-- The edges stand, one for each bit.
use Rattle.std.proofs.Common.{◌∙◌, ap, sym, subst, length}
use Rattle.std.proofs.lemmas.List.{length-map}
use Rattle.bit_arith.specs.Number.{AllStand}
use Rattle.bit_system.specs.Conditions.{input}
use Rattle.bit_system.proofs.framing.framed_state.Goals as goal

pub told_state-requires-clause-stand : goal.told_state-requires-clause-stand
told_state-requires-clause-stand c = subst (AllStand c.args.graph.now) (sym c.in_ok-edges.ensures) c.requires.stand

pub told_state-requires-clause-width : goal.told_state-requires-clause-width
told_state-requires-clause-width c = ap length c.in_ok-edges.ensures ∙ length-map c.args.bits.now input ∙ c.requires.width
