-- The integers as members.
use Rattle.std.proofs.Common.{List, subst, sym, rules}
use Rattle.std.proofs.lemmas.Int.{to_z-of_z}
use mir.Syntax.{w64}
use mir.Val.{SFits, of_z, to_z}
use Rattle.smv_meaning.specs.Outcomes.{ranged}
use Rattle.bit_outcomes.specs.declared.told.Member.{Member}
use Rattle.bit_outcomes.specs.Telling.{TellsSet}
use Rattle.bit_outcomes.proofs.OfOperands.{ranged_told, run_is}
use Rattle.bit_outcomes.proofs.operators.between.Goals as goal

pub returns-clause-told : goal.returns-clause-told
returns-clause-told c = λ v x y p q h dx dy a b.
    let is = c.in_ok-members.ensures.is in
    let low = c.args.low in
    let high = c.args.high in
    let s : SFits w64 c.args.low = search rules in
    let t : SFits w64 c.args.high = search rules in
    let ms = c.in_ok-members.members in
    let one = run_is v is.0 ms (to_z w64 (of_z w64 low)) (to_z w64 (of_z w64 high)) low high is.1.0 (to_z-of_z w64 low s) (to_z-of_z w64 high t) in
    subst (λ (ms : List Member). TellsSet v c.in_ok-fault.fault ms (ranged p q)) (sym one)
    (ranged_told v c.args.f c.args.g c.in_ok-fault.fault is.0 x y low high (c.in_ok-fault.ensures.value v h) (is.1.1 v h) dx dy p q a b)
