-- One pair more, and the tail in the end.
use Rattle.std.proofs.Common.{◌≡◌, ◌+◌, ◌*◌, ◌<◌, ◌≤◌, ℕ, suc, Bool, length, get_or, drop, subst, arith}
use Rattle.bit_graph.specs.Meaning.{Consistent}
use Rattle.smv_meaning.specs.declared.outcome.Evaluation.{Evaluation}
use Rattle.smv_meaning.specs.declared.outcome.Evaluation.TheVariants.{Nothing}
use Rattle.smv_meaning.specs.Outcomes.{choice, taken, truth}
use Rattle.bit_outcomes.specs.Fronts.{FrontStands, TellsFront}
use Rattle.bit_outcomes.specs.declared.fronts.Front.{Front}
use Rattle.bit_outcomes.specs.Telling.{Tells}
use Rattle.bit_outcomes.proofs.Kept.{all_told_kept, extends_trans, told_kept}
use Rattle.bit_outcomes.proofs.OfFronts.{front_choice, front_of, some_of}
use Rattle.bit_outcomes.proofs.OfNodes.{tells_at}
use Rattle.bit_outcomes.proofs.choosing.with_front.Goals as goal

pub pairs-preserved : goal.pairs-preserved
pairs-preserved c =
    let before = c.pairs.invariant in
    let made = c.in_ok-next.ensures in
    let next = c.in-Some.next in
    let g = c.pairs.graph in
    let k = c.with_branch.new.graph in
    let ts = c.args.operands.now in
    let i = c.pairs.i in
    let odd : 2 * i + 1 < length ts = omega (arith, c.requires.from, c.pairs-test.true) in
    let even : 2 * i < length ts = omega (arith, odd) in
    record {
      extends = extends_trans c.args.graph.now g k before.extends made.extends;
      operands_stand = all_told_kept g k made.extends ts before.operands_stand;
      tail_stands = told_kept g k made.extends c.args.tail.now.told before.tail_stands;
      front_stands = some_of (FrontStands k) c.in_ok-next.field-0 next c.in-Some.is made.stands;
      told = λ v os h all.
          let one = c.index-operands-i.result in
          let other = c.index-operands-i-in-pairs.result in
          let up : suc i ≡ i + 1 = omega arith in
          subst (λ (n : ℕ). TellsFront v next (front_of os n)) up
          (some_of
          (λ (x : Front). (u : ℕ → Bool) (f : Evaluation → Evaluation) (o a : Evaluation) → Consistent u k → TellsFront u c.pairs.front f → Tells u one o → Tells u other a →
          TellsFront u x (λ r. f (taken (truth o) o a r)))
          c.in_ok-next.field-0 next c.in-Some.is made.told v (front_of os i) (get_or os (2 * i) Nothing) (get_or os (2 * i + 1) Nothing) h (before.told v os (made.extends.kept v h) all)
          (tells_at v ts os (2 * i) one even c.index-operands-i.is all) (tells_at v ts os (2 * i + 1) other odd c.index-operands-i-in-pairs.is all));
    }

pub returns-clause-told : goal.returns-clause-told
returns-clause-told c = λ rule place v os h all behind.
    let from = c.args.tail.now.from in
    let made = c.in_ok-told.ensures in
    let rest = choice rule place (drop (2 * from) os) in
    let end : c.pairs.i ≡ from = omega arith in
    let long : 2 * from ≤ length os = omega (arith, all.long, c.requires.from) in
    subst (Tells v c.in_ok-told.told) (front_choice rule place os from long)
    (subst (λ (n : ℕ). Tells v c.in_ok-told.told (front_of os n rest)) end
    (made.told v (front_of os c.pairs.i) rest h (c.pairs.invariant.told v os (made.extends.kept v h) all) behind))
