-- One pair more, from the last on.
use Rattle.std.proofs.Common.{◌≡◌, ◌+◌, ◌-◌, ◌*◌, ◌<◌, length, drop, get_or, subst, sym, arith, ℕ}
use Rattle.smv_meaning.specs.declared.outcome.Evaluation.{Evaluation}
use Rattle.smv_meaning.specs.declared.outcome.Evaluation.TheVariants.{Nothing}
use Rattle.smv_meaning.specs.Outcomes.{choice}
use Rattle.bit_outcomes.specs.Telling.{Tells}
use Rattle.bit_outcomes.proofs.Kept.{all_told_kept, extends_trans}
use Rattle.bit_outcomes.proofs.OfChoices.{choice_step}
use Rattle.bit_outcomes.proofs.OfNodes.{tells_at}
use Rattle.bit_outcomes.proofs.choosing.values_behind.Goals as goal

pub pairs-preserved : goal.pairs-preserved
pairs-preserved c =
    let before = c.pairs.invariant in
    let next = c.in_ok-next.ensures in
    let g = c.pairs.graph in
    let k = c.either.new.graph in
    let ts = c.args.operands.now in
    let i = c.pairs.i - 1 in
    record {
      extends = extends_trans c.args.graph.now g k before.extends next.extends;
      operands_stand = all_told_kept g k next.extends ts before.operands_stand;
      rest_stands = next.stands;
      told = λ rule p v os h all.
          let first = next.extends.kept v h in
          let up : c.pairs.i - 1 + 1 ≡ c.pairs.i = omega arith in
          let odd : 2 * (c.pairs.i - 1) + 1 < length c.args.operands.now = omega arith in
          let even : 2 * (c.pairs.i - 1) < length c.args.operands.now = omega arith in
          let within : 2 * (c.pairs.i - 1) + 1 < length os = omega (arith, all.long, odd) in
          subst (λ (o : Evaluation). Tells v c.in_ok-next.next o) (sym (choice_step rule p os i c.pairs.i up within))
          (next.told v (get_or os (2 * i) Nothing) (get_or os (2 * i + 1) Nothing) (choice rule p (drop (2 * c.pairs.i) os)) h
          (tells_at v ts os (2 * i) c.index-operands-i.result even c.index-operands-i.is all)
          (tells_at v ts os (2 * i + 1) c.index-operands-i-in-pairs.result odd c.index-operands-i-in-pairs.is all) (before.told rule p v os first all));
    }

pub returns-clause-told : goal.returns-clause-told
returns-clause-told c = λ rule p v os h all.
    let end : c.pairs.i ≡ 0 = omega arith in
    subst (λ (n : ℕ). Tells v c.pairs.rest (choice rule p (drop (2 * n) os))) end (c.pairs.invariant.told rule p v os h all)
