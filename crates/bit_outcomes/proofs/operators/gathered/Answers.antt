-- One operand more.
use Rattle.std.proofs.Common.{◌<◌, ◌≤◌, List, [], take, length, get_or, subst, sym, arith}
use Rattle.std.proofs.lemmas.List.{take_all}
use Rattle.smv_meaning.specs.declared.outcome.Evaluation.{Evaluation}
use Rattle.smv_meaning.specs.declared.outcome.Evaluation.TheVariants.{Nothing, Values}
use Rattle.smv_meaning.specs.Outcomes.{operated}
use Rattle.bit_outcomes.specs.Gathering.{TellsEach}
use Rattle.bit_outcomes.specs.Telling.{ToldStands}
use Rattle.bit_outcomes.proofs.Kept.{all_told_kept, extends_trans}
use Rattle.bit_outcomes.proofs.OfNodes.{tells_at}
use Rattle.bit_outcomes.proofs.OfOperands.{operated_more}
use Rattle.bit_outcomes.proofs.operators.gathered.Goals as goal

pub with_value-requires-clause-operand_stands : goal.with_value-requires-clause-operand_stands
with_value-requires-clause-operand_stands c =
    subst (ToldStands c.operands.graph) (sym c.index-operands-i.is) (c.operands.invariant.operands_stand c.operands.i c.index-operands-i.result c.operands-test.true)

pub operands-preserved : goal.operands-preserved
operands-preserved c =
    let before = c.operands.invariant in
    let each = c.in_ok-each.ensures in
    let stands = rw c.in-Some.is at c.in_ok-each.ensures.stands in
    let told = rw c.in-Some.is at c.in_ok-each.ensures.told in
    let g = c.operands.graph in
    let k = c.with_value.new.graph in
    let ts = c.args.operands.now in
    let i = c.operands.i in
    record {
      extends = extends_trans c.args.graph.now g k before.extends each.extends;
      operands_stand = all_told_kept g k each.extends ts before.operands_stand;
      made_stands = stands;
      told = λ v os h all.
          let first = each.extends.kept v h in
          let lt : c.operands.i < length os = omega (arith, all.long, c.operands-test.true) in
          subst (λ (o : Evaluation). TellsEach v c.in-Some.each.fault c.in-Some.each.values o) (sym (operated_more os i lt))
          (told v (operated Values [] (take i os)) (get_or os i Nothing) h (before.told v os first all) (tells_at v ts os i c.index-operands-i.result c.operands-test.true c.index-operands-i.is all));
    }

pub returns-clause-told : goal.returns-clause-told
returns-clause-told c = λ v os h all.
    let end : length os ≤ c.operands.i = omega (arith, all.long) in
    subst (λ (xs : List Evaluation). TellsEach v c.operands.made.fault c.operands.made.values (operated Values [] xs)) (take_all c.operands.i os end) (c.operands.invariant.told v os h all)
