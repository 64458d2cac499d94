-- One operand more.
use Rattle.std.proofs.Common.{◌<◌, ◌≤◌, List, [], take, length, get_or, subst, sym, arith}
use Rattle.std.proofs.lemmas.List.{take_all}
use Rattle.smv_meaning.specs.declared.outcome.Evaluation.{Evaluation}
use Rattle.smv_meaning.specs.declared.outcome.Evaluation.TheVariants.{Nothing}
use Rattle.smv_meaning.specs.Outcomes.{united}
use Rattle.bit_outcomes.specs.Telling.{TellsSet, ToldStands}
use Rattle.bit_outcomes.proofs.Kept.{all_told_kept, extends_trans}
use Rattle.bit_outcomes.proofs.OfMembers.{united_more}
use Rattle.bit_outcomes.proofs.OfNodes.{tells_at}
use Rattle.bit_outcomes.proofs.members.all_united.Goals as goal

pub with_row-requires-clause-operand_stands : goal.with_row-requires-clause-operand_stands
with_row-requires-clause-operand_stands c =
    subst (ToldStands c.operands.graph) (sym c.index-operands-i.is) (c.operands.invariant.operands_stand c.operands.i c.index-operands-i.result c.operands-test.true)

pub operands-preserved : goal.operands-preserved
operands-preserved c =
    let before = c.operands.invariant in
    let row = c.in_ok-row.ensures in
    let stands = rw c.in-Some.is at c.in_ok-row.ensures.stands in
    let told = rw c.in-Some.is at c.in_ok-row.ensures.told in
    let g = c.operands.graph in
    let k = c.with_row.new.graph in
    let ts = c.args.operands.now in
    let i = c.operands.i in
    record {
      extends = extends_trans c.args.graph.now g k before.extends row.extends;
      operands_stand = all_told_kept g k row.extends ts before.operands_stand;
      made_stands = stands;
      told = λ v os h all.
          let first = row.extends.kept v h in
          let lt : c.operands.i < length os = omega (arith, all.long, c.operands-test.true) in
          subst (λ (o : Evaluation). TellsSet v c.in-Some.row.fault c.in-Some.row.members o) (sym (united_more os i lt))
          (told v (united [] (take i os)) (get_or os i Nothing) h (before.told v os first all) (tells_at v ts os i c.index-operands-i.result c.operands-test.true c.index-operands-i.is all));
    }

pub returns-clause-told : goal.returns-clause-told
returns-clause-told c = λ v os h all.
    let end : length os ≤ c.operands.i = omega (arith, all.long) in
    subst (λ (xs : List Evaluation). TellsSet v c.operands.made.fault c.operands.made.members (united [] xs)) (take_all c.operands.i os end) (c.operands.invariant.told v os h all)
