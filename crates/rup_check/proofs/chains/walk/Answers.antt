use Rattle.std.proofs.Common.{◌≡◌, ◌<◌, subst, length, List, [], get_or, drop, arith, inr, ◌+◌}
use Rattle.clause_core.specs.declared.literal.Lit.{Lit}
use Rattle.clause_core.specs.Propagation.{Settled}
use Rattle.clause_core.specs.Values.{holds}
use Rattle.rup_check.specs.Chains.{before, Forces}
use Rattle.rup_check.proofs.Walking.{walk_at, walk_back, Walks-rest, Walks-unit, Forces-from_scan, Touched-set}
use Rattle.rup_check.proofs.chains.walk.Goals as goal

pub returns-in-Rest-clause-says : goal.returns-in-Rest-clause-says
returns-in-Rest-clause-says c w =
    let cs = before c.args.clauses.now c.args.units.now c.args.steps.now c.args.count in
    let v = c.loop-j.values in
    let hints = c.args.hints.now in
    let j = c.loop-j.j in
    let P : List Lit → Type 0 = Settled (holds v) in
    Walks-rest cs v (get_or hints j 0) (drop (j + 1) hints) (subst P c.in-Some.ensures.some c.in-Rest.ensures)
    (walk_at cs v hints j (omega arith) (c.loop-j.invariant.forth w))

pub loop-j-preserved : goal.loop-j-preserved
loop-j-preserved c =
    let cs = before c.args.clauses.now c.args.units.now c.args.steps.now c.args.count in
    let v = c.loop-j.values in
    let hints = c.args.hints.now in
    let j = c.loop-j.j in
    let l = c.in-UnitOn.l in
    let h = get_or hints j 0 in
    let lt : j < length hints = omega arith in
    let below : h < length cs = c.in-Some.ensures.below in
    let f : Forces v (get_or cs h []) l = Forces-from_scan v _ (get_or cs h []) l c.in-Some.ensures.some c.in-UnitOn.ensures in
    rw c.set.ensures (record {
      forth = λ w. Walks-unit cs v h (drop (j + 1) hints) l f (walk_at cs v hints j lt (c.loop-j.invariant.forth w));
      back = λ w. c.loop-j.invariant.back (walk_back cs v hints j lt (below, inr (l, f, w)));
      touched = Touched-set cs c.args.values.now hints v j l lt below f c.loop-j.invariant.touched;
    })
