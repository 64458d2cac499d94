use Rattle.std.proofs.Common.{◌≡◌, ◌<◌, ℕ, ◌++◌, sym, subst, length, List, [], take, get_or, arith, below_more}
use Rattle.std.specs.List.{All}
use Rattle.clause_core.specs.declared.literal.Lit.{Lit}
use Rattle.clause_core.specs.Literals.{Within}
use Rattle.clause_core.specs.Propagation.{Follows}
use Rattle.clause_core.specs.Derivations.{AllStepsBelow}
use Rattle.rup_check.specs.Searches.{Keeps}
use Rattle.rup_check.specs.Chains.{units_of}
use Rattle.rup_check.proofs.Keeping.{step_fails, step_follows, next_hinted, next_keeps, hinted_within}
use Rattle.rup_check.proofs.Leading.{next_no, next_yes}
use Rattle.rup_check.proofs.searching.push_hinted.Goals as goal

pub hint_next-requires-clause-in_steps : goal.hint_next-requires-clause-in_steps
hint_next-requires-clause-in_steps c =
    let P : ℕ → Type 0 = λ n. All (Within n) c.loop-k.hinted.steps in
    subst P (sym c.loop-k.auto.values)
    (hinted_within (length c.args.values.now) (c.args.clauses.now ++ units_of c.args.units.now) c.loop-k.hinted c.loop-k.invariant.hinted)

pub returns-then-not-branch : goal.returns-then-not-branch
returns-then-not-branch c =
    let cs = c.args.clauses.now ++ units_of c.args.units.now in
    let k = c.loop-k.k in
    let log = c.args.log.now in
    let step = c.get-step.result.now in
    let lt : k < length log = omega arith in
    let P : List Lit → Type 0 = Follows (cs ++ take k log) in
    let no = next_no cs c.loop-k.hinted c.hint_next.new.hinted step c.in_ok-hint_next.field-0 c.if-not-branch.true c.in_ok-hint_next.ensures in
    (c.loop-k.invariant.follows, lt, (λ h. step_fails cs log k c.loop-k.hinted step c.loop-k.invariant.keeps no (subst P (sym c.get-step.ensures) h.1)))

pub loop-k-preserved : goal.loop-k-preserved
loop-k-preserved c =
    let n = length c.args.values.now in
    let cs = c.args.clauses.now ++ units_of c.args.units.now in
    let k = c.loop-k.k in
    let log = c.args.log.now in
    let step = c.get-step.result.now in
    let old = c.loop-k.hinted in
    let new = c.hint_next.new.hinted in
    let lt : k < length log = omega arith in
    let same : step ≡ get_or log k [] = c.get-step.ensures in
    let yes = next_yes cs old new step c.in_ok-hint_next.field-0 c.if-not-branch.false c.in_ok-hint_next.ensures in
    let P : List Lit → Type 0 = Follows (cs ++ take k log) in
    let Q : List Lit → Type 0 = Within (length c.loop-k.values) in
    let R : ℕ → Type 0 = λ n. Within n step in
    let S : List Lit → Type 0 = Within n in
    let within : R n = subst R c.loop-k.auto.values (c.is_within.ensures.0 c.if-not-is_within.false) in
    record {
      follows = below_more _ _ c.loop-k.invariant.follows
          (subst S same within, subst P same (step_follows cs log k old new step c.loop-k.invariant.keeps yes));
      hinted = next_hinted n cs log k old new step within yes c.loop-k.invariant.keeps c.loop-k.invariant.hinted;
      keeps = next_keeps n cs log k old new step lt same yes c.loop-k.invariant.keeps;
    }

pub returns : goal.returns
returns c =
    let n = length c.args.values.now in
    let cs = c.args.clauses.now ++ units_of c.args.units.now in
    let log = c.args.log.now in
    let at : c.loop-k.k ≡ length log = omega arith in
    let P : ℕ → Type 0 = AllStepsBelow n cs log in
    let Q : ℕ → Type 0 = λ k. Keeps log k c.loop-k.hinted in
    (subst P at c.loop-k.invariant.follows, c.loop-k.invariant.hinted, subst Q at c.loop-k.invariant.keeps)
