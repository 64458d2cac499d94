use Rattle.std.proofs.Common.{◌≡◌, ◌∙◌, ℕ, sym, subst, length, List, arith}
use Rattle.std.specs.List.{All}
use Rattle.clause_core.specs.declared.literal.Lit.{Lit}
use Rattle.clause_core.specs.Literals.{Within}
use Rattle.hinted_log.specs.Hints.{FollowsBy}
use Rattle.rup_check.specs.Chains.{before}
use Rattle.rup_check.proofs.Leading.{search_says, open_not_taut}
use Rattle.rup_check.proofs.searching.hints_of.Goals as goal

pub returns-then-follows_by : goal.returns-then-follows_by
returns-then-follows_by c =
    let P : ℕ → Type 0 = λ n. FollowsBy (before c.args.clauses.now c.args.units.now c.args.steps.now n) c.args.step.now c.deref.result.now in
    let Q : List ℕ → Type 0 = FollowsBy (before c.args.clauses.now c.args.units.now c.args.steps.now (length c.args.steps.now)) c.args.step.now in
    subst Q c.deref.ensures.value (subst P c.len-count.ensures c.if-follows_by.ensures.says)

pub returns-then-not-assume_open : goal.returns-then-not-assume_open
returns-then-not-assume_open c = absurd (open_not_taut c.args.step.now c.requires.free c.if-not-assume_open.ensures.says)

pub returns : goal.returns
returns c =
    let cs = before c.args.clauses.now c.args.units.now c.args.steps.now (length c.args.steps.now) in
    search_says (length c.args.values.now) cs c.assume_open.new.values c.search.new.values c.args.step.now c.search.new.found.items
    c.in_ok-follows.follows (omega arith) c.requires.within c.if-not-assume_open.ensures.says c.in_ok-follows.ensures
