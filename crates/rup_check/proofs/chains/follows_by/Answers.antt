use Rattle.std.proofs.Common.{◌≡◌, ◌∙◌, sym, subst, length, true, MatchBool, Bool, arith, List, ℕ}
use Rattle.std.specs.List.{All}
use Rattle.clause_core.specs.declared.literal.Lit.{Lit}
use Rattle.clause_core.specs.Literals.{Within}
use Rattle.hinted_log.specs.Hints.{FollowsBy}
use Rattle.rup_check.specs.Chains.{before, AssumedFalse}
use Rattle.rup_check.proofs.Walking.{follows_by_walk, follows_by_none}
use Rattle.rup_check.proofs.chains.follows_by.Goals as goal
use Rattle.rup_check.proofs.chains.follows_by.Goals.{then-assume_open, else-assume_open}

pub returns-clause-says : goal.returns-clause-says
returns-clause-says c =
    let cs = before c.args.clauses.now c.args.units.now c.args.steps.now c.args.count in
    let v = c.assume_open.new.values in
    let hints = c.args.hints.now in
    let A : Bool → Type 0 = AssumedFalse c.args.c.now v in
    elim c.if-assume_open.branch [
      | then-assume_open w ↦
          rw w.follows-is
          (follows_by_walk (length c.args.values.now) cs v c.args.c.now hints w.walk-follows.result (omega arith) c.requires.within
          (subst A w.if-assume_open.true c.assume_open.ensures.says) w.walk-follows.ensures.says)
      | else-assume_open w ↦
          rw w.follows-is (follows_by_none cs v c.args.c.now hints c.assume_open.result w.if-assume_open.false c.assume_open.ensures.says)
    ]
