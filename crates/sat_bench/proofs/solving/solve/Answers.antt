use Rattle.std.proofs.Common.{◌≡◌, ℕ, [], ◌-◌, true, subst, sym, ◌∙◌, arith}
use Rattle.sat_core.specs.Queries.{State, AnswerSays}
use Rattle.sat_bench.proofs.Verdicts.{right}
use Rattle.sat_bench.specs.Verdicts.{VerdictSays}
use Rattle.sat_bench.proofs.solving.solve.Goals as goal

pub returns : goal.returns
returns c =
    let cs = c.args.clauses.now in
    let budget = c.args.budget in
    let purse = c.solve.new.purse in
    let over = purse.spent in
    let conflicts = c.saturating_sub.result in
    let answer = c.in_ok-answer.answer in
    let same : purse.budget ≡ budget = c.in_ok-answer.ensures.budget ∙ c.new-purse.ensures.budget in
    let learned = c.solve.new.self.learned in
    let F : State → Type 0 = λ s. AnswerSays s.vars s.given learned [] budget over answer in
    let G : ℕ → Type 0 = λ b. AnswerSays c.in_ok-solver.solver.vars c.in_ok-solver.solver.given learned [] b over answer in
    let said : F (record { vars = c.args.vars; given = cs; learned = [] }) =
    subst F c.in_ok-solver.ensures (subst G c.new-purse.ensures.budget c.in_ok-answer.ensures.answer) in
    let paid : over ≡ true → conflicts ≡ budget - 1 =
    λ is. grind (arith, c.saturating_sub.ensures, c.drawn.ensures, purse.used_up is, same) in
    subst (VerdictSays cs budget conflicts) (sym c.verdict_of.ensures) (right c.args.vars cs learned budget conflicts over answer said paid)
