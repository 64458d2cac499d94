use Rattle.std.proofs.Common.{◌≡◌, ℕ, ◌+◌, ◌<◌, length, subst, ap}
use Rattle.frame_solver.proofs.Marked.{mark_more, mark_skip}
use Rattle.frame_solver.proofs.marking.mark.Goals as goal

pub returns-in-None-clause-marked : goal.returns-in-None-clause-marked
returns-in-None-clause-marked c before h =
    let P : ℕ → Type 0 = λ n. (v : ℕ) → v < n → c.args.l.var ≡ c.args.from + v → ⊥ in
    mark_skip c.args.from before c.args.marks.now.items c.args.l h (subst P (ap length c.as_slice.ensures.value) c.in-None.ensures)

pub returns-in-Some-clause-marked : goal.returns-in-Some-clause-marked
returns-in-Some-clause-marked c before h =
    let low : c.in-Some.v < length c.args.marks.now.items = subst (λ n. c.in-Some.v < n) (ap length c.as_slice.ensures.value) c.in-Some.ensures.0 in
    mark_more c.args.from before c.args.marks.now.items c.args.l h c.in-Some.v low c.in-Some.ensures.1
