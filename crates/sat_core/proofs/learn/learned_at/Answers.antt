use Rattle.std.proofs.Common.{List, ap, get_or, length, refl, subst, ◌<◌, ◌≤◌, ◌∙◌, ℕ}
use Rattle.sat_core.specs.Searching.{learned_clause}
use Rattle.sat_core.proofs.learn.learned_at.Goals as goal

pub returns-clause-clause : goal.returns-clause-clause
returns-clause-clause c =
    let point = c.args.places.now.point in
    c.in_ok-clause.ensures ∙ ap (λ xs. learned_clause xs point c.deref-2.result.now) c.deref.ensures.value ∙ ap (learned_clause c.args.trail.now.literals.items point) c.deref-2.ensures.value

pub returns-clause-level_in : goal.returns-clause-level_in
returns-clause-level_in c =
    let P : List ℕ → Type 0 = λ xs. c.jump_level-backjump_level.result < length xs in
    subst P c.deref-4.ensures.value c.jump_level-backjump_level.ensures.below

pub returns-clause-seen : goal.returns-clause-seen
returns-clause-seen c i below =
    let best = c.greatest-best.result in
    let P : List ℕ → Type 0 = λ xs. (best < length c.deref-5.result.now) × (get_or xs i 0 ≤ get_or c.deref-5.result.now best 0) in
    let Q : List ℕ → Type 0 = λ xs. (best < length xs) × (get_or c.args.trail.now.level_starts.items i 0 ≤ get_or xs best 0) in
    let seen : Q c.args.places.now.others.items = subst Q c.deref-5.ensures.value (subst P c.deref-4.ensures.value (c.jump_level-backjump_level.ensures.seen i below)) in
    (best, refl, seen.0, seen.1)
