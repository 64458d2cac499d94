use Rattle.std.proofs.Common.{◌≡◌, ℕ, ◌<◌, ◌≤◌, ◌+◌, ◌-◌, ◌*◌, Bool, true, false, List, length, drop, get_or, subst, ◌∙◌, ap, inl, inr, arith, set, sum_by, get_or-set_other, length-drop, length-set}
use Rattle.std.proofs.lemmas.Bool.{cases_eq, cases_Bool}
use Rattle.std.proofs.lemmas.List.{drop-set-lt, drop-set-add, get_or-drop, get_or_default}
use Rattle.std.proofs.lemmas.List.Sums.{sum_by-set, sum_by-le, get_or-le-sum_by}
use Rattle.sat_core.specs.Positions.{Marked, one, level_marks, OnlyMark}

pub level_set_by : (marks : List Bool) (floor i : ℕ) (b : Bool) → floor + i < length marks →
    level_marks (set marks (floor + i) b) floor + one (get_or marks (floor + i) false) ≡ level_marks marks floor + one b
level_set_by marks floor i b lt =
    let in' : i < length (drop floor marks) = simp length-drop (omega arith) in
    rw (drop-set-add, ← get_or-drop) (sum_by-set one (drop floor marks) i b false in')

pub level_set : (marks : List Bool) (floor q : ℕ) (b : Bool) → floor ≤ q → q < length marks →
    level_marks (set marks q b) floor + one (get_or marks q false) ≡ level_marks marks floor + one b
level_set marks floor q b le lt =
    let e : floor + (q - floor) ≡ q = omega arith in
    let P : ℕ → Type 0 = λ x. level_marks (set marks x b) floor + one (get_or marks x false) ≡ level_marks marks floor + one b in
    subst P e (level_set_by marks floor (q - floor) b (omega arith))

pub level_set_low : (marks : List Bool) (floor q : ℕ) (b : Bool) → q < floor → level_marks (set marks q b) floor ≡ level_marks marks floor
level_set_low marks floor q b lt = ap (sum_by one) (drop-set-lt floor marks q b lt)

pub one_le : (b : Bool) → one b ≤ 1
one_le true = omega arith
one_le false = omega arith

pub level_le : (marks : List Bool) (floor : ℕ) → level_marks marks floor ≤ length marks
level_le marks floor =
    omega (arith, sum_by-le one 1 (drop floor marks) (λ k d lt. one_le (get_or (drop floor marks) k d)), length-drop floor marks)

pub level_has : (marks : List Bool) (floor q : ℕ) → floor ≤ q → q < length marks → Marked marks q → 1 ≤ level_marks marks floor
level_has marks floor q le lt m =
    let e : floor + (q - floor) ≡ q = omega arith in
    let in' : q - floor < length (drop floor marks) = simp length-drop (omega arith) in
    let here : get_or (drop floor marks) (q - floor) false ≡ true = rw (get_or-drop, e) m in
    let h = get_or-le-sum_by one (drop floor marks) (q - floor) false in' in
    rw here at h

pub level_one : (marks : List Bool) (floor p : ℕ) → level_marks marks floor ≡ 1 → floor ≤ p → p < length marks → Marked marks p →
    OnlyMark marks floor p
level_one marks floor p e le lt m = (
  le,
  m,
  λ q le' lt' m'.
      elim (cases_eq q p) [
        | inl same ↦ same
        | inr ne ↦
            let w = set marks p false in
            let kept : Marked w q = rw get_or-set_other m' in
            let len : q < length w = simp length-set lt' in
            let a : 1 ≤ level_marks w floor = level_has w floor q le' len kept in
            let b : level_marks w floor + one (get_or marks p false) ≡ level_marks marks floor + 0 = level_set marks floor p false le lt in
            let c : one (get_or marks p false) ≡ 1 = ap one m in
            absurd (omega (arith, a, b, c, e))
      ],
)

pub level_none : (marks : List Bool) (floor : ℕ) → ((q : ℕ) → Marked marks q → ⊥) → level_marks marks floor ≡ 0
level_none marks floor none =
    let zero' : sum_by one (drop floor marks) ≤ length (drop floor marks) * 0 =
    sum_by-le one 0 (drop floor marks) (λ k d lt.
    elim (cases_Bool (get_or (drop floor marks) k d)) [
      | inl on ↦
          let e : get_or (drop floor marks) k false ≡ true = get_or_default (drop floor marks) k false d lt ∙ on in
          absurd (none (floor + k) (rw (← get_or-drop) e))
      | inr off ↦ rw off (omega arith)
    ]) in
    omega (arith, zero')
