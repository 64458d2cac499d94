use Rattle.std.proofs.Common.{◌≡◌, ℕ, ◌<◌, ◌≤◌, ◌+◌, ◌-◌, Bool, List, [], length, get_or, vec_len, refl, sym, subst, ap, ◌∙◌, arith}
use Rattle.std.proofs.lemmas.List.{get_or_read_under}
use Rattle.clause_core.specs.declared.literal.Lit.{Lit}
use Rattle.clause_core.specs.Literals.{none_lit, at}
use Rattle.sat_core.specs.Positions.{Marked, level_marks}
use Rattle.sat_prop.specs.Trails.{Forced}
use Rattle.sat_prop.specs.declared.trail.Trail.{Trail}
use Rattle.sat_prop.specs.Trails.{Based, reason_at}
use Rattle.sat_prop.proofs.Sweeps.{reasoned_from}
use Rattle.sat_core.specs.Searching.{NoneFrom}
use Rattle.sat_core.proofs.Marking.{not_decision}

pub why_read : (t u : Trail) (x : Lit) (y p : ℕ) → t ≡ u → x ≡ get_or t.literals.items p x → y ≡ get_or t.reasons.items x.var y →
    p < length u.literals.items → y ≡ reason_at u.literals.items u.reasons.items p
why_read t u x y p e rx ry lp =
    let P : Trail → Type 0 = λ w. p < length w.literals.items in
    let lt : p < length t.literals.items = subst P (sym e) lp in
    let a : x ≡ at t.literals.items p = get_or_read_under t.literals.items p (length t.literals.items) x none_lit rx lt refl in
    let v : x.var ≡ (at t.literals.items p).var = ap (λ (l : Lit). l.var) a in
    let lw : x.var < length t.reasons.items = omega (arith, v, t.within p none_lit lt, t.reasons_len) in
    let b : y ≡ get_or t.reasons.items x.var 0 = get_or_read_under t.reasons.items x.var (length t.reasons.items) y 0 ry lw refl in
    let f : y ≡ reason_at t.literals.items t.reasons.items p = b ∙ ap (λ n. get_or t.reasons.items n 0) v in
    let Q : Trail → Type 0 = λ w. y ≡ reason_at w.literals.items w.reasons.items p in
    subst Q e f

pub floor_read : (x t : Trail) (n floor : ℕ) → x ≡ t → n ≡ vec_len x.level_starts → floor ≡ get_or x.level_starts.items (n - 1) floor → 0 < length t.level_starts.items →
    floor ≡ get_or t.level_starts.items (length t.level_starts.items - 1) 0
floor_read x t n floor e en r pos =
    let P : Trail → Type 0 = λ w. 0 < length w.level_starts.items in
    let px : 0 < length x.level_starts.items = subst P (sym e) pos in
    let nx : n ≡ length x.level_starts.items = omega (arith, en, x.level_starts.ok.0) in
    let a : floor ≡ get_or x.level_starts.items (n - 1) 0 = get_or_read_under x.level_starts.items (n - 1) (length x.level_starts.items) floor 0 r (omega arith) refl in
    let b : floor ≡ get_or x.level_starts.items (length x.level_starts.items - 1) 0 = a ∙ ap (λ m. get_or x.level_starts.items (m - 1) 0) nx in
    let Q : Trail → Type 0 = λ w. floor ≡ get_or w.level_starts.items (length w.level_starts.items - 1) 0 in
    subst Q e b

pub reason_of : (t : Trail) (cs : List (List Lit)) (w p i floor : ℕ) (v : List Bool) → Based t.literals.items t.reasons.items cs →
    w ≡ reason_at t.literals.items t.reasons.items p → length t.level_starts.items ≡ i + 1 → floor ≡ get_or t.level_starts.items i 0 → floor ≤ p →
    p < length t.literals.items → length v ≡ length t.literals.items → Marked v p → NoneFrom v (p + 1) → (level_marks v floor ≡ 1 → ⊥) →
    (0 < w) × (w - 1 < length cs) × Forced t.literals.items p (get_or cs (w - 1) [])
reason_of t cs w p i floor v based e ls lf le lp lv m high two =
    let pos : 0 < reason_at t.literals.items t.reasons.items p =
    not_decision t.literals.items t.reasons.items t.level_starts.items floor p i v t.roots t.rising ls lf le lp (omega arith) m high two in
    let h = reasoned_from t.literals.items t.reasons.items cs based p lp pos in
    let P : ℕ → Type 0 = λ n. Forced t.literals.items p (get_or cs (n - 1) []) in
    (omega arith, omega (arith, h.0), subst P (sym e) h.1)
