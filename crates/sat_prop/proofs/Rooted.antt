-- What is true before all decisions.
use Rattle.std.proofs.Common.{◌≡◌, ℕ, ◌<◌, ◌≤◌, ◌+◌, true, List, [], ◌∷◌, ◌++◌, length, take, get_or, refl, sym, subst, ap, ◌∙◌, ◌⊎◌, inl, inr, arith, length-append, append-nil}
use Rattle.std.proofs.lemmas.Bool.{cases_lt, cases_eq}
use Rattle.std.proofs.lemmas.List.{take-take, length-take, take_all, take-append-le, get_or_default, get_or_past, get_or_append_left, get_or-take, length-take-le}
use Rattle.clause_core.specs.declared.literal.Lit.{Lit}
use Rattle.sat_prop.specs.declared.trail.Trail.{Trail}
use Rattle.sat_prop.specs.Trails.{among}
use Rattle.sat_prop.specs.Moves.{Extends}
use Rattle.sat_prop.specs.Watches.{HasOneLiteral, TrueIn, ShortDone}
use Rattle.sat_prop.specs.Roots.{ShortSwept, root}
use Rattle.sat_prop.proofs.Watching.{true_grows}
use Rattle.sat_prop.proofs.Visits.{went_grows}
use Rattle.sat_prop.proofs.Queues.{prefix_take}

-- with no decision it is the whole trail
pub root_whole : (literals : List Lit) (level_starts : List ℕ) → length level_starts ≡ 0 → root literals level_starts ≡ literals
root_whole literals level_starts none =
    ap (λ n. take n literals) (get_or_past level_starts 0 (length literals) (omega (arith, none))) ∙ take_all (length literals) literals (omega arith)

-- else what stands before the first decision
pub root_first : (literals : List Lit) (level_starts : List ℕ) → 0 < length level_starts → root literals level_starts ≡ take (get_or level_starts 0 0) literals
root_first literals level_starts some = ap (λ n. take n literals) (get_or_default level_starts 0 (length literals) 0 some)

pub root_went : (t t' : Trail) → Extends t t' → (l : Lit) → among (root t.literals.items t.level_starts.items) l ≡ true → among (root t'.literals.items t'.level_starts.items) l ≡ true
root_went t t' w l on =
    let tr = t.literals.items in
    let tr' = t'.literals.items in
    let P : List ℕ → Type 0 = λ xs. among (root tr' xs) l ≡ true in
    subst P (sym w.level_starts) (elim (cases_lt 0 (length t.level_starts.items)) [
      | inl some ↦
          let s = get_or t.level_starts.items 0 0 in
          let le : s ≤ length tr = omega (arith, t.in_trail 0 some) in
          let e : root tr' t.level_starts.items ≡ root tr t.level_starts.items = root_first tr' t.level_starts.items some ∙ prefix_take t t' s w le ∙ sym (root_first tr t.level_starts.items some) in
          ap (λ xs. among xs l) e ∙ on
      | inr none ↦
          let z : length t.level_starts.items ≡ 0 = omega (arith, none) in
          let here : among tr l ≡ true = ap (λ xs. among xs l) (sym (root_whole tr t.level_starts.items z)) ∙ on in
          ap (λ xs. among xs l) (root_whole tr' t.level_starts.items z) ∙ went_grows t t' w l here
    ])

first_pushed : (level_starts : List ℕ) (n : ℕ) → length level_starts ≡ 0 → get_or (level_starts ++ n ∷ []) 0 0 ≡ n
first_pushed [] n e = refl
first_pushed (s ∷ level_starts) n e = absurd (omega (arith, e))

pub root_decide : (t : Trail) (l : Lit) → root (t.literals.items ++ l ∷ []) (t.level_starts.items ++ length t.literals.items ∷ []) ≡ root t.literals.items t.level_starts.items
root_decide t l =
    let tr = t.literals.items in
    let level_starts = t.level_starts.items in
    let more = level_starts ++ length tr ∷ [] in
    let some : 0 < length more = omega (arith, length-append level_starts (length tr ∷ [])) in
    elim (cases_lt 0 (length level_starts)) [
      | inl has ↦
          let s = get_or level_starts 0 0 in
          let le : s ≤ length tr = omega (arith, t.in_trail 0 has) in
          root_first (tr ++ l ∷ []) more some ∙ ap (λ n. take n (tr ++ l ∷ [])) (get_or_append_left level_starts (length tr ∷ []) 0 0 has) ∙ take-append-le s tr (l ∷ []) le
          ∙ sym (root_first tr level_starts has)
      | inr none ↦
          let z : length level_starts ≡ 0 = omega (arith, none) in
          root_first (tr ++ l ∷ []) more some ∙ ap (λ n. take n (tr ++ l ∷ [])) (first_pushed level_starts (length tr) z) ∙ take-append-le (length tr) tr (l ∷ []) (omega arith)
          ∙ take_all (length tr) tr (omega arith) ∙ sym (root_whole tr level_starts z)
    ]

pub root_undo : (t : Trail) (level : ℕ) → level < length t.level_starts.items →
    root (take (get_or t.level_starts.items level 0) t.literals.items) (take level t.level_starts.items) ≡ root t.literals.items t.level_starts.items
root_undo t level lt =
    let tr = t.literals.items in
    let level_starts = t.level_starts.items in
    let n = get_or level_starts level 0 in
    let has : 0 < length level_starts = omega (arith, lt) in
    let len : length (take level level_starts) ≡ level = length-take-le level level_starts (omega (arith, lt)) in
    elim (cases_eq level 0) [
      | inl zero ↦
          root_whole (take n tr) (take level level_starts) (omega (arith, len, zero)) ∙ ap (λ k. take (get_or level_starts k 0) tr) zero ∙ sym (root_first tr level_starts has)
      | inr ne ↦
          let up : 0 < level = omega (arith, ne) in
          let s = get_or level_starts 0 0 in
          let below : s < n = t.rising 0 level up lt in
          root_first (take n tr) (take level level_starts) (omega (arith, len, up)) ∙ ap (λ k. take k (take n tr)) (get_or-take level level_starts 0 0 up)
          ∙ take-take s n tr (omega (arith, below)) ∙ sym (root_first tr level_starts has)
    ]

-- more literals are true
pub swept_grows : (cs : List (List Lit)) (short : List ℕ) (n : ℕ) (u w : List Lit) → ((l : Lit) → among u l ≡ true → among w l ≡ true) →
    ShortSwept cs short n u → ShortSwept cs short n w
swept_grows cs short n u w g h j lj =
    let k = get_or short j 0 in
    ((h j lj).0, (h j lj).1, λ lk one. true_grows u w (get_or cs k []) g ((h j lj).2 lk one))

-- more clauses, and more numbers
pub swept_added : (cs xs : List (List Lit)) (short short' : List ℕ) (n : ℕ) (u : List Lit) → take (length short) short' ≡ short →
    ShortSwept cs short n u → ShortSwept (cs ++ xs) short' n u
swept_added cs xs short short' n u e h j lj =
    let low = (h j lj).0 in
    let same : get_or short' j 0 ≡ get_or short j 0 = sym (get_or-take (length short) short' j 0 low) ∙ ap (λ ys. get_or ys j 0) e in
    let k = get_or short j 0 in
    let in_cs = (h j lj).1 in
    let at_k : get_or (cs ++ xs) k [] ≡ get_or cs k [] = get_or_append_left cs xs [] k in_cs in
    let C : List Lit → Type 0 = λ c. HasOneLiteral c → TrueIn u c in
    let done : ShortDone (cs ++ xs) u k = λ _. subst C (sym at_k) ((h j lj).2 in_cs) in
    let P : ℕ → Type 0 = λ i. (i < length (cs ++ xs)) × ShortDone (cs ++ xs) u i in
    let two : P (get_or short' j 0) = subst P (sym same) (omega (arith, in_cs, length-append cs xs), done) in
    (omega (arith, low, ap length e, length-take (length short) short'), two.0, two.1)

-- one number more
pub swept_next : (cs : List (List Lit)) (short : List ℕ) (n : ℕ) (u : List Lit) → n < length short → get_or short n 0 < length cs → ShortDone cs u (get_or short n 0) →
    ShortSwept cs short n u → ShortSwept cs short (n + 1) u
swept_next cs short n u low in_cs done h j lj =
    elim (cases_eq j n) [
      | inl same ↦
          let P : ℕ → Type 0 = λ i. (i < length short) × (get_or short i 0 < length cs) × ShortDone cs u (get_or short i 0) in subst P (sym same) (low, in_cs, done)
      | inr ne ↦ h j (omega (arith, lj, ne))
    ]

-- the same clauses, and more numbers
pub swept_same : (cs cs' : List (List Lit)) (short short' : List ℕ) (n : ℕ) (u : List Lit) → cs' ≡ cs → take (length short) short' ≡ short →
    ShortSwept cs short n u → ShortSwept cs' short' n u
swept_same cs cs' short short' n u same e h =
    let P : List (List Lit) → Type 0 = λ ys. ShortSwept ys short' n u in
    subst P (append-nil cs ∙ sym same) (swept_added cs [] short short' n u e h)

-- a decision, and what is taken back
pub swept_decide : (cs : List (List Lit)) (short : List ℕ) (n : ℕ) (t : Trail) (l : Lit) (literals : List Lit) (level_starts : List ℕ) →
    literals ≡ t.literals.items ++ l ∷ [] → level_starts ≡ t.level_starts.items ++ length t.literals.items ∷ [] →
    ShortSwept cs short n (root t.literals.items t.level_starts.items) → ShortSwept cs short n (root literals level_starts)
swept_decide cs short n t l literals level_starts el es h =
    let P : List Lit → Type 0 = ShortSwept cs short n in
    subst P (sym (ap (λ xs. root xs level_starts) el ∙ ap (λ ys. root (t.literals.items ++ l ∷ []) ys) es ∙ root_decide t l)) h

pub swept_undo : (cs : List (List Lit)) (short : List ℕ) (n : ℕ) (t : Trail) (level : ℕ) (literals : List Lit) (level_starts : List ℕ) → level < length t.level_starts.items →
    literals ≡ take (get_or t.level_starts.items level 0) t.literals.items → level_starts ≡ take level t.level_starts.items →
    ShortSwept cs short n (root t.literals.items t.level_starts.items) → ShortSwept cs short n (root literals level_starts)
swept_undo cs short n t level literals level_starts lt el es h =
    let P : List Lit → Type 0 = ShortSwept cs short n in
    subst P (sym (ap (λ xs. root xs level_starts) el ∙ ap (λ ys. root (take (get_or t.level_starts.items level 0) t.literals.items) ys) es ∙ root_undo t level lt)) h

pub swept_went : (cs : List (List Lit)) (short : List ℕ) (n : ℕ) (t t' : Trail) → Extends t t' →
    ShortSwept cs short n (root t.literals.items t.level_starts.items) → ShortSwept cs short n (root t'.literals.items t'.level_starts.items)
swept_went cs short n t t' w h =
    swept_grows cs short n (root t.literals.items t.level_starts.items) (root t'.literals.items t'.level_starts.items) (λ l on. root_went t t' w l on) h

-- the trail without a decision
pub swept_bare : (cs : List (List Lit)) (short : List ℕ) (n : ℕ) (literals : List Lit) (level_starts : List ℕ) → length level_starts ≡ 0 →
    ShortSwept cs short n (root literals level_starts) → ShortSwept cs short n literals
swept_bare cs short n literals level_starts none h = let P : List Lit → Type 0 = ShortSwept cs short n in subst P (root_whole literals level_starts none) h

pub swept_rooted : (cs : List (List Lit)) (short : List ℕ) (n : ℕ) (literals : List Lit) (level_starts : List ℕ) → length level_starts ≡ 0 →
    ShortSwept cs short n literals → ShortSwept cs short n (root literals level_starts)
swept_rooted cs short n literals level_starts none h = let P : List Lit → Type 0 = ShortSwept cs short n in subst P (sym (root_whole literals level_starts none)) h

-- one place more, or not
pub swept_step : (cs : List (List Lit)) (short : List ℕ) (n m j : ℕ) (t t' : Trail) → Extends t t' → j < length short →
    (m ≡ n) ⊎ ((n ≡ j) × (get_or short j 0 < length cs) × (m ≡ j + 1)) → ((i : ℕ) → i < j + 1 → ShortDone cs t'.literals.items (get_or short i 0)) →
    ShortSwept cs short n t.literals.items → ShortSwept cs short m t'.literals.items
swept_step cs short n m j t t' w lj step done h =
    let now = swept_grows cs short n t.literals.items t'.literals.items (λ l on. went_grows t t' w l on) h in
    let P : ℕ → Type 0 = λ i. ShortSwept cs short i t'.literals.items in
    elim step [
      | inl same ↦ subst P (sym same) now
      | inr more ↦
          let at_j : P j = subst P more.0 now in
          subst P (sym more.2) (swept_next cs short j t'.literals.items lj more.1 (done j (omega arith)) at_j)
    ]
