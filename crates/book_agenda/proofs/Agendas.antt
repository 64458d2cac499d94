-- What is kept of the obligations where the frames stay, and while obligations are lifted.
use Rattle.std.proofs.Common.{◌≡◌, inl, inr, ℕ, ◌+◌, ◌*◌, ◌/◌, ◌<◌, ◌≤◌, Bool, List, [], ◌∷◌, ◌++◌, length, set, refl, sym, ◌∙◌, ap, subst, arith, slice_index_or, length-append, length-set, get_or-set_same, get_or-set_other}
use Rattle.std.proofs.Math.ListN.{get_or-append}
use Rattle.std.proofs.lemmas.List.{get_or_push}
use Rattle.std.proofs.lemmas.Bool.{cases_eq, cases_lt}
use Rattle.clause_core.specs.declared.literal.Lit.{Lit}
use Rattle.clause_core.specs.Assignments.{assignment_of}
use Rattle.frame_core.specs.declared.parts.Lemma.{Lemma}
use Rattle.frame_core.specs.declared.parts.Obligation.{Obligation}
use Rattle.frame_core.specs.declared.outcomes.Insertion.{Insertion}
use Rattle.frame_core.specs.declared.outcomes.Insertion.TheVariants as insertion
use Rattle.frame_core.specs.declared.outcomes.Raising.{Raising}
use Rattle.frame_core.specs.declared.outcomes.Raising.TheVariants as raising
use Rattle.frame_core.specs.declared.outcomes.Opening.{Opening}
use Rattle.frame_core.specs.declared.outcomes.Opening.TheVariants as opening
use Rattle.frame_core.specs.Facts.{ProvedClause, ClearLevel}
use Rattle.frame_core.specs.Changes.{InsertsSame, RaisesSame, OpensSame}
use Rattle.frame_core.specs.FrameLaw.{FrameState, obligation_at}
use Rattle.book_agenda.specs.Tables.{Table, Has, HoldsClauses}
use Rattle.book_agenda.specs.Values.{IsLifted, AreMetBelow, AreFloors, IsAgenda, blocked_at}

-- no obligation, and tables that say nothing
pub agenda_begins : (lemmas : List Lemma) (obligations : List Obligation) (bs floors : List ℕ) (clauses states : Table) → obligations ≡ [] → bs ≡ [] → floors ≡ [] →
    ((row : ℕ) (l : Lit) → Has clauses row l → ⊥) → ((row : ℕ) (l : Lit) → Has states row l → ⊥) → IsAgenda lemmas obligations bs floors clauses states
agenda_begins lemmas obligations bs floors clauses states none no_levels no_floors no_clauses no_states =
    let many : length obligations ≡ 0 = ap length none in
    let levels : length bs ≡ 0 = ap length no_levels in
    let parts : length floors ≡ 0 = ap length no_floors in
    record {
      follow = record { as_many = omega arith; each = λ o lt. absurd (omega arith) };
      floors' = record { enough = omega arith; tight = omega arith; low = λ c o lt begin end below. absurd (omega arith) };
      clauses' = λ n l has. absurd (no_clauses n l has);
      states' = λ o l has. absurd (no_states o l has);
    }

-- frames that stay the same
pub agenda_same : (f now : FrameState) (bs floors : List ℕ) (clauses states : Table) → now ≡ f → IsAgenda f.lemmas f.obligations bs floors clauses states →
    IsAgenda now.lemmas now.obligations bs floors clauses states
agenda_same f now bs floors clauses states e h = subst (λ (z : FrameState). IsAgenda z.lemmas z.obligations bs floors clauses states) (sym e) h

-- the same where the levels and floors are in other lists, which are equal
pub agenda_kept : (f now : FrameState) (bs bs' floors floors' : List ℕ) (clauses states : Table) → now ≡ f → bs' ≡ bs → floors' ≡ floors →
    IsAgenda f.lemmas f.obligations bs floors clauses states → IsAgenda now.lemmas now.obligations bs' floors' clauses states
agenda_kept f now bs bs' floors floors' clauses states e eb ef h =
    subst (λ (z : List ℕ). IsAgenda now.lemmas now.obligations z floors' clauses states) (sym eb)
    (subst (λ (z : List ℕ). IsAgenda now.lemmas now.obligations bs z clauses states) (sym ef) (agenda_same f now bs floors clauses states e h))

-- another table of clauses
pub agenda_tabled : (lemmas : List Lemma) (obligations : List Obligation) (bs floors : List ℕ) (clauses clauses' states : Table) → HoldsClauses lemmas clauses' →
    IsAgenda lemmas obligations bs floors clauses states → IsAgenda lemmas obligations bs floors clauses' states
agenda_tabled lemmas obligations bs floors clauses clauses' states holds h =
    record { follow = h.follow; floors' = h.floors'; clauses' = holds; states' = h.states' }

-- where no lemma is added the frames stay the same
pub not_added : (f now : FrameState) (p : ProvedClause) (r : Insertion) → ((n : ℕ) → r ≡ insertion.Added n → ⊥) → InsertsSame f p r now → now ≡ f
not_added f now p (insertion.Added n) none h = absurd (none n refl)
not_added f now p (insertion.Held n) none h = h.1
not_added f now p (insertion.Behind k level) none h = h.2
not_added f now p (insertion.OtherSystem place) none h = absurd h

-- where no lemma is raised the frames stay the same
pub not_raised : (f now : FrameState) (n : ℕ) (p : ProvedClause) (r : Raising) → (r ≡ raising.Raised → ⊥) → RaisesSame f n p r now → now ≡ f
not_raised f now n p raising.Raised none h = absurd (none refl)
not_raised f now n p raising.Dropped none h = h.1
not_raised f now n p (raising.Behind k level) none h = h.2
not_raised f now n p (raising.OtherSystem place) none h = absurd h

-- a top that is opened changes no lemma and no obligation
pub agenda_opened : (f now : FrameState) (j : ℕ) (k : ClearLevel) (r : Opening) (bs floors : List ℕ) (clauses states : Table) → OpensSame f j k r now →
    IsAgenda f.lemmas f.obligations bs floors clauses states → IsAgenda now.lemmas now.obligations bs floors clauses states
agenda_opened f now j k opening.Opened bs floors clauses states h a =
    subst (λ (z : FrameState). IsAgenda z.lemmas z.obligations bs floors clauses states) (sym h.2) a
agenda_opened f now j k opening.Dropped bs floors clauses states h a = agenda_same f now bs floors clauses states h.1 a
agenda_opened f now j k (opening.Behind n level) bs floors clauses states h a = agenda_same f now bs floors clauses states h.2 a
agenda_opened f now j k (opening.OtherSystem place) bs floors clauses states h a = absurd h

lifted_low : (l : Lemma) (x : ℕ → Bool) (b c : ℕ) → IsLifted l x b c → b ≤ c
lifted_low l x b c h = elim h [ inl s ↦ let e = s.0 in omega arith | inr s ↦ let e = s.0 in let f = s.1 in omega arith ]

-- obligations of which those from `begin` to `end` were lifted are blocked no lower
pub low_of : (l : Lemma) (os : List Obligation) (begin end : ℕ) (start bs : List ℕ) →
    ((k : ℕ) → begin ≤ k → k < end → k < length start → IsLifted l (assignment_of (obligation_at os k).values) (blocked_at start k) (blocked_at bs k)) →
    ((k : ℕ) → k < begin → blocked_at bs k ≡ blocked_at start k) → ((k : ℕ) → end ≤ k → blocked_at bs k ≡ blocked_at start k) →
    (k : ℕ) → k < length start → blocked_at start k ≤ blocked_at bs k
low_of l os begin end start bs each before past k lt = elim (cases_lt k begin) [
  | inl b ↦ let e = before k b in omega arith
  | inr p ↦ elim (cases_lt k end) [
    | inl q ↦ lifted_low l (assignment_of (obligation_at os k).values) (blocked_at start k) (blocked_at bs k) (each k p q lt)
    | inr r ↦ let e = past k r in omega arith
  ]
]

-- and so they are met below the level where they were before
pub met_still : (f : FrameState) (n from : ℕ) (start bs : List ℕ) → length bs ≡ length start →
    ((k : ℕ) → k < length start → blocked_at start k ≤ blocked_at bs k) → AreMetBelow f n from start → AreMetBelow f n from bs
met_still f n from start bs len low met o lt below =
    let in' : o < length start = omega arith in
    let le = low o in' in
    met o in' (omega arith)

-- one part more is lifted
pub lifted_more : (l : Lemma) (os : List Obligation) (c : ℕ) (start bs cs : List ℕ) → length bs ≡ length start →
    ((k : ℕ) → k < c * 64 → k < length start → IsLifted l (assignment_of (obligation_at os k).values) (blocked_at start k) (blocked_at bs k)) →
    ((k : ℕ) → c * 64 ≤ k → blocked_at bs k ≡ blocked_at start k) →
    ((k : ℕ) → c * 64 ≤ k → k < c * 64 + 64 → k < length bs → IsLifted l (assignment_of (obligation_at os k).values) (blocked_at bs k) (blocked_at cs k)) →
    ((k : ℕ) → k < c * 64 → blocked_at cs k ≡ blocked_at bs k) →
    (k : ℕ) → k < (c + 1) * 64 → k < length start → IsLifted l (assignment_of (obligation_at os k).values) (blocked_at start k) (blocked_at cs k)
lifted_more l os c start bs cs len each past more before k high lt =
    let x : ℕ → Bool = assignment_of (obligation_at os k).values in
    elim (cases_lt k (c * 64)) [
      | inl old ↦ subst (IsLifted l x (blocked_at start k)) (sym (before k old)) (each k old lt)
      | inr new ↦ subst (λ (b : ℕ). IsLifted l x b (blocked_at cs k)) (past k new) (more k new (omega arith) (omega arith))
    ]

-- the floor of one part is set anew
pub floors_set : (floors bs cs : List ℕ) (c floor : ℕ) → AreFloors floors bs → c < length floors → length cs ≡ length bs →
    ((o : ℕ) → o < c * 64 → blocked_at cs o ≡ blocked_at bs o) → ((o : ℕ) → c * 64 + 64 ≤ o → blocked_at cs o ≡ blocked_at bs o) →
    ((o : ℕ) → c * 64 ≤ o → o < c * 64 + 64 → o < length bs → floor ≤ blocked_at cs o) → AreFloors (set floors c floor) cs
floors_set floors bs cs c floor h in' len before behind low =
    let many : length (set floors c floor) ≡ length floors = length-set floors c floor in
    let enough = h.enough in
    let tight = h.tight in
    record {
      enough = omega arith;
      tight = omega arith;
      low = λ d o lt begin end small. elim (cases_eq d c) [
        | inl e ↦
            let is : slice_index_or (set floors c floor) d 0 ≡ floor = ap (λ (z : ℕ). slice_index_or (set floors c floor) z 0) e ∙ get_or-set_same floors c floor 0 in' in
            let le : floor ≤ blocked_at cs o = low o (omega arith) (omega arith) (omega arith) in
            omega arith
        | inr ne ↦
            let is : slice_index_or (set floors c floor) d 0 ≡ slice_index_or floors d 0 = get_or-set_other floors c d floor 0 ne in
            let same : blocked_at cs o ≡ blocked_at bs o = elim (cases_lt o (c * 64)) [ inl b ↦ before o b | inr p ↦ behind o (omega (arith, ne)) ] in
            let le : slice_index_or floors d 0 ≤ blocked_at bs o = h.low d o (omega arith) begin end (omega arith) in
            omega arith
      ];
    }

-- the level of one obligation more
last_at : (bs : List ℕ) (level o : ℕ) → o ≡ length bs → blocked_at (bs ++ level ∷ []) o ≡ level
last_at bs level o e = get_or_push bs level 0 o (sym e)

old_at : (bs : List ℕ) (level o : ℕ) → o < length bs → blocked_at (bs ++ level ∷ []) o ≡ blocked_at bs o
old_at bs level o lt = get_or-append bs (level ∷ []) 0 o lt

-- one obligation more in the last part
pub floors_lowered : (floors bs : List ℕ) (level floor : ℕ) → AreFloors floors bs → length bs / 64 < length floors →
    floor ≤ slice_index_or floors (length bs / 64) 0 → floor ≤ level → AreFloors (set floors (length bs / 64) floor) (bs ++ level ∷ [])
floors_lowered floors bs level floor h in' low small =
    let c : ℕ = length bs / 64 in
    let many : length (set floors c floor) ≡ length floors = length-set floors c floor in
    let more : length (bs ++ level ∷ []) ≡ length bs + 1 = length-append bs (level ∷ []) in
    let tight = h.tight in
    record {
      enough = omega arith;
      tight = omega arith;
      low = λ d o lt begin end below. elim (cases_eq d c) [
        | inl e ↦
            let is : slice_index_or (set floors c floor) d 0 ≡ floor = ap (λ (z : ℕ). slice_index_or (set floors c floor) z 0) e ∙ get_or-set_same floors c floor 0 in' in
            elim (cases_lt o (length bs)) [
              | inl old ↦
                  let at = old_at bs level o old in
                  let le : slice_index_or floors c 0 ≤ blocked_at bs o = h.low c o in' (omega arith) (omega arith) old in
                  omega arith
              | inr new ↦ let at = last_at bs level o (omega arith) in omega arith
            ]
        | inr ne ↦
            let is : slice_index_or (set floors c floor) d 0 ≡ slice_index_or floors d 0 = get_or-set_other floors c d floor 0 ne in
            let old : o < length bs = omega (arith, ne) in
            let at = old_at bs level o old in
            let le : slice_index_or floors d 0 ≤ blocked_at bs o = h.low d o (omega arith) begin end old in
            omega arith
      ];
    }

-- one obligation more in a part of its own
pub floors_pushed : (floors bs : List ℕ) (level : ℕ) → AreFloors floors bs → length floors ≤ length bs / 64 →
    AreFloors (floors ++ level ∷ []) (bs ++ level ∷ [])
floors_pushed floors bs level h past =
    let many : length (floors ++ level ∷ []) ≡ length floors + 1 = length-append floors (level ∷ []) in
    let more : length (bs ++ level ∷ []) ≡ length bs + 1 = length-append bs (level ∷ []) in
    let enough = h.enough in
    let tight = h.tight in
    record {
      enough = omega arith;
      tight = omega arith;
      low = λ d o lt begin end below. elim (cases_lt d (length floors)) [
        | inl old ↦
            let is : slice_index_or (floors ++ level ∷ []) d 0 ≡ slice_index_or floors d 0 = get_or-append floors (level ∷ []) 0 d old in
            let in' : o < length bs = omega arith in
            let at = old_at bs level o in' in
            let le : slice_index_or floors d 0 ≤ blocked_at bs o = h.low d o old begin end in' in
            omega arith
        | inr new ↦
            let is : slice_index_or (floors ++ level ∷ []) d 0 ≡ level = get_or_push floors level 0 d (omega arith) in
            let at = last_at bs level o (omega arith) in
            omega arith
      ];
    }
