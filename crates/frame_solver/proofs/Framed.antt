-- The groups that a query asks for.
use Rattle.std.proofs.Common.{◌≡◌, ◌⊎◌, inl, inr, ℕ, ◌+◌, ◌-◌, ◌<◌, ◌≤◌, Bool, true, ◌||◌, ◌&&◌, List, [], ◌∷◌, length, map, get_or, refl, sym, ◌∙◌, ap, subst, arith}
use Rattle.std.specs.Prelude.{All, Contains, nat_lt, nat_le, ◌==◌}
use Rattle.std.proofs.Math.ListN.{get_or-append}
use Rattle.std.proofs.lemmas.Bool.{cases_lt, or_cases, or_right, and_parts, and_from, eqb-true, eq-eqb, ltb-true, leb-true, lt-ltb, le-leb}
use Rattle.std.proofs.lemmas.List.{get_or-map, length-map, get_or-append_right}
use Rattle.std.proofs.lemmas.List.Elements.{All-weaker, All-cons, All-nil, All-head}
use Rattle.clause_core.specs.declared.literal.Lit.{Lit}
use Rattle.clause_core.specs.Literals.{Within}
use Rattle.clause_core.specs.Assignments.{ClauseTrue}
use Rattle.clause_core.specs.Systems.{TransitionSystem, FirstBits, SameOn}
use Rattle.frame_core.specs.declared.parts.Lemma.{Lemma}
use Rattle.frame_core.specs.FrameLaw.{lemma_at, no_lemma, MeetsFrom, InFrame}
use Rattle.frame_solver.specs.Guards.{on, group, Obeys}
use Rattle.frame_solver.specs.Groups.{others, first_var, first_clause, init_group, clauses_of, groups, is_asked, is_of_frame}
use Rattle.frame_solver.specs.Asking.{IsOne, AllOn}
use Rattle.frame_solver.proofs.Loaded.{groups_length}
use Rattle.frame_solver.proofs.Tests.{if_below, if_above}
use Rattle.frame_solver.proofs.Truths.{true_like, true_renamed}

pub one_true : (a : ℕ → Bool) (c : List Lit) → ClauseTrue a c → All (ClauseTrue a) (c ∷ [])
one_true a c h = All-cons (ClauseTrue a) c [] h (All-nil (ClauseTrue a))

pub clause_of : (lemmas : List Lemma) (m : ℕ) → m < length lemmas → get_or (clauses_of lemmas) m [] ≡ (lemma_at lemmas m).clause
clause_of lemmas m lt = get_or-map (λ (l : Lemma). l.clause) lemmas m no_lemma [] lt

pub clauses_count : (lemmas : List Lemma) → length (clauses_of lemmas) ≡ length lemmas
clauses_count lemmas = simp length-map

module _ (h : ℕ) (lemmas : List Lemma) (i also : ℕ) where
  -- a group that is asked for is `also`, or the initial states', or a lemma's of the frame
  pub asked_cases : (k : ℕ) → is_asked h lemmas i also k ≡ true →
      (k ≡ also) ⊎ (((k < h) × (k ≡ 0) × (i ≡ 0)) ⊎ ((h ≤ k) × (0 < i) × (i ≤ (lemma_at lemmas (k - h)).level)))
  asked_cases k is =
      let heads_test : Bool = (k == 0) && (i == 0) in
      let lemma_test : Bool = nat_lt 0 i && nat_le i (lemma_at lemmas (k - h)).level in
      elim (or_cases (k == also) (is_of_frame h lemmas i k) is) [
        | inl same ↦ inl (eqb-true k also same)
        | inr of_frame ↦
            elim (cases_lt k h) [
              | inl low ↦
                  let parts = and_parts (k == 0) (i == 0) (sym (if_below k h heads_test lemma_test low) ∙ of_frame) in
                  inr (inl (low, eqb-true k 0 parts.0, eqb-true i 0 parts.1))
              | inr high ↦
                  let parts = and_parts (nat_lt 0 i) (nat_le i (lemma_at lemmas (k - h)).level) (sym (if_above k h heads_test lemma_test high) ∙ of_frame) in
                  inr (inr (high, ltb-true 0 i parts.0, leb-true i (lemma_at lemmas (k - h)).level parts.1))
            ]
      ]

  pub lemma_asked : (m : ℕ) → 0 < i → i ≤ (lemma_at lemmas m).level → is_asked h lemmas i also (h + m) ≡ true
  lemma_asked m above le =
      let k = h + m in
      let heads_test : Bool = (k == 0) && (i == 0) in
      let lemma_test : Bool = nat_lt 0 i && nat_le i (lemma_at lemmas (k - h)).level in
      let e : k - h ≡ m = omega arith in
      let P : ℕ → Type 0 = λ j. i ≤ (lemma_at lemmas j).level in
      or_right (k == also) (is_of_frame h lemmas i k)
      (if_above k h heads_test lemma_test (omega arith)
      ∙ and_from (nat_lt 0 i) (nat_le i (lemma_at lemmas (k - h)).level) (lt-ltb 0 i above) (le-leb i (lemma_at lemmas (k - h)).level (subst P (sym e) le)))

  pub first_asked : i ≡ 0 → 0 < h → is_asked h lemmas i also 0 ≡ true
  first_asked e some =
      let lemma_test : Bool = nat_lt 0 i && nat_le i (lemma_at lemmas (0 - h)).level in
      or_right (0 == also) (is_of_frame h lemmas i 0)
      (if_below 0 h ((0 == 0) && (i == 0)) lemma_test some ∙ and_from (0 == 0) (i == 0) refl (eq-eqb i 0 e))

pub lemma_level : (h : ℕ) (lemmas : List Lemma) (i also m : ℕ) → also < h → is_asked h lemmas i also (h + m) ≡ true → (0 < i) × (i ≤ (lemma_at lemmas m).level)
lemma_level h lemmas i also m low is =
    elim (asked_cases h lemmas i also (h + m) is) [
      | inl e ↦ absurd (omega (arith, e))
      | inr more ↦
          elim more [
            | inl q ↦ absurd (omega (arith, q.0))
            | inr q ↦
                let e : h + m - h ≡ m = omega arith in
                let P : ℕ → Type 0 = λ j. i ≤ (lemma_at lemmas j).level in
                (q.1, subst P e q.2)
          ]
    ]

pub also_asked : (h : ℕ) (lemmas : List Lemma) (i k : ℕ) → is_asked h lemmas i k k ≡ true
also_asked h lemmas i k = ap (λ b. b || is_of_frame h lemmas i k) (eq-eqb k k refl)

module _ (heads : List (List (List Lit))) (lemmas : List Lemma) where
  abbrev h : ℕ
  h = length heads

  abbrev n : ℕ
  n = length heads + length lemmas

  abbrev gs : List (List (List Lit))
  gs = groups heads (clauses_of lemmas)

  pub groups_count : length heads + length lemmas ≡ length (groups heads (clauses_of lemmas))
  groups_count = omega (arith, groups_length heads (clauses_of lemmas), clauses_count lemmas)

  pub head_group : (k : ℕ) → k < length heads → group (groups heads (clauses_of lemmas)) k ≡ get_or heads k []
  head_group k lt = get_or-append heads (map (λ (c : List Lit). c ∷ []) (clauses_of lemmas)) [] k lt

  pub lemma_group : (m : ℕ) → m < length lemmas → group (groups heads (clauses_of lemmas)) (length heads + m) ≡ (lemma_at lemmas m).clause ∷ []
  lemma_group m lt =
      let e : length heads + m - length heads ≡ m = omega arith in
      get_or-append_right heads (map (λ (c : List Lit). c ∷ []) (clauses_of lemmas)) (length heads) (length heads + m) [] refl (omega arith)
      ∙ ap (λ j. get_or (map (λ (c : List Lit). c ∷ []) (clauses_of lemmas)) j []) e
      ∙ get_or-map (λ (c : List Lit). c ∷ []) (clauses_of lemmas) m [] [] (omega (arith, clauses_count lemmas))
      ∙ ap (λ (c : List Lit). c ∷ []) (clause_of lemmas m lt)

  -- what is true of the groups of systems and of lemmas is true of each group
  pub by_group : (b i also : ℕ) (a : ℕ → Bool) (core : List Lit) →
      ((k : ℕ) → k < length heads → IsOne (length heads) lemmas i also (length heads + length lemmas) k → All (ClauseTrue a) (get_or heads k [])) →
      ((m : ℕ) → m < length lemmas → is_asked (length heads) lemmas i also (length heads + m) ≡ true → Contains core (on (b + (length heads + m))) →
      ClauseTrue a (lemma_at lemmas m).clause) →
      (k : ℕ) → IsOne (length heads) lemmas i also (length heads + length lemmas) k → Contains core (on (b + k)) →
      All (ClauseTrue a) (group (groups heads (clauses_of lemmas)) k)
  by_group b i also a core of_heads of_lemmas k one here =
      let P : List (List Lit) → Type 0 = All (ClauseTrue a) in
      elim (cases_lt k h) [
        | inl low ↦ subst P (sym (head_group k low)) (of_heads k low one)
        | inr high ↦
            let m : ℕ = k - h in
            let e : k ≡ h + m = omega arith in
            let Q : ℕ → Type 0 = λ j. All (ClauseTrue a) (group gs j) in
            let C : ℕ → Type 0 = λ j. Contains core (on (b + j)) in
            let A : ℕ → Type 0 = λ j. is_asked h lemmas i also j ≡ true in
            let lt : m < length lemmas = omega (arith, one.0) in
            subst Q (sym e) (subst P (sym (lemma_group m lt)) (one_true a (lemma_at lemmas m).clause (of_lemmas m lt (subst A e one.1) (subst C e here))))
      ]

  module _ (b i also : ℕ) (m : ℕ → Bool) (obey : Obeys b (groups heads (clauses_of lemmas)) m)
      (all_on : AllOn b (length heads) lemmas i also (length heads + length lemmas) m) where
    pub group_true : (k : ℕ) → k < length heads + length lemmas → is_asked (length heads) lemmas i also k ≡ true →
        All (ClauseTrue m) (group (groups heads (clauses_of lemmas)) k)
    group_true k lt is = obey k (omega (arith, groups_count)) (all_on k (lt, is))

    pub head_true : (k : ℕ) → k < length heads → is_asked (length heads) lemmas i also k ≡ true → All (ClauseTrue m) (get_or heads k [])
    head_true k lt is =
        let P : List (List Lit) → Type 0 = All (ClauseTrue m) in
        subst P (head_group k lt) (group_true k (omega arith) is)

    -- a state with these state bits is of the frame
    pub of_frame : (bits : ℕ) (x : ℕ → Bool) → ((u : ℕ) → u < bits → x u ≡ m u) → All (λ (l : Lemma). Within bits l.clause) lemmas → 0 < i → MeetsFrom lemmas i x
    of_frame bits x same inside up k lt le =
        let P : List (List Lit) → Type 0 = All (ClauseTrue m) in
        let c = (lemma_at lemmas k).clause in
        let here = subst P (lemma_group k lt) (group_true (h + k) (omega arith) (lemma_asked h lemmas i also k up le)) in
        let like : SameOn x m c = All-weaker (λ (l : Lit). l.var < bits) (λ (l : Lit). x l.var ≡ m l.var) (λ l low. same l.var low) c (inside k no_lemma lt) in
        true_like x m c like (All-head (ClauseTrue m) c [] here)

    -- it is an initial state, where these are asked for
    pub is_first : (sys : TransitionSystem) (x : ℕ → Bool) → ((u : ℕ) → u < sys.state_bits → x u ≡ m u) → 0 < length heads → get_or heads 0 [] ≡ init_group sys →
        is_asked (length heads) lemmas i also 0 ≡ true → FirstBits sys x
    is_first sys x same some at is =
        let P : List (List Lit) → Type 0 = All (ClauseTrue m) in
        let init : All (ClauseTrue m) (map (first_clause sys) sys.init) = subst P at (head_true 0 some is) in (
          (λ u. m (first_var sys u)),
          (λ u lt. ap m (if_below u sys.state_bits u (u + others sys) lt) ∙ sym (same u lt)),
          (λ k d lt. true_renamed (first_var sys) m (get_or sys.init k d)
              (let Q : List Lit → Type 0 = ClauseTrue m in subst Q (get_or-map (first_clause sys) sys.init k d [] lt) (init k [] (simp length-map lt)))),
        )

    pub in_frame : (sys : TransitionSystem) (x : ℕ → Bool) → ((u : ℕ) → u < sys.state_bits → x u ≡ m u) → 0 < length heads → get_or heads 0 [] ≡ init_group sys →
        All (λ (l : Lemma). Within sys.state_bits l.clause) lemmas → InFrame sys lemmas i x
    in_frame sys x same some at inside =
        ((λ e. is_first sys x same some at (first_asked h lemmas i also e some)), of_frame sys.state_bits x same inside)
