-- What is known of a system.
use Rattle.std.proofs.Common.{◌≡◌, inl, inr, ℕ, suc, ◌+◌, ◌<◌, Bool, true, false, not, List, [], ◌∷◌, length, take, drop, set, get_or, Option, Some, None, refl, sym, ◌∙◌, subst, arith, zero-add, get_or-set_same, get_or-set_other}
use Rattle.std.specs.Prelude.{All, Contains, nat_eq}
use Rattle.std.specs.Bool.{beq}
use Rattle.std.specs.List.{remove}
use Rattle.std.proofs.lemmas.Bool.{cases_eq}
use Rattle.std.proofs.lemmas.Bool.Decides.{nat_tests}
use Rattle.std.proofs.lemmas.List.Elements.{All-append, All-take, All-drop, All-nil, All-cons}
use Rattle.clause_core.specs.declared.literal.Lit.{Lit}
use Rattle.clause_core.specs.Literals.{none_lit}
use Rattle.clause_core.specs.Assignments.{assignment_of}
use Rattle.clause_core.specs.Systems.{TransitionSystem}
use Rattle.frame_core.specs.declared.parts.Lemma.{Lemma}
use Rattle.frame_core.specs.Facts.{IsPart}
use Rattle.frame_solver.specs.declared.first_states.Firsts.{Firsts}
use Rattle.frame_solver.specs.declared.first_states.Firsts.TheVariants as firsts
use Rattle.frame_solver.specs.declared.stepping.Stepping.{Stepping}
use Rattle.frame_solver.specs.declared.stepping.Stepping.TheVariants as stepping
use Rattle.frame_solver.specs.Firsts.{AllFirstsMeet, IsFirstOut, FindsFirsts}
use Rattle.frame_solver.specs.Stepping.{Finds}
use Rattle.frame_solver.specs.Recalling.{IsFirstState, IsFixed, AreFixed, KnowsFirsts, TellsFirsts, TellsStep}

pub same_bits : (a b : Bool) → beq a b ≡ true → a ≡ b
same_bits true true h = refl
same_bits false false h = refl
same_bits true false h = cc
same_bits false true h = cc

pub other_bits : (a b : Bool) → beq a b ≡ false → a ≡ not b
other_bits true true h = cc
other_bits false false h = cc
other_bits true false h = refl
other_bits false true h = refl

pub is_one : (n : ℕ) → nat_eq n 1 ≡ true → n ≡ 1
is_one n h = grind (arith, nat_tests)

pub All-removed : {X : Type 0} (P : X → Type 0) (xs : List X) (k : ℕ) → All P xs → All P (remove xs k)
All-removed P xs k all = All-append P (take k xs) (drop (suc k) xs) (All-take P k xs all) (All-drop P (suc k) xs all)

module _ (sys : TransitionSystem) where
  pub fixed_meets : (table : List (Option Bool)) (l : Lit) (v : Bool) → AreFixed sys table → get_or table l.var None ≡ Some v → beq v l.positive ≡ true →
      AllFirstsMeet sys (l ∷ [])
  fixed_meets table l v fixed is same x start = (0, l, omega arith, refl, fixed l.var v is x start ∙ same_bits v l.positive same)

  met_one : (l : Lit) → AllFirstsMeet sys (l ∷ []) → IsFixed sys l.var l.positive
  met_one l meets x start =
      let h = meets x start in
      let none : h.0 ≡ 0 = omega (arith, h.2) in
      let G : ℕ → Type 0 = λ k. get_or (l ∷ []) k h.1 ≡ h.1 in
      let is : l ≡ h.1 = subst G none h.3 in
      let P : Lit → Type 0 = λ m. x m.var ≡ m.positive in
      subst P (sym is) h.4

  fixed_more : (table : List (Option Bool)) (l : Lit) → AreFixed sys table → IsFixed sys l.var l.positive → l.var < length table →
      AreFixed sys (set table l.var (Some l.positive))
  fixed_more table l fixed here lt b v is =
      elim (cases_eq b l.var) [
        | inl e ↦
            let P : ℕ → Type 0 = λ k. get_or (set table l.var (Some l.positive)) k None ≡ Some v in
            let same : Some l.positive ≡ Some v = sym (get_or-set_same table l.var (Some l.positive) None lt) ∙ subst P e is in
            let value : l.positive ≡ v = cc in
            let F : ℕ → Type 0 = λ k. IsFixed sys k v in
            let V : Bool → Type 0 = IsFixed sys l.var in
            subst F (sym e) (subst V value here)
        | inr ne ↦ fixed b v (sym (get_or-set_other table l.var b (Some l.positive) None ne) ∙ is)
      ]

  -- a part of one literal that initial states meet fixes a bit
  pub fixed_by : (table : List (Option Bool)) (part : List Lit) → length part ≡ 1 → AreFixed sys table → AllFirstsMeet sys part →
      (get_or part 0 none_lit).var < length table → AreFixed sys (set table (get_or part 0 none_lit).var (Some (get_or part 0 none_lit).positive))
  fixed_by table [] one fixed meets lt = absurd (omega (arith, one))
  fixed_by table (l ∷ []) one fixed meets lt = fixed_more table l fixed (met_one l meets) lt
  fixed_by table (l ∷ m ∷ rest) one fixed meets lt = absurd (omega (arith, one))

  pub tells_firsts : (clause : List Lit) (budget : ℕ) (over : Bool) (found : Firsts) → FindsFirsts sys clause budget over found → TellsFirsts sys found
  tells_firsts clause budget over (firsts.Meet part) h = h.0
  tells_firsts clause budget over (firsts.First vs) h = record { whole = h.whole; first = h.first }
  tells_firsts clause budget over (firsts.Spent d b) h = tt

  pub knows_firsts : (clause : List Lit) (budget : ℕ) (over : Bool) (found : Firsts) → KnowsFirsts sys clause found → FindsFirsts sys clause budget over found
  knows_firsts clause budget over (firsts.Meet part) h = h
  knows_firsts clause budget over (firsts.First vs) h = h
  knows_firsts clause budget over (firsts.Spent d b) h = absurd h

  -- an initial state whose values make each literal false
  pub first_out : (clause : List Lit) (state copy : List Bool) → copy ≡ state → IsFirstState sys state →
      All (λ (l : Lit). assignment_of state (0 + l.var) ≡ not l.positive) clause → IsFirstOut sys clause copy
  first_out clause state copy same is out =
      let P : List Bool → Type 0 = IsFirstOut sys clause in
      subst P (sym same) record {
        whole = is.whole;
        first = is.first;
        out = λ k d lt.
            let V : ℕ → Type 0 = λ n. assignment_of state n ≡ not (get_or clause k d).positive in
            subst V (zero-add (get_or clause k d).var) (out k d lt);
      }

  pub tells_step : (lemmas : List Lemma) (level : ℕ) (clause : List Lit) (budget : ℕ) (over : Bool) (first : Bool) (found : Stepping) → (first ≡ true → level ≡ 1) →
      Finds sys lemmas level clause budget over found → TellsStep sys first found
  tells_step lemmas level clause budget over first (stepping.Holds parents part) low h = tt
  tells_step lemmas level clause budget over first (stepping.Leaves vs) low h = record {
    step = record { whole = h.whole; step = h.step };
    first = λ e. h.from.0 (omega (arith, low e));
  }
  tells_step lemmas level clause budget over first (stepping.Spent d b) low h = tt

  -- a literal of the clause that initial states meet is what was asked
  pub finds_known : (clause : List Lit) (l : Lit) (part : List Lit) → part ≡ l ∷ [] → Contains clause l → AllFirstsMeet sys (l ∷ []) →
      AllFirstsMeet sys part × IsPart part clause
  finds_known clause l part is inside meets =
      let P : List Lit → Type 0 = λ p. AllFirstsMeet sys p × IsPart p clause in
      subst P (sym is) (meets, All-cons (Contains clause) l [] inside (All-nil (Contains clause)))
