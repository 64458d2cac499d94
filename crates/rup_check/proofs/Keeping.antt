-- Steps that are left out because they have a literal and its negation.
use Rattle.std.proofs.Common.{◌≡◌, ℕ, ◌<◌, ◌⊎◌, ◌+◌, Bool, true, false, not, List, [], ◌∷◌, ◌++◌, length, take, get_or, suc, ◌≤◌, refl, sym, subst, ◌∙◌, ap, inl, inr, arith, length-append, append-nil}
use Rattle.std.specs.List.{All, Contains}
use Rattle.std.proofs.lemmas.Bool.{cases_Bool, cases_eq, both_ways}
use Rattle.std.proofs.lemmas.List.{take_all, take_more, get_or_append_left, get_or_push, take-append-le, take_at}
use Rattle.std.proofs.lemmas.List.Elements.{All-contains, All-append, All-push, All-weaker, All-nil, All-cons, All-head, All-tail, All-from_get_or, All-contains_itself, Contains-append_left, Contains-append_right, Contains-push, Contains-get_or, Contains-append_cases}
use Rattle.clause_core.specs.declared.literal.Lit.{Lit}
use Rattle.clause_core.specs.Literals.{negate, Within}
use Rattle.clause_core.specs.Propagation.{Follows, Closed, HasConflict, UnitIn, AllFalse}
use Rattle.clause_core.specs.Derivations.{EndsEmpty}
use Rattle.clause_core.proofs.Lists.{negate_negate}
use Rattle.hinted_log.specs.Hints.{HintedLog, FollowsBy, IsHinted, StepHinted}
use Rattle.hinted_log.proofs.Follow.{Follows-from_hints}
use Rattle.rup_check.specs.Chains.{IsTaut}
use Rattle.rup_check.specs.Searches.{AddsStep, NextSays, Keeps, AllHintsSay, Covers}
use Rattle.rup_check.specs.declared.checking.Hints.TheVariants.{Found}
use Rattle.rup_check.proofs.Walking.{lit_same_or_not}

-- more clauses, by containment
pub HasConflict-wider : (t : Lit → Bool) (cs bs : List (List Lit)) → All (Contains bs) cs → HasConflict t cs → HasConflict t bs
HasConflict-wider t cs bs all (inl h) = let q = All-contains (Contains bs) cs h.1 all (h.0, h.2, h.3) in inl (q.0, h.1, q.1, q.2, h.4)
HasConflict-wider t cs bs all (inr h) = inr h

pub Follows-wider : (cs bs : List (List Lit)) (c : List Lit) → All (Contains bs) cs → Follows cs c → Follows bs c
Follows-wider cs bs c all f t false_in closed =
    HasConflict-wider t cs bs all
    (f t false_in (λ k d lt. All-contains (λ c. (l : Lit) → UnitIn t c l → t l ≡ true) bs (get_or cs k d) closed (all k d lt)))

negate_apart : (x : Bool) → x ≡ not x → ⊥
negate_apart true e = cc
negate_apart false e = cc

pub lit_apart : (m : Lit) → m ≡ negate m → ⊥
lit_apart m e = negate_apart m.positive (ap (λ (x : Lit). x.positive) e)

-- whether a set has a literal and its negation is not decided as a whole, but at each clause it is
pub taut_or_conflict : (t : Lit → Bool) (c : List Lit) → IsTaut c → ((l : Lit) → UnitIn t c l → t l ≡ true) ⊎ ((l : Lit) × (t l ≡ true) × (t (negate l) ≡ true))
taut_or_conflict t c p =
    let m = p.0 in
    let P : Lit → Lit → Type 0 = λ l x. (x ≡ l → ⊥) → t (negate x) ≡ true in
    let Q : Lit → Type 0 = λ x. t x ≡ true in
    elim (cases_Bool (t m)) [
      | inl on ↦
          elim (cases_Bool (t (negate m))) [
            | inl both ↦ inr (m, on, both)
            | inr off ↦ inl (λ l u.
                elim (lit_same_or_not m l) [
                  | inl e ↦ subst Q e on
                  | inr ne ↦ absurd (both_ways (t (negate m)) off (All-contains (P l) c m u.1 p.1 ne))
                ])
          ]
      | inr off ↦ inl (λ l u.
          elim (lit_same_or_not (negate m) l) [
            | inl e ↦
                let ne : m ≡ l → ⊥ = λ f. lit_apart m (f ∙ sym e) in
                subst Q e (All-contains (P l) c m u.1 p.1 ne)
            | inr nf ↦
                absurd (both_ways (t m) off (subst Q (negate_negate m) (All-contains (P l) c (negate m) u.1 p.2 nf)))
          ])
    ]

-- a set closed at some clauses is closed at all that these cover, or has a conflict
pub closed_or_conflict : (t : Lit → Bool) (bs cs : List (List Lit)) → Closed t bs → All (λ c. Contains bs c ⊎ IsTaut c) cs →
    Closed t cs ⊎ ((l : Lit) × (t l ≡ true) × (t (negate l) ≡ true))
closed_or_conflict t bs [] closed all = inl (All-nil (λ c. (l : Lit) → UnitIn t c l → t l ≡ true))
closed_or_conflict t bs (c ∷ cs) closed all =
    let P : List Lit → Type 0 = λ c. (l : Lit) → UnitIn t c l → t l ≡ true in
    elim (closed_or_conflict t bs cs closed (All-tail (λ c. Contains bs c ⊎ IsTaut c) c cs all)) [
      | inr b ↦ inr b
      | inl rest ↦
          elim (All-head (λ c. Contains bs c ⊎ IsTaut c) c cs all) [
            | inl h ↦ inl (All-cons P c cs (All-contains P bs c closed h) rest)
            | inr p ↦ elim (taut_or_conflict t c p) [ inl u ↦ inl (All-cons P c cs u rest) | inr b ↦ inr b ]
          ]
    ]

pub taut_conflict : (t : Lit → Bool) (c : List Lit) → IsTaut c → AllFalse t c → (l : Lit) × (t l ≡ true) × (t (negate l) ≡ true)
taut_conflict t c p all =
    let m = p.0 in
    let Q : Lit → Type 0 = λ x. t x ≡ true in (
      m,
      subst Q (negate_negate m) (All-contains (λ m. t (negate m) ≡ true) c (negate m) all p.2),
      All-contains (λ m. t (negate m) ≡ true) c m all p.1,
    )

pub Follows-narrower : (cs bs : List (List Lit)) (c : List Lit) → All (λ c. Contains bs c ⊎ IsTaut c) cs → Follows cs c → Follows bs c
Follows-narrower cs bs c all f t false_in closed =
    elim (closed_or_conflict t bs cs closed all) [
      | inr b ↦ inr b
      | inl whole ↦
          elim (f t false_in whole) [
            | inr b ↦ inr b
            | inl h ↦
                elim (All-contains (λ c. Contains bs c ⊎ IsTaut c) cs h.1 all (h.0, h.2, h.3)) [
                  | inl q ↦ inl (q.0, h.1, q.1, q.2, h.4)
                  | inr p ↦ inr (taut_conflict t h.1 p h.4)
                ]
          ]
    ]

pub Follows-taut : (cs : List (List Lit)) (c : List Lit) → IsTaut c → Follows cs c
Follows-taut cs c p t all closed = inr (taut_conflict t c p all)

-- the same behind given clauses
pub there_behind : (cs a b : List (List Lit)) → All (Contains a) b → All (Contains (cs ++ a)) (cs ++ b)
there_behind cs a b all =
    All-append (Contains (cs ++ a)) cs b
    (All-weaker (Contains cs) (Contains (cs ++ a)) (λ c h. Contains-append_left cs a c h) cs (All-contains_itself cs))
    (All-weaker (Contains a) (Contains (cs ++ a)) (λ c h. Contains-append_right cs a c h) b all)

pub covered_behind : (cs a b : List (List Lit)) → All (λ c. Contains a c ⊎ IsTaut c) b → All (λ c. Contains (cs ++ a) c ⊎ IsTaut c) (cs ++ b)
covered_behind cs a b all =
    let P : List Lit → Type 0 = λ c. Contains (cs ++ a) c ⊎ IsTaut c in
    All-append P cs b
    (All-weaker (Contains cs) P (λ c h. inl (Contains-append_left cs a c h)) cs (All-contains_itself cs))
    (All-weaker (λ c. Contains a c ⊎ IsTaut c) P
    (λ c h. elim h [ inl x ↦ inl (Contains-append_right cs a c x) | inr y ↦ inr y ]) b all)

-- what is said of the step against the kept steps is so against all steps before it
pub step_follows : (cs log : List (List Lit)) (k : ℕ) (old new : HintedLog) (step : List Lit) → Keeps log k old → NextSays cs old step new true →
    Follows (cs ++ take k log) step
step_follows cs log k old new step keeps (inl p) = Follows-taut (cs ++ take k log) step p.0
step_follows cs log k old new step keeps (inr a) =
    Follows-wider (cs ++ old.steps) (cs ++ take k log) step (there_behind cs (take k log) old.steps keeps.there)
    (Follows-from_hints (cs ++ old.steps) step a.0 a.1)

pub step_fails : (cs log : List (List Lit)) (k : ℕ) (old : HintedLog) (step : List Lit) → Keeps log k old → (Follows (cs ++ old.steps) step → ⊥) →
    Follows (cs ++ take k log) step → ⊥
step_fails cs log k old step keeps against f =
    against (Follows-narrower (cs ++ take k log) (cs ++ old.steps) step (covered_behind cs old.steps (take k log) keeps.covered) f)

-- one step more
pub hinted_push : (vars : ℕ) (cs : List (List Lit)) (s : List (List Lit)) (g : List (List ℕ)) (c : List Lit) (h : List ℕ) → length g ≡ length s →
    IsHinted vars cs (record { steps = s; hints = g }) → Within vars c → FollowsBy (cs ++ s) c h →
    IsHinted vars cs (record { steps = s ++ c ∷ []; hints = g ++ h ∷ [] })
hinted_push vars cs s g c h level old within f j lt =
    elim (cases_eq j (length s)) [
      | inl same ↦
          let a : get_or (s ++ c ∷ []) j [] ≡ c = get_or_push s c [] j (sym same) in
          let b : get_or (g ++ h ∷ []) j [] ≡ h = get_or_push g h [] j (level ∙ sym same) in
          let e : take j (s ++ c ∷ []) ≡ s = take_at s (c ∷ []) j (sym same) in
          rw (a, b, e) (within, f)
      | inr ne ↦
          let below : j < length s = omega (arith, length-append s (c ∷ [])) in
          let in_g : j < length g = omega arith in
          let le : j ≤ length s = omega arith in
          let a : get_or (s ++ c ∷ []) j [] ≡ get_or s j [] = get_or_append_left s (c ∷ []) [] j below in
          let b : get_or (g ++ h ∷ []) j [] ≡ get_or g j [] = get_or_append_left g (h ∷ []) [] j in_g in
          let e : take j (s ++ c ∷ []) ≡ take j s = take-append-le j s (c ∷ []) le in
          rw (a, b, e) (old j below)
    ]

pub keeps_taut : (log : List (List Lit)) (k : ℕ) (old : HintedLog) (step : List Lit) → k < length log → step ≡ get_or log k [] → IsTaut step →
    Keeps log k old → Keeps log (k + 1) old
keeps_taut log k old step lt same taut keeps =
    let more = take_more log k [] lt in
    let A : List (List Lit) → Type 0 = λ w. All (Contains w) old.steps in
    let B : List (List Lit) → Type 0 = λ w. All (λ c. Contains old.steps c ⊎ IsTaut c) w in
    let T : List Lit → Type 0 = IsTaut in
    record {
      level = keeps.level;
      there = subst A (sym more)
          (All-weaker (Contains (take k log)) (Contains (take k log ++ get_or log k [] ∷ [])) (λ c h. Contains-append_left (take k log) _ c h) old.steps keeps.there);
      covered = subst B (sym more) (All-push (λ c. Contains old.steps c ⊎ IsTaut c) (take k log) (get_or log k []) keeps.covered (inr (subst T same taut)));
      last = λ j e empty.
          let at : k ≡ j = omega (arith, e) in
          let none : get_or log k [] ≡ [] = rw at empty in
          let t : IsTaut [] = subst T (same ∙ none) taut in
          absurd (omega (arith, t.1.1));
    }

pub keeps_push : (log : List (List Lit)) (k : ℕ) (s : List (List Lit)) (g : List (List ℕ)) (step : List Lit) (h : List ℕ) → k < length log → step ≡ get_or log k [] →
    Keeps log k (record { steps = s; hints = g }) → Keeps log (k + 1) (record { steps = s ++ step ∷ []; hints = g ++ h ∷ [] })
keeps_push log k s g step h lt same keeps =
    let more : take (k + 1) log ≡ take k log ++ step ∷ [] = take_more log k [] lt ∙ ap (λ (w : List Lit). take k log ++ w ∷ []) (sym same) in
    let now = take k log ++ step ∷ [] in
    let A : List (List Lit) → Type 0 = λ w. All (Contains w) (s ++ step ∷ []) in
    let Q : List Lit → Type 0 = λ c. Contains (s ++ step ∷ []) c ⊎ IsTaut c in
    let B : List (List Lit) → Type 0 = λ w. All Q w in
    record {
      level = omega (arith, length-append s (step ∷ []), length-append g (h ∷ []), keeps.level);
      there = subst A (sym more)
          (All-push (Contains now) s step
          (All-weaker (Contains (take k log)) (Contains now) (λ c h. Contains-append_left (take k log) (step ∷ []) c h) s keeps.there)
          (Contains-push (take k log) step));
      covered = subst B (sym more)
          (All-push Q (take k log) step
          (All-weaker (λ c. Contains s c ⊎ IsTaut c) Q
          (λ c x. elim x [ inl y ↦ inl (Contains-append_left s (step ∷ []) c y) | inr z ↦ inr z ]) (take k log) keeps.covered)
          (inl (Contains-push s step)));
      last = λ j e empty.
          let at : k ≡ j = omega (arith, e) in
          let none : get_or log k [] ≡ [] = rw at empty in
          (length s, omega (arith, length-append s (step ∷ [])), get_or_push s step [] (length s) refl ∙ same ∙ none);
    }

pub next_keeps : (vars : ℕ) (cs log : List (List Lit)) (k : ℕ) (old new : HintedLog) (step : List Lit) → k < length log → step ≡ get_or log k [] →
    NextSays cs old step new true → Keeps log k old → Keeps log (k + 1) new
next_keeps vars cs log k old new step lt same (inl p) keeps =
    let P : HintedLog → Type 0 = Keeps log (k + 1) in
    subst P (sym p.1) (keeps_taut log k old step lt same p.0 keeps)
next_keeps vars cs log k old new step lt same (inr a) keeps =
    let P : HintedLog → Type 0 = Keeps log (k + 1) in
    subst P (sym a.2) (keeps_push log k old.steps old.hints step a.0 lt same keeps)

pub next_hinted : (vars : ℕ) (cs log : List (List Lit)) (k : ℕ) (old new : HintedLog) (step : List Lit) → Within vars step →
    NextSays cs old step new true → Keeps log k old → IsHinted vars cs old → IsHinted vars cs new
next_hinted vars cs log k old new step within (inl p) keeps h =
    let P : HintedLog → Type 0 = IsHinted vars cs in
    subst P (sym p.1) h
next_hinted vars cs log k old new step within (inr a) keeps h =
    let P : HintedLog → Type 0 = IsHinted vars cs in
    subst P (sym a.2) (hinted_push vars cs old.steps old.hints step a.0 keeps.level h within a.1)

pub hinted_within : (vars : ℕ) (cs : List (List Lit)) (h : HintedLog) → IsHinted vars cs h → All (Within vars) h.steps
hinted_within vars cs h all = All-from_get_or (Within vars) h.steps [] (λ j lt. (all j lt).0)

pub keeps_none : (log : List (List Lit)) → Keeps log 0 (record { steps = []; hints = [] })
keeps_none log =
    record {
      level = refl;
      there = All-nil (Contains (take 0 log));
      covered = All-nil (λ c. Contains [] c ⊎ IsTaut c);
      last = λ j e empty. absurd (omega (arith, e));
    }

-- what is said of steps that were found from clauses with no units behind them
pub steps_found : (vars : ℕ) (cs log : List (List Lit)) (h : HintedLog) → AllHintsSay vars (cs ++ []) log (Found h) → IsHinted vars cs h × Covers h.steps log
steps_found vars cs log h says =
    let P : List (List Lit) → Type 0 = λ w. IsHinted vars w h in
    let Q : List (List Lit) → Type 0 = Covers h.steps in
    (subst P (append-nil cs) says.1, subst Q (take_all (length log) log (omega arith)) says.2.covered)
