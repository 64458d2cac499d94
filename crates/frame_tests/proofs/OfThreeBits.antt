-- What the tests of frames and books need of their systems.
use Rattle.std.proofs.Common.{Some, ◌≡◌, ℕ, ◌<◌, ◌≤◌, ◌⊎◌, Bool, true, false, ◌&&◌, ◌||◌, List, [], ◌∷◌, length, get_or, refl, sym, ◌∙◌, subst, arith, zero, suc, inl, inr, ⊎_elim}
use Rattle.std.specs.Bool.{beq}
use Rattle.std.specs.Cmp.{booleans_Decides}
use Rattle.std.specs.List.{All}
use Rattle.std.proofs.lemmas.Bool.{cases_order, and_parts}
use Rattle.std.proofs.lemmas.List.Elements.{All-nil, All-cons, All-contains_itself}
use Rattle.clause_core.specs.declared.literal.Lit.{Lit}
use Rattle.clause_core.specs.Assignments.{ClauseTrue, assignment_of}
use Rattle.clause_core.specs.Systems.{TransitionSystem, FirstBits, StepBits, BadBits, NextIs}
use Rattle.frame_core.specs.declared.parts.Lemma.{Lemma}
use Rattle.frame_core.specs.declared.parts.Parent.{Parent}
use Rattle.frame_core.specs.Facts.{FoundState, IsProved, IsClear, IsFound, IsStep, MeetsParents, IsPart}
use Rattle.frame_core.specs.FrameLaw.{FrameState, lemma_at, Covers}
use Rattle.frame_core.specs.Changes.{IsCovered, MayHaveParent}
use Rattle.frame_tests.specs.ThreeBits.{last, middle, register_frames, yes, no, latch, register, alone, alone_parent, either_low, last_values, middle_values, first_values}

-- whether the assignment makes the clauses true, as a test
clause_met : (ℕ → Bool) → List Lit → Bool
clause_met v [] = false
clause_met v (l ∷ ls) = beq (v l.var) l.positive || clause_met v ls

clauses_met : (ℕ → Bool) → List (List Lit) → Bool
clauses_met v [] = true
clauses_met v (c ∷ cs) = clause_met v c && clauses_met v cs

or_cases : (x y : Bool) → (x || y) ≡ true → (x ≡ true) ⊎ (y ≡ true)
or_cases true y h = inl refl
or_cases false y h = inr h

later : (v : ℕ → Bool) (l : Lit) (ls : List Lit) → ClauseTrue v ls → ClauseTrue v (l ∷ ls)
later v l ls h = (suc h.0, h.1, omega (arith, h.2), h.3, h.4)

clause_is_met : (v : ℕ → Bool) (c : List Lit) → clause_met v c ≡ true → ClauseTrue v c
unfolding clause_met
clause_is_met v [] h = absurd (let no_way : false ≡ true = h in cc)
clause_is_met v (l ∷ ls) h = elim (or_cases (beq (v l.var) l.positive) (clause_met v ls) h) [
  | inl e ↦ (0, l, omega arith, refl, (booleans_Decides (v l.var) l.positive).0 e)
  | inr e ↦ later v l ls (clause_is_met v ls e)
]

clauses_are_met : (v : ℕ → Bool) (cs : List (List Lit)) → clauses_met v cs ≡ true → All (ClauseTrue v) cs
unfolding clauses_met
clauses_are_met v [] h = All-nil (ClauseTrue v)
clauses_are_met v (c ∷ cs) h =
    let p = and_parts (clause_met v c) (clauses_met v cs) h in
    All-cons (ClauseTrue v) c cs (clause_is_met v c p.0) (clauses_are_met v cs p.1)

-- the literal of a clause of one is true, and so is one of a clause of two
one_at : (v : ℕ → Bool) (l : Lit) (k : ℕ) (m : Lit) → k < 1 → get_or (l ∷ []) k m ≡ m → v m.var ≡ m.positive → v l.var ≡ l.positive
one_at v l zero m lt is h = let P : Lit → Type 0 = λ n. v n.var ≡ n.positive in subst P (sym is) h
one_at v l (suc k) m lt is h = absurd (omega arith)

pub one_true : (v : ℕ → Bool) (l : Lit) → ClauseTrue v (l ∷ []) → v l.var ≡ l.positive
one_true v l h = one_at v l h.0 h.1 h.2 h.3 h.4

two_at : (v : ℕ → Bool) (l n : Lit) (k : ℕ) (m : Lit) → k < 2 → get_or (l ∷ n ∷ []) k m ≡ m → v m.var ≡ m.positive →
    (v l.var ≡ l.positive) ⊎ (v n.var ≡ n.positive)
two_at v l n zero m lt is h = inl (let P : Lit → Type 0 = λ n. v n.var ≡ n.positive in subst P (sym is) h)
two_at v l n (suc zero) m lt is h = inr (let P : Lit → Type 0 = λ n. v n.var ≡ n.positive in subst P (sym is) h)
two_at v l n (suc (suc k)) m lt is h = absurd (omega arith)

two_true : (v : ℕ → Bool) (l n : Lit) → ClauseTrue v (l ∷ n ∷ []) → (v l.var ≡ l.positive) ⊎ (v n.var ≡ n.positive)
two_true v l n h = two_at v l n h.0 h.1 h.2 h.3 h.4

starts : (x : ℕ → Bool) → FirstBits latch x → x 0 ≡ false
unfolding latch
starts x (a, agrees, met) = sym (agrees 0 (omega arith)) ∙ one_true a (no 0) (met 0 [] (omega arith))

stays : (x y : ℕ → Bool) → x 0 ≡ false → StepBits latch x y → y 0 ≡ false
unfolding latch
stays x y off (a, agrees, next, met) =
    elim (two_true a (no 3) (yes 0) (met 0 [] (omega arith))) [
      | inl e ↦ sym (next 0 (omega arith)) ∙ e
      | inr e ↦ (let on : a 0 ≡ true = e in let same : a 0 ≡ x 0 = agrees 0 (omega arith) in let no_way : true ≡ false = sym on ∙ same ∙ off in cc)
    ]

first_is_true : (v : ℕ → Bool) (l : Lit) (ls : List Lit) → v l.var ≡ l.positive → ClauseTrue v (l ∷ ls)
first_is_true v l ls h = (0, l, omega arith, refl, h)

-- bit 0 is false in the state before
was_low : (level : ℕ) (parents : List Parent) (x : ℕ → Bool) → 0 < level → (level ≡ 1 → FirstBits latch x) → (1 < level → ClauseTrue x (alone 0) × MeetsParents parents x) →
    x 0 ≡ false
was_low level parents x above at_first later_on =
    ⊎_elim
    (λ (e : level ≡ 1). starts x (at_first e))
    (λ (o : (level < 1) ⊎ (1 < level)).
    ⊎_elim
    (λ (m : level < 1). absurd (omega arith))
    (λ (m : 1 < level). one_true x (no 0) (later_on m).0)
    o)
    (cases_order level 1)

pub low_proved : (level : ℕ) (parents : List Parent) → 0 < level →
    IsProved record { system = latch; clause = alone 0; part = alone 0; level = level; parents = parents }
unfolding latch
low_proved level parents above = record {
  above = above;
  within = let P : Lit → Type 0 = λ l. l.var < 3 in All-cons P (no 0) [] (omega arith) (All-nil P);
  part_in = All-contains_itself (alone 0);
  first = λ x is. first_is_true x (no 0) [] (starts x is);
  step = λ x y at_first later_on goes. first_is_true y (no 0) [] (stays x y (was_low level parents x above at_first later_on) goes);
}

pub either_proved : (parents : List Parent) → IsProved record { system = latch; clause = either_low; part = either_low; level = 1; parents = parents }
unfolding latch either_low
either_proved parents = record {
  above = omega arith;
  within = let P : Lit → Type 0 = λ l. l.var < 3 in All-cons P (no 0) (no 1 ∷ []) (omega arith) (All-cons P (no 1) [] (omega arith) (All-nil P));
  part_in = All-contains_itself either_low;
  first = λ x is. first_is_true x (no 0) (no 1 ∷ []) (starts x is);
  step = λ x y at_first later_on goes. first_is_true y (no 0) (no 1 ∷ []) (stays x y (starts x (at_first refl)) goes);
}

never_bad : (x : ℕ → Bool) → x 0 ≡ false → BadBits latch x → ⊥
unfolding latch
never_bad x off (a, agrees, met) =
    let on : a 0 ≡ true = one_true a (yes 0) (met 0 [] (omega arith)) in
    let same : a 0 ≡ x 0 = agrees 0 (omega arith) in
    let no_way : true ≡ false = sym on ∙ same ∙ off in
    cc

pub level_clear : (level : ℕ) → IsClear record { system = latch; level = level; parents = alone_parent 0 ∷ [] }
level_clear zero = record { safe = λ x at_first above bad. never_bad x (starts x (at_first refl)) bad }
level_clear (suc level) = record {
  safe = λ x at_first above bad. never_bad x (one_true x (no 0) (above (omega arith) 0 (alone_parent 0) (omega arith))) bad;
}

pub last_found : IsFound record { system = register; values = last_values; is_step = false; first = false }
unfolding clauses_met clause_met register last_values
last_found = record {
  whole = refl;
  step = λ e. absurd (let no_way : false ≡ true = e in cc);
  bad = λ e. clauses_are_met (assignment_of last_values) register.bad refl;
  flag = record {
    is_first = λ e. absurd (let no_way : false ≡ true = e in cc);
    not_first = λ e (a, agrees, met).
        let off : a 1 ≡ false = one_true a (no 1) (met 0 [] (omega arith)) in
        let on : a 1 ≡ true = agrees 1 (omega arith) in
        let no_way : true ≡ false = sym on ∙ off in
        cc;
  };
}

pub middle_found : IsFound record { system = register; values = middle_values; is_step = true; first = false }
unfolding clauses_met clause_met register middle_values
middle_found = record {
  whole = refl;
  step = λ e. clauses_are_met (assignment_of middle_values) register.step refl;
  bad = λ e. absurd (let no_way : true ≡ false = e in cc);
  flag = record {
    is_first = λ e. absurd (let no_way : false ≡ true = e in cc);
    not_first = λ e (a, agrees, met).
        let off : a 1 ≡ false = one_true a (no 1) (met 0 [] (omega arith)) in
        let on : a 1 ≡ true = agrees 1 (omega arith) in
        let no_way : true ≡ false = sym on ∙ off in
        cc;
  };
}

pub first_found : IsFound record { system = register; values = first_values; is_step = true; first = true }
unfolding clauses_met clause_met register first_values
first_found = record {
  whole = refl;
  step = λ e. clauses_are_met (assignment_of first_values) register.step refl;
  bad = λ e. absurd (let no_way : true ≡ false = e in cc);
  flag = record {
    is_first = λ e. (assignment_of first_values, λ b lt. refl, clauses_are_met (assignment_of first_values) register.init refl);
    not_first = λ e. absurd (let no_way : true ≡ false = e in cc);
  };
}

pub middle_to_last : NextIs 3 (assignment_of middle_values) (assignment_of last_values)
unfolding middle_values last_values
middle_to_last zero lt = refl
middle_to_last (suc zero) lt = refl
middle_to_last (suc (suc zero)) lt = refl
middle_to_last (suc (suc (suc b))) lt = absurd (omega arith)

pub first_to_middle : NextIs 3 (assignment_of first_values) (assignment_of middle_values)
unfolding first_values middle_values
first_to_middle zero lt = refl
first_to_middle (suc zero) lt = refl
first_to_middle (suc (suc zero)) lt = refl
first_to_middle (suc (suc (suc b))) lt = absurd (omega arith)

-- lemma 1 covers lemma 0 where they say the same
pub covers_first : (f : FrameState) (a b : Lemma) → 1 < length f.lemmas → a ≡ lemma_at f.lemmas 0 → b ≡ lemma_at f.lemmas 1 →
    b.live ≡ true → a.level ≤ b.level → IsPart b.clause a.clause → IsCovered f 0
covers_first f a b many is_a is_b live high part =
    let P : Lemma → Type 0 = λ l. Covers l (lemma_at f.lemmas 0) in
    let Q : Lemma → Type 0 = λ l. Covers b l in
    (1, many, omega arith, subst P is_b (subst Q is_a (live, part, high)))

-- the same of parts that are equal
pub low_proof : (s : TransitionSystem) (c e : List Lit) (level : ℕ) (parents : List Parent) → s ≡ latch → c ≡ alone 0 → e ≡ alone 0 → 0 < level →
    IsProved record { system = s; clause = c; part = e; level = level; parents = parents }
low_proof s c e level parents is isc ise above =
    let P : TransitionSystem → Type 0 = λ t. IsProved record { system = t; clause = c; part = e; level = level; parents = parents } in
    let Q : List Lit → Type 0 = λ d. IsProved record { system = latch; clause = d; part = e; level = level; parents = parents } in
    let R : List Lit → Type 0 = λ d. IsProved record { system = latch; clause = alone 0; part = d; level = level; parents = parents } in
    subst P (sym is) (subst Q (sym isc) (subst R (sym ise) (low_proved level parents above)))

pub either_proof : (s : TransitionSystem) (c e : List Lit) (parents : List Parent) → s ≡ latch → c ≡ either_low → e ≡ either_low →
    IsProved record { system = s; clause = c; part = e; level = 1; parents = parents }
either_proof s c e parents is isc ise =
    let P : TransitionSystem → Type 0 = λ t. IsProved record { system = t; clause = c; part = e; level = 1; parents = parents } in
    let Q : List Lit → Type 0 = λ d. IsProved record { system = latch; clause = d; part = e; level = 1; parents = parents } in
    let R : List Lit → Type 0 = λ d. IsProved record { system = latch; clause = either_low; part = d; level = 1; parents = parents } in
    subst P (sym is) (subst Q (sym isc) (subst R (sym ise) (either_proved parents)))

pub clear_level : (s : TransitionSystem) (level : ℕ) (parents : List Parent) → s ≡ latch → parents ≡ alone_parent 0 ∷ [] →
    IsClear record { system = s; level = level; parents = parents }
clear_level s level parents e f =
    let P : TransitionSystem → Type 0 = λ t. IsClear record { system = t; level = level; parents = parents } in
    let Q : List Parent → Type 0 = λ ps. IsClear record { system = latch; level = level; parents = ps } in
    subst P (sym e) (subst Q (sym f) (level_clear level))

pub last_state : (s : TransitionSystem) → s ≡ register → IsFound record { system = s; values = true ∷ true ∷ true ∷ false ∷ false ∷ false ∷ []; is_step = false; first = false }
unfolding last_values
last_state s e =
    let P : TransitionSystem → Type 0 = λ t. IsFound record { system = t; values = last_values; is_step = false; first = false } in
    subst P (sym e) last_found

pub middle_state : (s : TransitionSystem) → s ≡ register → IsFound record { system = s; values = true ∷ true ∷ false ∷ true ∷ true ∷ true ∷ []; is_step = true; first = false }
unfolding middle_values
middle_state s e =
    let P : TransitionSystem → Type 0 = λ t. IsFound record { system = t; values = middle_values; is_step = true; first = false } in
    subst P (sym e) middle_found

pub first_state : (s : TransitionSystem) → s ≡ register → IsFound record { system = s; values = true ∷ false ∷ false ∷ true ∷ true ∷ false ∷ []; is_step = true; first = true }
unfolding first_values
first_state s e =
    let P : TransitionSystem → Type 0 = λ t. IsFound record { system = t; values = first_values; is_step = true; first = true } in
    subst P (sym e) first_found

-- the steps may be noted over the states that they end in
pub middle_may : (f : FrameState) (s : FoundState) → f ≡ register_frames (last ∷ []) →
    s ≡ record { system = register; values = middle_values; is_step = true; first = false } → MayHaveParent f 0 s (Some 0)
unfolding register
middle_may f s is e =
    let P : FrameState → Type 0 = λ g. MayHaveParent g 0 s (Some 0) in
    let Q : FoundState → Type 0 = λ t. MayHaveParent (register_frames (last ∷ [])) 0 t (Some 0) in
    subst P (sym is) (subst Q (sym e) (refl, omega arith, refl, middle_to_last))

pub first_may : (f : FrameState) (s : FoundState) → f ≡ register_frames (last ∷ middle ∷ []) →
    s ≡ record { system = register; values = first_values; is_step = true; first = true } → MayHaveParent f 0 s (Some 1)
unfolding register
first_may f s is e =
    let P : FrameState → Type 0 = λ g. MayHaveParent g 0 s (Some 1) in
    let Q : FoundState → Type 0 = λ t. MayHaveParent (register_frames (last ∷ middle ∷ [])) 0 t (Some 1) in
    subst P (sym is) (subst Q (sym e) (refl, omega arith, refl, first_to_middle))

-- the state with all bits true is a bad one of the latch, too
latch_last : IsFound record { system = latch; values = last_values; is_step = false; first = false }
unfolding clauses_met clause_met latch last_values
latch_last = record {
  whole = refl;
  step = λ e. absurd (let no_way : false ≡ true = e in cc);
  bad = λ e. clauses_are_met (assignment_of last_values) latch.bad refl;
  flag = record {
    is_first = λ e. absurd (let no_way : false ≡ true = e in cc);
    not_first = λ e is.
        let off : true ≡ false = starts (assignment_of last_values) is in
        cc;
  };
}

pub latch_last_state : (s : TransitionSystem) → s ≡ latch → IsFound record { system = s; values = true ∷ true ∷ true ∷ false ∷ false ∷ false ∷ []; is_step = false; first = false }
unfolding last_values
latch_last_state s e =
    let P : TransitionSystem → Type 0 = λ t. IsFound record { system = t; values = last_values; is_step = false; first = false } in
    subst P (sym e) latch_last

-- bits 1 and 2 of the register are false at first
begins : (x : ℕ → Bool) → FirstBits register x → x 1 ≡ false
unfolding register
begins x (a, agrees, met) = sym (agrees 1 (omega arith)) ∙ one_true a (no 1) (met 0 [] (omega arith))

begins_high : (x : ℕ → Bool) → FirstBits register x → x 2 ≡ false
unfolding register
begins_high x (a, agrees, met) = sym (agrees 2 (omega arith)) ∙ one_true a (no 2) (met 1 [] (omega arith))

-- a step gives bit 2 what bit 1 was
shifts : (x y : ℕ → Bool) → x 1 ≡ false → StepBits register x y → y 2 ≡ false
unfolding register
shifts x y off (a, agrees, next, met) =
    elim (two_true a (no 5) (yes 1) (met 2 [] (omega arith))) [
      | inl e ↦ sym (next 2 (omega arith)) ∙ e
      | inr e ↦ (let on : a 1 ≡ true = e in let same : a 1 ≡ x 1 = agrees 1 (omega arith) in let no_way : true ≡ false = sym on ∙ same ∙ off in cc)
    ]

high_proved : (parents : List Parent) → IsProved record { system = register; clause = alone 2; part = alone 2; level = 1; parents = parents }
unfolding register
high_proved parents = record {
  above = omega arith;
  within = let P : Lit → Type 0 = λ l. l.var < 3 in All-cons P (no 2) [] (omega arith) (All-nil P);
  part_in = All-contains_itself (alone 2);
  first = λ x is. first_is_true x (no 2) [] (begins_high x is);
  step = λ x y at_first later_on goes. first_is_true y (no 2) [] (shifts x y (begins x (at_first refl)) goes);
}

pub high_proof : (s : TransitionSystem) (c e : List Lit) (parents : List Parent) → s ≡ register → c ≡ alone 2 → e ≡ alone 2 →
    IsProved record { system = s; clause = c; part = e; level = 1; parents = parents }
high_proof s c e parents is isc ise =
    let P : TransitionSystem → Type 0 = λ t. IsProved record { system = t; clause = c; part = e; level = 1; parents = parents } in
    let Q : List Lit → Type 0 = λ d. IsProved record { system = register; clause = d; part = e; level = 1; parents = parents } in
    let R : List Lit → Type 0 = λ d. IsProved record { system = register; clause = alone 2; part = d; level = 1; parents = parents } in
    subst P (sym is) (subst Q (sym isc) (subst R (sym ise) (high_proved parents)))

not_bad : (x : ℕ → Bool) → x 2 ≡ false → BadBits register x → ⊥
unfolding register
not_bad x off (a, agrees, met) =
    let on : a 2 ≡ true = one_true a (yes 2) (met 2 [] (omega arith)) in
    let same : a 2 ≡ x 2 = agrees 2 (omega arith) in
    let no_way : true ≡ false = sym on ∙ same ∙ off in
    cc

register_clear : (level : ℕ) → IsClear record { system = register; level = level; parents = alone_parent 2 ∷ [] }
register_clear zero = record { safe = λ x at_first above bad. not_bad x (begins_high x (at_first refl)) bad }
register_clear (suc level) = record {
  safe = λ x at_first above bad. not_bad x (one_true x (no 2) (above (omega arith) 0 (alone_parent 2) (omega arith))) bad;
}

pub high_clear : (s : TransitionSystem) (level : ℕ) (parents : List Parent) → s ≡ register → parents ≡ alone_parent 2 ∷ [] →
    IsClear record { system = s; level = level; parents = parents }
high_clear s level parents e f =
    let P : TransitionSystem → Type 0 = λ t. IsClear record { system = t; level = level; parents = parents } in
    let Q : List Parent → Type 0 = λ ps. IsClear record { system = register; level = level; parents = ps } in
    subst P (sym e) (subst Q (sym f) (register_clear level))

middle_is_step : IsStep record { system = register; values = middle_values }
unfolding clauses_met clause_met register middle_values
middle_is_step = record { whole = refl; step = clauses_are_met (assignment_of middle_values) register.step refl }

pub middle_step : (s : TransitionSystem) → s ≡ register → IsStep record { system = s; values = true ∷ true ∷ false ∷ true ∷ true ∷ true ∷ [] }
unfolding middle_values
middle_step s e =
    let P : TransitionSystem → Type 0 = λ t. IsStep record { system = t; values = middle_values } in
    subst P (sym e) middle_is_step
