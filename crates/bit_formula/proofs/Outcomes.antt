-- What is not read does not matter.
use Rattle.std.proofs.Common.{◌≡◌, ◌∙◌, ℕ, zero, suc, ◌<◌, ◌==◌, Bool, true, false, ◌&&◌, cond, List, [], ◌∷◌, length, slice_get, Option, Some, None, refl, sym, ap, subst, arith, inl, inr}
use Rattle.std.specs.List.{filter, list_any}
use Rattle.std.specs.Prelude.{slice_index_or}
use Rattle.std.proofs.lemmas.Bool.{and_from, cases_lt, eq-eqb, or_from, or_left, or_parts, or_right}
use Rattle.std.proofs.lemmas.Option.{slice_get_past}
use Rattle.smv_tree.specs.declared.tree.Program.{Program}
use Rattle.smv_value.specs.declared.value.Value.{Value}
use Rattle.smv_slots.specs.declared.slot.Slot.{Slot}
use Rattle.smv_slots.specs.Slots.{given_to, is_input, slots_of}
use Rattle.smv_resolve.specs.Resolved.{Resolved, Operands}
use Rattle.smv_meaning.specs.declared.outcome.Evaluation.{Evaluation}
use Rattle.smv_meaning.specs.Outcomes.{applied, valued}
use Rattle.smv_meaning.specs.Values.{outcome, outcomes}
use Rattle.bit_formula.specs.Agreeing.{AreAllRead}
use Rattle.bit_formula.specs.Coding.{input_count}
use Rattle.bit_formula.specs.Reading.{AgreeOn, is_read, is_read_in, is_some_input, is_this_input, reads_of, reads_slot, some_reads_slot}
use Rattle.bit_formula.proofs.Numbers.{in_below, place_of}

module _ (slots : List Slot) where
  -- where no input is read, none of a number is
  not_this : (k : ℕ) (o : Option Slot) → is_some_input o ≡ false → is_this_input k o ≡ false
  not_this k None h = refl
  not_this k (Some slot) h = ap (λ (b : Bool). b && slot.index == k) h

  mutual
    none_read : (k : ℕ) (r : Resolved) → reads_slot is_some_input slots r ≡ false → is_read slots k r ≡ false
    none_read k (Resolved.Constant place b) h = refl
    none_read k (Resolved.Slot place n) h = not_this k (slice_get slots n) h
    none_read k (Resolved.Whole place i) h = refl
    none_read k (Resolved.Named place naming r) h = none_read k r h
    none_read k (Resolved.Next place r) h = refl
    none_read k (Resolved.Apply place o rs) h = none_some k rs h
    none_read k Resolved.Stuck h = refl

    none_some : (k : ℕ) (rs : Operands) → some_reads_slot is_some_input slots rs ≡ false → some_reads_slot (is_this_input k) slots rs ≡ false
    none_some k Operands.End h = refl
    none_some k (Operands.With r rs) h =
        let both = or_parts (reads_slot is_some_input slots r) (some_reads_slot is_some_input slots rs) h in
        or_from (is_read slots k r) (some_reads_slot (is_this_input k) slots rs) (none_read k r both.0) (none_some k rs both.1)

  none_in : (k : ℕ) (parts : List Resolved) → list_any (reads_slot is_some_input slots) parts ≡ false → list_any (is_read slots k) parts ≡ false
  none_in k [] h = refl
  none_in k (r ∷ parts) h =
      let both = or_parts (reads_slot is_some_input slots r) (list_any (reads_slot is_some_input slots) parts) h in
      or_from (is_read slots k r) (list_any (is_read slots k) parts) (none_read k r both.0) (none_in k parts both.1)

  none_left : (f : ℕ → Bool) (xs : List ℕ) → ((k : ℕ) → f k ≡ false) → [] ≡ filter f xs
  none_left f [] none = refl
  none_left f (x ∷ xs) none = none_left f xs none ∙ ap (λ (b : Bool). cond b (x ∷ filter f xs) (filter f xs)) (sym (none x))

  pub none_listed : (parts : List Resolved) (xs : List ℕ) → list_any (reads_slot is_some_input slots) parts ≡ false → [] ≡ filter (λ (k : ℕ). list_any (is_read slots k) parts) xs
  none_listed parts xs h = none_left (λ (k : ℕ). list_any (is_read slots k) parts) xs (λ k. none_in k parts h)

  -- inputs that are the same where an expression reads them give it the same outcome
  module _ (u v : List Value) where
    abbrev Same : (ℕ → Bool) → Type 0
    Same f = (k : ℕ) → f k ≡ true → slice_get u k ≡ slice_get v k

    given_input : (s : List Value) (slot : Slot) (b : Bool) → is_input slot.kind ≡ b → Same (λ k. is_this_input k (Some slot))
        → cond b (slice_get u slot.index) (slice_get s slot.index) ≡ cond b (slice_get v slot.index) (slice_get s slot.index)
    given_input s slot false kind same = refl
    given_input s slot true kind same = same slot.index (and_from (is_input slot.kind) (slot.index == slot.index) kind (eq-eqb slot.index slot.index refl))

    given_same : (s : List Value) (o : Option Slot) → Same (λ k. is_this_input k o) → given_to s u o ≡ given_to s v o
    given_same s None same = refl
    given_same s (Some slot) same = given_input s slot (is_input slot.kind) refl same

    mutual
      outcome_same : (s t : List Value) (r : Resolved) → Same (λ k. is_read slots k r) → outcome slots s u t r ≡ outcome slots s v t r
      outcome_same s t (Resolved.Constant place b) same = refl
      outcome_same s t (Resolved.Slot place n) same = ap valued (given_same s (slice_get slots n) same)
      outcome_same s t (Resolved.Whole place i) same = refl
      outcome_same s t (Resolved.Named place naming r) same = outcome_same s t r same
      outcome_same s t (Resolved.Next place r) same = refl
      outcome_same s t (Resolved.Apply place o rs) same = ap (applied o place) (outcomes_same s t rs same)
      outcome_same s t Resolved.Stuck same = refl

      outcomes_same : (s t : List Value) (rs : Operands) → Same (λ k. some_reads_slot (is_this_input k) slots rs) → outcomes slots s u t rs ≡ outcomes slots s v t rs
      outcomes_same s t Operands.End same = refl
      outcomes_same s t (Operands.With r rs) same =
          ap (λ (x : Evaluation). x ∷ outcomes slots s u t rs) (outcome_same s t r (λ k h. same k (or_left (is_read slots k r) (some_reads_slot (is_this_input k) slots rs) h)))
          ∙ ap (λ (xs : List Evaluation). outcome slots s v t r ∷ xs) (outcomes_same s t rs (λ k h. same k (or_right (is_read slots k r) (some_reads_slot (is_this_input k) slots rs) h)))

-- what one of the parts reads is read in them
read_in : (slots : List Slot) (k : ℕ) (parts : List Resolved) (i : ℕ) (r : Resolved) → i < length parts → slice_index_or parts i r ≡ r → is_read slots k r ≡ true
    → list_any (is_read slots k) parts ≡ true
read_in slots k [] i r lt at h = absurd (let no : ⊥ = omega (arith, lt) in no)
read_in slots k (x ∷ parts) zero r lt at h = or_left (is_read slots k x) (list_any (is_read slots k) parts) (ap (is_read slots k) at ∙ h)
read_in slots k (x ∷ parts) (suc i) r lt at h =
    or_right (is_read slots k x) (list_any (is_read slots k) parts) (read_in slots k parts i r (omega (arith, lt)) at h)

module _ (p : Program) (parts : List Resolved) where
  agree_at : (u v : List Value) → AgreeOn (reads_of p parts) u v → (k : ℕ) → k < input_count p → is_read_in p parts k ≡ true → slice_get u k ≡ slice_get v k
  agree_at u v agree k below read =
      let at = place_of (reads_of p parts) k (in_below (is_read_in p parts) (input_count p) k below ∙ read) in
      subst (λ j. slice_get u j ≡ slice_get v j) at.1.there (agree at.0 at.1.inside)

  pub all_read : AreAllRead p parts
  all_read u v u_long v_long agree r (i, lt, at) s t =
      outcome_same (slots_of p) u v s t r (λ k h.
      elim (cases_lt k (input_count p)) [
        | inl below ↦ agree_at u v agree k below (read_in (slots_of p) k parts i r lt at h)
        | inr past ↦ slice_get_past u k (omega (arith, past, u_long)) ∙ sym (slice_get_past v k (omega (arith, past, v_long)))
      ])
