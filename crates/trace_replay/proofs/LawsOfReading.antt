-- Lines hold one list of traces at most, each front of good lines is good, and printed lines are read back.
use Rattle.std.proofs.Common.{◌≡◌, inl, inr, ℕ, zero, suc, ◌+◌, ◌-◌, ◌<◌, ◌≤◌, max, Bool, true, cond, List, [], ◌∷◌, ◌++◌, length, map, take, drop, get_or, replicate, slice_get, slice_set, Option, None, Some, refl, sym, ap, ◌∙◌, arith, take-append-drop, length-take}
use lib.Dec.{eqb, ltb}
use Rattle.std.specs.List.{flat_map, fold, list_all, range_with_len}
use Rattle.std.specs.Option.{option_map}
use Rattle.std.proofs.lemmas.Bool.{and_from, and_parts, cond-true, eq-eqb, lt-ltb}
use Rattle.std.proofs.lemmas.Grind.{fold-append}
use Rattle.std.proofs.lemmas.List.{take-map, take_all, take_more}
use Rattle.std.proofs.lemmas.List.Folds.{list_all-append}
use Rattle.std.proofs.lemmas.Option.{slice_get_cases}
use Rattle.smv_tree.specs.declared.refusal.Refusal.{Refusal}
use Rattle.trace_replay.specs.declared.entry.Binding.{Binding}
use Rattle.trace_replay.specs.declared.entry.TraceLine.{TraceLine}
use Rattle.trace_replay.specs.declared.entry.TraceLine.TheVariants as entry
use Rattle.trace_replay.specs.declared.reading.Reading.{Reading}
use Rattle.trace_replay.specs.declared.source.Line.{Line}
use Rattle.trace_replay.specs.declared.trace.Trace.{Trace}
use Rattle.trace_replay.specs.Lines.{body_entries, entries_of, entry_text, input_entries, loop_entries, moment_entries, moments, state_entries}
use Rattle.trace_replay.specs.Reading.{Holds, IsRefusedAt, all_read, closed, followed, followed_by, in_form, is_free, kept_open, may_begin, nothing_read, texts}
use Rattle.trace_replay.proofs.OfLines.{numbers_more}
use Rattle.trace_replay.proofs.OfReading.{same_entries}

some_is : {A : Type 0} (a b : A) → Some a ≡ Some b → a ≡ b
some_is a b e = cc

pub held_once : (specs : ℕ) (lines : List (List ℕ)) (first second : List (Option Trace)) → Holds specs lines first → Holds specs lines second → first ≡ second
held_once specs lines first second a b =
    let same : a.entries ≡ b.entries = same_entries a.entries b.entries a.formed b.formed (sym a.text ∙ b.text) in
    some_is first second (sym a.told ∙ ap (λ (es : List TraceLine). option_map closed (all_read specs es)) same ∙ b.told)

-- Fronts.

stuck : (es : List TraceLine) → fold followed_by None es ≡ None
stuck [] = refl
stuck (e ∷ es) = stuck es

some_front : (o : Option Reading) (es : List TraceLine) (r : Reading) → fold followed_by o es ≡ Some r → (s : Reading) × (o ≡ Some s)
some_front None es r e = absurd (let clash : None ≡ Some r = sym (stuck es) ∙ e in let never : ⊥ = cc in never)
some_front (Some s) es r e = (s, refl)

some_reading : (o : Option Reading) (ts : List (Option Trace)) → option_map closed o ≡ Some ts → (r : Reading) × (o ≡ Some r)
some_reading None ts e = absurd (let never : ⊥ = cc in never)
some_reading (Some r) ts e = (r, refl)

front_held : (specs : ℕ) (lines : List (List ℕ)) (traces : List (Option Trace)) (n : ℕ) → Holds specs lines traces → (ts : List (Option Trace)) × Holds specs (take n lines) ts
front_held specs lines traces n h =
    let whole = some_reading (all_read specs h.entries) traces h.told in
    let cut : h.entries ≡ take n h.entries ++ drop n h.entries = sym (take-append-drop n h.entries) in
    let split : all_read specs h.entries ≡ fold followed_by (all_read specs (take n h.entries)) (drop n h.entries) =
    ap (all_read specs) cut ∙ fold-append followed_by (Some (nothing_read specs)) (take n h.entries) (drop n h.entries) in
    let front = some_front (all_read specs (take n h.entries)) (drop n h.entries) whole.0 (sym split ∙ whole.1) in
    let formed = and_parts (list_all in_form (take n h.entries)) (list_all in_form (drop n h.entries)) (sym (list_all-append in_form (take n h.entries) (drop n h.entries)) ∙ ap (list_all in_form) (sym cut) ∙ h.formed) in (
      closed front.0,
      record {
        entries = take n h.entries;
        formed = formed.0;
        text = ap (take n) h.text ∙ take-map entry_text n h.entries;
        told = ap (option_map closed) front.1;
      },
    )

pub held_or_refused : (specs : ℕ) (lines : List Line) (traces : List (Option Trace)) (r : Refusal) → Holds specs (texts lines) traces → IsRefusedAt specs lines r → ⊥
held_or_refused specs lines traces r h refused =
    let front = front_held specs (texts lines) traces (refused.before + 1) h in
    refused.bad front.0 front.1

-- What is printed is read back.

abbrev untold : Option Trace
untold = None

slice_get-replicate : (n k : ℕ) → k < n → slice_get (replicate n untold) k ≡ Some untold
slice_get-replicate zero k h = absurd (let never : ⊥ = omega (arith, h) in never)
slice_get-replicate (suc n) zero h = refl
slice_get-replicate (suc n) (suc k) h = slice_get-replicate n k (omega (arith, h))

module _ (specs number : ℕ) where
  abbrev reading : List (List Binding) → List (List Binding) → Option ℕ → Reading
  reading ss us start = record { done = replicate specs None; current = Some (record { spec = number; trace = record { states = ss; inputs = us; start = start } }) }

  begun : 0 < number → number ≤ specs → followed (nothing_read specs) (entry.Spec number) ≡ Some (reading [] [] None)
  begun h k =
      cond-true (may_begin number (replicate specs None)) (Some (reading [] [] None)) None
      (and_from (ltb 0 number) (is_free (slice_get (replicate specs None) (number - 1))) (lt-ltb 0 number h) (ap is_free (slice_get-replicate specs (number - 1) (omega (arith, h, k)))))

  suc_is : (i : ℕ) → suc i ≡ i + 1
  suc_is i = omega arith

  took : (rows : List (List Binding)) (i : ℕ) (x : List Binding) → slice_get rows i ≡ Some x → i < length rows → get_or rows i x ≡ x → take i rows ++ x ∷ [] ≡ take (suc i) rows
  took rows i x e within is =
      ap (λ (l : List Binding). take i rows ++ l ∷ []) (sym is) ∙ sym (take_more rows i x within) ∙ ap (λ n. take n rows) (sym (suc_is i))

  past : (rows : List (List Binding)) (i : ℕ) → length rows ≤ i → take i rows ≡ take (suc i) rows
  past rows i h = take_all i rows h ∙ sym (take_all (suc i) rows (omega (arith, h)))

  at_length : (rows : List (List Binding)) (i : ℕ) → i < length rows → eqb i (length (take i rows)) ≡ true
  at_length rows i within = eq-eqb i (length (take i rows)) (let long = length-take i rows in omega (arith, within, long))

  abbrev with_rows : List (List Binding) → List (List Binding) → Bool → Option Reading
  with_rows ss us b = kept_open (replicate specs None) number (cond b (Some (record { states = ss; inputs = us; start = None })) None)

  state_read : (ss us : List (List Binding)) (i : ℕ) → fold followed_by (Some (reading (take i ss) us None)) (state_entries i (slice_get ss i)) ≡ Some (reading (take (suc i) ss) us None)
  state_read ss us i = elim (slice_get_cases ss i).1 [
    | inl found ↦
        ap (λ (o : Option (List Binding)). fold followed_by (Some (reading (take i ss) us None)) (state_entries i o)) found.2
        ∙ ap (λ (b : Bool). with_rows (take i ss ++ found.0 ∷ []) us b) (at_length ss i found.1)
        ∙ ap (λ (rows : List (List Binding)). Some (reading rows us None)) (took ss i found.0 found.2 found.1 found.3)
    | inr none ↦
        ap (λ (o : Option (List Binding)). fold followed_by (Some (reading (take i ss) us None)) (state_entries i o)) none.1
        ∙ ap (λ (rows : List (List Binding)). Some (reading rows us None)) (past ss i none.0)
  ]

  inputs_read : (ss us : List (List Binding)) (i : ℕ) → fold followed_by (Some (reading ss (take i us) None)) (input_entries i (slice_get us i)) ≡ Some (reading ss (take (suc i) us) None)
  inputs_read ss us i = elim (slice_get_cases us i).1 [
    | inl found ↦
        ap (λ (o : Option (List Binding)). fold followed_by (Some (reading ss (take i us) None)) (input_entries i o)) found.2
        ∙ ap (λ (b : Bool). with_rows ss (take i us ++ found.0 ∷ []) b) (at_length us i found.1)
        ∙ ap (λ (rows : List (List Binding)). Some (reading ss rows None)) (took us i found.0 found.2 found.1 found.3)
    | inr none ↦
        ap (λ (o : Option (List Binding)). fold followed_by (Some (reading ss (take i us) None)) (input_entries i o)) none.1
        ∙ ap (λ (rows : List (List Binding)). Some (reading ss rows None)) (past us i none.0)
  ]

  moment_read : (t : Trace) (i : ℕ) → fold followed_by (Some (reading (take i t.states) (take i t.inputs) None)) (moment_entries t i) ≡ Some (reading (take (suc i) t.states) (take (suc i) t.inputs) None)
  moment_read t i =
      fold-append followed_by (Some (reading (take i t.states) (take i t.inputs) None)) (state_entries i (slice_get t.states i)) (input_entries i (slice_get t.inputs i))
      ∙ ap (λ (o : Option Reading). fold followed_by o (input_entries i (slice_get t.inputs i))) (state_read t.states (take i t.inputs) i)
      ∙ inputs_read (take (suc i) t.states) t.inputs i

  moments_read : (t : Trace) (i : ℕ) → fold followed_by (Some (reading [] [] None)) (flat_map (moment_entries t) (range_with_len 0 i)) ≡ Some (reading (take i t.states) (take i t.inputs) None)
  moments_read t zero = refl
  moments_read t (suc i) =
      ap (λ n. fold followed_by (Some (reading [] [] None)) (flat_map (moment_entries t) (range_with_len 0 n))) (suc_is i)
      ∙ ap (fold followed_by (Some (reading [] [] None))) (numbers_more (moment_entries t) i)
      ∙ fold-append followed_by (Some (reading [] [] None)) (flat_map (moment_entries t) (range_with_len 0 i)) (moment_entries t i)
      ∙ ap (λ (o : Option Reading). fold followed_by o (moment_entries t i)) (moments_read t i)
      ∙ moment_read t i

  all_moments : (t : Trace) → fold followed_by (Some (reading [] [] None)) (moments t) ≡ Some (reading t.states t.inputs None)
  all_moments t =
      let n = max (length t.states) (length t.inputs) in
      moments_read t n
      ∙ ap (λ (rows : List (List Binding)). Some (reading rows (take n t.inputs) None)) (take_all n t.states (omega arith))
      ∙ ap (λ (rows : List (List Binding)). Some (reading t.states rows None)) (take_all n t.inputs (omega arith))

  loop_read : (ss us : List (List Binding)) (start : Option ℕ) → fold followed_by (Some (reading ss us None)) (loop_entries start) ≡ Some (reading ss us start)
  loop_read ss us None = refl
  loop_read ss us (Some n) = refl

  trace_read : (t : Trace) → 0 < number → number ≤ specs → all_read specs (entries_of number t) ≡ Some (reading t.states t.inputs t.start)
  trace_read t h k =
      ap (λ (o : Option Reading). fold followed_by o (body_entries t)) (begun h k)
      ∙ fold-append followed_by (Some (reading [] [] None)) (moments t) (loop_entries t.start)
      ∙ ap (λ (o : Option Reading). fold followed_by o (loop_entries t.start)) (all_moments t)
      ∙ loop_read t.states t.inputs t.start

pub printed_held : (specs number : ℕ) (t : Trace) → 0 < number → number ≤ specs → list_all in_form (entries_of number t) ≡ true
    → Holds specs (map entry_text (entries_of number t)) (slice_set (replicate specs None) (number - 1) (Some t))
printed_held specs number t h k formed = record {
  entries = entries_of number t;
  formed = formed;
  text = refl;
  told = ap (option_map closed) (trace_read specs number t h k);
}
