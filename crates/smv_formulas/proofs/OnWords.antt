-- The truth of formulas on words of lassos.
use Rattle.std.proofs.Common.{◌≡◌, ◌∙◌, inl, inr, ℕ, ◌+◌, ◌-◌, ◌<◌, Bool, true, false, List, [], ◌∷◌, ◌++◌, length, get_or, map, take, sym, ap, subst, arith}
use Rattle.std.specs.Prelude.{◌↔◌, ◌%◌, nat_lt, if◌then◌else◌, IsTrue, slice_index_or}
use Rattle.std.proofs.lemmas.Bool.{cases_lt}
use Rattle.std.proofs.lemmas.Bool.Decides.{nat_tests}
use Rattle.smv_tree.specs.declared.tree.Program.{Program}
use Rattle.smv_value.specs.declared.value.Value.TheVariants as value
use Rattle.std.proofs.lemmas.List.{map-append, take_more}
use Rattle.smv_value.specs.declared.value.Value.{Value}
use Rattle.smv_slots.specs.declared.slot.Slot.{Slot}
use Rattle.smv_slots.specs.Slots.{slots_of}
use Rattle.smv_resolve.specs.declared.node.ExprNode.{ExprNode}
use Rattle.smv_resolve.specs.Resolved.{Resolved, part_at, part_of, parts_of}
use Rattle.smv_meaning.specs.declared.outcome.Evaluation.{Evaluation}
use Rattle.smv_meaning.specs.Tables.{outcome_at, outcomes_of}
use Rattle.smv_meaning.proofs.Tables.{outcome_at-map}
use Rattle.smv_meaning.specs.Lassos.{Lasso, Holds, place_at}
use Rattle.smv_meaning.specs.Runs.{at_time, is_true}
use Rattle.smv_meaning.specs.Outcomes.{one}
use Rattle.smv_meaning.specs.Values.{outcome}
use Rattle.ltl_meaning.specs.declared.word.Word.{Word}
use Rattle.ltl_meaning.specs.Lasso.{on, place}
use Rattle.ltl_meaning.specs.Temporal.{Temporal}
use Rattle.ltl_meaning.specs.Truth.{Moment, IsTrueAt}
use Rattle.ltl_meaning.proofs.Alike.{AreAlike, unary_alike, bounded_alike, binary_alike}
use Rattle.smv_formulas.specs.Says.{Says, atom_parts, atoms_on}
use Rattle.smv_formulas.specs.Words.{IsWordOf, truths_at}
use Rattle.smv_formulas.proofs.Operators.{both, chained}

-- formulas over atoms that are true at the same times
module _ (A B : ℕ → Moment) (e : (a : ℕ) → AreAlike (A a) (B a)) where
  pub same_atoms : (f : Temporal) → AreAlike (IsTrueAt A f) (IsTrueAt B f)
  same_atoms (Temporal.Constant b) t = both _
  same_atoms (Temporal.Atom a) t = e a t
  same_atoms (Temporal.Unary o f) t = unary_alike _ _ (same_atoms f) o t
  same_atoms (Temporal.Bounded o w f) t = bounded_alike _ _ (same_atoms f) o w t
  same_atoms (Temporal.Binary o f g) t = binary_alike _ _ (same_atoms f) _ _ (same_atoms g) o t

-- places are inside, and stay
module _ (n l : ℕ) (inside : l < n) where
  abbrev round : ℕ → ℕ
  round t = if nat_lt t n then t else l + (t - l) % (n - l)

  pub round_inside : (t : ℕ) → round t < n
  round_inside t = elim (cases_lt t n) [
    | inl b ↦ let e : round t ≡ t = grind (arith, nat_tests) in omega (arith, e)
    | inr b ↦ let e : round t ≡ l + (t - l) % (n - l) = grind (arith, nat_tests) in omega (arith, e)
  ]

  pub round_stays : (t : ℕ) → t < n → round t ≡ t
  round_stays t h = grind (arith, nat_tests)

module _ (p : Program) (parts : List Resolved) (w : Lasso) (word : Word) (is : IsWordOf p parts w word) where
  inside : w.start < length w.states
  inside = let l = word.loops in omega (arith, is.long, is.start)

  same_place : (t : ℕ) → place word t ≡ place_at w t
  same_place t =
      ap (λ (n : ℕ). if nat_lt t n then t else word.start + (t - word.start) % (n - word.start)) is.long
      ∙ ap (λ (l : ℕ). if nat_lt t (length w.states) then t else l + (t - l) % (length w.states - l)) is.start

  -- at all times
  on_all : (a : ℕ) → AreAlike (on word a) (atoms_on p w parts a)
  on_all a t =
      let i = place_at w t in
      let lt : i < length w.states = round_inside (length w.states) w.start inside t in
      let stays : place_at w i ≡ i = round_stays (length w.states) w.start inside i lt in
      let here = is.told i lt a in
      let there = subst (λ (j : ℕ). IsTrue (slice_index_or (slice_index_or word.times j []) a false) ↔ atoms_on p w parts a i) (same_place i ∙ stays ∙ sym (same_place t)) here in
      subst (λ (j : ℕ).
      IsTrue (slice_index_or (slice_index_or word.times (place word t) []) a false)
      ↔ (outcome (slots_of p) (at_time w.states j) (at_time w.inputs j) [] (part_at parts a) ≡ one (value.Bool true))) stays there

  pub says_on_word : (f : Temporal) (r : Resolved) → Says p parts f r → (t : ℕ) → IsTrueAt (on word) f t ↔ Holds p w r t
  says_on_word f r says t = chained _ _ _ (same_atoms (on word) (atoms_on p w parts) on_all f) (says.told w) t

-- the truth of one atom more
pub truths_next : (slots : List Slot) (s u : List Value) (nodes : List ExprNode) (atoms : List ℕ) (i d : ℕ) (here : List Evaluation) (b : Bool) → i < length atoms →
    here ≡ outcomes_of slots s u [] nodes → b ≡ is_true (outcome_at here (get_or atoms i d)) →
    truths_at slots s u (atom_parts nodes (take i atoms)) ++ b ∷ [] ≡ truths_at slots s u (atom_parts nodes (take (i + 1) atoms))
truths_next slots s u nodes atoms i d here b within told is =
    let a = get_or atoms i d in
    let tell : Resolved → Bool = λ r. is_true (outcome slots s u [] r) in
    let so_far = atom_parts nodes (take i atoms) in
    let own : b ≡ tell (part_of nodes a) =
    is ∙ ap (λ (os : List Evaluation). is_true (outcome_at os a)) told ∙ ap is_true (outcome_at-map slots s u [] (parts_of nodes) a) in
    ap (λ (b : Bool). map tell so_far ++ b ∷ []) own
    ∙ sym (map-append tell so_far (part_of nodes a ∷ []))
    ∙ ap (map tell) (sym (map-append (part_of nodes) (take i atoms) (a ∷ [])))
    ∙ ap (λ (l : List ℕ). truths_at slots s u (atom_parts nodes l)) (sym (take_more atoms i d within))
