-- Atoms of known formulas are known.
use Rattle.std.proofs.Common.{◌≡◌, ◌∙◌, ◌==◌, Bool, true, false, List, [], ◌∷◌, refl, sym, ap, subst, arith, cond}
use Rattle.std.specs.Prelude.{Option, Some}
use Rattle.std.proofs.lemmas.Bool.{and_parts, eqb-true, or_parts}
use Rattle.smv_tree.specs.declared.place.Place.{Place}
use Rattle.smv_value.specs.declared.value.Value.{Value}
use Rattle.smv_value.specs.declared.value.Value.TheVariants as value
use Rattle.smv_value.specs.declared.operator.Operator.{Operator}
use Rattle.smv_value.specs.declared.operator.Operator.TheVariants as operator
use Rattle.smv_value.specs.declared.operator.Logic.{Logic}
use Rattle.smv_slots.specs.declared.slot.Slot.{Slot}
use Rattle.smv_resolve.specs.Resolved.{Resolved, Operands, operands_of, part_at}
use Rattle.value_sets.specs.Members.{only}
use Rattle.smv_value.specs.Results.{result_of}
use Rattle.smv_meaning.specs.declared.outcome.Evaluation.{Evaluation}
use Rattle.smv_meaning.specs.declared.outcome.Evaluation.TheVariants.{Fault, Nothing, Values}
use Rattle.smv_meaning.specs.Formulas.{are_known_formulas, has_some_temporal, has_temporal, is_known, is_known_formula, is_over_formulas}
use Rattle.smv_meaning.specs.Outcomes.{applied, given, operated, over}
use Rattle.smv_meaning.specs.Values.{outcome}
use Rattle.smv_formulas.specs.declared.forms.Form.{Form}
use Rattle.smv_formulas.specs.declared.forms.Form.TheVariants as form
use Rattle.smv_formulas.specs.Formed.{are_formed, formed_over, is_formed, operand_count}
use Rattle.smv_formulas.specs.Forms.{form_of}
use Rattle.smv_formulas.specs.Known.{AreSound, IsSound}

-- what is known and does not fault is TRUE or FALSE
known_value : (vs : List Value) → is_known (Values vs) ≡ true → (b : Bool) × (only vs ≡ Some (value.Bool b))
known_value [] h = absurd (let no : ⊥ = cc in no)
known_value (value.Bool b ∷ []) h = (b, refl)
known_value (value.Int z ∷ []) h = absurd (let no : ⊥ = cc in no)
known_value (value.Sym n ∷ []) h = absurd (let no : ⊥ = cc in no)
known_value (value.Word s w n ∷ []) h = absurd (let no : ⊥ = cc in no)
known_value (v ∷ w ∷ vs) h = absurd (let no : ⊥ = cc in no)

-- propositions over what is known are known

known_not : (place : Place) (a : Evaluation) → is_known a ≡ true → is_known (applied operator.Not place (a ∷ [])) ≡ true
known_not place (Fault rule at) h = refl
known_not place Nothing h = absurd (let no : ⊥ = cc in no)
known_not place (Values vs) h =
    ap (λ (m : Option Value). is_known (over (Values vs) m (λ v. given place (result_of operator.Not (v ∷ []))))) (known_value vs h).1

known_second : (o : Logic) (place : Place) (x : Bool) (b : Evaluation) → is_known b ≡ true
    → is_known (operated (λ vs. given place (result_of (operator.Logic o) vs)) (value.Bool x ∷ []) (b ∷ [])) ≡ true
known_second o place x (Fault rule at) h = refl
known_second o place x Nothing h = absurd (let no : ⊥ = cc in no)
known_second o place x (Values vs) h =
    ap (λ (m : Option Value). is_known (over (Values vs) m (λ v. given place (result_of (operator.Logic o) (value.Bool x ∷ v ∷ []))))) (known_value vs h).1

known_logic : (o : Logic) (place : Place) (a b : Evaluation) → is_known a ≡ true → is_known b ≡ true → is_known (applied (operator.Logic o) place (a ∷ b ∷ [])) ≡ true
known_logic o place (Fault rule at) b h k = refl
known_logic o place Nothing b h k = absurd (let no : ⊥ = cc in no)
known_logic o place (Values vs) b h k =
    ap (λ (m : Option Value). is_known (over (Values vs) m (λ v. operated (λ ws. given place (result_of (operator.Logic o) ws)) (v ∷ []) (b ∷ [])))) (known_value vs h).1
    ∙ known_second o place (known_value vs h).0 b k

-- operands by their number

one_operand : (rs : Operands) → operand_count rs ≡ 1 → (r : Resolved) × (rs ≡ Operands.With r Operands.End)
one_operand Operands.End e = absurd (let no : ⊥ = omega (arith, e) in no)
one_operand (Operands.With r Operands.End) e = (r, refl)
one_operand (Operands.With r (Operands.With q rs)) e = absurd (let no : ⊥ = omega (arith, e) in no)

two_operands : (rs : Operands) → operand_count rs ≡ 2 → (a : Resolved) × (b : Resolved) × (rs ≡ Operands.With a (Operands.With b Operands.End))
two_operands Operands.End e = absurd (let no : ⊥ = omega (arith, e) in no)
two_operands (Operands.With a Operands.End) e = absurd (let no : ⊥ = omega (arith, e) in no)
two_operands (Operands.With a (Operands.With b Operands.End)) e = (a, b, refl)
two_operands (Operands.With a (Operands.With b (Operands.With c rs))) e = absurd (let no : ⊥ = omega (arith, e) in no)

module _ (slots : List Slot) (s u : List Value) where
  abbrev Known : Resolved → Type 0
  Known r = is_known (outcome slots s u [] r) ≡ true

  -- each operand is known
  abbrev AllKnown : Operands → Type 0
  AllKnown Operands.End = Unit {0}
  AllKnown (Operands.With r rs) = Known r × AllKnown rs

  over_one : (place : Place) (rs : Operands) → operand_count rs ≡ 1 → AllKnown rs → Known (Resolved.Apply place operator.Not rs)
  over_one place rs e h =
      let one = one_operand rs e in
      let known = subst AllKnown one.1 h in
      subst (λ (os : Operands). Known (Resolved.Apply place operator.Not os)) (sym one.1) (known_not place (outcome slots s u [] one.0) known.0)

  over_both : (place : Place) (o : Logic) (rs : Operands) → operand_count rs ≡ 2 → AllKnown rs → Known (Resolved.Apply place (operator.Logic o) rs)
  over_both place o rs e h =
      let two = two_operands rs e in
      let known = subst AllKnown two.2 h in
      subst (λ (os : Operands). Known (Resolved.Apply place (operator.Logic o) os)) (sym two.2)
      (known_logic o place (outcome slots s u [] two.0) (outcome slots s u [] two.1) known.0 known.1.0)

  mutual
    -- where no temporal operator stands in a known formula, it is known
    pub known_part : (r : Resolved) → has_temporal r ≡ false → is_formed r ≡ true → is_known_formula slots s u r ≡ true → Known r
    known_part (Resolved.Constant place v) t f k = k
    known_part (Resolved.Slot place n) t f k = k
    known_part (Resolved.Whole place i) t f k = absurd (let no : ⊥ = cc in no)
    known_part (Resolved.Named place naming r) t f k = k
    known_part (Resolved.Next place r) t f k = absurd (let no : ⊥ = cc in no)
    known_part (Resolved.Apply place operator.Not rs) t f k =
        let both = and_parts (operand_count rs == 1) (are_formed rs) f in
        over_one place rs (eqb-true (operand_count rs) 1 both.0) (known_parts rs t both.1 k)
    known_part (Resolved.Apply place (operator.Logic o) rs) t f k =
        let both = and_parts (operand_count rs == 2) (are_formed rs) f in
        over_both place o rs (eqb-true (operand_count rs) 2 both.0) (known_parts rs t both.1 k)
    known_part (Resolved.Apply place (operator.Temporal o) rs) t f k = absurd (let no : ⊥ = cc in no)
    known_part (Resolved.Apply place (operator.Bounded o low high) rs) t f k = absurd (let no : ⊥ = cc in no)
    known_part (Resolved.Apply place (operator.Window o) rs) t f k = absurd (let no : ⊥ = cc in no)
    known_part (Resolved.Apply place other rs) t f k = k
    known_part Resolved.Stuck t f k = absurd (let no : ⊥ = cc in no)

    known_parts : (rs : Operands) → has_some_temporal rs ≡ false → are_formed rs ≡ true → are_known_formulas slots s u rs ≡ true → AllKnown rs
    known_parts Operands.End t f k = tt
    known_parts (Operands.With r rs) t f k =
        let neither = or_parts (has_temporal r) (has_some_temporal rs) t in
        let formed = and_parts (is_formed r) (are_formed rs) f in
        let known = and_parts (is_known_formula slots s u r) (are_known_formulas slots s u rs) k in
        (known_part r neither.0 formed.0 known.0, known_parts rs neither.1 formed.1 known.1)

  -- operands of an operator over formulas are sound
  abbrev Sound : Resolved → Type 0
  Sound r = IsSound slots s u r

  sound_first : (rs : List Resolved) → operand_count (operands_of rs) ≡ 1 → are_formed (operands_of rs) ≡ true → are_known_formulas slots s u (operands_of rs) ≡ true → Sound (part_at rs 0)
  sound_first [] e f k = absurd (let no : ⊥ = omega (arith, e) in no)
  sound_first (r ∷ rs) e f k = (
    (and_parts (is_formed r) (are_formed (operands_of rs)) f).0,
    (and_parts (is_known_formula slots s u r) (are_known_formulas slots s u (operands_of rs)) k).0,
  )

  sound_two : (rs : List Resolved) → operand_count (operands_of rs) ≡ 2 → are_formed (operands_of rs) ≡ true → are_known_formulas slots s u (operands_of rs) ≡ true
      → Sound (part_at rs 0) × Sound (part_at rs 1)
  sound_two [] e f k = absurd (let no : ⊥ = omega (arith, e) in no)
  sound_two (a ∷ []) e f k = absurd (let no : ⊥ = omega (arith, e) in no)
  sound_two (a ∷ b ∷ rs) e f k =
      let formed = and_parts (is_formed a) (are_formed (operands_of (b ∷ rs))) f in
      let known = and_parts (is_known_formula slots s u a) (are_known_formulas slots s u (operands_of (b ∷ rs))) k in (
        (formed.0, known.0),
        (
          (and_parts (is_formed b) (are_formed (operands_of rs)) formed.1).0,
          (and_parts (is_known_formula slots s u b) (are_known_formulas slots s u (operands_of rs)) known.1).0,
        ),
      )

  -- by the form of the operator
  sound_form : (f : Form) (rs : List Resolved) → formed_over f (operand_count (operands_of rs)) (are_formed (operands_of rs)) ≡ true → are_known_formulas slots s u (operands_of rs) ≡ true
      → AreSound f slots s u (part_at rs 0) (part_at rs 1)
  sound_form (form.One o) rs f k =
      let both = and_parts (operand_count (operands_of rs) == 1) (are_formed (operands_of rs)) f in
      sound_first rs (eqb-true (operand_count (operands_of rs)) 1 both.0) both.1 k
  sound_form (form.Within o low high) rs f k =
      let both = and_parts (operand_count (operands_of rs) == 1) (are_formed (operands_of rs)) f in
      sound_first rs (eqb-true (operand_count (operands_of rs)) 1 both.0) both.1 k
  sound_form (form.Two o) rs f k =
      let both = and_parts (operand_count (operands_of rs) == 2) (are_formed (operands_of rs)) f in
      sound_two rs (eqb-true (operand_count (operands_of rs)) 2 both.0) both.1 k
  sound_form form.Neither rs f k = tt

  none_sound : (o : Operator) (a b : Resolved) → is_over_formulas o ≡ false → AreSound (form_of o) slots s u a b
  none_sound operator.Not a b h = absurd (let no : ⊥ = cc in no)
  none_sound (operator.Logic o) a b h = absurd (let no : ⊥ = cc in no)
  none_sound (operator.Temporal o) a b h = absurd (let no : ⊥ = cc in no)
  none_sound (operator.Bounded o low high) a b h = absurd (let no : ⊥ = cc in no)
  none_sound (operator.Window o) a b h = absurd (let no : ⊥ = cc in no)
  none_sound other a b h = tt

  sound_case : (o : Operator) (place : Place) (rs : List Resolved) (over : Bool) → is_over_formulas o ≡ over
      → cond over (are_known_formulas slots s u (operands_of rs)) (is_known (outcome slots s u [] (Resolved.Apply place o (operands_of rs)))) ≡ true
      → formed_over (form_of o) (operand_count (operands_of rs)) (are_formed (operands_of rs)) ≡ true → AreSound (form_of o) slots s u (part_at rs 0) (part_at rs 1)
  sound_case o place rs true e k f = sound_form (form_of o) rs f k
  sound_case o place rs false e k f = none_sound o (part_at rs 0) (part_at rs 1) e

  pub sound_operands : (o : Operator) (place : Place) (rs : List Resolved) → Sound (Resolved.Apply place o (operands_of rs)) → AreSound (form_of o) slots s u (part_at rs 0) (part_at rs 1)
  sound_operands o place rs h = sound_case o place rs (is_over_formulas o) refl h.1 h.0
