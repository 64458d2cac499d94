-- The value of a type that is told so is the only one.
use Rattle.std.proofs.Common.{◌≡◌, ℕ, ◌+◌, ◌<◌, Bool, true, List, length, get_or, Option, None, Some, Result, Ok, Err, IfOk, position, refl, sym, ap, subst, ◌∙◌, arith}
use Rattle.std.specs.List.{list_any, position_or_len, range_with_len}
use Rattle.std.proofs.lemmas.List.Folds.{list_any_at}
use Rattle.std.proofs.lemmas.List.FromFn.{get_or-range_with_len, length-range_with_len}
use Rattle.std.proofs.lemmas.List.Quantifiers.{position-Some}
use Rattle.std.proofs.lemmas.Slice.Eq.{bytes_eq-Decides}
use Rattle.smv_value.specs.declared.value.Value.{Value}
use Rattle.value_types.specs.declared.value_type.ValueType.{ValueType}
use Rattle.value_types.specs.Codes.{count, value_at}
use Rattle.value_types.specs.Types.{is_of_type, is_type}
use Rattle.value_types.proofs.Coding.{coding}
use Rattle.value_types.proofs.Elements.{position_found}
use Rattle.value_texts.specs.Told.{told_text}
use Rattle.value_texts.specs.Read.{IsRead, IsReading, is_told, value_of_code, value_read}
use Rattle.value_texts.proofs.Apart.{told_once}

module _ (names : List (List ℕ)) (t : ValueType) where
  told_by : (text : List ℕ) (v : Value) (o : Option ℕ) → position (λ (c : ℕ). is_told names text (value_at t c)) (range_with_len 0 (count t)) ≡ o → value_of_code t o ≡ Some v → told_text names v ≡ text
  told_by text v None is e = absurd (let never : ⊥ = cc in never)
  told_by text v (Some k) is e =
      let all = range_with_len 0 (count t) in
      let parts = position-Some (λ (c : ℕ). is_told names text (value_at t c)) all k 0 is in
      let within : k < count t = let long = length-range_with_len 0 (count t) in omega (arith, parts.0, long) in
      let here : get_or all k 0 ≡ k = get_or-range_with_len 0 (count t) k 0 within ∙ (let z : 0 + k ≡ k = omega arith in z) in
      (bytes_eq-Decides (told_text names v) text).0 (ap (is_told names text) (sym e) ∙ ap (λ (c : ℕ). is_told names text (value_at t c)) (sym here) ∙ parts.1)

  -- what is read is told so, also of what is no type
  pub read_told : (text : List ℕ) (v : Value) → value_read names t text ≡ Some v → told_text names v ≡ text
  unfolding value_read
  read_told text v e = told_by text v (position (λ (c : ℕ). is_told names text (value_at t c)) (range_with_len 0 (count t))) refl e

module _ (names : List (List ℕ)) (t : ValueType) (typed : is_type t ≡ true) where
  abbrev all : List ℕ
  all = range_with_len 0 (count t)

  abbrev test : List ℕ → ℕ → Bool
  test text c = is_told names text (value_at t c)

  some_same : (v w : Value) → Some v ≡ Some w → v ≡ w
  some_same v w e = cc

  told_here : (v : Value) (text : List ℕ) (c : ℕ) → value_at t c ≡ Some v → told_text names v ≡ text → test text c ≡ true
  told_here v text c e same = ap (is_told names text) e ∙ (bytes_eq-Decides (told_text names v) text).1 same

  tells_here : (v : Value) (text : List ℕ) (c : ℕ) → value_at t c ≡ Some v → test text c ≡ true → told_text names v ≡ text
  tells_here v text c e h = (bytes_eq-Decides (told_text names v) text).0 (ap (is_told names text) (sym e) ∙ h)

  -- the first code that tells the text
  found : (text : List ℕ) (k : ℕ) → position (test text) all ≡ Some k → (k < count t) × (test text k ≡ true)
  found text k e =
      let parts = position-Some (test text) all k 0 e in
      let within : k < count t = omega (arith, parts.0, length-range_with_len 0 (count t)) in
      let here : get_or all k 0 ≡ k = get_or-range_with_len 0 (count t) k 0 within ∙ (let z : 0 + k ≡ k = omega arith in z) in
      (within, ap (test text) (sym here) ∙ parts.1)

  read_back : (v : Value) → is_of_type v t ≡ true → value_read names t (told_text names v) ≡ Some v
  unfolding value_read
  read_back v h =
      let text = told_text names v in
      let code = (coding t typed).of_value v h in
      let c = code.0 in
      let here : get_or all c 0 ≡ c = get_or-range_with_len 0 (count t) c 0 code.1.below ∙ (let z : 0 + c ≡ c = omega arith in z) in
      let within : c < length all = let long = length-range_with_len 0 (count t) in omega (arith, long, code.1.below) in
      let any : list_any (test text) all ≡ true = list_any_at (test text) all c 0 within (ap (test text) here ∙ told_here v text c code.1.back refl) in
      let k = position_or_len (test text) all in
      let is : position (test text) all ≡ Some k = position_found (test text) all any in
      let first = found text k is in
      let value = (coding t typed).of_code k first.0 in
      let same : value.0 ≡ v = told_once names t typed value.0 v value.1.typed h (tells_here value.0 text k value.1.back first.1) in
      ap (value_of_code t) is ∙ value.1.back ∙ ap Some same

  only_by : (text : List ℕ) (v : Value) (o : Option ℕ) → position (test text) all ≡ o → value_of_code t o ≡ Some v → (is_of_type v t ≡ true) × (told_text names v ≡ text)
  only_by text v None is e = absurd (let never : ⊥ = cc in never)
  only_by text v (Some k) is e =
      let first = found text k is in
      let value = (coding t typed).of_code k first.0 in
      let same : value.0 ≡ v = some_same value.0 v (sym value.1.back ∙ e) in
      (ap (λ (w : Value). is_of_type w t) (sym same) ∙ value.1.typed, tells_here v text k e first.1)

  read_only : (text : List ℕ) (v : Value) → value_read names t text ≡ Some v → (is_of_type v t ≡ true) × (told_text names v ≡ text)
  unfolding value_read
  read_only text v e = only_by text v (position (test text) all) refl e

  pub reading : IsReading names t
  reading = record { back = read_back; only = read_only }

  none_read : (text : List ℕ) → IsRead names t text None → (r : Option Value) → value_read names t text ≡ r → None ≡ r
  none_read text h None e = refl
  none_read text h (Some v) e = let parts = read_only text v e in absurd (h v parts.0 parts.1)

  -- what is read is the value that is told so
  pub read_is : (text : List ℕ) (o : Option Value) → IsRead names t text o → o ≡ value_read names t text
  read_is text None h = none_read text h (value_read names t text) refl
  read_is text (Some v) h = sym (subst (λ (s : List ℕ). value_read names t s ≡ Some v) h.1 (read_back v h.0))

  -- the same of what a call gives
  pub all_read : {E : Type 0} (text : List ℕ) (r : Result (Option Value) E) → IfOk r (IsRead names t text) → IfOk r (λ o. o ≡ value_read names t text)
  all_read text (Ok o) h = read_is text o h
  all_read text (Err e) h = h
