-- With what the texts of integers and of symbols begin.
use Rattle.std.proofs.Common.{◌≡◌, ◌⊎◌, inl, inr, ℕ, zero, suc, ◌+◌, ◌<◌, ◌^◌, true, false, List, [], ◌∷◌, length, Option, None, Some, replicate, refl, sym, ap, subst, ◌∙◌, arith, ℤ, pos, negsuc}
use Rattle.std.specs.Char.{digit_value}
use Rattle.std.specs.Fmt.{decimal, signed_decimal}
use Rattle.std.specs.Prelude.{int_le}
use Rattle.std.specs.Str.Parse.{IsNumeral, digits_value}
use Rattle.std.proofs.lemmas.Bool.{and_parts, cases_Bool, cond-false, cond-true, eqb-true}
use Rattle.std.proofs.lemmas.Bool.Decides.{nat_tests}
use Rattle.std.proofs.lemmas.Fmt.{decimal_is_IsNumeral_wide}
use Rattle.smv_value.specs.Results.{is_int}
use Rattle.smv_value.specs.Texts.{name_of}
use Rattle.value_texts.specs.Told.{begins_identifier, is_named, is_number, is_proper, number_of, symbol_text}

-- the number that a text prints is one
pub decimal_once : (m n : ℕ) → m < 10 ^ 64 → n < 10 ^ 64 → decimal m ≡ decimal n → m ≡ n
decimal_once m n small few e = sym (decimal_is_IsNumeral_wide m small).1 ∙ ap (digits_value 10) e ∙ (decimal_is_IsNumeral_wide n few).1

-- a text begins with this byte
pub record Begins (text : List ℕ) (b : ℕ) : Type 0 where
  pub rest : List ℕ
  pub is : text ≡ b ∷ rest

digit_first : (ds : List ℕ) → IsNumeral 10 ds → (b : ℕ) × Begins ds b × (digit_value b < 10)
digit_first [] h = absurd (let never : ⊥ = omega (arith, h.0) in never)
digit_first (d ∷ ds) h = (d, record { rest = ds; is = refl }, h.1.0)

-- an integer begins with a digit or "-"
abbrev pub BeginsNumber : ℕ → Type 0
BeginsNumber b = (digit_value b < 10) ⊎ (b ≡ 45)

pub number_begins : (z : ℤ) → is_int z ≡ true → (b : ℕ) × Begins (signed_decimal z) b × BeginsNumber b
number_begins (pos n) h =
    let both = and_parts (int_le (negsuc 2147483647) (pos n)) (int_le (pos n) (pos 2147483647)) h in
    let few : n < 10 ^ 64 = grind (arith, nat_tests) in
    let first = digit_first (decimal n) (decimal_is_IsNumeral_wide n few).0 in
    (first.0, first.1, inl first.2)
number_begins (negsuc n) h = (45, record { rest = decimal (suc n); is = refl }, inr refl)

-- a symbol begins as identifiers do, or with "$"
abbrev pub BeginsSymbol : ℕ → Type 0
BeginsSymbol b = (begins_identifier b ≡ true) ⊎ (b ≡ 36)

named_first : (name : List ℕ) → is_named name ≡ true → (b : ℕ) × Begins name b × (begins_identifier b ≡ true)
named_first [] h = absurd (let never : ⊥ = cc in never)
named_first (b ∷ bs) h = (b, record { rest = bs; is = refl }, h)

marks_first : (n : ℕ) → Begins (replicate (n + 1) 36) 36
marks_first n = record { rest = replicate n 36; is = ap (λ k. replicate k 36) (let e : n + 1 ≡ suc n = omega arith in e) }

pub proper_text : (names : List (List ℕ)) (n : ℕ) → is_proper names n ≡ true → symbol_text names n ≡ name_of names n
unfolding symbol_text
proper_text names n h = cond-true (is_proper names n) (name_of names n) (replicate (n + 1) 36) h

pub marked_text : (names : List (List ℕ)) (n : ℕ) → is_proper names n ≡ false → symbol_text names n ≡ replicate (n + 1) 36
unfolding symbol_text
marked_text names n h = cond-false (is_proper names n) (name_of names n) (replicate (n + 1) 36) h

pub proper_parts : (names : List (List ℕ)) (n : ℕ) → is_proper names n ≡ true → (is_named (name_of names n) ≡ true) × (is_number n (number_of names (name_of names n)) ≡ true)
unfolding is_proper
proper_parts names n h = and_parts (is_named (name_of names n)) (is_number n (number_of names (name_of names n))) h

begun_as : (s t : List ℕ) (b : ℕ) → s ≡ t → Begins t b → Begins s b
begun_as s t b e h = record { rest = h.rest; is = e ∙ h.is }

pub symbol_begins : (names : List (List ℕ)) (n : ℕ) → (b : ℕ) × Begins (symbol_text names n) b × BeginsSymbol b
symbol_begins names n = elim (cases_Bool (is_proper names n)) [
  | inl h ↦
      let first = named_first (name_of names n) (proper_parts names n h).0 in
      (first.0, begun_as (symbol_text names n) (name_of names n) first.0 (proper_text names n h) first.1, inl first.2)
  | inr h ↦ (36, begun_as (symbol_text names n) (replicate (n + 1) 36) 36 (marked_text names n h) (marks_first n), inr refl)
]

letter_no_digit : (b : ℕ) → begins_identifier b ≡ true → digit_value b < 10 → ⊥
letter_no_digit b h d = grind (arith, nat_tests)

no_sign : (b : ℕ) → begins_identifier b ≡ true → b ≡ 45 → ⊥
no_sign b h e = let is : begins_identifier 45 ≡ true = ap begins_identifier (sym e) ∙ h in let never : ⊥ = cc in never

no_mark : (b : ℕ) → begins_identifier b ≡ true → b ≡ 36 → ⊥
no_mark b h e = let is : begins_identifier 36 ≡ true = ap begins_identifier (sym e) ∙ h in let never : ⊥ = cc in never

mark_no_digit : (b : ℕ) → b ≡ 36 → digit_value b < 10 → ⊥
mark_no_digit b e d = let is : digit_value 36 < 10 = subst (λ c. digit_value c < 10) e d in omega (arith, is)

one_byte : (text : List ℕ) (b c : ℕ) → Begins text b → Begins text c → b ≡ c
one_byte text b c h k = let e : b ∷ h.rest ≡ c ∷ k.rest = sym h.is ∙ k.is in cc

apart_bytes : (b : ℕ) → BeginsNumber b → BeginsSymbol b → ⊥
apart_bytes b (inl d) (inl h) = letter_no_digit b h d
apart_bytes b (inl d) (inr e) = mark_no_digit b e d
apart_bytes b (inr e) (inl h) = no_sign b h e
apart_bytes b (inr e) (inr f) = omega (arith, e, f)

-- no integer is told as a symbol
pub no_number : (names : List (List ℕ)) (z : ℤ) (n : ℕ) → is_int z ≡ true → signed_decimal z ≡ symbol_text names n → ⊥
no_number names z n h e =
    let first = number_begins z h in
    let other = symbol_begins names n in
    let same = one_byte (signed_decimal z) first.0 other.0 first.1 (begun_as (signed_decimal z) (symbol_text names n) other.0 e other.1) in
    apart_bytes other.0 (subst BeginsNumber same first.2) other.2

number_same : (n m : ℕ) (o : Option ℕ) → is_number n o ≡ true → is_number m o ≡ true → n ≡ m
number_same n m None h k = absurd (let never : ⊥ = cc in never)
number_same n m (Some i) h k = sym (eqb-true i n h) ∙ eqb-true i m k

length-marks : (n : ℕ) → let marks : List ℕ = replicate n 36 in length marks ≡ n
length-marks zero = refl
length-marks (suc n) = ap suc (length-marks n)

-- two symbols are told apart
pub symbol_once : (names : List (List ℕ)) (n m : ℕ) → symbol_text names n ≡ symbol_text names m → n ≡ m
symbol_once names n m e = elim (cases_Bool (is_proper names n)) [
  | inl h ↦ elim (cases_Bool (is_proper names m)) [
    | inl k ↦
        let same : name_of names n ≡ name_of names m = sym (proper_text names n h) ∙ e ∙ proper_text names m k in
        number_same n m (number_of names (name_of names m))
        (subst (λ (name : List ℕ). is_number n (number_of names name) ≡ true) same (proper_parts names n h).1)
        (proper_parts names m k).1
    | inr k ↦
        let first = named_first (name_of names n) (proper_parts names n h).0 in
        let is : Begins (name_of names n) 36 = begun_as (name_of names n) (replicate (m + 1) 36) 36 (sym (proper_text names n h) ∙ e ∙ marked_text names m k) (marks_first m) in
        absurd (no_mark first.0 first.2 (one_byte (name_of names n) first.0 36 first.1 is))
  ]
  | inr h ↦ elim (cases_Bool (is_proper names m)) [
    | inl k ↦
        let first = named_first (name_of names m) (proper_parts names m k).0 in
        let is : Begins (name_of names m) 36 = begun_as (name_of names m) (replicate (n + 1) 36) 36 (sym (proper_text names m k) ∙ sym e ∙ marked_text names n h) (marks_first n) in
        absurd (no_mark first.0 first.2 (one_byte (name_of names m) first.0 36 first.1 is))
    | inr k ↦
        let same : replicate (n + 1) 36 ≡ replicate (m + 1) 36 = sym (marked_text names n h) ∙ e ∙ marked_text names m k in
        let long : n + 1 ≡ m + 1 = sym (length-marks (n + 1)) ∙ ap length same ∙ length-marks (m + 1) in
        omega (arith, long)
  ]
]
