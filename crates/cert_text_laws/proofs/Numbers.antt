-- What a decimal is read as.
use Rattle.std.proofs.Common.{◌≡◌, inl, inr, ℕ, ◌+◌, ◌-◌, ◌*◌, ◌/◌, ◌%◌, ◌^◌, ◌<◌, ◌≤◌, ◌⊎◌, min, true, false, not, ◌&&◌, List, [], ◌∷◌, ◌++◌, length, None, Some, refl, sym, subst, ap, ◌∙◌, arith, eqb, ltb}
use Rattle.std.specs.Char.{is_ascii_digit}
use Rattle.std.specs.Fmt.{decimal}
use Rattle.std.specs.List.{list_all}
use Rattle.std.proofs.lemmas.Bool.{and_from, cases_lt, cond-true, le-leb, lt-ltb, ne_eqb, not_from_false, or_right}
use Rattle.std.proofs.lemmas.Fmt.{decimal_by_steps_wide}
use Rattle.std.proofs.lemmas.List.Folds.{list_all-append}
use Rattle.cert_text.specs.Tokens.{capped, ceiling, is_number, number_after, number_of}

-- Digits.

digit : (k : ℕ) → k < 10 → is_ascii_digit (48 + k) ≡ true
digit k h = and_from _ _ (le-leb 48 (48 + k) (omega arith)) (le-leb (48 + k) 57 (omega (arith, h)))

number_after-append : (n : ℕ) (ds : List ℕ) (c : ℕ) → number_after n (ds ++ c ∷ []) ≡ capped (number_after n ds * 10 + (c - 48))
number_after-append n [] c = refl
number_after-append n (d ∷ ds) c = number_after-append (capped (n * 10 + (d - 48))) ds c

-- digits that write n, with no leading zero
record IsDecimal (n : ℕ) (ds : List ℕ) : Type 0 where
  head : ℕ
  rest : List ℕ
  is : ds ≡ head ∷ rest
  digits : list_all is_ascii_digit ds ≡ true
  leading : 0 < n → eqb head 48 ≡ false
  short : n < 10 → rest ≡ []
  value : n ≤ ceiling → number_after 0 ds ≡ n

one_digit : (n : ℕ) → n < 10 → IsDecimal n ((48 + n) ∷ [])
one_digit n h = record {
  head = 48 + n;
  rest = [];
  is = refl;
  digits = and_from (is_ascii_digit (48 + n)) true (digit n h) refl;
  leading = λ some. ne_eqb (48 + n) 48 (λ e. let never : ⊥ = omega (arith, some, e) in never);
  short = λ k. refl;
  value = λ k. let is : min (0 * 10 + (48 + n - 48)) ceiling ≡ n = omega (arith, k) in is;
}

digit_more : (n : ℕ) (ds : List ℕ) → 10 ≤ n → IsDecimal (n / 10) ds → IsDecimal n (ds ++ ((48 + n % 10) ∷ []))
digit_more n ds h p = record {
  head = p.head;
  rest = p.rest ++ (48 + n % 10) ∷ [];
  is = ap (λ (l : List ℕ). l ++ (48 + n % 10) ∷ []) p.is;
  digits = list_all-append is_ascii_digit ds ((48 + n % 10) ∷ []) ∙ and_from (list_all is_ascii_digit ds) (is_ascii_digit (48 + n % 10) && true) p.digits (and_from (is_ascii_digit (48 + n % 10)) true (digit (n % 10) (omega arith)) refl);
  leading = λ some. p.leading (omega (arith, h));
  short = λ few. absurd (let never : ⊥ = omega (arith, h, few) in never);
  value = λ k.
      let front : number_after 0 ds ≡ n / 10 = p.value (omega (arith, k)) in
      number_after-append 0 ds (48 + n % 10)
      ∙ ap (λ m. capped (m * 10 + (48 + n % 10 - 48))) front
      ∙ (let is : min (n / 10 * 10 + (48 + n % 10 - 48)) ceiling ≡ n = omega (arith, k) in is);
}

decimal_is : (n : ℕ) → n < 10 ^ 64 → IsDecimal n (decimal n)
decimal_is = decimal_by_steps_wide IsDecimal one_digit digit_more

formed : (head : ℕ) (rest : List ℕ) → list_all is_ascii_digit (head ∷ rest) ≡ true → (rest ≡ []) ⊎ (eqb head 48 ≡ false) → is_number (head ∷ rest) ≡ true
formed head [] digits how = and_from (list_all is_ascii_digit (head ∷ [])) true digits refl
formed head (r ∷ rest) digits (inl e) = absurd (let never : ⊥ = cc in never)
formed head (r ∷ rest) digits (inr e) =
    let long : 1 < length (head ∷ r ∷ rest) = omega arith in
    and_from (list_all is_ascii_digit (head ∷ r ∷ rest)) _ digits
    (or_right (eqb (length (head ∷ r ∷ rest)) 1) _ (and_from (ltb 1 (length (head ∷ r ∷ rest))) (not (eqb head 48)) (lt-ltb 1 (length (head ∷ r ∷ rest)) long) (not_from_false (eqb head 48) e)))

leads : (n : ℕ) (ds : List ℕ) (p : IsDecimal n ds) → (p.rest ≡ []) ⊎ (eqb p.head 48 ≡ false)
leads n ds p = elim (cases_lt n 10) [
  | inl few ↦ inl (p.short few)
  | inr many ↦ inr (p.leading (omega (arith, many)))
]

read_back : (n : ℕ) (ds : List ℕ) → IsDecimal n ds → n ≤ ceiling → number_of ds ≡ Some n
read_back n ds p h =
    let shape : is_number ds ≡ true = subst (λ (l : List ℕ). is_number l ≡ true) (sym p.is) (formed p.head p.rest (subst (λ (l : List ℕ). list_all is_ascii_digit l ≡ true) p.is p.digits) (leads n ds p)) in
    cond-true (is_number ds) (Some (number_after 0 ds)) None shape ∙ ap (λ m. Some m) (p.value h)

below : (n : ℕ) → n ≤ ceiling → n < 10 ^ 64
below n h = omega (arith, h)

-- a number of 128 bits is read back
pub number_read : (n : ℕ) → n ≤ ceiling → number_of (decimal n) ≡ Some n
number_read n h = read_back n (decimal n) (decimal_is n (below n h)) h

pub decimal_digits : (n : ℕ) → n ≤ ceiling → list_all is_ascii_digit (decimal n) ≡ true
decimal_digits n h = (decimal_is n (below n h)).digits
