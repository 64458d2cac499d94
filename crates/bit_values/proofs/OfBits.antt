-- Values and their bits.
use Rattle.std.proofs.Common.{◌≡◌, ℕ, ◌+◌, ◌^◌, ◌<◌, ◌≤◌, Bool, true, false, List, length, refl, sym, ◌∙◌, ap, subst, arith}
use Rattle.std.specs.Prelude.{Option, Some, unwrap_or, nat_lt}
use Rattle.std.proofs.lemmas.Bool.{lt-ltb, ltb-true}
use Rattle.smv_value.specs.declared.value.Value.{Value}
use Rattle.smv_value.specs.declared.value.Value.TheVariants as value
use Rattle.value_types.specs.declared.value_type.ValueType.{ValueType}
use Rattle.value_types.specs.Types.{is_of_type, is_type}
use Rattle.value_types.specs.Codes.{HasCode, code_of, count, value_at}
use Rattle.value_types.proofs.Coding.{coding}
use Rattle.bit_arith.specs.Number.{number}
use Rattle.bit_values.specs.Bits.{AreBitsOf, bits_of, encoded, is_code, value_of_bits, width_of}
use Rattle.bit_values.proofs.Numbers.{bits_of-number, length-bits_of, number-bits_of}
use Rattle.bit_values.proofs.Widths.{count_fits}

encoded_is : (t : ValueType) (v : Value) (c : ℕ) → HasCode t v c → encoded t v ≡ bits_of (width_of t) c
encoded_is t v c has = ap (λ o. bits_of (width_of t) (unwrap_or o 0)) has.code

number_is : (t : ValueType) (v : Value) (c : ℕ) → HasCode t v c → number (λ b. b) (encoded t v) ≡ c
number_is t v c has =
    let within : c < 2 ^ width_of t = omega (arith, has.below, count_fits t) in
    ap (number (λ b. b)) (encoded_is t v c has) ∙ number-bits_of (width_of t) c within

value_is : (t : ValueType) (v : Value) (c : ℕ) (bits : List Bool) → HasCode t v c → number (λ b. b) bits ≡ c → value_of_bits t bits ≡ v
value_is t v c bits has e = ap (λ n. unwrap_or (value_at t n) (value.Bool false)) e ∙ ap (λ o. unwrap_or o (value.Bool false)) has.back

back : (t : ValueType) (v : Value) → (c : ℕ) × HasCode t v c → value_of_bits t (encoded t v) ≡ v
back t v (c, has) = value_is t v c (encoded t v) has (number_is t v c has)

code_is : (t : ValueType) (v : Value) → (c : ℕ) × HasCode t v c → is_code t (encoded t v) ≡ true
code_is t v (c, has) = ap (λ n. nat_lt n (count t)) (number_is t v c has) ∙ lt-ltb c (count t) has.below

same_bits : (t : ValueType) (bits : List Bool) → length bits ≡ width_of t → (v : Value) × HasCode t v (number (λ b. b) bits) → encoded t (value_of_bits t bits) ≡ bits
same_bits t bits e (v, has) =
    let c = number (λ b. b) bits in
    ap (encoded t) (value_is t v c bits has refl) ∙ encoded_is t v c has ∙ ap (λ w. bits_of w c) (sym e) ∙ bits_of-number bits

typed_bits : (t : ValueType) (bits : List Bool) → (v : Value) × HasCode t v (number (λ b. b) bits) → is_of_type (value_of_bits t bits) t ≡ true
typed_bits t bits (v, has) = ap (λ w. is_of_type w t) (value_is t v (number (λ b. b) bits) bits has refl) ∙ has.typed

pub bits_are : (t : ValueType) → is_type t ≡ true → AreBitsOf t
bits_are t h =
    let codes = coding t h in
    record {
      width = λ v. length-bits_of (width_of t) (unwrap_or (code_of t v) 0);
      value_back = λ v e. back t v (codes.of_value v e);
      coded = λ v e. code_is t v (codes.of_value v e);
      bits_back = λ bits l e. same_bits t bits l (codes.of_code (number (λ b. b) bits) (ltb-true (number (λ b. b) bits) (count t) e));
      typed = λ bits e. typed_bits t bits (codes.of_code (number (λ b. b) bits) (ltb-true (number (λ b. b) bits) (count t) e));
    }
