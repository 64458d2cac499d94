-- Integers and symbols that are the same, and a choice between two.
use Rattle.std.proofs.Common.{◌≡◌, ℕ, ◌+◌, ◌^◌, ◌<◌, ◌≤◌, ◌==◌, Bool, true, false, not, ◌&&◌, cond, List, length, ℤ, pos, inl, inr, refl, sym, ap, subst, ◌∙◌, arith}
use Rattle.std.specs.Prelude.{Option, None, Some, int_le, slice_get}
use Rattle.std.specs.Bool.{beq}
use Rattle.std.specs.Option.{option_map}
use Rattle.std.proofs.lemmas.Bool.{cases_Bool, cases_eq, eq-eqb, ne_eqb}
use Rattle.smv_value.specs.declared.value.Value.{Value}
use Rattle.smv_value.specs.declared.value.Value.TheVariants as value
use Rattle.smv_value.specs.Results.{low_bits, same}
use Rattle.bit_graph.specs.declared.edge.Edge.{Edge}
use Rattle.bit_graph.specs.Meaning.{edge_value, exclusive_or}
use Rattle.bit_arith.specs.Number.{number, number_of, values_of}
use Rattle.bit_arith.specs.Words.{integer}
use Rattle.bit_arith.proofs.Numbers.{number-lt}
use Rattle.bit_values.proofs.Numbers.{number-values}
use Rattle.value_types.proofs.Elements.{both_true, int_le_refl, same_int}
use Rattle.bit_operators.specs.Denoting.{integer_of}
use Rattle.bit_operators.specs.Integers.{fits}
use Rattle.bit_operators.proofs.Integers.{integer_fits}
use Rattle.bit_operators.proofs.OfSums.{fits_more, low_integer}

-- what a discrete value is, by its three parts
abbrev pub value_by : Bool → Option ℕ → ℤ → Option Value
value_by s o z = cond s (option_map value.Sym o) (Some (value.Int z))

-- an integer in two's complement fits as many bits as it has, and more
pub wide_enough : (v : ℕ → Bool) (es : List Edge) (w : ℕ) → length es ≤ w → fits w (integer_of v es) ≡ true
wide_enough v es w l = fits_more (length es) w (integer_of v es) l (integer_fits (length es) (number_of v es) (number-lt (edge_value v) es))

-- the integer of bits that are those of another in this width
pub same_integer : (v : ℕ → Bool) (es r : List Edge) (w : ℕ) → length es ≤ w → length r ≡ w → number_of v r ≡ low_bits w (integer_of v es) → integer_of v r ≡ integer_of v es
same_integer v es r w l e h =
    let small : number_of v r < 2 ^ w = (let P : ℕ → Type 0 = λ n. number_of v r < 2 ^ n in subst P e (number-lt (edge_value v) r)) in
    ap (λ n. integer n (number_of v r)) e ∙ low_integer w (number_of v r) (integer_of v es) small h (wide_enough v es w l)
