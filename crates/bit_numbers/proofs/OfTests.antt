-- Tests of discrete values and of words.
use Rattle.std.proofs.Common.{◌≡◌, ℕ, Bool, true, false, not, ◌&&◌, List, length, ℤ, pos, refl, sym, ap, ◌∙◌}
use Rattle.std.specs.Prelude.{Option, None, Some, int_le, int_lt, slice_get}
use Rattle.smv_value.specs.declared.value.Value.{Value}
use Rattle.smv_value.specs.declared.value.Value.TheVariants as value
use Rattle.bit_graph.specs.declared.edge.Edge.{Edge}
use Rattle.bit_graph.specs.Meaning.{edge_value}
use Rattle.bit_arith.specs.Number.{flip, number_of}
use Rattle.bit_operators.specs.declared.symbolic.Discrete.{Discrete}
use Rattle.bit_operators.specs.Denoting.{discrete_value, integer_of}
use Rattle.bit_operators.proofs.Bitwise.{flip_is}
use Rattle.bit_operators.proofs.Discretes.{value_by}
use Rattle.bit_numbers.proofs.OfIntegers.{not_below}

some_same : {A : Type 0} (x y : A) → Some x ≡ Some y → x ≡ y
some_same x y e = cc

-- a test that no symbol passes
pub record OfInteger (test : Value → Bool) (p : ℤ → Bool) : Type 0 where
  pub integer : (z : ℤ) → test (value.Int z) ≡ p z
  pub symbol : (n : ℕ) → test (value.Sym n) ≡ false

tested_by : (test : Value → Bool) (p : ℤ → Bool) (s : Bool) (o : Option ℕ) (z : ℤ) (x : Value) → OfInteger test p → value_by s o z ≡ Some x → (not s && p z) ≡ test x
tested_by test p true None z x of e = absurd cc
tested_by test p true (Some n) z x of e = sym (of.symbol n) ∙ ap test (some_same (value.Sym n) x e)
tested_by test p false o z x of e = sym (of.integer z) ∙ ap test (some_same (value.Int z) x e)

-- the edge of a test on the integer, where the value is no symbol
pub tested : (v : ℕ → Bool) (test : Value → Bool) (p : ℤ → Bool) (d : Discrete) (n e r : Edge) (x : Value) → OfInteger test p → n ≡ flip d.is_symbol →
    edge_value v e ≡ p (integer_of v d.number) → edge_value v r ≡ (edge_value v n && edge_value v e) → discrete_value v d ≡ Some x → edge_value v r ≡ test x
tested v test p d n e r x of ne ee re h =
    re ∙ (λ i. (ap (edge_value v) ne ∙ flip_is d.is_symbol.negated (v d.is_symbol.node)) i && ee i)
    ∙ tested_by test p (edge_value v d.is_symbol) (slice_get d.symbols (number_of v d.code)) (integer_of v d.number) x of h

-- neither below nor above
pub between_is : (v : ℕ → Bool) (low high z : ℤ) (under over n m e : Edge) → edge_value v under ≡ int_lt z low → edge_value v over ≡ int_lt high z → n ≡ flip under → m ≡ flip over →
    edge_value v e ≡ (edge_value v n && edge_value v m) → edge_value v e ≡ (int_le low z && int_le z high)
between_is v low high z under over n m e hu ho ne me h =
    let turned : (x y : Edge) → y ≡ flip x → edge_value v y ≡ not (edge_value v x) = λ x y q. ap (edge_value v) q ∙ flip_is x.negated (v x.node) in
    h ∙ (λ i. (turned under n ne ∙ ap not hu ∙ not_below z low) i && (turned over m me ∙ ap not ho ∙ not_below high z) i)
