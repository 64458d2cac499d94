-- What the edges of `logical` and `inverted` stand for.
use Rattle.std.proofs.Common.{◌≡◌, ℕ, ◌+◌, ◌-◌, ◌*◌, ◌^◌, ◌==◌, Bool, true, false, not, ◌&&◌, ◌||◌, List, length, map, refl, sym, ap, subst, ◌∙◌, arith, cond, bit_xor}
use Rattle.std.proofs.lemmas.List.{length-map}
use Rattle.std.specs.Prelude.{Option, None, Some}
use Rattle.std.specs.Bool.{beq}
use Rattle.std.proofs.lemmas.Bool.{eq-eqb}
use Rattle.smv_value.specs.declared.operator.Logic.{Logic}
use Rattle.smv_value.specs.declared.value.Value.{Value}
use Rattle.smv_value.specs.declared.value.Value.TheVariants as value
use Rattle.smv_value.specs.Results.{alike, inverted, is_value, logic_bits, logic_truth, logical}
use Rattle.bit_graph.specs.declared.edge.Edge.{Edge}
use Rattle.bit_graph.specs.Meaning.{edge_value, exclusive_or}
use Rattle.bit_arith.specs.Number.{flip, number, number_of, values_of}
use Rattle.bit_operators.specs.declared.symbolic.Symbolic.{Symbolic}
use Rattle.bit_operators.specs.declared.symbolic.Symbolic.TheVariants as symbolic
use Rattle.bit_operators.specs.Denoting.{ComputesOne, ComputesTwo, denoted}
use Rattle.bit_operators.specs.Lists.{bit_by_bit}
use Rattle.bit_values.proofs.Numbers.{number-values}
use Rattle.bit_operators.proofs.Bitwise.{flip_is, number-bit_by_bit, number-flip}

some_is : {A : Type 0} (x y : A) → Some x ≡ Some y → x ≡ y
some_is x y e = cc

-- where the result stands for what f gives of the values that the operands stand for
pub one_by : (v : ℕ → Bool) (f : Value → Option Value) (a r : Symbolic) (x : Value) → denoted v a ≡ Some x → (is_value x ≡ true → f x ≡ denoted v r) → ComputesOne v f a r
one_by v f a r x ea h = record {
  gives = λ p z ep ip fz. (let e : x ≡ p = some_is x p (sym ea ∙ ep) in sym (h (subst (λ q. is_value q ≡ true) (sym e) ip)) ∙ ap f e ∙ fz);
}

pub two_by : (v : ℕ → Bool) (f : Value → Value → Option Value) (a b r : Symbolic) (x y : Value) → denoted v a ≡ Some x → denoted v b ≡ Some y →
    (is_value x ≡ true → is_value y ≡ true → f x y ≡ denoted v r) → ComputesTwo v f a b r
two_by v f a b r x y ea eb h = record {
  gives = λ p q z ep eq ip iq fz.
      (let e : x ≡ p = some_is x p (sym ea ∙ ep) in
      let d : y ≡ q = some_is y q (sym eb ∙ eq) in
      sym (h (subst (λ u. is_value u ≡ true) (sym e) ip) (subst (λ u. is_value u ≡ true) (sym d) iq)) ∙ (λ i. f (e i) (d i)) ∙ fz);
}

beq_self : (a : Bool) → beq a a ≡ true
beq_self true = refl
beq_self false = refl

pub alike_self : (s : Bool) (w : ℕ) → alike s w s w ≡ true
alike_self true w = eq-eqb w w refl
alike_self false w = eq-eqb w w refl

pub same_type : (s t : Bool) (w u : ℕ) → s ≡ t → w ≡ u → alike s w t u ≡ true
same_type s t w u e f = (λ i. alike (e i) (f i) t u) ∙ alike_self t u

pub booleans_logic : (v : ℕ → Bool) (o : Logic) (a b : Symbolic) (x y e : Edge) → a ≡ symbolic.Boolean x → b ≡ symbolic.Boolean y →
    edge_value v e ≡ logic_truth o (edge_value v x) (edge_value v y) → ComputesTwo v (logical o) a b (symbolic.Boolean e)
booleans_logic v o a b x y e ia ib h =
    two_by v (logical o) a b (symbolic.Boolean e) (value.Bool (edge_value v x)) (value.Bool (edge_value v y)) (ap (denoted v) ia) (ap (denoted v) ib)
    (λ p q. ap (λ z. Some (value.Bool z)) (sym h))

word_number : (v : ℕ → Bool) (o : Logic) (l m r : List Edge) → length l ≡ length m → values_of v r ≡ bit_by_bit (logic_truth o) (values_of v l) (values_of v m) →
    number_of v r ≡ logic_bits (2 ^ length l - 1) o (number_of v l) (number_of v m)
word_number v o l m r e h =
    let lengths : length (values_of v l) ≡ length (values_of v m) = simp length-map e in
    sym (number-values v r) ∙ ap (number (λ b. b)) h ∙ number-bit_by_bit o (values_of v l) (values_of v m) lengths
    ∙ (λ i. logic_bits (2 ^ (length-map l (edge_value v) i) - 1) o (number-values v l i) (number-values v m i))

pub words_logic : (v : ℕ → Bool) (o : Logic) (a b : Symbolic) (s t : Bool) (l m r u : List Edge) → a ≡ symbolic.Word s l → b ≡ symbolic.Word t m → s ≡ t → length l ≡ length m →
    length r ≡ length l → values_of v r ≡ bit_by_bit (logic_truth o) (values_of v l) (values_of v m) → u ≡ r → ComputesTwo v (logical o) a b (symbolic.Word s u)
words_logic v o a b s t l m r u ia ib st lm rl h ur =
    two_by v (logical o) a b (symbolic.Word s u) (value.Word s (length l) (number_of v l)) (value.Word t (length m) (number_of v m)) (ap (denoted v) ia) (ap (denoted v) ib)
    (λ p q.
    ap (λ c. cond c (Some (value.Word s (length l) (logic_bits (2 ^ length l - 1) o (number_of v l) (number_of v m)))) None) (same_type s t (length l) (length m) st lm)
    ∙ (λ i. Some (value.Word s (sym rl i) (sym (word_number v o l m r lm h) i)))
    ∙ ap (λ es. Some (value.Word s (length es) (number_of v es))) (sym ur))

pub inverted_boolean : (v : ℕ → Bool) (a : Symbolic) (x e : Edge) → a ≡ symbolic.Boolean x → e ≡ flip x → ComputesOne v inverted a (symbolic.Boolean e)
inverted_boolean v a x e ia h =
    one_by v inverted a (symbolic.Boolean e) (value.Bool (edge_value v x)) (ap (denoted v) ia)
    (λ p. ap (λ z. Some (value.Bool z)) (sym (ap (edge_value v) h ∙ flip_is x.negated (v x.node))))

pub inverted_word : (v : ℕ → Bool) (a : Symbolic) (s : Bool) (l r u : List Edge) → a ≡ symbolic.Word s l → r ≡ map flip l → u ≡ r → ComputesOne v inverted a (symbolic.Word s u)
inverted_word v a s l r u ia h ur =
    one_by v inverted a (symbolic.Word s u) (value.Word s (length l) (number_of v l)) (ap (denoted v) ia)
    (λ p.
    (λ i. Some (value.Word s (sym (length-map l flip) i) (sym (number-flip v l) i)))
    ∙ ap (λ es. Some (value.Word s (length es) (number_of v es))) (sym (ur ∙ h)))

alike_edges : (x n y : Bool) → exclusive_or x (exclusive_or (not n) y) ≡ beq x (exclusive_or n y)
alike_edges true true true = refl
alike_edges true true false = refl
alike_edges true false true = refl
alike_edges true false false = refl
alike_edges false true true = refl
alike_edges false true false = refl
alike_edges false false true = refl
alike_edges false false false = refl

-- two edges are alike where one differs from the other's negation
pub alike_is : (v : ℕ → Bool) (a b n e : Edge) → n ≡ flip b → edge_value v e ≡ exclusive_or (edge_value v a) (edge_value v n) → edge_value v e ≡ beq (edge_value v a) (edge_value v b)
alike_is v a b n e h k = k ∙ ap (λ x. exclusive_or (edge_value v a) (edge_value v x)) h ∙ alike_edges (edge_value v a) b.negated (v b.node)

pub differ_is : (x y : Bool) → exclusive_or x y ≡ not (beq x y)
differ_is true true = refl
differ_is true false = refl
differ_is false true = refl
differ_is false false = refl

pub implied_is : (v : ℕ → Bool) (a b n e : Edge) → n ≡ flip a → edge_value v e ≡ (edge_value v n || edge_value v b) → edge_value v e ≡ (not (edge_value v a) || edge_value v b)
implied_is v a b n e h k = k ∙ ap (λ x. edge_value v x || edge_value v b) h ∙ ap (λ x. x || edge_value v b) (flip_is a.negated (v a.node))

-- two signs that pass the test are one
pub sign_is : (s t : Bool) → beq s t ≡ true → s ≡ t
sign_is true true e = refl
sign_is true false e = absurd cc
sign_is false true e = absurd cc
sign_is false false e = refl
