-- Words made of other words' bits.
use Rattle.std.proofs.Common.{◌≡◌, ℕ, ◌+◌, ◌-◌, ◌*◌, ◌/◌, ◌%◌, ◌^◌, ◌<◌, ◌≤◌, ◌==◌, Bool, true, false, ◌&&◌, cond, List, [], ◌∷◌, ◌++◌, length, take, drop, ℤ, pos, refl, sym, ap, subst, ◌∙◌, arith, length-append, length-drop}
use Rattle.std.specs.Prelude.{Option, None, Some, int_le, int_lt}
use Rattle.std.proofs.lemmas.List.{length-take-le}
use Rattle.std.proofs.lemmas.Nat.{div-mul-add}
use Rattle.smv_value.specs.declared.value.Value.{Value}
use Rattle.smv_value.specs.declared.value.Value.TheVariants as value
use Rattle.smv_value.specs.Results.{bits_from, number_of_word, is_value, is_width, joined, low_bits, resized, selected, to_boolean, to_word, with_sign, word_of}
use Rattle.smv_value.proofs.Bits.{Near, near}
use Rattle.bit_graph.specs.declared.edge.Edge.{Edge}
use Rattle.bit_graph.specs.Meaning.{edge_value}
use Rattle.bit_arith.specs.Number.{bit, number, number_of}
use Rattle.bit_arith.proofs.Numbers.{number-lt, number-take_lt}
use Rattle.bit_arith.proofs.Horner.{number-split, number-take_mod}
use Rattle.bit_operators.specs.declared.symbolic.Symbolic.{Symbolic}
use Rattle.bit_operators.specs.declared.symbolic.Symbolic.TheVariants as symbolic
use Rattle.bit_operators.specs.Denoting.{ComputesOne, ComputesTwo, denoted}
use Rattle.bit_operators.proofs.Integers.{low_bits_exact}
use Rattle.bit_operators.proofs.OfLogic.{one_by}
use Rattle.bit_operators.proofs.OfResizing.{number-append}

some_same : {A : Type 0} (x y : A) → Some x ≡ Some y → x ≡ y
some_same x y e = cc

given : {A : Type 0} (c : Bool) (q z : A) → cond c (Some q) None ≡ Some z → Some q ≡ Some z
given true q z h = h
given false q z h = absurd cc

given_by : {A : Type 0} (c : Bool) (o : Option A) (z : A) → cond c o None ≡ Some z → o ≡ Some z
given_by true o z h = h
given_by false o z h = absurd cc

-- the word that a table gives, where it gives one, by its bits
word_given : (v : ℕ → Bool) (s : Bool) (w : ℕ) (x : ℤ) (u : List Edge) (z : Value) → length u ≡ w → number_of v u ≡ low_bits w x → word_of s w x ≡ Some z →
    denoted v (symbolic.Word s u) ≡ Some z
word_given v s w x u z e h g = (λ i. Some (value.Word s (e i) (h i))) ∙ given (is_width w) (value.Word s w (low_bits w x)) z g

-- where f of the first operand's value gives just what is said
one_given : (v : ℕ → Bool) (f : Value → Option Value) (a r : Symbolic) (x : Value) → denoted v a ≡ Some x → ((z : Value) → f x ≡ Some z → denoted v r ≡ Some z) → ComputesOne v f a r
one_given v f a r x ea h = record { gives = λ p z ep ip fz. h z (ap f (some_same x p (sym ea ∙ ep)) ∙ fz) }

pub joined_words : (v : ℕ → Bool) (a b : Symbolic) (s t : Bool) (high low r u : List Edge) → a ≡ symbolic.Word s high → b ≡ symbolic.Word t low → r ≡ low ++ high → u ≡ r →
    ComputesTwo v joined a b (symbolic.Word false u)
joined_words v a b s t high low r u ia ib h ur =
    let m = number_of v high * 2 ^ length low + number_of v low in
    let w = length high + length low in
    let is : u ≡ low ++ high = ur ∙ h in
    let long : length u ≡ w = ap length is ∙ length-append low high ∙ omega arith in
    let whole : number_of v u ≡ m = ap (number_of v) is ∙ number-append (edge_value v) low high ∙ omega arith in
    let small : m < 2 ^ w = (let P : ℕ → ℕ → Type 0 = λ x n. x < 2 ^ n in subst (λ x. P x w) whole (subst (λ n. P (number_of v u) n) long (number-lt (edge_value v) u))) in
    let exact : m ≡ low_bits w (pos m) = low_bits_exact w m (pos m) small (near 0 0 refl) in
    record {
      gives = λ p q z ep eq ip iq fz.
          (let e : value.Word s (length high) (number_of v high) ≡ p = some_same _ p (sym (ap (denoted v) ia) ∙ ep) in
          let d : value.Word t (length low) (number_of v low) ≡ q = some_same _ q (sym (ap (denoted v) ib) ∙ eq) in
          word_given v false w (pos m) u z long (whole ∙ exact) ((λ i. joined (e i) (d i)) ∙ fz));
    }

-- a word of another width
pub resized_word : (v : ℕ → Bool) (a : Symbolic) (s : Bool) (es r u : List Edge) (n : ℕ) → a ≡ symbolic.Word s es → length r ≡ n →
    number_of v r ≡ low_bits n (number_of_word s (length es) (number_of v es)) → u ≡ r →
    ComputesOne v (λ x. resized x (value.Int (pos n))) a (symbolic.Word s u)
resized_word v a s es r u n ia e h ur =
    one_given v (λ x. resized x (value.Int (pos n))) a (symbolic.Word s u) (value.Word s (length es) (number_of v es)) (ap (denoted v) ia)
    (λ z fz. word_given v s n (number_of_word s (length es) (number_of v es)) u z (ap length ur ∙ e) (ap (number_of v) ur ∙ h) fz)

pub word_with_sign : (v : ℕ → Bool) (a : Symbolic) (s t : Bool) (es u : List Edge) → a ≡ symbolic.Word s es → u ≡ es → ComputesOne v (with_sign t) a (symbolic.Word t u)
word_with_sign v a s t es u ia ur =
    one_by v (with_sign t) a (symbolic.Word t u) (value.Word s (length es) (number_of v es)) (ap (denoted v) ia)
    (λ p. ap (λ l. Some (value.Word t (length l) (number_of v l))) (sym ur))

one_bit : (b : Bool) → cond b 1 0 ≡ bit b + 2 * 0
one_bit true = refl
one_bit false = refl

pub word_of_boolean : (v : ℕ → Bool) (a : Symbolic) (e : Edge) (u : List Edge) → a ≡ symbolic.Boolean e → u ≡ e ∷ [] → ComputesOne v to_word a (symbolic.Word false u)
word_of_boolean v a e u ia ur =
    one_by v to_word a (symbolic.Word false u) (value.Bool (edge_value v e)) (ap (denoted v) ia)
    (λ p. ap (λ n. Some (value.Word false 1 n)) (one_bit (edge_value v e)) ∙ ap (λ l. Some (value.Word false (length l) (number_of v l))) (sym ur))
