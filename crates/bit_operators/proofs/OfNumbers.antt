-- Operators on numbers: words of one type, or integers.
use Rattle.std.proofs.Common.{◌≡◌, ℕ, Bool, true, false, not, ◌&&◌, cond, List, length, ℤ, pos, neg_ℤ, refl, sym, ap, subst, ◌∙◌, arith}
use Rattle.std.specs.Prelude.{Option, None, Some, int_le, int_lt, slice_get}
use Rattle.std.proofs.lemmas.Int.{ints}
use Rattle.smv_value.specs.declared.operator.Arithmetic.{Arithmetic}
use Rattle.smv_value.specs.declared.operator.Order.{Order}
use Rattle.smv_value.specs.declared.operator.Order.TheVariants as order
use Rattle.smv_value.specs.declared.value.Value.{Value}
use Rattle.smv_value.specs.declared.value.Value.TheVariants as value
use Rattle.smv_value.specs.Results.{alike, number_of_word, integer, is_int, is_value, is_width, is_word, low_bits, of_numbers, order_truth, ordered, sum_of, word}
use Rattle.bit_graph.specs.declared.edge.Edge.{Edge}
use Rattle.bit_graph.specs.Meaning.{edge_value}
use Rattle.bit_arith.specs.Number.{flip, number_of}
use Rattle.value_types.proofs.Elements.{and_left}
use Rattle.bit_operators.specs.declared.symbolic.Discrete.{Discrete}
use Rattle.bit_operators.specs.declared.symbolic.Symbolic.{Symbolic}
use Rattle.bit_operators.specs.declared.symbolic.Symbolic.TheVariants as symbolic
use Rattle.bit_operators.specs.Denoting.{ComputesOne, ComputesTwo, denoted, discrete_value, integer_of}
use Rattle.bit_operators.proofs.Bitwise.{flip_is}
use Rattle.bit_operators.proofs.Discretes.{value_by}
use Rattle.bit_operators.proofs.OfLogic.{same_type, two_by}

some_same : {A : Type 0} (x y : A) → Some x ≡ Some y → x ≡ y
some_same x y e = cc

-- f gives something of integers alone
pub record OfIntegers (f : Value → Value → Option Value) : Type 0 where
  pub first : (n : ℕ) (y z : Value) → f (value.Sym n) y ≡ Some z → ⊥
  pub second : (a : ℤ) (n : ℕ) (z : Value) → f (value.Int a) (value.Sym n) ≡ Some z → ⊥

integers_at : (f : Value → Value → Option Value) (sa sb : Bool) (oa ob : Option ℕ) (a b : ℤ) (p q z : Value) (r : Option Value) → OfIntegers f →
    (is_int a ≡ true → is_int b ≡ true → f (value.Int a) (value.Int b) ≡ Some z → r ≡ Some z) → value_by sa oa a ≡ Some p → value_by sb ob b ≡ Some q →
    is_value p ≡ true → is_value q ≡ true → f p q ≡ Some z → r ≡ Some z
integers_at f true sb (Some n) ob a b p q z r only h ep eq ip iq fz =
    let e : value.Sym n ≡ p = some_same (value.Sym n) p ep in absurd (only.first n q z (ap (λ x. f x q) e ∙ fz))
integers_at f true sb None ob a b p q z r only h ep eq ip iq fz = absurd cc
integers_at f false true oa (Some n) a b p q z r only h ep eq ip iq fz =
    let e : value.Int a ≡ p = some_same (value.Int a) p ep in
    let d : value.Sym n ≡ q = some_same (value.Sym n) q eq in
    absurd (only.second a n z ((λ i. f (e i) (d i)) ∙ fz))
integers_at f false true oa None a b p q z r only h ep eq ip iq fz = absurd cc
integers_at f false false oa ob a b p q z r only h ep eq ip iq fz =
    let e : value.Int a ≡ p = some_same (value.Int a) p ep in
    let d : value.Int b ≡ q = some_same (value.Int b) q eq in
    h (ap is_value e ∙ ip) (ap is_value d ∙ iq) ((λ i. f (e i) (d i)) ∙ fz)

pub discretes_by : (v : ℕ → Bool) (f : Value → Value → Option Value) (a b r : Symbolic) (d e : Discrete) → a ≡ symbolic.Discrete d → b ≡ symbolic.Discrete e → OfIntegers f →
    ((z : Value) → is_int (integer_of v d.number) ≡ true → is_int (integer_of v e.number) ≡ true → f (value.Int (integer_of v d.number)) (value.Int (integer_of v e.number)) ≡ Some z →
    denoted v r ≡ Some z) → ComputesTwo v f a b r
discretes_by v f a b r d e ia ib only h = record {
  gives = λ p q z ep eq ip iq fz.
      integers_at f (edge_value v d.is_symbol) (edge_value v e.is_symbol) (slice_get d.symbols (number_of v d.code)) (slice_get e.symbols (number_of v e.code))
      (integer_of v d.number) (integer_of v e.number) p q z (denoted v r) only (h z) (sym (ap (denoted v) ia) ∙ ep) (sym (ap (denoted v) ib) ∙ eq) ip iq fz;
}

order_only : (o : Order) → OfIntegers (ordered o)
order_only o = record { first = λ n y z h. cc; second = λ a n z h. cc }

numbers_only : (f : ℤ → ℤ → ℤ) → OfIntegers (of_numbers f)
numbers_only f = record { first = λ n y z h. cc; second = λ a n z h. cc }

-- order

pub words_less : (v : ℕ → Bool) (a b : Symbolic) (s t : Bool) (l m : List Edge) (e : Edge) → a ≡ symbolic.Word s l → b ≡ symbolic.Word t m → s ≡ t → length l ≡ length m →
    edge_value v e ≡ int_lt (number_of_word s (length l) (number_of v l)) (number_of_word s (length l) (number_of v m)) → ComputesTwo v (ordered order.Less) a b (symbolic.Boolean e)
words_less v a b s t l m e ia ib st lm h =
    two_by v (ordered order.Less) a b (symbolic.Boolean e) (value.Word s (length l) (number_of v l)) (value.Word t (length m) (number_of v m)) (ap (denoted v) ia) (ap (denoted v) ib)
    (λ p q.
    ap (λ c. cond c (Some (value.Bool (int_lt (number_of_word s (length l) (number_of v l)) (number_of_word s (length l) (number_of v m))))) None) (same_type s t (length l) (length m) st lm)
    ∙ ap (λ x. Some (value.Bool x)) (sym h))

pub words_greater : (v : ℕ → Bool) (a b : Symbolic) (s t : Bool) (l m : List Edge) (e : Edge) → a ≡ symbolic.Word s l → b ≡ symbolic.Word t m → s ≡ t → length l ≡ length m →
    edge_value v e ≡ int_lt (number_of_word s (length l) (number_of v l)) (number_of_word s (length l) (number_of v m)) → ComputesTwo v (ordered order.Greater) b a (symbolic.Boolean e)
words_greater v a b s t l m e ia ib st lm h =
    two_by v (ordered order.Greater) b a (symbolic.Boolean e) (value.Word t (length m) (number_of v m)) (value.Word s (length l) (number_of v l)) (ap (denoted v) ib) (ap (denoted v) ia)
    (λ p q.
    ap (λ c. cond c (Some (value.Bool (int_lt (number_of_word t (length m) (number_of v l)) (number_of_word t (length m) (number_of v m))))) None) (same_type t s (length m) (length l) (sym st) (sym lm))
    ∙ (λ i. Some (value.Bool (int_lt (number_of_word (sym st i) (sym lm i) (number_of v l)) (number_of_word (sym st i) (sym lm i) (number_of v m)))))
    ∙ ap (λ x. Some (value.Bool x)) (sym h))

pub integers_less : (v : ℕ → Bool) (a b : Symbolic) (d f : Discrete) (e : Edge) → a ≡ symbolic.Discrete d → b ≡ symbolic.Discrete f →
    edge_value v e ≡ int_lt (integer_of v d.number) (integer_of v f.number) → ComputesTwo v (ordered order.Less) a b (symbolic.Boolean e)
integers_less v a b d f e ia ib h =
    discretes_by v (ordered order.Less) a b (symbolic.Boolean e) d f ia ib (order_only order.Less) (λ z p q g. ap (λ x. Some (value.Bool x)) h ∙ g)

pub integers_greater : (v : ℕ → Bool) (a b : Symbolic) (d f : Discrete) (e : Edge) → a ≡ symbolic.Discrete d → b ≡ symbolic.Discrete f →
    edge_value v e ≡ int_lt (integer_of v d.number) (integer_of v f.number) → ComputesTwo v (ordered order.Greater) b a (symbolic.Boolean e)
integers_greater v a b d f e ia ib h =
    discretes_by v (ordered order.Greater) b a (symbolic.Boolean e) f d ib ia (order_only order.Greater) (λ z p q g. ap (λ x. Some (value.Bool x)) h ∙ g)

not_less : (x y : ℤ) → int_le y x ≡ not (int_lt x y)
not_less x y = grind (arith, ints)

turned_edge : (v : ℕ → Bool) (e n : Edge) → n ≡ flip e → edge_value v n ≡ not (edge_value v e)
turned_edge v e n h = ap (edge_value v) h ∙ flip_is e.negated (v e.node)

word_at : (c : Bool) (x y : ℤ) (z : Value) (b : Bool) → ((w : Value) → cond c (Some (value.Bool (int_lt x y))) None ≡ Some w → Some (value.Bool b) ≡ Some w) →
    cond c (Some (value.Bool (int_le y x))) None ≡ Some z → Some (value.Bool (not b)) ≡ Some z
word_at true x y z b h g =
    let e : Some (value.Bool b) ≡ Some (value.Bool (int_lt x y)) = h (value.Bool (int_lt x y)) refl in
    let d : b ≡ int_lt x y = cc in
    ap (λ c. Some (value.Bool (not c))) d ∙ ap (λ c. Some (value.Bool c)) (sym (not_less x y)) ∙ g
word_at false x y z b h g = absurd cc

at_least_at : (x y z : Value) (b : Bool) → ((w : Value) → ordered order.Less x y ≡ Some w → Some (value.Bool b) ≡ Some w) → ordered order.AtLeast x y ≡ Some z → Some (value.Bool (not b)) ≡ Some z
at_least_at (value.Bool x) y z b h g = absurd cc
at_least_at (value.Int x) (value.Bool y) z b h g = absurd cc
at_least_at (value.Int x) (value.Int y) z b h g =
    let e : Some (value.Bool b) ≡ Some (value.Bool (int_lt x y)) = h (value.Bool (int_lt x y)) refl in
    let d : b ≡ int_lt x y = cc in
    ap (λ c. Some (value.Bool (not c))) d ∙ ap (λ c. Some (value.Bool c)) (sym (not_less x y)) ∙ g
at_least_at (value.Int x) (value.Sym n) z b h g = absurd cc
at_least_at (value.Int x) (value.Word s w n) z b h g = absurd cc
at_least_at (value.Sym n) y z b h g = absurd cc
at_least_at (value.Word s w n) (value.Bool y) z b h g = absurd cc
at_least_at (value.Word s w n) (value.Int y) z b h g = absurd cc
at_least_at (value.Word s w n) (value.Sym m) z b h g = absurd cc
at_least_at (value.Word s w n) (value.Word t u m) z b h g = word_at (alike s w t u) (number_of_word s w n) (number_of_word s w m) z b h g

pub at_least : (v : ℕ → Bool) (a b : Symbolic) (e n : Edge) → n ≡ flip e → ComputesTwo v (ordered order.Less) a b (symbolic.Boolean e) → ComputesTwo v (ordered order.AtLeast) a b (symbolic.Boolean n)
at_least v a b e n h less = record {
  gives = λ x y z ex ey ix iy fz.
      ap (λ c. Some (value.Bool c)) (turned_edge v e n h) ∙ at_least_at x y z (edge_value v e) (λ w g. less.gives x y w ex ey ix iy g) fz;
}

at_most_at : (x y z : Value) (b : Bool) → ((w : Value) → ordered order.Greater x y ≡ Some w → Some (value.Bool b) ≡ Some w) → ordered order.AtMost x y ≡ Some z → Some (value.Bool (not b)) ≡ Some z
at_most_at (value.Bool x) y z b h g = absurd cc
at_most_at (value.Int x) (value.Bool y) z b h g = absurd cc
at_most_at (value.Int x) (value.Int y) z b h g =
    let e : Some (value.Bool b) ≡ Some (value.Bool (int_lt y x)) = h (value.Bool (int_lt y x)) refl in
    let d : b ≡ int_lt y x = cc in
    ap (λ c. Some (value.Bool (not c))) d ∙ ap (λ c. Some (value.Bool c)) (sym (not_less y x)) ∙ g
at_most_at (value.Int x) (value.Sym n) z b h g = absurd cc
at_most_at (value.Int x) (value.Word s w n) z b h g = absurd cc
at_most_at (value.Sym n) y z b h g = absurd cc
at_most_at (value.Word s w n) (value.Bool y) z b h g = absurd cc
at_most_at (value.Word s w n) (value.Int y) z b h g = absurd cc
at_most_at (value.Word s w n) (value.Sym m) z b h g = absurd cc
at_most_at (value.Word s w n) (value.Word t u m) z b h g = word_at (alike s w t u) (number_of_word s w m) (number_of_word s w n) z b h g

pub at_most : (v : ℕ → Bool) (a b : Symbolic) (e n : Edge) → n ≡ flip e → ComputesTwo v (ordered order.Greater) b a (symbolic.Boolean e) → ComputesTwo v (ordered order.AtMost) b a (symbolic.Boolean n)
at_most v a b e n h greater = record {
  gives = λ x y z ex ey ix iy fz.
      ap (λ c. Some (value.Bool c)) (turned_edge v e n h) ∙ at_most_at x y z (edge_value v e) (λ w g. greater.gives x y w ex ey ix iy g) fz;
}

-- sums

pub words_sum : (v : ℕ → Bool) (o : Arithmetic) (a b : Symbolic) (s t : Bool) (l m r u : List Edge) → a ≡ symbolic.Word s l → b ≡ symbolic.Word t m → s ≡ t → length l ≡ length m →
    length r ≡ length l →
    (is_width (length l) ≡ true → number_of v r ≡ low_bits (length l) (sum_of o (number_of_word s (length l) (number_of v l)) (number_of_word s (length l) (number_of v m)))) → u ≡ r →
    ComputesTwo v (of_numbers (sum_of o)) a b (symbolic.Word s u)
words_sum v o a b s t l m r u ia ib st lm rl h ur =
    two_by v (of_numbers (sum_of o)) a b (symbolic.Word s u) (value.Word s (length l) (number_of v l)) (value.Word t (length m) (number_of v m)) (ap (denoted v) ia) (ap (denoted v) ib)
    (λ p q.
    ap (λ c. cond c (Some (word s (length l) (sum_of o (number_of_word s (length l) (number_of v l)) (number_of_word s (length l) (number_of v m))))) None) (same_type s t (length l) (length m) st lm)
    ∙ (λ i. Some (value.Word s (sym rl i) (sym (h (and_left (is_width (length l)) _ p)) i)))
    ∙ ap (λ es. Some (value.Word s (length es) (number_of v es))) (sym ur))

given : (c : Bool) (x y z : Value) → cond c (Some x) None ≡ Some z → (c ≡ true → y ≡ x) → Some y ≡ Some z
given true x y z g h = ap Some (h refl) ∙ g
given false x y z g h = absurd cc

pub integers_sum : (v : ℕ → Bool) (o : Arithmetic) (a b r : Symbolic) (d f : Discrete) (x : ℤ) → a ≡ symbolic.Discrete d → b ≡ symbolic.Discrete f → denoted v r ≡ Some (value.Int x) →
    (is_int (integer_of v d.number) ≡ true → is_int (integer_of v f.number) ≡ true → is_int (sum_of o (integer_of v d.number) (integer_of v f.number)) ≡ true →
    x ≡ sum_of o (integer_of v d.number) (integer_of v f.number)) →
    ComputesTwo v (of_numbers (sum_of o)) a b r
integers_sum v o a b r d f x ia ib er h =
    discretes_by v (of_numbers (sum_of o)) a b r d f ia ib (numbers_only (sum_of o))
    (λ z p q g.
    er ∙ given (is_int (sum_of o (integer_of v d.number) (integer_of v f.number))) (value.Int (sum_of o (integer_of v d.number) (integer_of v f.number))) (value.Int x) z g
    (λ i. ap value.Int (h p q i)))

pub integers_sum_by : (v : ℕ → Bool) (o : Arithmetic) (a b r : Symbolic) (d f : Discrete) (l m : List Edge) (x : ℤ) → a ≡ symbolic.Discrete d → b ≡ symbolic.Discrete f → l ≡ d.number → m ≡ f.number →
    denoted v r ≡ Some (value.Int x) →
    (is_int (integer_of v l) ≡ true → is_int (integer_of v m) ≡ true → is_int (sum_of o (integer_of v l) (integer_of v m)) ≡ true → x ≡ sum_of o (integer_of v l) (integer_of v m)) →
    ComputesTwo v (of_numbers (sum_of o)) a b r
integers_sum_by v o a b r d f l m x ia ib el em er h =
    let P : List Edge → List Edge → Type 0 =
    λ j k. is_int (integer_of v j) ≡ true → is_int (integer_of v k) ≡ true → is_int (sum_of o (integer_of v j) (integer_of v k)) ≡ true → x ≡ sum_of o (integer_of v j) (integer_of v k) in
    integers_sum v o a b r d f x ia ib er (subst (λ k. P d.number k) em (subst (λ j. P j m) el h))
