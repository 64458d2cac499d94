-- What the edges of operators on words and integers stand for.
use Rattle.std.proofs.Common.{◌≡◌, ℕ, ◌+◌, ◌-◌, ◌*◌, ◌/◌, ◌%◌, ◌^◌, ◌<◌, ◌≤◌, Bool, true, false, not, ◌&&◌, cond, List, length, take, drop, ℤ, pos, negsuc, neg_ℤ, refl, sym, ap, subst, ◌∙◌, arith, eqb, nat_lt, unsigned_abs}
use Rattle.std.specs.Prelude.{Option, None, Some, int_le, int_lt, slice_get}
use Rattle.std.proofs.lemmas.Bool.{ltb-true}
use Rattle.std.proofs.lemmas.Int.{ints}
use Rattle.std.proofs.lemmas.List.{length-drop, length-take-le}
use Rattle.std.proofs.lemmas.Nat.{div-mul-add}
use Rattle.smv_value.specs.declared.operator.Division.{Division}
use Rattle.smv_value.specs.declared.operator.Shift.{Shift}
use Rattle.smv_value.specs.declared.value.Value.{Value}
use Rattle.smv_value.specs.declared.value.Value.TheVariants as value
use Rattle.smv_value.specs.Results.{alike, amount, bits_from, constant_word, number_of_word, divided, extended, is_beyond, is_int, is_too_far, is_value, is_width, is_word, is_zero, low_bits, moved, natural, of_integer, of_integers, of_number, of_numbers, selected, shifted, size, to_boolean, word, word_of}
use Rattle.bit_graph.specs.declared.edge.Edge.{Edge}
use Rattle.bit_graph.specs.Meaning.{edge_value}
use Rattle.bit_arith.specs.Number.{flip, number_of, values_of}
use Rattle.bit_arith.specs.Words.{opposite}
use Rattle.bit_arith.proofs.Horner.{number-split, number-take_mod}
use Rattle.bit_arith.proofs.Numbers.{number-lt, number-take_lt}
use Rattle.value_types.proofs.Elements.{and_left, and_right}
use Rattle.bit_values.specs.Bits.{bits_of}
use Rattle.bit_values.proofs.Numbers.{number-constant}
use Rattle.bit_operators.specs.declared.symbolic.Discrete.{Discrete}
use Rattle.bit_operators.specs.declared.symbolic.Symbolic.{Symbolic}
use Rattle.bit_operators.specs.declared.symbolic.Symbolic.TheVariants as symbolic
use Rattle.bit_operators.specs.Denoting.{ComputesOne, ComputesTwo, ComputesUnless, denoted, discrete_value, integer_of}
use Rattle.bit_operators.proofs.Discretes.{value_by}
use Rattle.bit_operators.proofs.OfLogic.{one_by, same_type}
use Rattle.bit_operators.proofs.OfNumbers.{OfIntegers, discretes_by}
use Rattle.bit_operators.proofs.OfSums.{negate_low}
use Rattle.bit_numbers.specs.Shifts.{is_outside}
use Rattle.bit_numbers.proofs.OfTests.{OfInteger, tested}

some_same : {A : Type 0} (x y : A) → Some x ≡ Some y → x ≡ y
some_same x y e = cc

given : {A : Type 0} (c : Bool) (q z : A) → cond c (Some q) None ≡ Some z → c ≡ true
given true q z h = refl
given false q z h = absurd cc

given_is : {A : Type 0} (c : Bool) (q z : A) → cond c (Some q) None ≡ Some z → Some q ≡ Some z
given_is true q z h = h
given_is false q z h = absurd cc

given_by_test : {A : Type 0} (c : Bool) (o : Option A) (z : A) → cond c o None ≡ Some z → o ≡ Some z
given_by_test true o z h = h
given_by_test false o z h = absurd cc

-- one operand that is a word

pub words_one : (v : ℕ → Bool) (f : Value → Option Value) (a r : Symbolic) (s : Bool) (l : List Edge) → a ≡ symbolic.Word s l →
    ((z : Value) → is_width (length l) ≡ true → f (value.Word s (length l) (number_of v l)) ≡ Some z → denoted v r ≡ Some z) → ComputesOne v f a r
words_one v f a r s l ia h = record {
  gives = λ p z ep ip fz.
      (let e : value.Word s (length l) (number_of v l) ≡ p = some_same (value.Word s (length l) (number_of v l)) p (sym (ap (denoted v) ia) ∙ ep) in
      h z (and_left (is_width (length l)) _ (ap is_value e ∙ ip)) (ap f e ∙ fz));
}

-- one operand that is discrete

pub record OfOneInteger (f : Value → Option Value) : Type 0 where
  pub only : (n : ℕ) (z : Value) → f (value.Sym n) ≡ Some z → ⊥

integer_at : (f : Value → Option Value) (s : Bool) (o : Option ℕ) (a : ℤ) (p z : Value) (r : Option Value) → OfOneInteger f →
    (is_int a ≡ true → f (value.Int a) ≡ Some z → r ≡ Some z) → value_by s o a ≡ Some p → is_value p ≡ true → f p ≡ Some z → r ≡ Some z
integer_at f true (Some n) a p z r of h ep ip fz = let e : value.Sym n ≡ p = some_same (value.Sym n) p ep in absurd (of.only n z (ap f e ∙ fz))
integer_at f true None a p z r of h ep ip fz = absurd cc
integer_at f false o a p z r of h ep ip fz =
    let e : value.Int a ≡ p = some_same (value.Int a) p ep in h (ap is_value e ∙ ip) (ap f e ∙ fz)

pub discretes_one : (v : ℕ → Bool) (f : Value → Option Value) (a r : Symbolic) (d : Discrete) → a ≡ symbolic.Discrete d → OfOneInteger f →
    ((z : Value) → is_int (integer_of v d.number) ≡ true → f (value.Int (integer_of v d.number)) ≡ Some z → denoted v r ≡ Some z) → ComputesOne v f a r
discretes_one v f a r d ia of h = record {
  gives = λ p z ep ip fz.
      integer_at f (edge_value v d.is_symbol) (slice_get d.symbols (number_of v d.code)) (integer_of v d.number) p z (denoted v r) of (h z) (sym (ap (denoted v) ia) ∙ ep) ip fz;
}

-- an integer that is given only if it is one
integer_given : (v : ℕ → Bool) (r : Symbolic) (x y : ℤ) (z : Value) → denoted v r ≡ Some (value.Int x) → (is_int y ≡ true → x ≡ y) → cond (is_int y) (Some (value.Int y)) None ≡ Some z →
    denoted v r ≡ Some z
integer_given v r x y z er h g = er ∙ ap (λ u. Some (value.Int u)) (h (given (is_int y) (value.Int y) z g)) ∙ given_is (is_int y) (value.Int y) z g

-- unary minus

pub negated_word : (v : ℕ → Bool) (a : Symbolic) (s : Bool) (l m r u : List Edge) → a ≡ symbolic.Word s l → m ≡ l → length r ≡ length m → number_of v r ≡ opposite (length m) (number_of v m) → u ≡ r →
    ComputesOne v (of_number neg_ℤ) a (symbolic.Word s u)
negated_word v a s l m r u ia ml rl h ur =
    words_one v (of_number neg_ℤ) a (symbolic.Word s u) s l ia
    (λ z w g.
    (λ i. Some (value.Word s ((ap length ur ∙ rl ∙ ap length ml) i)
    ((ap (number_of v) ur ∙ h ∙ (λ j. opposite (length (ml j)) (number_of v (ml j))) ∙ negate_low s (length l) (number_of v l) (number-lt (edge_value v) l)) i)))
    ∙ g)

pub of_one_integer : (f : ℤ → ℤ) → OfOneInteger (of_integer f)
of_one_integer f = record { only = λ n z h. cc }

pub negated_discrete : (v : ℕ → Bool) (a r : Symbolic) (d : Discrete) (m : List Edge) (x : ℤ) → a ≡ symbolic.Discrete d → m ≡ d.number → denoted v r ≡ Some (value.Int x) →
    (is_int (integer_of v m) ≡ true → is_int (neg_ℤ (integer_of v m)) ≡ true → x ≡ neg_ℤ (integer_of v m)) → ComputesOne v (of_number neg_ℤ) a r
negated_discrete v a r d m x ia md er h =
    discretes_one v (of_number neg_ℤ) a r d ia (record { only = λ n z e. cc })
    (λ z i g. integer_given v r x (neg_ℤ (integer_of v d.number)) z er
    (λ j. (let P : List Edge → Type 0 = λ l. is_int (integer_of v l) ≡ true → is_int (neg_ℤ (integer_of v l)) ≡ true → x ≡ neg_ℤ (integer_of v l) in subst P md h) i j) g)

pub absolute_discrete : (v : ℕ → Bool) (a r : Symbolic) (d : Discrete) (m : List Edge) (x : ℤ) → a ≡ symbolic.Discrete d → m ≡ d.number → denoted v r ≡ Some (value.Int x) →
    (is_int (integer_of v m) ≡ true → is_int (pos (unsigned_abs (integer_of v m))) ≡ true → x ≡ pos (unsigned_abs (integer_of v m))) →
    ComputesOne v (of_integer (λ y. pos (unsigned_abs y))) a r
absolute_discrete v a r d m x ia md er h =
    discretes_one v (of_integer (λ y. pos (unsigned_abs y))) a r d ia (of_one_integer (λ y. pos (unsigned_abs y)))
    (λ z i g. integer_given v r x (pos (unsigned_abs (integer_of v d.number))) z er
    (λ j. (let P : List Edge → Type 0 = λ l. is_int (integer_of v l) ≡ true → is_int (pos (unsigned_abs (integer_of v l))) ≡ true → x ≡ pos (unsigned_abs (integer_of v l)) in subst P md h) i j) g)

-- two integers

pub integers_only : (f : ℤ → ℤ → ℤ) → OfIntegers (of_integers f)
integers_only f = record { first = λ n y z h. cc; second = λ a n z h. cc }

pub integers_two : (v : ℕ → Bool) (f : ℤ → ℤ → ℤ) (a b r : Symbolic) (d e : Discrete) (l m : List Edge) (x : ℤ) → a ≡ symbolic.Discrete d → b ≡ symbolic.Discrete e → l ≡ d.number → m ≡ e.number →
    denoted v r ≡ Some (value.Int x) → x ≡ f (integer_of v l) (integer_of v m) → ComputesTwo v (of_integers f) a b r
integers_two v f a b r d e l m x ia ib ld me er h =
    discretes_by v (of_integers f) a b r d e ia ib (integers_only f)
    (λ z i j g. integer_given v r x (f (integer_of v d.number) (integer_of v e.number)) z er (λ k. h ∙ (λ t. f (integer_of v (ld t)) (integer_of v (me t)))) g)

-- division

pub words_divided : (v : ℕ → Bool) (o : Division) (a b : Symbolic) (s t : Bool) (l m r u : List Edge) (e : Edge) → a ≡ symbolic.Word s l → b ≡ symbolic.Word t m → s ≡ t → length l ≡ length m →
    length r ≡ length l → edge_value v e ≡ eqb (number_of v m) 0 →
    (eqb (number_of v m) 0 ≡ false → number_of v r ≡ low_bits (length l) (divided o (number_of_word s (length l) (number_of v l)) (number_of_word s (length l) (number_of v m)))) → u ≡ r →
    ComputesUnless v (λ x y. is_zero y) (of_numbers (divided o)) a b (symbolic.Word s u) e
words_divided v o a b s t l m r u e ia ib st lm rl ee h ur =
    let x : Value = value.Word s (length l) (number_of v l) in
    let y : Value = value.Word t (length m) (number_of v m) in
    record {
      faults = λ p q ep eq ip iq. ee ∙ ap is_zero (some_same y q (sym (ap (denoted v) ib) ∙ eq));
      gives = λ p q z ep eq ip iq tz fz.
          (let c : x ≡ p = some_same x p (sym (ap (denoted v) ia) ∙ ep) in
          let d : y ≡ q = some_same y q (sym (ap (denoted v) ib) ∙ eq) in
          let some : eqb (number_of v m) 0 ≡ false = ap is_zero d ∙ tz in
          sym (ap (λ b. cond b (Some (word s (length l) (divided o (number_of_word s (length l) (number_of v l)) (number_of_word s (length l) (number_of v m))))) None) (same_type s t (length l) (length m) st lm)
          ∙ (λ i. Some (value.Word s (sym rl i) (sym (h some) i)))
          ∙ ap (λ es. Some (value.Word s (length es) (number_of v es))) (sym ur))
          ∙ (λ i. of_numbers (divided o) (c i) (d i)) ∙ fz);
    }

unless_given : {A : Type 0} (c : Bool) (o : Option A) (z : A) → cond c None o ≡ Some z → (c ≡ false) × (o ≡ Some z)
unless_given true o z h = absurd cc
unless_given false o z h = (refl, h)

pub integers_divided : (v : ℕ → Bool) (o : Division) (a b r : Symbolic) (d e : Discrete) (l m : List Edge) (x : ℤ) (zero : Edge) → a ≡ symbolic.Discrete d → b ≡ symbolic.Discrete e →
    l ≡ d.number → m ≡ e.number → denoted v r ≡ Some (value.Int x) → ((y : Value) → discrete_value v e ≡ Some y → edge_value v zero ≡ is_zero y) →
    (is_int (integer_of v l) ≡ true → is_int (integer_of v m) ≡ true → (integer_of v m ≡ pos 0 → ⊥) → is_int (divided o (integer_of v l) (integer_of v m)) ≡ true →
    x ≡ divided o (integer_of v l) (integer_of v m)) →
    ComputesUnless v (λ p q. is_zero q) (of_numbers (divided o)) a b r zero
integers_divided v o a b r d e l m x zero ia ib ld me er hz h =
    let f : Value → Value → Option Value = λ p q. cond (is_zero q) None (of_numbers (divided o) p q) in
    let n = integer_of v d.number in
    let k = integer_of v e.number in
    let P : List Edge → List Edge → Type 0 =
    λ i j. is_int (integer_of v i) ≡ true → is_int (integer_of v j) ≡ true → (integer_of v j ≡ pos 0 → ⊥) → is_int (divided o (integer_of v i) (integer_of v j)) ≡ true →
    x ≡ divided o (integer_of v i) (integer_of v j) in
    let whole = subst (λ j. P d.number j) me (subst (λ i. P i m) ld h) in
    let made : ComputesTwo v f a b r =
    discretes_by v f a b r d e ia ib
    (record { first = λ n y z g. (let both = unless_given (is_zero y) (of_numbers (divided o) (value.Sym n) y) z g in let no = both.1 in cc); second = λ i n z g. cc })
    (λ z i j g.
    (let both = unless_given (is_zero (value.Int k)) (of_numbers (divided o) (value.Int n) (value.Int k)) z g in
    integer_given v r x (divided o n k) z er (λ w. whole i j (λ q. (let yes : is_zero (value.Int k) ≡ true = ap (λ u. is_zero (value.Int u)) q in let no : is_zero (value.Int k) ≡ false = both.0 in cc)) w) both.1)) in
    record {
      faults = λ p q ep eq ip iq. hz q (sym (ap (denoted v) ib) ∙ eq);
      gives = λ p q z ep eq ip iq tz fz. made.gives p q z ep eq ip iq (ap (λ c. cond c None (of_numbers (divided o) p q)) tz ∙ fz);
    }

-- shifts

moved_word : (v : ℕ → Bool) (o : Shift) (a : Symbolic) (s : Bool) (l r u : List Edge) (n k : ℤ) (z : Value) → a ≡ symbolic.Word s l → length r ≡ length l → u ≡ r → k ≡ n →
    number_of v r ≡ low_bits (length l) (moved o (number_of_word s (length l) (number_of v l)) (natural k)) →
    Some (word s (length l) (moved o (number_of_word s (length l) (number_of v l)) (natural n))) ≡ Some z → denoted v (symbolic.Word s u) ≡ Some z
moved_word v o a s l r u n k z ia rl ur kn h g =
    (λ i. Some (value.Word s ((ap length ur ∙ rl) i) ((ap (number_of v) ur ∙ h ∙ ap (λ j. low_bits (length l) (moved o (number_of_word s (length l) (number_of v l)) (natural j))) kn) i))) ∙ g

pub shifted_by_word : (v : ℕ → Bool) (o : Shift) (a b : Symbolic) (s : Bool) (l m r u : List Edge) (k : ℤ) (far : Edge) → a ≡ symbolic.Word s l → b ≡ symbolic.Word false m →
    k ≡ pos (number_of v m) → edge_value v far ≡ is_outside (length l) k → length r ≡ length l →
    (is_width (length l) ≡ true → is_outside (length l) k ≡ false → number_of v r ≡ low_bits (length l) (moved o (number_of_word s (length l) (number_of v l)) (natural k))) → u ≡ r →
    ComputesUnless v is_too_far (shifted o) a b (symbolic.Word s u) far
shifted_by_word v o a b s l m r u k far ia ib km ef rl h ur =
    let x : Value = value.Word s (length l) (number_of v l) in
    let y : Value = value.Word false (length m) (number_of v m) in
    record {
      faults = λ p q ep eq ip iq.
          (let c : x ≡ p = some_same x p (sym (ap (denoted v) ia) ∙ ep) in
          let d : y ≡ q = some_same y q (sym (ap (denoted v) ib) ∙ eq) in
          ef ∙ ap (is_outside (length l)) km ∙ (λ i. is_too_far (c i) (d i)));
      gives = λ p q z ep eq ip iq tz fz.
          (let c : x ≡ p = some_same x p (sym (ap (denoted v) ia) ∙ ep) in
          let d : y ≡ q = some_same y q (sym (ap (denoted v) ib) ∙ eq) in
          let wide : is_width (length l) ≡ true = and_left (is_width (length l)) _ (ap is_value c ∙ ip) in
          let near : is_outside (length l) k ≡ false = ap (is_outside (length l)) km ∙ (λ i. is_too_far (c i) (d i)) ∙ tz in
          moved_word v o a s l r u (pos (number_of v m)) k z ia rl ur km (h wide near) ((λ i. shifted o (c i) (d i)) ∙ fz));
    }

far_test : (s : Bool) (w n : ℕ) → OfInteger (is_too_far (value.Word s w n)) (is_outside w)
far_test s w n = record { integer = λ z. refl; symbol = λ k. refl }

by_integer : (o : Shift) (x y z : Value) (s t : Bool) (w n : ℕ) (op : Option ℕ) (k : ℤ) → x ≡ value.Word s w n → value_by t op k ≡ Some y → shifted o x y ≡ Some z → is_too_far x y ≡ false →
    (Some (word s w (moved o (number_of_word s w n) (natural k))) ≡ Some z) × (is_outside w k ≡ false)
by_integer o x y z s true w n None k e h g f = absurd cc
by_integer o x y z s true w n (Some m) k e h g f =
    let d : value.Sym m ≡ y = some_same (value.Sym m) y h in
    let none : shifted o (value.Word s w n) (value.Sym m) ≡ Some z = (λ i. shifted o (sym e i) (d i)) ∙ g in absurd cc
by_integer o x y z s false w n op k e h g f =
    let d : value.Int k ≡ y = some_same (value.Int k) y h in
    ((λ i. shifted o (sym e i) (d i)) ∙ g, (λ i. is_too_far (sym e i) (d i)) ∙ f)

pub shifted_by_integer : (v : ℕ → Bool) (o : Shift) (a b : Symbolic) (s : Bool) (d : Discrete) (l m r u : List Edge) (n past far : Edge) → a ≡ symbolic.Word s l → b ≡ symbolic.Discrete d →
    m ≡ d.number → n ≡ flip d.is_symbol → edge_value v past ≡ is_outside (length l) (integer_of v m) → edge_value v far ≡ (edge_value v n && edge_value v past) → length r ≡ length l →
    (is_width (length l) ≡ true → is_outside (length l) (integer_of v m) ≡ false →
    number_of v r ≡ low_bits (length l) (moved o (number_of_word s (length l) (number_of v l)) (natural (integer_of v m)))) → u ≡ r →
    ComputesUnless v is_too_far (shifted o) a b (symbolic.Word s u) far
shifted_by_integer v o a b s d l m r u n past far ia ib md ni ep ef rl h ur =
    let x : Value = value.Word s (length l) (number_of v l) in
    let same : integer_of v m ≡ integer_of v d.number = ap (integer_of v) md in
    record {
      faults = λ p q xp eq ip iq.
          (let c : x ≡ p = some_same x p (sym (ap (denoted v) ia) ∙ xp) in
          tested v (is_too_far x) (is_outside (length l)) d n past far q (far_test s (length l) (number_of v l)) ni (ep ∙ ap (is_outside (length l)) same) ef (sym (ap (denoted v) ib) ∙ eq)
          ∙ ap (λ t. is_too_far t q) c);
      gives = λ p q z xp eq ip iq tz fz.
          (let c : x ≡ p = some_same x p (sym (ap (denoted v) ia) ∙ xp) in
          let wide : is_width (length l) ≡ true = and_left (is_width (length l)) _ (ap is_value c ∙ ip) in
          let both =
          by_integer o p q z s (edge_value v d.is_symbol) (length l) (number_of v l) (slice_get d.symbols (number_of v d.code)) (integer_of v d.number) (sym c) (sym (ap (denoted v) ib) ∙ eq) fz tz in
          moved_word v o a s l r u (integer_of v d.number) (integer_of v m) z ia rl ur same (h wide (ap (is_outside (length l)) same ∙ both.1)) both.0);
    }

-- parts of words

-- a part of the bits
part_number : (v : ℕ → Bool) (l : List Edge) (n low : ℕ) → low + n ≤ length l → number_of v (take n (drop low l)) ≡ number_of v l / 2 ^ low % 2 ^ n
part_number v l n low h =
    let rest : length (drop low l) ≡ length l - low = length-drop low l in
    let below : number_of v (take low l) < 2 ^ low = number-take_lt (edge_value v) l low (omega arith) in
    let split : number_of v l ≡ number_of v (drop low l) * 2 ^ low + number_of v (take low l) = omega (arith, number-split (edge_value v) low l (omega arith)) in
    number-take_mod (edge_value v) n (drop low l) (omega arith)
    ∙ ap (λ m. m % 2 ^ n) (sym (ap (λ m. m / 2 ^ low) split ∙ div-mul-add (number_of v (drop low l)) (2 ^ low) (number_of v (take low l)) below))

pub selected_word : (v : ℕ → Bool) (a : Symbolic) (s : Bool) (l r u : List Edge) (high low : ℕ) → a ≡ symbolic.Word s l → low ≤ high → high < length l →
    r ≡ take (high - low + 1) (drop low l) → u ≡ r → ComputesOne v (λ x. selected x (value.Int (pos high)) (value.Int (pos low))) a (symbolic.Word false u)
selected_word v a s l r u high low ia order within h ur =
    let n = high - low + 1 in
    let long : length u ≡ n = ap length (ur ∙ h) ∙ length-take-le n (drop low l) (omega (arith, length-drop low l)) in
    words_one v (λ x. selected x (value.Int (pos high)) (value.Int (pos low))) a (symbolic.Word false u) s l ia
    (λ z w g.
    (λ i. Some (value.Word false (long i) ((ap (number_of v) (ur ∙ h) ∙ part_number v l n low (omega arith)) i)))
    ∙ given_is (is_width n) (value.Word false n (number_of v l / 2 ^ low % 2 ^ n)) z (given_by_test (int_le (pos 0) (pos low) && int_le (pos low) (pos high) && int_lt (pos high) (pos (length l)))
    (word_of false n (pos (number_of v l / 2 ^ low))) z g))

pub extended_word : (v : ℕ → Bool) (a : Symbolic) (s : Bool) (l r u : List Edge) (n : ℕ) → a ≡ symbolic.Word s l → length r ≡ length l + n →
    number_of v r ≡ low_bits (length l + n) (number_of_word s (length l) (number_of v l)) → u ≡ r → ComputesOne v (λ x. extended x (value.Int (pos n))) a (symbolic.Word s u)
extended_word v a s l r u n ia rl h ur =
    words_one v (λ x. extended x (value.Int (pos n))) a (symbolic.Word s u) s l ia
    (λ z w g.
    (λ i. Some (value.Word s ((ap length ur ∙ rl) i) ((ap (number_of v) ur ∙ h) i)))
    ∙ given_is (is_width (length l + n)) (word s (length l + n) (number_of_word s (length l) (number_of v l))) z g)

pub boolean_of_word : (v : ℕ → Bool) (a : Symbolic) (s : Bool) (l : List Edge) (e : Edge) → a ≡ symbolic.Word s l → edge_value v e ≡ eqb (number_of v l) 1 →
    ComputesOne v to_boolean a (symbolic.Boolean e)
boolean_of_word v a s l e ia h =
    words_one v to_boolean a (symbolic.Boolean e) s l ia (λ z w g. ap (λ b. Some (value.Bool b)) h ∙ g)

pub size_of_word : (v : ℕ → Bool) (a r : Symbolic) (s : Bool) (l : List Edge) (x : ℤ) → a ≡ symbolic.Word s l → denoted v r ≡ Some (value.Int x) → x ≡ pos (length l) → ComputesOne v size a r
size_of_word v a r s l x ia er h = words_one v size a r s l ia (λ z w g. er ∙ ap (λ y. Some (value.Int y)) h ∙ g)

pub constant_word_is : (v : ℕ → Bool) (s : Bool) (r u : List Edge) (y : ℤ) (n : ℕ) (z : Value) → length r ≡ n → number_of v r ≡ low_bits n y → u ≡ r →
    constant_word s (value.Int y) (value.Int (pos n)) ≡ Some z → denoted v (symbolic.Word s u) ≡ Some z
constant_word_is v s r u y n z rl h ur g =
    (λ i. Some (value.Word s ((ap length ur ∙ rl) i) ((ap (number_of v) ur ∙ h) i))) ∙ given_is (is_width n) (word s n y) z g

pub constant_value : (v : ℕ → Bool) (s : Bool) (w n : ℕ) (r u : List Edge) → length r ≡ w → values_of v r ≡ bits_of w n → u ≡ r → is_value (value.Word s w n) ≡ true →
    denoted v (symbolic.Word s u) ≡ Some (value.Word s w n)
constant_value v s w n r u rl h ur i =
    let small : n < 2 ^ w = ltb-true n (2 ^ w) (and_right (is_width w) (nat_lt n (2 ^ w)) i) in
    λ t. Some (value.Word s ((ap length ur ∙ rl) t) ((ap (number_of v) ur ∙ number-constant v r w n small h) t))

pub selected_by : (v : ℕ → Bool) (a : Symbolic) (s : Bool) (l r u : List Edge) (high low : ℤ) → a ≡ symbolic.Word s l → int_le (pos 0) low ≡ true → int_le low high ≡ true → int_lt high (pos (length l)) ≡ true →
    r ≡ take (unsigned_abs high - unsigned_abs low + 1) (drop (unsigned_abs low) l) → u ≡ r → ComputesOne v (λ x. selected x (value.Int high) (value.Int low)) a (symbolic.Word false u)
selected_by v a s l r u (pos h) (pos k) ia some order within e ur = selected_word v a s l r u h k ia (grind (arith, ints)) (grind (arith, ints)) e ur
selected_by v a s l r u (pos h) (negsuc k) ia some order within e ur = absurd cc
selected_by v a s l r u (negsuc h) (pos k) ia some order within e ur = absurd cc
selected_by v a s l r u (negsuc h) (negsuc k) ia some order within e ur = absurd cc
