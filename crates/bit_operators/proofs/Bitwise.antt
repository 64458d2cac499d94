-- Operators bit by bit, on lists and on numbers.
use Rattle.std.proofs.Common.{◌≡◌, ℕ, zero, suc, ◌+◌, ◌-◌, ◌*◌, ◌/◌, ◌%◌, ◌^◌, ◌<◌, ◌≤◌, Bool, true, false, not, ◌&&◌, ◌||◌, List, [], ◌∷◌, ◌++◌, length, take, get_or, map, max, min, bit_and, bit_or, bit_xor, refl, sym, ap, ◌∙◌, arith}
use Rattle.std.specs.Int.{bit_at}
use Rattle.std.proofs.Math.Nat.{pow-suc}
use Rattle.std.proofs.lemmas.List.{length-map, length-take-le, take_all, take_more}
use Rattle.std.proofs.lemmas.Nat.{pow_pos}
use Rattle.std.proofs.lemmas.Nat.Bits.{bit_at_lowest, bit_at-suc, bit_at_and, bit_at_or, bit_at_xor, same_from_bits}
use Rattle.smv_value.specs.declared.operator.Logic.{Logic}
use Rattle.smv_value.specs.declared.operator.Logic.TheVariants as logic
use Rattle.smv_value.specs.Results.{logic_bits, logic_truth}
use Rattle.bit_graph.specs.declared.edge.Edge.{Edge}
use Rattle.bit_graph.specs.Meaning.{edge_value, exclusive_or}
use Rattle.bit_arith.specs.Number.{bit, flip, number, number_of, values_of}
use Rattle.bit_operators.specs.Lists.{bit_by_bit}

bit_low : (x : Bool) (a : ℕ) → bit_at (bit x + 2 * a) 0 ≡ bit x
bit_low true a = bit_at_lowest (1 + 2 * a) ∙ omega arith
bit_low false a = bit_at_lowest (0 + 2 * a) ∙ omega arith

half : (x : Bool) (a : ℕ) → (bit x + 2 * a) / 2 ≡ a
half true a = omega arith
half false a = omega arith

bit_high : (x : Bool) (a i : ℕ) → bit_at (bit x + 2 * a) (suc i) ≡ bit_at a i
bit_high x a i = bit_at-suc (bit x + 2 * a) i ∙ ap (λ m. bit_at m i) (half x a)

min_bits : (x y : Bool) → min (bit x) (bit y) ≡ bit (x && y)
min_bits true true = refl
min_bits true false = refl
min_bits false true = refl
min_bits false false = refl

max_bits : (x y : Bool) → max (bit x) (bit y) ≡ bit (x || y)
max_bits true true = refl
max_bits true false = refl
max_bits false true = refl
max_bits false false = refl

sum_bits : (x y : Bool) → (bit x + bit y) % 2 ≡ bit (exclusive_or x y)
sum_bits true true = refl
sum_bits true false = refl
sum_bits false true = refl
sum_bits false false = refl

and_bit : (x y : Bool) (a b i : ℕ) → bit_at (bit_and (bit x + 2 * a) (bit y + 2 * b)) i ≡ bit_at (bit (x && y) + 2 * bit_and a b) i
and_bit x y a b zero =
    bit_at_and (bit x + 2 * a) (bit y + 2 * b) 0 ∙ (λ k. min (bit_low x a k) (bit_low y b k)) ∙ min_bits x y ∙ sym (bit_low (x && y) (bit_and a b))
and_bit x y a b (suc i) =
    bit_at_and (bit x + 2 * a) (bit y + 2 * b) (suc i) ∙ (λ k. min (bit_high x a i k) (bit_high y b i k)) ∙ sym (bit_at_and a b i) ∙ sym (bit_high (x && y) (bit_and a b) i)

and_step : (x y : Bool) (a b : ℕ) → bit_and (bit x + 2 * a) (bit y + 2 * b) ≡ bit (x && y) + 2 * bit_and a b
and_step x y a b = same_from_bits (bit_and (bit x + 2 * a) (bit y + 2 * b)) (bit (x && y) + 2 * bit_and a b) (λ i. and_bit x y a b i)

or_bit : (x y : Bool) (a b i : ℕ) → bit_at (bit_or (bit x + 2 * a) (bit y + 2 * b)) i ≡ bit_at (bit (x || y) + 2 * bit_or a b) i
or_bit x y a b zero =
    bit_at_or (bit x + 2 * a) (bit y + 2 * b) 0 ∙ (λ k. max (bit_low x a k) (bit_low y b k)) ∙ max_bits x y ∙ sym (bit_low (x || y) (bit_or a b))
or_bit x y a b (suc i) =
    bit_at_or (bit x + 2 * a) (bit y + 2 * b) (suc i) ∙ (λ k. max (bit_high x a i k) (bit_high y b i k)) ∙ sym (bit_at_or a b i) ∙ sym (bit_high (x || y) (bit_or a b) i)

or_step : (x y : Bool) (a b : ℕ) → bit_or (bit x + 2 * a) (bit y + 2 * b) ≡ bit (x || y) + 2 * bit_or a b
or_step x y a b = same_from_bits (bit_or (bit x + 2 * a) (bit y + 2 * b)) (bit (x || y) + 2 * bit_or a b) (λ i. or_bit x y a b i)

xor_bit : (x y : Bool) (a b i : ℕ) → bit_at (bit_xor (bit x + 2 * a) (bit y + 2 * b)) i ≡ bit_at (bit (exclusive_or x y) + 2 * bit_xor a b) i
xor_bit x y a b zero =
    bit_at_xor (bit x + 2 * a) (bit y + 2 * b) 0 ∙ (λ k. (bit_low x a k + bit_low y b k) % 2) ∙ sum_bits x y ∙ sym (bit_low (exclusive_or x y) (bit_xor a b))
xor_bit x y a b (suc i) =
    bit_at_xor (bit x + 2 * a) (bit y + 2 * b) (suc i) ∙ (λ k. (bit_high x a i k + bit_high y b i k) % 2) ∙ sym (bit_at_xor a b i)
    ∙ sym (bit_high (exclusive_or x y) (bit_xor a b) i)

xor_step : (x y : Bool) (a b : ℕ) → bit_xor (bit x + 2 * a) (bit y + 2 * b) ≡ bit (exclusive_or x y) + 2 * bit_xor a b
xor_step x y a b = same_from_bits (bit_xor (bit x + 2 * a) (bit y + 2 * b)) (bit (exclusive_or x y) + 2 * bit_xor a b) (λ i. xor_bit x y a b i)

-- all bits of one width more
ones_step : (n : ℕ) → 2 ^ suc n - 1 ≡ bit true + 2 * (2 ^ n - 1)
ones_step n = omega (arith, pow-suc 2 n, pow_pos n)

turned_step : (x : Bool) (n a : ℕ) → bit_xor (2 ^ suc n - 1) (bit x + 2 * a) ≡ bit (not x) + 2 * bit_xor (2 ^ n - 1) a
turned_step x n a = ap (λ m. bit_xor m (bit x + 2 * a)) (ones_step n) ∙ xor_step true x (2 ^ n - 1) a

not_xor : (x y : Bool) → not (exclusive_or x y) ≡ logic_truth logic.Xnor x y
not_xor true true = refl
not_xor true false = refl
not_xor false true = refl
not_xor false false = refl

xor_is : (x y : Bool) → exclusive_or x y ≡ logic_truth logic.Xor x y
xor_is true true = refl
xor_is true false = refl
xor_is false true = refl
xor_is false false = refl

same_step : (x y : Bool) (n a b : ℕ) → bit_xor (2 ^ suc n - 1) (bit_xor (bit x + 2 * a) (bit y + 2 * b)) ≡ bit (logic_truth logic.Xnor x y) + 2 * bit_xor (2 ^ n - 1) (bit_xor a b)
same_step x y n a b =
    ap (bit_xor (2 ^ suc n - 1)) (xor_step x y a b) ∙ turned_step (exclusive_or x y) n (bit_xor a b) ∙ ap (λ z. bit z + 2 * bit_xor (2 ^ n - 1) (bit_xor a b)) (not_xor x y)

-- one bit more
logic_step : (o : Logic) (x y : Bool) (n a b : ℕ) → logic_bits (2 ^ suc n - 1) o (bit x + 2 * a) (bit y + 2 * b) ≡ bit (logic_truth o x y) + 2 * logic_bits (2 ^ n - 1) o a b
logic_step logic.And x y n a b = and_step x y a b
logic_step logic.Or x y n a b = or_step x y a b
logic_step logic.Xor x y n a b = xor_step x y a b ∙ ap (λ z. bit z + 2 * bit_xor a b) (xor_is x y)
logic_step logic.Xnor x y n a b = same_step x y n a b
logic_step logic.Implies x y n a b = ap (λ m. bit_or m (bit y + 2 * b)) (turned_step x n a) ∙ or_step (not x) y (bit_xor (2 ^ n - 1) a) b
logic_step logic.Iff x y n a b = same_step x y n a b

no_bits : (o : Logic) → logic_bits (2 ^ 0 - 1) o 0 0 ≡ 0
no_bits logic.And = refl
no_bits logic.Or = refl
no_bits logic.Xor = refl
no_bits logic.Xnor = refl
no_bits logic.Implies = refl
no_bits logic.Iff = refl

pub number-bit_by_bit : (o : Logic) (xs ys : List Bool) → length xs ≡ length ys →
    number (λ b. b) (bit_by_bit (logic_truth o) xs ys) ≡ logic_bits (2 ^ length xs - 1) o (number (λ b. b) xs) (number (λ b. b) ys)
number-bit_by_bit o [] [] e = sym (no_bits o)
number-bit_by_bit o [] (y ∷ ys) e = absurd (omega arith)
number-bit_by_bit o (x ∷ xs) [] e = absurd (omega arith)
number-bit_by_bit o (x ∷ xs) (y ∷ ys) e =
    let rest = number-bit_by_bit o xs ys (omega arith) in
    ap (λ m. bit (logic_truth o x y) + 2 * m) rest ∙ sym (logic_step o x y (length xs) (number (λ b. b) xs) (number (λ b. b) ys))

pub flip_is : (n x : Bool) → exclusive_or (not n) x ≡ not (exclusive_or n x)
flip_is true true = refl
flip_is true false = refl
flip_is false true = refl
flip_is false false = refl

pub number-flip : (v : ℕ → Bool) (es : List Edge) → number_of v (map flip es) ≡ bit_xor (2 ^ length es - 1) (number_of v es)
number-flip v [] = refl
number-flip v (e ∷ es) =
    (λ i. bit (flip_is e.negated (v e.node) i) + 2 * number-flip v es i) ∙ sym (turned_step (edge_value v e) (length es) (number_of v es))

bit_by_bit-push : (f : Bool → Bool → Bool) (xs ys : List Bool) (x y : Bool) → length xs ≡ length ys → bit_by_bit f (xs ++ x ∷ []) (ys ++ y ∷ []) ≡ bit_by_bit f xs ys ++ f x y ∷ []
bit_by_bit-push f [] [] x y e = refl
bit_by_bit-push f [] (b ∷ ys) x y e = absurd (omega arith)
bit_by_bit-push f (a ∷ xs) [] x y e = absurd (omega arith)
bit_by_bit-push f (a ∷ xs) (b ∷ ys) x y e = ap (λ (l : List Bool). f a b ∷ l) (bit_by_bit-push f xs ys x y (omega arith))

values-push : (v : ℕ → Bool) (es : List Edge) (e : Edge) → values_of v (es ++ e ∷ []) ≡ values_of v es ++ edge_value v e ∷ []
values-push v [] e = refl
values-push v (d ∷ es) e = ap (λ (l : List Bool). edge_value v d ∷ l) (values-push v es e)

values-more : (v : ℕ → Bool) (es : List Edge) (i : ℕ) (d : Edge) → i < length es → values_of v (take (i + 1) es) ≡ values_of v (take i es) ++ edge_value v (get_or es i d) ∷ []
values-more v es i d l = ap (values_of v) (take_more es i d l) ∙ values-push v (take i es) (get_or es i d)

-- one place more
pub joined_more : (v : ℕ → Bool) (f : Bool → Bool → Bool) (a b : List Edge) (i : ℕ) (d c : Edge) (made : List Edge) (e : Edge) → i < length a → i < length b →
    values_of v made ≡ bit_by_bit f (values_of v (take i a)) (values_of v (take i b)) → edge_value v e ≡ f (edge_value v (get_or a i d)) (edge_value v (get_or b i c)) →
    values_of v (made ++ e ∷ []) ≡ bit_by_bit f (values_of v (take (i + 1) a)) (values_of v (take (i + 1) b))
joined_more v f a b i d c made e l m h k =
    let left : length (values_of v (take i a)) ≡ i = length-map (take i a) (edge_value v) ∙ length-take-le i a (omega arith) in
    let right : length (values_of v (take i b)) ≡ i = length-map (take i b) (edge_value v) ∙ length-take-le i b (omega arith) in
    values-push v made e ∙ (λ j. h j ++ k j ∷ [])
    ∙ sym (bit_by_bit-push f (values_of v (take i a)) (values_of v (take i b)) (edge_value v (get_or a i d)) (edge_value v (get_or b i c)) (left ∙ sym right))
    ∙ (λ j. bit_by_bit f (sym (values-more v a i d l) j) (sym (values-more v b i c m) j))

pub whole_lists : (v : ℕ → Bool) (f : Bool → Bool → Bool) (a b : List Edge) (i : ℕ) (r : List Edge) → length a ≤ i → length b ≤ i →
    values_of v r ≡ bit_by_bit f (values_of v (take i a)) (values_of v (take i b)) → values_of v r ≡ bit_by_bit f (values_of v a) (values_of v b)
whole_lists v f a b i r l m h = h ∙ (λ j. bit_by_bit f (values_of v (take_all i a l j)) (values_of v (take_all i b m j)))
