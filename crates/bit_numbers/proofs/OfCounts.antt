-- How many edges are true.
use Rattle.std.proofs.Common.{◌≡◌, ℕ, zero, suc, ◌+◌, ◌*◌, ◌%◌, ◌^◌, ◌<◌, ◌≤◌, Bool, true, false, cond, List, [], ◌∷◌, ◌++◌, length, take, get_or, map, min, refl, sym, ap, subst, ◌∙◌, arith, inl, inr, pos}
use Rattle.std.specs.Prelude.{Some, count_by}
use Rattle.std.specs.List.{list_all}
use Rattle.std.proofs.Math.Nat.{mod-eq_of_lt, pow-le-pow_right, pow-suc}
use Rattle.std.proofs.lemmas.Bool.{cases_Bool}
use Rattle.std.proofs.Math.ListN.{get_or-map}
use Rattle.std.proofs.lemmas.List.{length-map, length-take, take_all}
use Rattle.std.proofs.lemmas.List.Recursion.{is_count_by}
use Rattle.std.proofs.lemmas.Nat.{pow_pos}
use Rattle.std.proofs.lemmas.List.Sums.{count_by-le-length, count_by_more_no, count_by_more_yes}
use Rattle.smv_value.specs.declared.value.Value.{Value}
use Rattle.smv_value.specs.declared.value.Value.TheVariants as value
use Rattle.smv_value.specs.Results.{number_of_word, is_true, low_bits}
use Rattle.bit_graph.specs.declared.edge.Edge.{Edge}
use Rattle.bit_graph.specs.Meaning.{edge_value}
use Rattle.bit_graph.specs.declared.edge.GraphNode.{GraphNode}
use Rattle.bit_arith.specs.Number.{AllStand, bit, number_of}
use Rattle.bit_arith.specs.Words.{integer}
use Rattle.bit_arith.proofs.Numbers.{bit-le}
use Rattle.bit_values.specs.Bits.{least_bits}
use Rattle.bit_values.proofs.Widths.{least_width}
use Rattle.bit_operators.specs.declared.symbolic.Symbolic.{Symbolic}
use Rattle.bit_operators.specs.declared.symbolic.Symbolic.TheVariants as symbolic
use Rattle.bit_operators.specs.Denoting.{StandsIn, denoted, integer_of}
use Rattle.bit_operators.specs.Kinds.{is_boolean}
use Rattle.bit_numbers.specs.Counts.{AllStandIn, AreDenoted, count_true}
use Rattle.bit_numbers.proofs.OfIntegers.{integer_small}

-- one edge as a number
pub number_of_one : (v : ℕ → Bool) (e : Edge) (w : ℕ) → 0 < w → low_bits w (number_of_word false 1 (number_of v (e ∷ []))) ≡ bit (edge_value v e)
number_of_one v e zero h = absurd (omega arith)
number_of_one v e (suc w) h =
    let one : bit (edge_value v e) ≤ 1 = bit-le (edge_value v e) in
    let two : 2 ≤ 2 ^ suc w = omega (arith, pow-suc 2 w, pow_pos w) in
    let small : bit (edge_value v e) + 2 * 0 < 2 ^ suc w = omega arith in
    mod-eq_of_lt small ∙ omega arith

-- one more edge
pub count_more : (v : ℕ → Bool) (es : List Edge) (i : ℕ) (d : Edge) → i < length es → count_true v (take (i + 1) es) ≡ count_true v (take i es) + bit (edge_value v (get_or es i d))
count_more v es i d l =
    elim (cases_Bool (edge_value v (get_or es i d))) [
      | inl true_is ↦ count_by_more_yes (edge_value v) es i d l true_is ∙ ap (λ n. count_true v (take i es) + n) (sym (ap bit true_is))
      | inr false_is ↦ count_by_more_no (edge_value v) es i d l false_is ∙ (let e : count_true v (take i es) ≡ count_true v (take i es) + 0 = omega arith in e) ∙ ap (λ n. count_true v (take i es) + n) (sym (ap bit false_is))
    ]

-- so many edges are counted in this width
pub count_fits : (v : ℕ → Bool) (es : List Edge) (n w : ℕ) → length es ≤ n → w ≡ 1 + least_bits (n + 1) → 2 * count_true v es < 2 ^ w
count_fits v es n w l e =
    let most : n + 1 ≤ 2 ^ least_bits (n + 1) = (least_width (n + 1)).fits in
    let few : count_true v es ≤ length es = count_by-le-length (edge_value v) es in
    let double : 2 ^ suc (least_bits (n + 1)) ≡ 2 ^ least_bits (n + 1) * 2 = pow-suc 2 (least_bits (n + 1)) in
    let is : w ≡ suc (least_bits (n + 1)) = omega arith in
    let P : ℕ → Type 0 = λ m. 2 * count_true v es < 2 ^ m in
    subst P (sym is) (omega arith)

pub count_less : (v : ℕ → Bool) (es : List Edge) (i n w : ℕ) → length es ≤ n → w ≡ 1 + least_bits (n + 1) → count_true v (take i es) < 2 ^ w
count_less v es i n w l e =
    let part : length (take i es) ≤ n = omega (arith, length-take i es) in
    let h = count_fits v (take i es) n w part e in
    omega arith

-- what the operands stand for

same_some : {A : Type 0} (x y : A) → Some x ≡ Some y → x ≡ y
same_some x y e = cc

abbrev count_from : {A : Type 0} → (A → Bool) → List A → ℕ
count_from p [] = 0
count_from p (x ∷ xs) = cond (p x) (1 + count_from p xs) (count_from p xs)

counted_from : {A : Type 0} (p : A → Bool) (xs : List A) → count_from p xs ≡ count_by p xs
counted_from p xs = is_count_by (count_from p) p refl (λ y ys. refl) xs

same_count : (v : ℕ → Bool) (es : List Edge) (xs : List Value) → AreDenoted v (map symbolic.Boolean es) xs → count_from is_true xs ≡ count_from (edge_value v) es
same_count v [] [] h = refl
same_count v [] (x ∷ xs) h = absurd h
same_count v (e ∷ es) [] h = absurd h
same_count v (e ∷ es) (x ∷ xs) h =
    let is : value.Bool (edge_value v e) ≡ x = same_some (value.Bool (edge_value v e)) x h.0 in
    λ i. cond (is_true (sym is i)) (1 + same_count v es xs h.1 i) (same_count v es xs h.1 i)

-- the operands are these edges
pub booleans_counted : (v : ℕ → Bool) (ss : List Symbolic) (es : List Edge) (xs : List Value) (i : ℕ) → take i ss ≡ map symbolic.Boolean es → length ss ≤ i → AreDenoted v ss xs → count_by is_true xs ≡ count_true v es
booleans_counted v ss es xs i h l d =
    let is : ss ≡ map symbolic.Boolean es = sym (take_all i ss l) ∙ h in
    sym (counted_from is_true xs) ∙ same_count v es xs (subst (λ ts. AreDenoted v ts xs) is d) ∙ counted_from (edge_value v) es

pub booleans_stand : (g : List GraphNode) (ss : List Symbolic) (es : List Edge) (i : ℕ) → take i ss ≡ map symbolic.Boolean es → length ss ≤ i → AllStandIn g ss → AllStand g es
booleans_stand g ss es i h l s =
    let is : ss ≡ map symbolic.Boolean es = sym (take_all i ss l) ∙ h in
    let all : AllStandIn g (map symbolic.Boolean es) = subst (λ ts. AllStandIn g ts) is s in
    λ k d m. subst (StandsIn g) (get_or-map symbolic.Boolean es k d) (all k (symbolic.Boolean d) (omega (arith, length-map es symbolic.Boolean)))

-- the integer of a sum of all
pub counted_integer : (v : ℕ → Bool) (es r : List Edge) (i w : ℕ) → length es ≤ i → w ≡ 1 + least_bits (length es + 1) → length r ≡ w → number_of v r ≡ count_true v (take i es) →
    integer_of v r ≡ pos (count_true v es)
counted_integer v es r i w l e rl h =
    let is : number_of v r ≡ count_true v es = h ∙ ap (count_true v) (take_all i es l) in
    (λ t. integer (rl t) (is t)) ∙ integer_small w (count_true v es) (count_fits v es (length es) w (omega arith) e)

-- the sum with one edge more
pub counted_more : (v : ℕ → Bool) (es sum one more : List Edge) (i w : ℕ) (d : Edge) → i < length es → w ≡ 1 + least_bits (length es + 1) → number_of v sum ≡ count_true v (take i es) →
    number_of v one ≡ bit (edge_value v (get_or es i d)) → number_of v more ≡ (number_of v sum + number_of v one) % 2 ^ w → number_of v more ≡ count_true v (take (i + 1) es)
counted_more v es sum one more i w d l e hs ho hm =
    let is : number_of v sum + number_of v one ≡ count_true v (take (i + 1) es) = (λ t. hs t + ho t) ∙ sym (count_more v es i d l) in
    hm ∙ ap (λ n. n % 2 ^ w) is ∙ mod-eq_of_lt (count_less v es (i + 1) (length es) w (omega arith) e)

made_of_edges : (es : List Edge) → list_all is_boolean (map symbolic.Boolean es) ≡ true
made_of_edges [] = refl
made_of_edges (e ∷ es) = made_of_edges es

-- all operands are booleans where all of them are edges
pub all_booleans : (ss : List Symbolic) (es : List Edge) (i : ℕ) → take i ss ≡ map symbolic.Boolean es → length ss ≤ i → list_all is_boolean ss ≡ true
all_booleans ss es i h l = ap (list_all is_boolean) (sym (take_all i ss l) ∙ h) ∙ made_of_edges es
