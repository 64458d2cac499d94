use Rattle.std.proofs.Common.{◌≡◌, ℕ, ◌+◌, ◌-◌, ◌*◌, ◌^◌, ◌<◌, ◌≤◌, ◌%◌, ◌⊎◌, Bool, true, false, List, [], ◌∷◌, ◌++◌, length, get_or, take, drop, refl, sym, ◌∙◌, ap, subst, arith, suc, zero, add-one, not, map, eqb, ltb, ◌&&◌, cond, inl, inr}
use Rattle.std.proofs.Math.Nat.{pow-suc}
use Rattle.std.proofs.lemmas.Bool.{eq-eqb, ne_eqb, lt-ltb, le-ltb, cases_order, cases_lt}
use Rattle.std.proofs.lemmas.List.{take_more, length-take-le}
use Rattle.std.proofs.lemmas.Nat.{mod-mul-add}
use Rattle.std.proofs.lemmas.List.Elements.{All-weaker, All-map}
use Rattle.bit_graph.specs.declared.edge.Edge.{Edge}
use Rattle.bit_graph.specs.declared.edge.GraphNode.{GraphNode}
use Rattle.bit_graph.specs.Growth.{Extends}
use Rattle.bit_graph.specs.Meaning.{exclusive_or, Stands}
use Rattle.bit_arith.specs.Number.{bit, number, number_of, flip, AllStand}

pub number-push : {A : Type 0} (f : A → Bool) (xs : List A) (x : A) → number f (xs ++ x ∷ []) ≡ number f xs + 2 ^ length xs * bit (f x)
number-push f [] x = omega arith
number-push f (y ∷ ys) x = rw (number-push f ys x, pow-suc 2 (length ys)) (omega arith)

pub number_more : {A : Type 0} (f : A → Bool) (xs : List A) (i : ℕ) (d : A) → i < length xs →
    number f (take (i + 1) xs) ≡ number f (take i xs) + 2 ^ i * bit (f (get_or xs i d))
number_more f xs i d h =
    let e : length (take i xs) ≡ i = length-take-le i xs (omega arith) in
    ap (number f) (take_more xs i d h) ∙ number-push f (take i xs) (get_or xs i d) ∙ ap (λ n. number f (take i xs) + 2 ^ n * bit (f (get_or xs i d))) e

pub carry_step : (p s o a b c low high x y : ℕ) → s + p * o ≡ a + b + c → low + 2 * high ≡ x + y + o →
    (s + p * low) + (2 * p) * high ≡ (a + p * x) + (b + p * y) + c
carry_step p s o a b c low high x y h k =
    let e : p * (low + 2 * high) ≡ p * (x + y + o) = ap (λ n. p * n) k in omega arith

pub Extends-trans : {f g h : List GraphNode} → Extends f g → Extends g h → Extends f h
Extends-trans p q = record {
  longer = omega (arith, p.longer, q.longer);
  kept = λ v c. p.kept v (q.kept v c);
  values = λ a e b s. q.values a e b (p.values a e b s);
  inputs = λ n i. q.inputs n (p.inputs n i);
}

pub AllStand-extends : (g h : List GraphNode) (es : List Edge) → Extends g h → AllStand g es → AllStand h es
AllStand-extends g h es e s = All-weaker (Stands g) (Stands h) (λ x l. omega (arith, e.longer)) es s

pub bit-le : (b : Bool) → bit b ≤ 1
bit-le true = omega arith
bit-le false = omega arith

pub number-lt : {A : Type 0} (f : A → Bool) (xs : List A) → number f xs < 2 ^ length xs
number-lt f [] = omega arith
number-lt f (x ∷ xs) = rw (pow-suc 2 (length xs)) (omega (arith, number-lt f xs, bit-le (f x)))

pub low_part : (s p o n : ℕ) → s < p → s + p * o ≡ n → s ≡ n % p
low_part s p o n l e =
    let f : (o * p + s) % p ≡ s = mod-mul-add o p s l in
    let g : o * p + s ≡ n = omega (arith, e) in
    sym f ∙ ap (λ m. m % p) g

pub pow_more : (i : ℕ) → 2 ^ (i + 1) ≡ 2 * 2 ^ i
pow_more i = ap (λ n. 2 ^ n) (add-one i) ∙ pow-suc 2 i ∙ omega arith

exclusive_or-not : (v : ℕ → Bool) (p y : Bool) → bit (exclusive_or (not p) y) + bit (exclusive_or p y) ≡ 1
exclusive_or-not v true true = refl
exclusive_or-not v true false = refl
exclusive_or-not v false true = refl
exclusive_or-not v false false = refl

pub number_of-flip : (v : ℕ → Bool) (es : List Edge) → number_of v (map flip es) + number_of v es + 1 ≡ 2 ^ length es
number_of-flip v [] = refl
number_of-flip v (e ∷ es) =
    let h = exclusive_or-not v e.negated (v e.node) in
    let k = number_of-flip v es in
    rw (pow-suc 2 (length es)) (omega (arith, h, k))

pub AllStand-flip : (g : List GraphNode) (es : List Edge) → AllStand g es → AllStand g (map flip es)
AllStand-flip g es h = All-map (Stands g) flip es h

apart : (p a b : ℕ) → (a < b) ⊎ (b < a) → a + p * 1 ≡ b + p * 1 → ⊥
apart p a b (inl h) e = omega arith
apart p a b (inr h) e = omega arith

same_apart : (a b : ℕ) → (a < b) ⊎ (b < a) → a ≡ b → ⊥
same_apart a b (inl h) e = omega arith
same_apart a b (inr h) e = omega arith

pub eq_step : (p a b : ℕ) (x y : Bool) → a < p → b < p → eqb (a + p * bit x) (b + p * bit y) ≡ (eqb (bit x) (bit y) && eqb a b)
eq_step p a b true true l m =
    elim (cases_order a b) [
      | inl e ↦ eq-eqb (a + p * 1) (b + p * 1) (omega arith) ∙ sym (eq-eqb a b e)
      | inr o ↦ ne_eqb (a + p * 1) (b + p * 1) (λ e. absurd (apart p a b o e)) ∙ sym (ne_eqb a b (λ e. absurd (same_apart a b o e)))
    ]
eq_step p a b true false l m = ne_eqb (a + p * 1) (b + p * 0) (λ e. omega arith)
eq_step p a b false true l m = ne_eqb (a + p * 0) (b + p * 1) (λ e. omega arith)
eq_step p a b false false l m =
    elim (cases_order a b) [
      | inl e ↦ eq-eqb (a + p * 0) (b + p * 0) (omega arith) ∙ sym (eq-eqb a b e)
      | inr o ↦ ne_eqb (a + p * 0) (b + p * 0) (λ e. absurd (same_apart a b o (omega arith))) ∙ sym (ne_eqb a b (λ e. absurd (same_apart a b o e)))
    ]

pub less_step : (p a b : ℕ) (x y : Bool) → a < p → b < p → ltb (a + p * bit x) (b + p * bit y) ≡ cond (eqb (bit x) (bit y)) (ltb a b) y
less_step p a b true true l m =
    elim (cases_lt a b) [
      | inl e ↦ lt-ltb (a + p * 1) (b + p * 1) (omega arith) ∙ sym (lt-ltb a b e)
      | inr o ↦ le-ltb (a + p * 1) (b + p * 1) (omega arith) ∙ sym (le-ltb a b o)
    ]
less_step p a b true false l m = le-ltb (a + p * 1) (b + p * 0) (omega arith)
less_step p a b false true l m = lt-ltb (a + p * 0) (b + p * 1) (omega arith)
less_step p a b false false l m =
    elim (cases_lt a b) [
      | inl e ↦ lt-ltb (a + p * 0) (b + p * 0) (omega arith) ∙ sym (lt-ltb a b e)
      | inr o ↦ le-ltb (a + p * 0) (b + p * 0) (omega arith) ∙ sym (le-ltb a b o)
    ]

pub number-take_lt : {A : Type 0} (f : A → Bool) (xs : List A) (i : ℕ) → i ≤ length xs → number f (take i xs) < 2 ^ i
number-take_lt f xs i h =
    let P : ℕ → Type 0 = λ n. number f (take i xs) < 2 ^ n in
    subst P (length-take-le i xs h) (number-lt f (take i xs))

-- the low bits of a - b + p are the difference
pub difference_is : (p low a b : ℕ) (c : Bool) → low + p * bit c + b ≡ a + p → low < p → low ≡ (a + p - b) % p
difference_is p low a b true e l =
    let f : a + p - b ≡ 1 * p + low = omega arith in
    sym (ap (λ m. m % p) f ∙ mod-mul-add 1 p low l)
difference_is p low a b false e l =
    let f : a + p - b ≡ 0 * p + low = omega arith in
    sym (ap (λ m. m % p) f ∙ mod-mul-add 0 p low l)

pub number-drop_le : {A : Type 0} (f : A → Bool) (i : ℕ) (xs : List A) → number f (drop i xs) ≤ number f xs
number-drop_le f zero xs = omega arith
number-drop_le f (suc i) [] = omega arith
number-drop_le f (suc i) (x ∷ xs) = omega (arith, number-drop_le f i xs)
