use Rattle.std.proofs.Common.{◌≡◌, ℕ, ◌+◌, ◌*◌, ◌^◌, ◌<◌, ◌≤◌, ◌%◌, Bool, true, false, cond, List, [], ◌∷◌, length, take, drop, map, refl, sym, ◌∙◌, ap, arith, suc, zero}
use Rattle.std.proofs.Math.Nat.{pow-suc, add-mod-mod, mod-add-mod, add-mul-mod_self_left, mod-eq_of_lt}
use Rattle.std.proofs.lemmas.Nat.{mul-mod_second}
use Rattle.std.proofs.lemmas.List.Elements.{All-map}
use Rattle.bit_graph.specs.declared.edge.Edge.{Edge}
use Rattle.bit_graph.specs.declared.edge.GraphNode.{GraphNode}
use Rattle.bit_graph.specs.Meaning.{edge_value, Stands}
use Rattle.bit_arith.specs.Number.{bit, number, number_of, values_of, AllStand}
use Rattle.bit_arith.proofs.Numbers.{number-take_lt}

pub AllStand-constant : (g : List GraphNode) (e : Edge) (a : List Edge) → Stands g e → AllStand g (map (λ _. e) a)
AllStand-constant g e a h = All-map (Stands g) (λ (_ : Edge). e) a (λ k d l. h)

pub number_of-zeros : (v : ℕ → Bool) (e : Edge) (a : List Edge) → edge_value v e ≡ false → number_of v (map (λ _. e) a) ≡ 0
number_of-zeros v e [] h = refl
number_of-zeros v e (x ∷ xs) h = let k = number_of-zeros v e xs h in let z : bit (edge_value v e) ≡ 0 = ap bit h in omega (arith, k, z)

-- a number is that of its bits
pub number_of-values : (v : ℕ → Bool) (es : List Edge) → number_of v es ≡ number (λ b. b) (values_of v es)
number_of-values v [] = refl
number_of-values v (e ∷ es) = ap (λ n. bit (edge_value v e) + 2 * n) (number_of-values v es)

pub number_of-chosen : (v : ℕ → Bool) (c : Bool) (r a b : List Edge) → values_of v r ≡ cond c (values_of v a) (values_of v b) → number_of v r ≡ cond c (number_of v a) (number_of v b)
number_of-chosen v true r a b h = number_of-values v r ∙ ap (number (λ b. b)) h ∙ sym (number_of-values v a)
number_of-chosen v false r a b h = number_of-values v r ∙ ap (number (λ b. b)) h ∙ sym (number_of-values v b)

pub number-split : {A : Type 0} (f : A → Bool) (n : ℕ) (xs : List A) → n ≤ length xs → number f xs ≡ number f (take n xs) + 2 ^ n * number f (drop n xs)
number-split f zero xs h = omega arith
number-split f (suc n) [] h = absurd (omega arith)
number-split f (suc n) (x ∷ xs) h =
    let k = number-split f n xs (omega arith) in
    rw (pow-suc 2 n) (omega (arith, k))

pub number-take_mod : {A : Type 0} (f : A → Bool) (n : ℕ) (xs : List A) → n ≤ length xs → number f (take n xs) ≡ number f xs % 2 ^ n
number-take_mod f n xs h =
    let low : number f (take n xs) < 2 ^ n = number-take_lt f xs n h in
    sym (ap (λ m. m % 2 ^ n) (number-split f n xs h) ∙ add-mul-mod_self_left (number f (take n xs)) (2 ^ n) (number f (drop n xs)) ∙ mod-eq_of_lt low)

pub times_bit : (c : Bool) (n z : ℕ) → z ≡ 0 → cond c n z ≡ n * bit c
times_bit true n z h = omega arith
times_bit false n z h = omega (arith, h)

-- one step of the product, from the highest bit down
pub horner : (p m d x n : ℕ) → n ≡ (m * d) % p → ((2 * n) % p + m * x) % p ≡ (m * (x + 2 * d)) % p
horner p m d x n h =
    mod-add-mod (2 * n) p (m * x)
    ∙ ap (λ k. (2 * k + m * x) % p) h
    ∙ ap (λ k. k % p) (let e : 2 * ((m * d) % p) + m * x ≡ m * x + 2 * ((m * d) % p) = omega arith in e)
    ∙ sym (add-mod-mod (m * x) (2 * ((m * d) % p)) p)
    ∙ ap (λ k. (m * x + k) % p) (mul-mod_second 2 (m * d) p)
    ∙ add-mod-mod (m * x) (2 * (m * d)) p
    ∙ ap (λ k. k % p) (let e : m * x + 2 * (m * d) ≡ m * (x + 2 * d) = omega arith in e)
