-- Edges of inputs and the values that they are.
use Rattle.std.proofs.Common.{◌≡◌, ◌∙◌, ℕ, zero, suc, ◌+◌, ◌<◌, ◌≤◌, Bool, List, ◌∷◌, map, ap, refl, arith, length, All}
use Rattle.std.specs.List.{range_with_len}
use Rattle.std.proofs.lemmas.Simd.{map-map}
use Rattle.std.proofs.lemmas.List.{length-map}
use Rattle.std.proofs.lemmas.List.Elements.{All-map}
use Rattle.std.proofs.lemmas.List.FromFn.{length-range_with_len}
use Rattle.bit_graph.specs.declared.edge.Edge.{Edge}
use Rattle.bit_graph.specs.declared.edge.GraphNode.{GraphNode}
use Rattle.bit_graph.specs.Meaning.{edge_value, Stands}
use Rattle.bit_arith.specs.Number.{AllStand, values_of}
use Rattle.value_types.specs.declared.value_type.ValueType.{ValueType}
use Rattle.bit_states.specs.Coding.{decoded}
use Rattle.bit_states.specs.Values.{decoded_all}
use Rattle.bit_system.specs.Conditions.{edges_of, input}

pub plain : (k : ℕ) → 0 + k ≡ k
plain k = omega arith

-- numbers of a range are below its end
pub range_below : (k start end : ℕ) → start + k ≤ end → All (λ i. i < end) (range_with_len start k)
range_below zero start end h j d lt = absurd (let none : ⊥ = omega (arith, lt) in none)
range_below (suc k) start end h zero d lt = omega (arith, h)
range_below (suc k) start end h (suc j) d lt = range_below k (start + 1) end (omega (arith, h)) j d (omega (arith, lt))

pub edges_stand : (g : List GraphNode) (start k : ℕ) → start + k ≤ length g → AllStand g (edges_of (range_with_len start k))
edges_stand g start k h = All-map (Stands g) input (range_with_len start k) (range_below k start (length g) h)

pub length_edges : (start k : ℕ) → length (edges_of (range_with_len start k)) ≡ k
length_edges start k = length-map (range_with_len start k) input ∙ length-range_with_len start k

-- the values of inputs' edges are those of the bits
pub values_framed : (v : ℕ → Bool) (bits : List ℕ) → values_of v (edges_of bits) ≡ map v bits
values_framed v bits = map-map (edge_value v) input bits

-- edges that are those of these bits have the values that the bits are
pub framed : (types : List ValueType) (v : ℕ → Bool) (bits : List Edge) (ns ms : List ℕ) → bits ≡ edges_of ns → ns ≡ ms → decoded_all types (values_of v bits) ≡ decoded types ms v
framed types v bits ns ms bits_are ns_are =
    ap (λ (es : List Edge). decoded_all types (values_of v es)) bits_are
    ∙ ap (decoded_all types) (values_framed v ns)
    ∙ ap (λ (ks : List ℕ). decoded types ks v) ns_are

-- bits elsewhere, the same values
pub map_moved : (a b : ℕ → Bool) (k from to : ℕ) → ((i : ℕ) → i < k → a (from + i) ≡ b (to + i)) → map a (range_with_len from k) ≡ map b (range_with_len to k)
map_moved a b zero from to same = refl
map_moved a b (suc k) from to same =
    let here : a from ≡ b to = ap a (let e : from ≡ from + 0 = omega arith in e) ∙ same 0 (omega arith) ∙ ap b (let e : to + 0 ≡ to = omega arith in e) in
    let rest : map a (range_with_len (from + 1) k) ≡ map b (range_with_len (to + 1) k) =
    map_moved a b k (from + 1) (to + 1) (λ i lt.
    ap a (let e : (from + 1) + i ≡ from + suc i = omega arith in e) ∙ same (suc i) (omega (arith, lt)) ∙ ap b (let e : to + suc i ≡ (to + 1) + i = omega arith in e)) in
    λ i. here i ∷ rest i

pub decoded_moved : (types : List ValueType) (a b : ℕ → Bool) (k from to : ℕ) → ((i : ℕ) → i < k → a (from + i) ≡ b (to + i))
    → decoded types (range_with_len from k) a ≡ decoded types (range_with_len to k) b
decoded_moved types a b k from to same = ap (decoded_all types) (map_moved a b k from to same)

-- the same bits, the same values
pub decoded_same : (types : List ValueType) (a b : ℕ → Bool) (start k : ℕ) → ((i : ℕ) → i < start + k → a i ≡ b i) → decoded types (range_with_len start k) a ≡ decoded types (range_with_len start k) b
decoded_same types a b start k same = decoded_moved types a b k start start (λ i lt. same (start + i) (omega (arith, lt)))
