-- Sizes of arrays, and counts that stop at a limit.
use Rattle.std.proofs.Common.{◌≡◌, ℕ, zero, suc, ◌+◌, ◌*◌, ◌<◌, ◌≤◌, inl, inr, List, [], ◌∷◌, ◌++◌, length, get_or, take, sym, ap, ◌∙◌, arith}
use Rattle.std.specs.Prelude.{min}
use Rattle.std.proofs.lemmas.Bool.{cases_lt}
use Rattle.std.proofs.lemmas.List.{take_more}
use Rattle.std.proofs.lemmas.List.Sums.{sum_by-append}
use Rattle.std.proofs.Math.Nat.{mul_assoc, mul_comm, mul-zero}
use Rattle.smv_declared.specs.declared.variable_type.Bounds.{Bounds}
use Rattle.smv_declared.specs.declared.variable_type.VariableType.{VariableType}
use Rattle.smv_declared.specs.Types.{size_of, slots_in}

-- the innermost dimension is counted last
size_of-last : (bs : List Bounds) (b : Bounds) → size_of (bs ++ b ∷ []) ≡ size_of bs * b.count
size_of-last [] b = mul_comm b.count 1
size_of-last (x ∷ bs) b = ap (λ n. x.count * n) (size_of-last bs b) ∙ sym (mul_assoc x.count (size_of bs) b.count)

-- a factor beyond the limit may be taken as the limit

at_limit : (s m c : ℕ) → m ≤ s → min (m * c) m ≡ min (s * c) m
at_limit s m zero over = ap (λ n. min n m) (mul-zero m ∙ sym (mul-zero s))
at_limit s m (suc c) over = omega arith

limited : (s m c : ℕ) → min (min s m * c) m ≡ min (s * c) m
limited s m c = elim (cases_lt s m) [
  | inl below ↦ (let same : min s m ≡ s = omega arith in ap (λ n. min (n * c) m) same)
  | inr over ↦ (let same : min s m ≡ m = omega arith in ap (λ n. min (n * c) m) same ∙ at_limit s m c over)
]

stopped : (n top m : ℕ) → m ≤ top → min (min n top) m ≡ min n m
stopped n top m below = omega arith

-- the size of one dimension more
pub size_more : (bs : List Bounds) (i : ℕ) (d : Bounds) (m top size product more : ℕ) → m ≤ top → i < length bs → size ≡ min (size_of (take i bs)) m →
    product ≡ min (size * (get_or bs i d).count) top → more ≡ min product m → more ≡ min (size_of (take (i + 1) bs)) m
size_more bs i d m top size product more below within so_far one last =
    let b = get_or bs i d in
    let whole : size_of (take (i + 1) bs) ≡ size_of (take i bs) * b.count = ap size_of (take_more bs i d within) ∙ size_of-last (take i bs) b in
    last ∙ ap (λ n. min n m) one ∙ stopped (size * b.count) top m below ∙ ap (λ n. min (n * b.count) m) so_far ∙ limited (size_of (take i bs)) m b.count
    ∙ ap (λ n. min n m) (sym whole)

-- one type more

slots_more : (all : List VariableType) (t : VariableType) → slots_in (all ++ t ∷ []) ≡ slots_in all + size_of t.dimensions
slots_more all t =
    let alone : 0 + size_of t.dimensions ≡ size_of t.dimensions = omega arith in
    sum_by-append (λ (t : VariableType). size_of t.dimensions) all (t ∷ []) ∙ ap (λ n. slots_in all + n) alone

summed : (a b m top : ℕ) → m ≤ top → min (min (min a m + min b m) top) m ≡ min (a + b) m
summed a b m top below = omega arith

pub counted_more : (all : List VariableType) (t : VariableType) (m top slots size total more : ℕ) → m ≤ top → slots ≡ min (slots_in all) m → size ≡ min (size_of t.dimensions) m →
    total ≡ min (slots + size) top → more ≡ min total m → more ≡ min (slots_in (all ++ t ∷ [])) m
counted_more all t m top slots size total more below so_far one both last =
    last ∙ ap (λ n. min n m) (both ∙ ap (λ n. min (n + size) top) so_far ∙ ap (λ n. min (min (slots_in all) m + n) top) one)
    ∙ summed (slots_in all) (size_of t.dimensions) m top below ∙ ap (λ n. min n m) (sym (slots_more all t))
