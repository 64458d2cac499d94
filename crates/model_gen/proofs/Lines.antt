-- The lines of one more cell.
use Rattle.std.proofs.Common.{◌≡◌, ℕ, zero, suc, ◌+◌, List, [], ◌∷◌, ◌++◌, sym, ap, ◌∙◌, arith, append-nil}
use Rattle.std.specs.List.{flat_map, range_with_len}
use Rattle.std.proofs.lemmas.Grind.{flat_map-append}
use Rattle.model_gen.specs.Ring.{cell_line}

range_more : (a n : ℕ) → range_with_len a (suc n) ≡ range_with_len a n ++ (a + n) ∷ []
range_more a zero = ap (λ m. m ∷ []) (let e : a ≡ a + 0 = omega arith in e)
range_more a (suc n) =
    ap (λ (l : List ℕ). a ∷ l) (range_more (a + 1) n ∙ ap (λ m. range_with_len (a + 1) n ++ m ∷ []) (let e : (a + 1) + n ≡ a + suc n = omega arith in e))

numbers_more : {A : Type 0} (f : ℕ → List A) (i : ℕ) → flat_map f (range_with_len 0 (i + 1)) ≡ flat_map f (range_with_len 0 i) ++ f i
numbers_more {A} f i =
    ap (λ n. flat_map f (range_with_len 0 n)) (let e : i + 1 ≡ suc i = omega arith in e)
    ∙ ap (flat_map f) (range_more 0 i)
    ∙ flat_map-append f (range_with_len 0 i) ((0 + i) ∷ [])
    ∙ ap (λ (l : List A). flat_map f (range_with_len 0 i) ++ l) (append-nil (f (0 + i)) ∙ ap f (let e : 0 + i ≡ i = omega arith in e))

-- those of the cells so far, and of this one
pub cells_more : (cells start i : ℕ) → flat_map (cell_line cells start) (range_with_len 0 i) ++ cell_line cells start i ≡ flat_map (cell_line cells start) (range_with_len 0 (i + 1))
cells_more cells start i = sym (numbers_more (cell_line cells start) i)
