-- A read of the first n bytes that are left, at the position p.
use Rattle.std.proofs.Common.{◌≡◌, ℕ, ◌+◌, ◌≤◌, List, ◌++◌, length, take, drop, sym, ap, ◌∙◌, arith, take-append-drop, length-take}
use Rattle.std.proofs.lemmas.List.{drop-drop}
use Rattle.std.proofs.Math.Seq.{take-append_seam}

-- what was left is the bytes given, and then what is left from the next position on
pub read_front : (xs rest copied tail : List ℕ) (p n : ℕ) → rest ≡ drop p xs → copied ≡ take n rest → n ≤ length rest
    → drop p xs ≡ take n (copied ++ tail) ++ drop (p + n) xs
read_front xs rest copied tail p n r e h =
    let len : length copied ≡ n = omega (arith, ap length e, length-take n rest) in
    let seam : take n (copied ++ tail) ≡ copied = ap (λ (k : ℕ). take k (copied ++ tail)) (sym len) ∙ take-append_seam copied tail in
    let joined : take n rest ++ drop n rest ≡ rest = take-append-drop n rest in
    let twice : drop n (drop p xs) ≡ drop (p + n) xs = drop-drop n p xs in
    cc
