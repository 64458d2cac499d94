-- More on what a sink takes of a piece.
use Rattle.std.proofs.Common.{◌≡◌, ℕ, ◌+◌, ◌-◌, List, ◌++◌, length, take, drop, sym, subst, ap, ◌∙◌, arith, length-drop}
use Rattle.std.specs.declared.option.Option.{Option}
use Rattle.std.proofs.Math.Seq.{take-add}
use Rattle.std.proofs.lemmas.List.{take_all}
use Rattle.std.proofs.KnownBytes.{Appends-trans}
use Rattle.std.specs.Io.KnownBytes.{Appends}

-- the first n bytes, and then the first m of the rest, which the code has as `&piece[n..]`
pub Appends-more : (old mid new : Option (List ℕ)) (piece : List ℕ) (n m : ℕ) → Appends old mid (take n piece)
    → Appends mid new (take m (take (length piece - n) (drop n piece))) → Appends old new (take (n + m) piece)
Appends-more old mid new piece n m first second =
    let rest : take (length piece - n) (drop n piece) ≡ drop n piece = take_all _ _ (omega (arith, length-drop n piece)) in
    let joined : take n piece ++ take m (take (length piece - n) (drop n piece)) ≡ take (n + m) piece = ap (λ (r : List ℕ). take n piece ++ take m r) rest ∙ sym (take-add n m piece) in
    subst (Appends old new) joined (Appends-trans old mid new _ _ first second)
