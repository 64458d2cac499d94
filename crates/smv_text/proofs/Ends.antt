-- The end of a comment, as a loop looks for it.
use Rattle.std.proofs.Common.{◌≡◌, ℕ, suc, ◌+◌, ◌<◌, false, List, ◌∷◌, length, drop, get_or, Option, Some, None, refl, ap, ◌∙◌, arith, add-one}
use Rattle.std.proofs.Math.Seq.{drop-cons}
use Rattle.smv_text.specs.Comments.{end_of, ends_here, one_more}

-- a number more
abbrev pub shift : ℕ → Option ℕ → Option ℕ
shift n None = None
shift n (Some k) = Some (n + k)

shift_next : (n : ℕ) (r : Option ℕ) → shift n (one_more r) ≡ shift (n + 1) r
shift_next n None = refl
shift_next n (Some k) = ap (λ (j : ℕ). Some j) (omega arith)

-- no end stands here, so it is one byte on
pub end_on : (bs : List ℕ) (n : ℕ) (t : Option ℕ) → n < length bs → ends_here (drop n bs) ≡ false → t ≡ shift n (end_of (drop n bs)) → t ≡ shift (n + 1) (end_of (drop (n + 1) bs))
end_on bs n t lt h e =
    let cons : drop n bs ≡ get_or bs n 0 ∷ drop (suc n) bs = drop-cons bs n 0 lt in
    let h' : ends_here (get_or bs n 0 ∷ drop (suc n) bs) ≡ false = rw cons at h in
    let step : end_of (drop n bs) ≡ one_more (end_of (drop (suc n) bs)) = rw (cons, h') refl in
    e ∙ ap (shift n) step ∙ shift_next n (end_of (drop (suc n) bs)) ∙ rw add-one refl
