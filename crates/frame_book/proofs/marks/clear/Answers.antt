use Rattle.std.proofs.Common.{◌≡◌, inl, inr, ℕ, Bool, false, List, length, replicate, ap, subst, ◌∙◌, sym, set, length-set, arith}
use Rattle.std.specs.Prelude.{slice_index_or}
use Rattle.std.proofs.lemmas.Bool.{cases_eq, cases_lt}
use Rattle.frame_book.proofs.Marking.{all_clear, reset_here, reset_clear}
use Rattle.frame_book.proofs.marks.clear.Goals as goal

pub loop-i-preserved : goal.loop-i-preserved
loop-i-preserved c =
    let bs : List Bool = c.loop-i.marks.items in
    let i : ℕ = c.loop-i.i in
    let is : c.reset.new.marks.items ≡ set bs i false = c.reset.ensures in (
      ap length is ∙ length-set bs i false ∙ c.loop-i.invariant.0,
      λ k lt. subst (λ (z : List Bool). slice_index_or z k false ≡ false) (sym is) (elim (cases_eq k i) [
        | inl e ↦ subst (λ (n : ℕ). slice_index_or (set bs i false) n false ≡ false) (sym e) (reset_here bs i)
        | inr ne ↦ reset_clear bs i k (c.loop-i.invariant.1 k (omega (arith, lt, ne)))
      ]),
      λ k le. subst (λ (z : List Bool). slice_index_or z k false ≡ false) (sym is) (reset_clear bs i k (c.loop-i.invariant.2 k le)),
    )

pub returns : goal.returns
returns c =
    let bs : List Bool = c.loop-i.marks.items in
    let test = c.loop-i-test.false in
    all_clear bs (λ k. elim (cases_lt k c.args.beyond) [
      | inl lt ↦ c.loop-i.invariant.1 k (omega (arith, test, lt))
      | inr le ↦ c.loop-i.invariant.2 k le
    ]) ∙ ap (λ (n : ℕ). replicate n false) c.loop-i.invariant.0
