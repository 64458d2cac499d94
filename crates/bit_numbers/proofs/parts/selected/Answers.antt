-- Some of the bits.
use Rattle.std.proofs.Common.{rules, ◌≡◌, ◌+◌, ◌-◌, take, drop, length, pos, sym, ap, subst, ◌∙◌, unsigned_abs}
use Rattle.std.specs.Prelude.{int_le, int_lt}
use Rattle.std.proofs.lemmas.Int.{to_z-of_z}
use mir.Syntax.{w64}
use mir.Val.{SFits}
use Rattle.bit_numbers.proofs.OfOperators.{selected_by}
use Rattle.bit_numbers.proofs.parts.selected.Goals as goal

pub returns-in_ok-part-in-Word-clause-value : goal.returns-in_ok-part-in-Word-clause-value
returns-in_ok-part-in-Word-clause-value c = λ v.
    let f : SFits w64 c.width.result = search rules in
    let high = to_z-of_z w64 c.args.high c.ranges.high in
    let low = to_z-of_z w64 c.args.low c.ranges.low in
    let width = to_z-of_z w64 c.width.result f ∙ c.width.ensures ∙ ap (λ l. pos (length l)) c.as_slice.ensures in
    selected_by v c.args.a.now c.in-Word.signed c.in-Word.bits c.in_ok-part-in-Word.part.items c.from_vec.result c.args.high c.args.low c.in-Word.is
    (sym (ap (int_le (pos 0)) low) ∙ c.if-low-ge0.true) (sym (λ i. int_le (low i) (high i)) ∙ c.if-low-high.true) (sym (λ i. int_lt (high i) (width i)) ∙ c.if-high-width.true)
    (c.in_ok-part-in-Word.ensures
    ∙ (λ i. take (unsigned_abs (high i) - unsigned_abs (low i) + 1) (drop (unsigned_abs (low i)) (c.as_slice-then-high-width.ensures i)))) c.from_vec.ensures
