use Rattle.std.proofs.Common.{SFits, w64, rules}
use Rattle.std.specs.Int.{int_max, int_min}
use Rattle.smv_kinds.specs.Intervals.{spanned}
use Rattle.smv_kinds.proofs.Passing.{nested, of_passed}
use Rattle.smv_kinds.proofs.intervals.spanned.Goals as goal

pub returns : goal.returns
unfolding spanned
returns c =
    let x = c.args in
    let at = c.ranges in
    let f : SFits w64 c.lesser.result = search rules in
    let g : SFits w64 c.lesser-2.result = search rules in
    let h : SFits w64 c.lesser-3.result = search rules in
    let i : SFits w64 c.greater.result = search rules in
    let j : SFits w64 c.greater-2.result = search rules in
    let k : SFits w64 c.greater-3.result = search rules in
    let low = nested w64 int_min c.lesser.result c.lesser-2.result c.lesser-3.result (int_min x.a x.b) (int_min x.c x.d) f g h c.lesser-3.ensures
    (of_passed w64 int_min x.a x.b c.lesser.result at.a at.b c.lesser.ensures) (of_passed w64 int_min x.c x.d c.lesser-2.result at.c at.d c.lesser-2.ensures) in
    let high = nested w64 int_max c.greater.result c.greater-2.result c.greater-3.result (int_max x.a x.b) (int_max x.c x.d) i j k c.greater-3.ensures
    (of_passed w64 int_max x.a x.b c.greater.result at.a at.b c.greater.ensures) (of_passed w64 int_max x.c x.d c.greater-2.result at.c at.d c.greater-2.ensures) in
    rw (low, high)
