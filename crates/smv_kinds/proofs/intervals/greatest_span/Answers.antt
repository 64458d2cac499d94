use Rattle.std.proofs.Common.{◌∙◌, SFits, w32, w64, rules}
use Rattle.std.specs.Int.{int_max}
use Rattle.smv_kinds.proofs.Passing.{passed_on}
use Rattle.smv_kinds.proofs.intervals.greatest_span.Goals as goal

pub returns : goal.returns
returns c =
    let a = c.args.a in
    let b = c.args.b in
    let al : SFits w32 c.args.a.low = search rules in
    let ah : SFits w32 c.args.a.high = search rules in
    let bl : SFits w32 c.args.b.low = search rules in
    let bh : SFits w32 c.args.b.high = search rules in
    let f : SFits w64 c.greatest.result = search rules in
    let g : SFits w64 c.greatest-2.result = search rules in
    let h : SFits w64 c.greatest-3.result = search rules in
    let i : SFits w64 c.greatest-4.result = search rules in
    let p = passed_on w64 w32 int_max a.low b.low c.greatest.result al bl f c.greatest.ensures in
    let q = passed_on w64 w32 int_max a.low b.high c.greatest-2.result al bh g c.greatest-2.ensures in
    let r = passed_on w64 w32 int_max a.high b.low c.greatest-3.result ah bl h c.greatest-3.ensures in
    let s = passed_on w64 w32 int_max a.high b.high c.greatest-4.result ah bh i c.greatest-4.ensures in
    c.spanned.ensures ∙ rw (p, q, r, s)
