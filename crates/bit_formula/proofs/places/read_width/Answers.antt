-- One input more.
use Rattle.std.proofs.Common.{◌≡◌, ◌∙◌, ◌+◌, ap, arith, cond, length, slice_get}
use Rattle.bit_formula.specs.Coding.{is_in}
use Rattle.bit_formula.specs.Numbers.{is_number}
use Rattle.bit_formula.proofs.Numbers.{rank_short}
use Rattle.bit_formula.proofs.Placing.{bits_in_all, in_few, reached_more, reached_none, wide_at}
use Rattle.bit_formula.proofs.places.read_width.Goals as goal

pub loop-k-init : goal.loop-k-init
loop-k-init c = reached_none c.args.types.now c.args.reads.now 0 0

pub after-reached-requires-clause-read : goal.after-reached-requires-clause-read
after-reached-requires-clause-read c =
    let short = rank_short (is_in c.args.reads.now) 0 c.loop-k.k in
    let read = c.loop-k.invariant.read in
    omega (arith, short, read, c.loop-k-test.true)

pub after-reached-requires-clause-own : goal.after-reached-requires-clause-own
after-reached-requires-clause-own c =
    let types = c.args.types.now in
    let reads = c.args.reads.now in
    let k = c.loop-k.k in
    let at = c.loop-k.reached in
    let inv = c.loop-k.invariant in
    let here = is_number (slice_get reads at.read) k in
    let wide = wide_at types k c.width.result c.index-types-k.result c.loop-k-test.true c.index-types-k.is c.width.ensures in
    omega (arith, in_few types reads c.requires.order 0 0 k c.loop-k-test.true at.read at.own at.other inv, inv.own, wide, c.requires.small)

pub after-reached-requires-clause-other : goal.after-reached-requires-clause-other
after-reached-requires-clause-other c =
    let types = c.args.types.now in
    let reads = c.args.reads.now in
    let k = c.loop-k.k in
    let at = c.loop-k.reached in
    let inv = c.loop-k.invariant in
    let here = is_number (slice_get reads at.read) k in
    let wide = wide_at types k c.width.result c.index-types-k.result c.loop-k-test.true c.index-types-k.is c.width.ensures in
    omega (arith, in_few types reads c.requires.order 0 0 k c.loop-k-test.true at.read at.own at.other inv, inv.other, wide, c.requires.small)

pub loop-k-preserved : goal.loop-k-preserved
loop-k-preserved c =
    let types = c.args.types.now in
    let reads = c.args.reads.now in
    let k = c.loop-k.k in
    let at = c.loop-k.reached in
    let inv = c.loop-k.invariant in
    let here = is_number (slice_get reads at.read) k in
    let wide = wide_at types k c.width.result c.index-types-k.result c.loop-k-test.true c.index-types-k.is c.width.ensures in
    let new = c.after-reached.result in
    reached_more types reads c.requires.order 0 0 k c.loop-k-test.true at.read at.own at.other inv new.read new.own new.other c.after-reached.ensures.read
    (c.after-reached.ensures.own ∙ ap (λ n. cond here (at.own + n) at.own) wide) (c.after-reached.ensures.other ∙ ap (λ n. cond here at.other (at.other + n)) wide)

pub returns : goal.returns
returns c =
    let end : c.loop-k.k ≡ length c.args.types.now = omega arith in
    let all = bits_in_all c.args.types.now c.args.reads.now c.requires.order c.loop-k.k end in
    omega (arith, c.loop-k.invariant.own, all)
