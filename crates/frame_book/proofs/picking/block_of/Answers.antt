use Rattle.std.proofs.Common.{◌-◌, ◌*◌, arith}
use Rattle.frame_book.specs.Pages.{state_of}
use Rattle.frame_book.proofs.Picked.{best_more, best_all}
use Rattle.frame_book.proofs.picking.block_of.Goals as goal

pub loop-c-preserved : goal.loop-c-preserved
loop-c-preserved c =
    let i = c.loop-c.invariant in
    let e = c.with_part-best.ensures in
    let test = c.loop-c-test.true in
    let small = i.0 in (
      omega (arith, small, test),
      best_more c.args.limits (state_of c.args.levels.now c.args.register.now c.args.marks.now) c.args.j ((c.loop-c.c - 1) * 64) (c.loop-c.c * 64) c.loop-c.best
          c.with_part-best.result i.1 e.some (λ is. let n = e.none is in (n.0, λ k le below lt of. n.1 k le (omega (arith, below, test)) lt of)),
    )

pub returns : goal.returns
returns c =
    let test = c.loop-c-test.false in
    best_all c.args.limits (state_of c.args.levels.now c.args.register.now c.args.marks.now) c.args.j (c.loop-c.c * 64) c.loop-c.best
    (omega (arith, test)) c.loop-c.invariant.1
