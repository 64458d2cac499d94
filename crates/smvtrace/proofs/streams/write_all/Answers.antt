use Rattle.std.proofs.Common.{arith}
use Rattle.smvtrace.proofs.Known.{Appends-more}
use Rattle.smvtrace.proofs.streams.write_all.Goals as goal

pub loop-at-preserved : goal.loop-at-preserved
loop-at-preserved g c =
    let taken = g.K.Sink.taken in
    record {
      taken = Appends-more (taken c.args.sink.now) (taken c.loop-at.sink) (taken c.write.new.self) c.args.piece.now c.loop-at.at c.in-Ok.count c.loop-at.invariant.taken c.in-Ok.ensures.bytes;
      within = omega (arith, c.in-Ok.ensures.bound);
      same = omega (arith, c.in-Ok.ensures.cause.taken);
    }
