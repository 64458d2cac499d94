-- The lines of one more number are written.
use Rattle.std.proofs.Common.{refl}
use Rattle.std.proofs.lemmas.Grind.{put_three}
use Rattle.trace_replay.proofs.OfLines.{numbers_written}
use Rattle.trace_replay.proofs.printing.write_moments.Goals as goal

pub loop-i-preserved : goal.loop-i-preserved
loop-i-preserved g c = λ plain.
    let before = c.loop-i.invariant plain in
    let first = c.in_ok-write_state.ensures before.plain refl in
    let second = c.in_ok-write_inputs.ensures first.plain refl in
    let t = c.args.trace.now in
    let i = c.loop-i.i in
    put_three _ _ _ _ _ _ _ _ _ before first second
    (numbers_written t i _ _ c.as_slice-states.ensures c.as_slice-inputs.ensures)
