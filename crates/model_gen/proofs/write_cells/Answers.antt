-- The line of one more cell is written.
use Rattle.std.proofs.Common.{refl}
use Rattle.std.proofs.lemmas.Grind.{put_two}
use Rattle.model_gen.proofs.Lines.{cells_more}
use Rattle.model_gen.proofs.write_cells.Goals as goal

pub loop-i-preserved : goal.loop-i-preserved
loop-i-preserved g c = λ plain.
    let before = c.loop-i.invariant plain in
    let line = c.in_ok-write_cell.ensures before.plain refl in
    put_two _ _ _ _ _ _ _ before line (cells_more c.args.ring.cells c.args.ring.start c.loop-i.i)
