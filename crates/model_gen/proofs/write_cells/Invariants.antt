-- The lines of the cells so far are written.
use Rattle.std.specs.Fmt.{HasWritten, IsPlainFormatter}
use Rattle.std.specs.List.{flat_map, range_with_len}
use Rattle.model_gen.specs.Ring.{cell_line}
use Rattle.model_gen.proofs.write_cells.Given as goal

abbrev pub invariant-loop-i : goal.invariant-loop-i
invariant-loop-i g l =
    IsPlainFormatter l.initial.f → HasWritten g.W.Write.write_str_gives l.initial.f (flat_map (cell_line l.ring.cells l.ring.start) (range_with_len 0 l.i)) l.f
