use Rattle.smv_parse.specs.Types.{written_type}
use Rattle.smv_parse.proofs.TypeLoop.{Measured}
use Rattle.smv_parse.proofs.types.written_type.Given as goal

abbrev pub invariant-dimensions : goal.invariant-dimensions
invariant-dimensions l = Measured l.room l.dimensions l.rest ((written_type 0 l.fn.room).parse l.fn.tokens)

abbrev pub decreases-dimensions : goal.decreases-dimensions
decreases-dimensions l = l.room
