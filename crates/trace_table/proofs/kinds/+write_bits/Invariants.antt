-- The bits that are left are fewer.
use Rattle.trace_table.proofs.kinds.+write_bits.Given as goal

abbrev pub decreases-write_bits : goal.decreases-write_bits
decreases-write_bits l = l.width
