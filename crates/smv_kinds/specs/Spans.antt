-- Intervals of 64 bits.
use Rattle.smv_kinds.specs.declared.kind.Interval.{Interval}
use Rattle.smv_kinds.specs.declared.intervals.Span.{Span}
use Rattle.smv_kinds.specs.Intervals.{interval}

abbrev pub as_interval : Span → Interval
as_interval s = interval s.low s.high
