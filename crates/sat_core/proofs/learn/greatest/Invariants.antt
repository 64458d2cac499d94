use Rattle.std.proofs.Common.{◌<◌, length}
use Rattle.sat_core.proofs.learn.greatest.Given as goal

abbrev pub invariant-loop-j : goal.invariant-loop-j
invariant-loop-j l = l.best < length l.low
