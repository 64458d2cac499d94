-- The greatest so far, and the greatest of what is left.
use Rattle.std.proofs.Common.{◌≡◌, drop, max}
use Rattle.trace_view.specs.Svg.{widest_of}
use Rattle.trace_view.proofs.svg.widest_of.Given as goal

abbrev pub invariant-loop-w : goal.invariant-loop-w
invariant-loop-w l = max l.most (widest_of (drop l.w-index l.widths)) ≡ widest_of l.widths
