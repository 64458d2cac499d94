-- What is left of the limits gives the refusal of all, and the bounds so far stand there.
use Rattle.std.proofs.Common.{◌≡◌, drop, map, take}
use Rattle.smv_verdicts.specs.Verdicts.{first_of}
use Rattle.smv_declared.specs.Limits.{bounds_in}
use Rattle.smv_declared.specs.Refusals.{wide_limits}
use Rattle.smv_declared.proofs.bounds.bounds_of.Given as goal

abbrev pub invariant-loop-limits : goal.invariant-loop-limits
invariant-loop-limits l = record {
  left : first_of wide_limits (drop l.limits-index l.all) ≡ first_of wide_limits l.fn.all;
  found : l.bounds ≡ map bounds_in (take l.limits-index l.all);
}
