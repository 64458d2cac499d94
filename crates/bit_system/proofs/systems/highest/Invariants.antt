-- The highest number so far.
use Rattle.std.proofs.Common.{◌≤◌, take, All}
use Rattle.bit_system.specs.declared.sides.Claim.{Claim}
use Rattle.bit_system.proofs.systems.highest.Given as goal

abbrev pub invariant-loop-c : goal.invariant-loop-c
invariant-loop-c l = record {
  start : l.start ≤ l.most;
  all : All (λ (c : Claim). c.vars ≤ l.most) (take l.c-index l.claims);
}
