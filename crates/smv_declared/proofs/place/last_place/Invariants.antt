-- The place so far, and what is left.
use Rattle.std.proofs.Common.{◌≡◌, drop}
use Rattle.smv_declared.specs.Refusals.{last_place}
use Rattle.smv_declared.proofs.place.last_place.Given as goal

abbrev pub invariant-loop-link : goal.invariant-loop-link
invariant-loop-link l = last_place l.place (drop l.link-index l.links) ≡ last_place l.fn.first l.links
