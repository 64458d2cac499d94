-- The slots among the numbers so far.
use Rattle.std.proofs.Common.{◌≡◌, take}
use Rattle.smv_flat.specs.Graph.{slots_among}
use Rattle.smv_flat.proofs.cycles.slots_among.Given as goal

abbrev pub invariant-loop-v : goal.invariant-loop-v
invariant-loop-v l = l.ns ≡ slots_among l.slots (take l.v-index l.vs)
