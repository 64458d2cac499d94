-- Nothing of each node so far.
use Rattle.std.proofs.Common.{◌≡◌, length}
use Rattle.std.specs.Prelude.{All}
use Rattle.bit_outcomes.specs.declared.told.Told.{Told}
use Rattle.bit_outcomes.specs.declared.told.Told.TheVariants as told
use Rattle.bit_outcomes.proofs.nodes.untold.Given as goal

abbrev pub invariant-nodes : goal.invariant-nodes
invariant-nodes l = record {
  long : length l.made ≡ l.i;
  untold : All (λ (t : Told). t ≡ told.Untold) l.made;
}
