-- Whether the value is among the members so far.
use Rattle.std.proofs.Common.{◌≡◌, ℕ, Bool, take}
use Rattle.std.specs.Prelude.{All, Some}
use Rattle.std.specs.List.{list_any}
use Rattle.bit_graph.specs.Growth.{Extends}
use Rattle.bit_graph.specs.Meaning.{Consistent, Stands, edge_value}
use Rattle.smv_value.specs.declared.value.Value.{Value}
use Rattle.bit_operators.specs.Denoting.{StandsIn, denoted}
use Rattle.bit_outcomes.specs.Telling.{IsThere, MembersStand, is_member}
use Rattle.bit_outcomes.proofs.members.among.Given as goal

abbrev pub invariant-members : goal.invariant-members
invariant-members l = record {
  extends : Extends l.initial.graph l.graph;
  x_stands : StandsIn l.graph l.x;
  members_stand : MembersStand l.graph l.members;
  stands : Stands l.graph l.any;
  value : (v : ℕ → Bool) (w : Value) → Consistent v l.graph → denoted v l.x ≡ Some w → All (IsThere v) l.members → edge_value v l.any ≡ list_any (is_member v w) (take l.i l.members);
}
