-- Whether one of the members so far is none of the type.
use Rattle.std.proofs.Common.{◌≡◌, ℕ, Bool, take}
use Rattle.std.specs.Prelude.{All}
use Rattle.std.specs.List.{list_any}
use Rattle.bit_graph.specs.Growth.{Extends}
use Rattle.bit_graph.specs.Meaning.{Consistent, Stands, edge_value}
use Rattle.bit_outcomes.specs.Asked.{is_out}
use Rattle.bit_outcomes.specs.Telling.{IsThere, MembersStand}
use Rattle.bit_outcomes.proofs.items.some_outside.Given as goal

abbrev pub invariant-members : goal.invariant-members
invariant-members l = record {
  extends : Extends l.initial.graph l.graph;
  members_stand : MembersStand l.graph l.members;
  stands : Stands l.graph l.any;
  value : (v : ℕ → Bool) → Consistent v l.graph → All (IsThere v) l.members → edge_value v l.any ≡ list_any (is_out v l.declared) (take l.i l.members);
}
