-- The members so far.
use Rattle.std.proofs.Common.{◌≡◌, ◌&&◌, ◌||◌, ℕ, Bool, true, take}
use Rattle.std.specs.Prelude.{All}
use Rattle.std.specs.List.{list_any}
use Rattle.bit_graph.specs.Growth.{Extends}
use Rattle.bit_graph.specs.Meaning.{Consistent, Stands, edge_value}
use Rattle.smv_value.specs.declared.value.Value.{Value}
use Rattle.bit_outcomes.specs.Telling.{IsThere, MembersStand, is_member}
use Rattle.bit_outcomes.proofs.members.with_members.Given as goal

abbrev pub invariant-more : goal.invariant-more
invariant-more l = record {
  extends : Extends l.initial.graph l.graph;
  condition_stands : Stands l.graph l.condition;
  more_stand : MembersStand l.graph l.more;
  all_stand : MembersStand l.graph l.all;
  there : (v : ℕ → Bool) → Consistent v l.graph → All (IsThere v) l.fn.made → (edge_value v l.condition ≡ true → All (IsThere v) l.more) → All (IsThere v) l.all;
  value : (v : ℕ → Bool) (w : Value) → Consistent v l.graph →
      list_any (is_member v w) l.all ≡ (list_any (is_member v w) l.fn.made || (edge_value v l.condition && list_any (is_member v w) (take l.i l.more)));
}
