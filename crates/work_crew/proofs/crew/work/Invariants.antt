use Rattle.std.proofs.Common.{◌≡◌}
use Rattle.work_crew.proofs.crew.work.Given as goal

abbrev pub invariant-loop : goal.invariant-loop
invariant-loop g l =
    record {
      can : (goal.iterator-loop g).can_next l.iterator' × (goal.iterator-loop g).is_finite l.iterator';
      holds : g.C.Craft.holds l.crew.craft l.hand;
      parts : g.C.Craft.parts l.hand ≡ g.C.Craft.parts l.initial.hand;
      first : g.C.Craft.first l.hand ≡ g.C.Craft.first l.initial.hand;
    }
