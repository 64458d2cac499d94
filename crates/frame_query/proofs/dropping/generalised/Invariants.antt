use Rattle.std.proofs.Common.{◌≡◌, ◌+◌, length}
use Rattle.frame_core.specs.FrameLaw.{system_at}
use Rattle.frame_solver.specs.Groups.{base, step_heads, state_heads, clauses_of}
use Rattle.frame_solver.specs.Engines.{IsLoaded, known_of}
use Rattle.frame_query.specs.Trying.{IsGoing, IsPaidSoFar}
use Rattle.frame_query.proofs.dropping.generalised.Given as goal

abbrev pub invariant-literals : goal.invariant-literals
invariant-literals g l = record {
  going : IsGoing (system_at l.systems 0) l.lemmas l.given l.walk l.walk.rest.items;
  pays : IsPaidSoFar l.systems l.lemmas (known_of l.initial.steps l.initial.states) (known_of l.steps l.states) (g.Q.Purse.tickets l.initial.purse) (g.Q.Purse.tickets l.purse)
      l.given.level l.given.clause l.walk.draft.clause.items l.walk.kept.items l.walk.failed l.walk.asks;
  steps : IsLoaded (base (system_at l.systems 0)) (step_heads (system_at l.systems 0)) (clauses_of l.lemmas) l.steps;
  states : IsLoaded (base (system_at l.systems 0)) (state_heads l.systems) (clauses_of l.lemmas) l.states;
  known : l.known ≡ system_at l.systems 0;
  kept : g.Q.Purse.kept l.initial.purse l.purse;
  ready : g.Q.Purse.ready l.purse;
  budget : g.Q.Purse.budget l.purse ≡ g.Q.Purse.budget l.initial.purse;
}

abbrev pub decreases-literals : goal.decreases-literals
decreases-literals g l = length l.walk.rest.items + length l.walk.hint.items
