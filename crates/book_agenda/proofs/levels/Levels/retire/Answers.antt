use Rattle.std.proofs.Common.{◌<◌, length, sym, subst}
use Rattle.frame_core.specs.FrameLaw.{FrameState, retired_at}
use Rattle.frame_core.specs.Changes.{IsCovered}
use Rattle.book_agenda.specs.Values.{AreBlocked}
use Rattle.book_agenda.specs.Tables.{HoldsClauses, HoldsStates}
use Rattle.book_agenda.proofs.Blocked.{blocked_retired, retired_clause, retired_length}
use Rattle.book_agenda.proofs.Tabled.{clauses_same}
use Rattle.book_agenda.proofs.levels.Levels.retire.Goals as goal

pub retire-requires-clause-covered : goal.retire-requires-clause-covered
retire-requires-clause-covered c = subst (λ (f : FrameState). IsCovered f c.args.n) (sym c.self.view_is) c.requires.covered

pub invariant_of-self : goal.invariant_of-self
invariant_of-self c =
    let f : FrameState = c.self.inside.frames in
    let lt : c.args.n < length f.lemmas = subst (λ (z : FrameState). c.args.n < length z.lemmas) (sym c.self.view_is) c.requires.in_range in
    record {
      follow = subst (λ (z : FrameState). AreBlocked z.lemmas z.obligations c.self.inside.blocked.items) (sym c.retire.ensures)
          (blocked_retired f.lemmas f.obligations c.args.n c.self.inside.blocked.items c.self.invariant.follow lt);
      floors' = c.self.invariant.floors';
      clauses' = subst (λ (z : FrameState). HoldsClauses z.lemmas c.self.inside.clauses) (sym c.retire.ensures)
          (clauses_same f.lemmas (retired_at f.lemmas c.args.n) c.self.inside.clauses (retired_length f.lemmas c.args.n)
          (λ k. (retired_clause f.lemmas c.args.n k lt).0) c.self.invariant.clauses');
      states' = subst (λ (z : FrameState). HoldsStates z.obligations c.self.inside.states) (sym c.retire.ensures) c.self.invariant.states';
    }
