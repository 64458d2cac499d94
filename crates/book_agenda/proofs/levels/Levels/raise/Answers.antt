use Rattle.std.proofs.Common.{◌<◌, ◌≤◌, ℕ, List, length, false, sym, subst, arith}
use Rattle.clause_core.specs.Assignments.{assignment_of}
use Rattle.frame_core.specs.declared.outcomes.Raising.{Raising}
use Rattle.frame_core.specs.declared.outcomes.Raising.TheVariants.{Raised}
use Rattle.frame_core.specs.Facts.{ProvedClause}
use Rattle.frame_core.specs.FrameLaw.{FrameState, lemma_at, obligation_at, raised_at}
use Rattle.frame_core.specs.Changes.{IsOfSystem, RaisesSame}
use Rattle.book_agenda.specs.Values.{AreBlocked, IsLifted, blocked_at}
use Rattle.book_agenda.proofs.Agendas.{agenda_same, not_raised}
use Rattle.book_agenda.specs.Tables.{HoldsClauses, HoldsStates}
use Rattle.book_agenda.proofs.Blocked.{blocked_raised, is_lower, raised_clause, raised_length}
use Rattle.book_agenda.proofs.Tabled.{clauses_same}
use Rattle.book_agenda.proofs.levels.Levels.raise.Goals as goal

pub invariant_of-self : goal.invariant_of-self
invariant_of-self c =
    let f : FrameState = c.self.inside.frames in
    let p : ProvedClause = c.args.proved.now in
    let n : ℕ = c.args.n in
    let now : FrameState = c.raise_same-raising.new.self in
    let done : RaisesSame f n p Raised now = subst (λ (r : Raising). RaisesSame f n p r now) c.in-Raised.is c.raise_same-raising.ensures in
    let bs : List ℕ = c.self.inside.blocked.items in
    let cs : List ℕ = c.lift.new.blocked.items in
    let lt : n < length f.lemmas = subst (λ (z : FrameState). n < length z.lemmas) (sym c.self.view_is) c.requires.in_range in
    let lower : (lemma_at f.lemmas n).level ≤ p.level = let low = is_lower f.lemmas n p.level done.0 in omega arith in
    let each : (o : ℕ) → o < length bs → IsLifted (lemma_at (raised_at f.lemmas n p.level) n) (assignment_of (obligation_at f.obligations o).values) (blocked_at bs o) (blocked_at cs o) =
    λ o in'. subst (λ (z : FrameState). IsLifted (lemma_at z.lemmas n) (assignment_of (obligation_at z.obligations o).values) (blocked_at bs o) (blocked_at cs o)) done.2
    (c.lift.ensures.each o in') in
    record {
      follow = subst (λ (z : FrameState). AreBlocked z.lemmas z.obligations cs) (sym done.2)
          (blocked_raised f.lemmas f.obligations n p.level bs cs c.self.invariant.follow lt lower c.lift.ensures.length each);
      floors' = c.lift.ensures.floors;
      clauses' = subst (λ (z : FrameState). HoldsClauses z.lemmas c.self.inside.clauses) (sym done.2)
          (clauses_same f.lemmas (raised_at f.lemmas n p.level) c.self.inside.clauses (raised_length f.lemmas n p.level) (raised_clause f.lemmas n p.level lt)
          c.self.invariant.clauses');
      states' = subst (λ (z : FrameState). HoldsStates z.obligations c.self.inside.states) (sym done.2) c.self.invariant.states';
    }

pub raise_same-raising-requires-clause-same : goal.raise_same-raising-requires-clause-same
raise_same-raising-requires-clause-same c = subst (λ (z : FrameState). IsOfSystem z 0 false c.args.proved.now.system) (sym c.self.view_is) c.requires.same

pub invariant_of-self-in_default : goal.invariant_of-self-in_default
invariant_of-self-in_default c =
    let f : FrameState = c.self.inside.frames in
    let now : FrameState = c.raise_same-raising.new.self in
    agenda_same f now c.self.inside.blocked.items c.self.inside.floors.items c.self.inside.clauses c.self.inside.states
    (not_raised f now c.args.n c.args.proved.now c.raise_same-raising.result c.in_default.not-Raised c.raise_same-raising.ensures) c.self.invariant
