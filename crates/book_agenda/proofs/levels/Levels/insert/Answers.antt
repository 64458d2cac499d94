use Rattle.std.proofs.Common.{◌≡◌, ◌<◌, ℕ, List, length, false, true, sym, ap, subst, ◌∙◌, arith}
use Rattle.clause_core.specs.Assignments.{assignment_of}
use Rattle.frame_core.specs.declared.parts.Lemma.{Lemma}
use Rattle.frame_core.specs.declared.outcomes.Insertion.{Insertion}
use Rattle.frame_core.specs.declared.outcomes.Insertion.TheVariants.{Added}
use Rattle.frame_core.specs.Facts.{ProvedClause}
use Rattle.frame_core.specs.FrameLaw.{FrameState, lemma_at, obligation_at}
use Rattle.frame_core.specs.Changes.{IsOfSystem, InsertsSame}
use Rattle.book_agenda.specs.Values.{AreBlocked, IsLifted, blocked_at}
use Rattle.book_agenda.proofs.Agendas.{agenda_same, not_added}
use Rattle.book_agenda.specs.Tables.{HoldsClauses, HoldsStates}
use Rattle.book_agenda.proofs.Blocked.{blocked_added, lemma_last}
use Rattle.book_agenda.proofs.Tabled.{clauses_pushed}
use Rattle.book_agenda.proofs.levels.Levels.insert.Goals as goal

pub invariant_of-self-in-Added : goal.invariant_of-self-in-Added
invariant_of-self-in-Added c =
    let f : FrameState = c.self.inside.frames in
    let p : ProvedClause = c.args.proved.now in
    let now : FrameState = c.insert_same.new.self in
    let n : ℕ = c.in-Added.n in
    let l : Lemma = record { clause = p.clause; level = p.level; live = true } in
    let done : InsertsSame f p (Added n) now = subst (λ (r : Insertion). InsertsSame f p r now) c.in-Added.is c.in_ok-insertion.ensures.done in
    let bs : List ℕ = c.self.inside.blocked.items in
    let cs : List ℕ = c.lift.new.blocked.items in
    let here : lemma_at now.lemmas n ≡ l = ap (λ (z : FrameState). lemma_at z.lemmas n) done.3 ∙ lemma_last f.lemmas l n (sym done.2) in
    let each : (o : ℕ) → o < length bs → IsLifted l (assignment_of (obligation_at f.obligations o).values) (blocked_at bs o) (blocked_at cs o) =
    λ o lt. subst (λ (z : FrameState). IsLifted l (assignment_of (obligation_at z.obligations o).values) (blocked_at bs o) (blocked_at cs o)) done.3
    (subst (λ (z : Lemma). IsLifted z (assignment_of (obligation_at now.obligations o).values) (blocked_at bs o) (blocked_at cs o)) here (c.lift.ensures.each o lt)) in
    record {
      follow = subst (λ (z : FrameState). AreBlocked z.lemmas z.obligations cs) (sym done.3)
          (blocked_added f.lemmas f.obligations l bs cs c.self.invariant.follow c.lift.ensures.length each);
      floors' = c.lift.ensures.floors;
      clauses' = subst (λ (z : List Lemma). HoldsClauses z c.add_clauses.new.clauses) c.all_lemmas.ensures.value c.add_clauses.ensures;
      states' = subst (λ (z : FrameState). HoldsStates z.obligations c.self.inside.states) (sym done.3) c.self.invariant.states';
    }

pub add_clauses-requires : goal.add_clauses-requires
add_clauses-requires c =
    let f : FrameState = c.self.inside.frames in
    let p : ProvedClause = c.args.proved.now in
    let l : Lemma = record { clause = p.clause; level = p.level; live = true } in
    let done : InsertsSame f p (Added c.in-Added.n) c.insert_same.new.self =
    subst (λ (r : Insertion). InsertsSame f p r c.insert_same.new.self) c.in-Added.is c.in_ok-insertion.ensures.done in
    subst (λ (z : List Lemma). HoldsClauses z c.self.inside.clauses) (sym (c.all_lemmas.ensures.value ∙ ap (λ (z : FrameState). z.lemmas) done.3))
    (clauses_pushed f.lemmas l c.self.inside.clauses c.self.invariant.clauses')

pub lift-requires-clause-table : goal.lift-requires-clause-table
lift-requires-clause-table c =
    let f : FrameState = c.self.inside.frames in
    let p : ProvedClause = c.args.proved.now in
    let done : InsertsSame f p (Added c.in-Added.n) c.insert_same.new.self =
    subst (λ (r : Insertion). InsertsSame f p r c.insert_same.new.self) c.in-Added.is c.in_ok-insertion.ensures.done in
    subst (λ (z : FrameState). HoldsStates z.obligations c.self.inside.states) (sym done.3) c.self.invariant.states'

pub returns-in-Added-clause-done : goal.returns-in-Added-clause-done
returns-in-Added-clause-done c =
    let p : ProvedClause = c.args.proved.now in
    let now : FrameState = c.insert_same.new.self in
    subst (λ (f : FrameState). InsertsSame f p (Added c.in-Added.n) now) c.self.view_is
    (subst (λ (r : Insertion). InsertsSame c.self.inside.frames p r now) c.in-Added.is c.in_ok-insertion.ensures.done)

pub insert_same-requires-clause-same : goal.insert_same-requires-clause-same
insert_same-requires-clause-same c = subst (λ (z : FrameState). IsOfSystem z 0 false c.args.proved.now.system) (sym c.self.view_is) c.requires.same

pub lift-requires-clause-met : goal.lift-requires-clause-met
lift-requires-clause-met c = λ o lt below. absurd (omega (arith, below))

pub invariant_of-self : goal.invariant_of-self
invariant_of-self c =
    agenda_same c.self.inside.frames c.insert_same.new.self c.self.inside.blocked.items c.self.inside.floors.items c.self.inside.clauses c.self.inside.states c.in_err-insertion.ensures.err c.self.invariant

pub invariant_of-self-in_default : goal.invariant_of-self-in_default
invariant_of-self-in_default c =
    let f : FrameState = c.self.inside.frames in
    let now : FrameState = c.insert_same.new.self in
    agenda_same f now c.self.inside.blocked.items c.self.inside.floors.items c.self.inside.clauses c.self.inside.states
    (not_added f now c.args.proved.now c.in_ok-insertion.insertion c.in_default.not-Added c.in_ok-insertion.ensures.done) c.self.invariant
