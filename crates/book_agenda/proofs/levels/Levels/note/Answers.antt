use Rattle.std.proofs.Common.{◌≡◌, ℕ, Bool, List, [], ◌∷◌, ◌++◌, refl, sym, ap, subst, ◌∙◌}
use Rattle.std.specs.Prelude.{is_none}
use Rattle.clause_core.specs.Assignments.{assignment_of}
use Rattle.frame_core.specs.declared.parts.Lemma.{Lemma}
use Rattle.frame_core.specs.declared.parts.Obligation.{Obligation}
use Rattle.frame_core.specs.FrameLaw.{FrameState}
use Rattle.frame_core.specs.Changes.{IsOfSystem, MayHaveParent, NotesSame, with_obligation}
use Rattle.book_agenda.specs.Values.{AreBlocked, AreFloors, IsBlockedTo}
use Rattle.book_agenda.specs.Tables.{Table, HoldsClauses, HoldsStates}
use Rattle.book_agenda.proofs.Agendas.{agenda_kept, agenda_tabled}
use Rattle.book_agenda.proofs.Tabled.{states_pushed}
use Rattle.book_agenda.proofs.Blocked.{blocked_noted}
use Rattle.book_agenda.proofs.Blocked.{noted_is}
use Rattle.book_agenda.proofs.levels.Levels.note.Goals as goal

pub invariant_of-self-2 : goal.invariant_of-self-2
invariant_of-self-2 c =
    let f : FrameState = c.self.inside.frames in
    let now : FrameState = c.add_obligation_same.new.self in
    let o : Obligation = record { system = c.args.j; values = c.args.found.values; parent = c.args.parent; first = c.args.found.first } in
    let is : now ≡ with_obligation f c.args.j c.args.found c.args.parent =
    noted_is f now c.args.j c.args.found c.args.parent c.in_ok-noting.noting c.in_ok-noting.ensures.done in
    let bs : List ℕ = c.self.inside.blocked.items in
    let cs : c.push_reserved.new.self.items ≡ bs ++ c.blocked_to-level.result ∷ [] =
    c.push_reserved.ensures.items ∙ ap (λ (z : List ℕ). z ++ c.blocked_to-level.result ∷ []) c.in_ok-reserve_one.ensures.blocked in
    let values : c.as_slice.result.now ≡ c.args.found.values = c.as_slice.ensures ∙ c.values.ensures in
    let to : IsBlockedTo f.lemmas c.blocked_to-level.result (assignment_of o.values) =
    subst (λ (v : List Bool). IsBlockedTo f.lemmas c.blocked_to-level.result (assignment_of v)) values
    c.blocked_to-level.ensures in
    let floors : AreFloors c.lower.new.floors.items c.push_reserved.new.self.items =
    subst (λ (z : List ℕ). AreFloors c.lower.new.floors.items z)
    (ap (λ (z : List ℕ). z ++ c.blocked_to-level.result ∷ []) c.deref.ensures.value ∙ sym c.push_reserved.ensures.items) c.lower.ensures in
    record {
      follow = subst (λ (z : FrameState). AreBlocked z.lemmas z.obligations c.push_reserved.new.self.items) (sym is)
          (subst (λ (z : List ℕ). AreBlocked f.lemmas (f.obligations ++ o ∷ []) z) (sym cs)
          (blocked_noted f.lemmas f.obligations o bs c.blocked_to-level.result c.self.invariant.follow to));
      floors' = floors;
      clauses' = subst (λ (z : FrameState). HoldsClauses z.lemmas c.add_clauses.new.clauses) (sym is)
          (subst (λ (z : List Lemma). HoldsClauses z c.add_clauses.new.clauses) c.all_lemmas.ensures.value c.add_clauses.ensures);
      states' = c.add_states.ensures;
    }

pub add_obligation_same-requires-clause-same : goal.add_obligation_same-requires-clause-same
add_obligation_same-requires-clause-same c =
    subst (λ (z : FrameState). IsOfSystem z c.args.j (is_none c.args.parent) c.args.found.system) (sym c.self.view_is) c.requires.same

pub add_obligation_same-requires-clause-parent : goal.add_obligation_same-requires-clause-parent
add_obligation_same-requires-clause-parent c = subst (λ (z : FrameState). MayHaveParent z c.args.j c.args.found c.args.parent) (sym c.self.view_is) c.requires.parent

pub add_states-requires : goal.add_states-requires
add_states-requires c =
    let f : FrameState = c.self.inside.frames in
    let o : Obligation = record { system = c.args.j; values = c.args.found.values; parent = c.args.parent; first = c.args.found.first } in
    let is : c.add_obligation_same.new.self ≡ with_obligation f c.args.j c.args.found c.args.parent =
    noted_is f c.add_obligation_same.new.self c.args.j c.args.found c.args.parent c.in_ok-noting.noting c.in_ok-noting.ensures.done in
    subst (λ (z : FrameState). HoldsStates z.obligations c.self.inside.states) (sym is)
    (states_pushed f.obligations o c.self.inside.states c.self.invariant.states')

pub lower-requires-clause-floors : goal.lower-requires-clause-floors
lower-requires-clause-floors c =
    let now = c.reserve_one.new in
    subst (AreFloors now.floors.items) (sym (c.deref.ensures.value ∙ c.in_ok-reserve_one.ensures.blocked))
    (subst (λ (z : List ℕ). AreFloors z c.self.inside.blocked.items) (sym c.in_ok-reserve_one.ensures.floors) c.self.invariant.floors')

pub invariant_of-self : goal.invariant_of-self
invariant_of-self c =
    let f : FrameState = c.self.inside.frames in
    let e = c.in_err-reserve_one.ensures in
    agenda_kept f f c.self.inside.blocked.items c.reserve_one.new.blocked.items c.self.inside.floors.items c.reserve_one.new.floors.items c.self.inside.clauses
    c.self.inside.states refl e.blocked e.floors c.self.invariant

pub invariant_of-self-in_err-noting : goal.invariant_of-self-in_err-noting
invariant_of-self-in_err-noting c =
    let e = c.in_ok-reserve_one.ensures in
    let f : FrameState = c.self.inside.frames in
    let bs : List ℕ = c.self.inside.blocked.items in
    let floors : List ℕ = c.self.inside.floors.items in
    let clauses : Table = c.add_clauses.new.clauses in
    let states : Table = c.self.inside.states in
    let holds : HoldsClauses f.lemmas clauses = subst (λ (z : List Lemma). HoldsClauses z clauses) c.all_lemmas.ensures.value c.add_clauses.ensures in
    agenda_kept f c.add_obligation_same.new.self bs c.reserve_one.new.blocked.items floors c.reserve_one.new.floors.items clauses states
    c.in_err-noting.ensures.err e.blocked e.floors (agenda_tabled f.lemmas f.obligations bs floors c.self.inside.clauses clauses states holds c.self.invariant)

pub returns-clause-done : goal.returns-clause-done
returns-clause-done c =
    subst (λ (z : FrameState). NotesSame z c.args.j c.args.found c.args.parent c.in_ok-noting.noting c.add_obligation_same.new.self) c.self.view_is
    c.in_ok-noting.ensures.done
