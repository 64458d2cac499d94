use Rattle.std.proofs.Common.{◌≡◌, ◌<◌, ◌∙◌, ℕ, List, None, refl, sym, ap, subst, arith, length}
use Rattle.std.proofs.lemmas.Bool.{eqb-true, eqb-false}
use Rattle.clause_core.specs.declared.literal.Lit.{Lit}
use Rattle.frame_core.specs.Facts.{IsPart}
use Rattle.frame_core.specs.FrameLaw.{system_at}
use Rattle.frame_solver.specs.Engines.{known_of}
use Rattle.frame_query.specs.Trying.{IsPaidSoFar}
use Rattle.frame_query.proofs.Walked.{way_start, way_end, paid_start, paid_nothing, paid_end, paid_last, paid_more}
use Rattle.frame_query.proofs.dropping.generalised.Goals as goal

pub returns-in_err-hint-clause-pays : goal.returns-in_err-hint-clause-pays
returns-in_err-hint-clause-pays g c = paid_nothing c.args.systems.now c.args.lemmas.now _ _ c.args.given.now.level c.args.given.now.clause

pub returns-in_err-rest-clause-pays : goal.returns-in_err-rest-clause-pays
returns-in_err-rest-clause-pays g c = paid_nothing c.args.systems.now c.args.lemmas.now _ _ c.args.given.now.level c.args.given.now.clause

pub returns-in_err-draft-clause-pays : goal.returns-in_err-draft-clause-pays
returns-in_err-draft-clause-pays g c = paid_nothing c.args.systems.now c.args.lemmas.now _ _ c.args.given.now.level c.args.given.now.clause

pub literals-init : goal.literals-init
literals-init g c =
    let given = c.args.given.now in
    let C : List Lit → Type 0 = λ q. IsPart q c.in_ok-rest.rest.items in
    let D : List Lit → Type 0 = λ q. IsPart c.in_ok-rest.rest.items q in
    let count : length c.in_ok-rest.rest.items ≡ length given.clause = c.in_ok-rest.ensures.many ∙ ap length c.clause-2.ensures in
    let counted : length c.in_ok-rest.rest.items ≡ c.len.result = omega (arith, c.len.ensures) in
    let known = known_of c.args.steps.now c.args.states.now in
    let tickets = g.Q.Purse.tickets c.args.purse.now in
    let N : ℕ → Type 0 = λ n. IsPaidSoFar c.args.systems.now c.args.lemmas.now known known tickets tickets given.level given.clause c.in_ok-draft.draft.clause.items c.new.result.items None n in
    record {
      going = record {
        way = way_start (system_at c.args.systems.now 0) c.args.lemmas.now given c.in_ok-draft.draft c.new.result.items c.in_ok-rest.rest.items c.system-system.ensures.shown
            c.requires.system c.in_ok-draft.ensures.clause c.in_ok-draft.ensures.part c.in_ok-draft.ensures.parents c.new.ensures.items (subst C c.clause-2.ensures c.in_ok-rest.ensures.enough) (subst D c.clause-2.ensures c.in_ok-rest.ensures.only);
        fell = tt;
        once = λ _. refl;
        room = omega (arith, c.len.ensures);
      };
      pays = subst N counted
          (paid_start c.args.systems.now c.args.lemmas.now known tickets given.level given.clause c.in_ok-draft.draft.clause.items c.new.result.items c.in_ok-rest.rest.items count);
      steps = c.requires.steps;
      states = c.requires.states;
      known = c.requires.known;
      kept = g.met.Q.Purse.kept_refl c.args.purse.now;
      ready = c.requires.ready;
      budget = refl;
    }

pub literals-preserved : goal.literals-preserved
literals-preserved g c =
    let sys = system_at c.args.systems.now 0 in
    let systems = c.args.systems.now in
    let lemmas = c.args.lemmas.now in
    let given = c.args.given.now in
    let inv = c.literals.invariant in
    let walk = c.literals.walk in
    let some : 0 < length walk.rest.items = omega (arith, eqb-false walk.rest.len 0 (sym c.literals-test.ensures)) in
    let said = c.in_ok-drawn.ensures.pays in
    let went = rw c.in_default.is at said.4 in
    record {
      going = went.0;
      pays = paid_more sys systems lemmas given walk.draft walk.kept.items walk.rest.items walk.failed said.0 inv.going.way said.1 said.2 _ (known_of c.literals.steps c.literals.states) _ _ (g.Q.Purse.tickets c.literals.purse) _
          walk.asks (omega (arith, some, inv.going.room)) inv.pays said.3 walk c.next.new.walk refl refl refl went.1 went.2;
      steps = c.next.ensures.steps;
      states = c.next.ensures.states;
      known = c.next.ensures.known ∙ inv.known;
      kept = g.met.Q.Purse.kept_trans c.args.purse.now c.literals.purse c.next.new.purse inv.kept c.next.ensures.kept;
      ready = c.next.ensures.ready;
      budget = c.next.ensures.budget ∙ inv.budget;
    }

pub literals-smaller : goal.literals-smaller
literals-smaller g c = (rw c.in_default.is at c.in_ok-drawn.ensures.pays.4).3

pub returns-in_err-drawn-clause-pays : goal.returns-in_err-drawn-clause-pays
returns-in_err-drawn-clause-pays g c =
    let sys = system_at c.args.systems.now 0 in
    let systems = c.args.systems.now in
    let lemmas = c.args.lemmas.now in
    let given = c.args.given.now in
    let inv = c.literals.invariant in
    let walk = c.literals.walk in
    let some : 0 < length walk.rest.items = omega (arith, eqb-false walk.rest.len 0 (sym c.literals-test.ensures)) in
    let said = c.next.ensures.pays in
    paid_last sys systems lemmas given walk.draft walk.kept.items walk.rest.items walk.failed said.0 inv.going.way said.1 said.2 _ (known_of c.literals.steps c.literals.states) _ _ (g.Q.Purse.tickets c.literals.purse) _
    walk.asks (omega (arith, some, inv.going.room)) inv.pays said.3

pub returns-in-Spent-clause-pays : goal.returns-in-Spent-clause-pays
returns-in-Spent-clause-pays g c =
    let sys = system_at c.args.systems.now 0 in
    let systems = c.args.systems.now in
    let lemmas = c.args.lemmas.now in
    let given = c.args.given.now in
    let inv = c.literals.invariant in
    let walk = c.literals.walk in
    let some : 0 < length walk.rest.items = omega (arith, eqb-false walk.rest.len 0 (sym c.literals-test.ensures)) in
    let said = c.next.ensures.pays in
    paid_last sys systems lemmas given walk.draft walk.kept.items walk.rest.items walk.failed said.0 inv.going.way said.1 said.2 _ (known_of c.literals.steps c.literals.states) _ _ (g.Q.Purse.tickets c.literals.purse) _
    walk.asks (omega (arith, some, inv.going.room)) inv.pays said.3

pub returns-in-Spent-clause-ends : goal.returns-in-Spent-clause-ends
returns-in-Spent-clause-ends g c =
    let spent = rw c.in-Spent.is at c.in_ok-drawn.ensures.pays.4 in
    (spent.0 ∙ c.literals.invariant.budget, spent.1 ∙ c.literals.invariant.budget, spent.2)

pub returns-clause-pays : goal.returns-clause-pays
returns-clause-pays g c =
    paid_end c.args.systems.now c.args.lemmas.now _ _ _ _ c.args.given.now.level c.args.given.now.clause c.literals.walk.draft.clause.items c.literals.walk.kept.items
    c.literals.walk.failed c.literals.walk.asks c.literals.invariant.pays

pub returns-clause-ends : goal.returns-clause-ends
returns-clause-ends g c =
    let way = c.literals.invariant.going.way in
    let none : length c.literals.walk.rest.items ≡ 0 = omega (arith, eqb-true c.literals.walk.rest.len 0 (sym c.literals-test.ensures)) in (
      way.proved,
      way.part,
      way_end (system_at c.args.systems.now 0) c.args.lemmas.now c.args.given.now c.literals.walk.draft c.literals.walk.kept.items c.literals.walk.rest.items none way,
      way.stands,
    )

pub returns-in_err-hint-clause-steps : goal.returns-in_err-hint-clause-steps
returns-in_err-hint-clause-steps g c = c.requires.steps

pub returns-in_err-hint-clause-states : goal.returns-in_err-hint-clause-states
returns-in_err-hint-clause-states g c = c.requires.states

pub returns-in_err-hint-clause-known : goal.returns-in_err-hint-clause-known
returns-in_err-hint-clause-known g c = refl

pub returns-in_err-hint-clause-kept : goal.returns-in_err-hint-clause-kept
returns-in_err-hint-clause-kept g c = g.met.Q.Purse.kept_refl c.args.purse.now

pub returns-in_err-hint-clause-ready : goal.returns-in_err-hint-clause-ready
returns-in_err-hint-clause-ready g c = c.requires.ready

pub returns-in_err-hint-clause-budget : goal.returns-in_err-hint-clause-budget
returns-in_err-hint-clause-budget g c = refl

pub returns-in_err-rest-clause-steps : goal.returns-in_err-rest-clause-steps
returns-in_err-rest-clause-steps g c = c.requires.steps

pub returns-in_err-rest-clause-states : goal.returns-in_err-rest-clause-states
returns-in_err-rest-clause-states g c = c.requires.states

pub returns-in_err-rest-clause-known : goal.returns-in_err-rest-clause-known
returns-in_err-rest-clause-known g c = refl

pub returns-in_err-rest-clause-kept : goal.returns-in_err-rest-clause-kept
returns-in_err-rest-clause-kept g c = g.met.Q.Purse.kept_refl c.args.purse.now

pub returns-in_err-rest-clause-ready : goal.returns-in_err-rest-clause-ready
returns-in_err-rest-clause-ready g c = c.requires.ready

pub returns-in_err-rest-clause-budget : goal.returns-in_err-rest-clause-budget
returns-in_err-rest-clause-budget g c = refl

pub returns-in_err-draft-clause-steps : goal.returns-in_err-draft-clause-steps
returns-in_err-draft-clause-steps g c = c.requires.steps

pub returns-in_err-draft-clause-states : goal.returns-in_err-draft-clause-states
returns-in_err-draft-clause-states g c = c.requires.states

pub returns-in_err-draft-clause-known : goal.returns-in_err-draft-clause-known
returns-in_err-draft-clause-known g c = refl

pub returns-in_err-draft-clause-kept : goal.returns-in_err-draft-clause-kept
returns-in_err-draft-clause-kept g c = g.met.Q.Purse.kept_refl c.args.purse.now

pub returns-in_err-draft-clause-ready : goal.returns-in_err-draft-clause-ready
returns-in_err-draft-clause-ready g c = c.requires.ready

pub returns-in_err-draft-clause-budget : goal.returns-in_err-draft-clause-budget
returns-in_err-draft-clause-budget g c = refl

pub returns-in_err-drawn-clause-steps : goal.returns-in_err-drawn-clause-steps
returns-in_err-drawn-clause-steps g c = c.next.ensures.steps

pub returns-in_err-drawn-clause-states : goal.returns-in_err-drawn-clause-states
returns-in_err-drawn-clause-states g c = c.next.ensures.states

pub returns-in_err-drawn-clause-known : goal.returns-in_err-drawn-clause-known
returns-in_err-drawn-clause-known g c = c.next.ensures.known ∙ c.literals.invariant.known ∙ sym c.requires.known

pub returns-in_err-drawn-clause-kept : goal.returns-in_err-drawn-clause-kept
returns-in_err-drawn-clause-kept g c = g.met.Q.Purse.kept_trans c.args.purse.now c.literals.purse c.next.new.purse c.literals.invariant.kept c.next.ensures.kept

pub returns-in_err-drawn-clause-ready : goal.returns-in_err-drawn-clause-ready
returns-in_err-drawn-clause-ready g c = c.next.ensures.ready

pub returns-in_err-drawn-clause-budget : goal.returns-in_err-drawn-clause-budget
returns-in_err-drawn-clause-budget g c = c.next.ensures.budget ∙ c.literals.invariant.budget

pub returns-in-Spent-clause-steps : goal.returns-in-Spent-clause-steps
returns-in-Spent-clause-steps g c = c.next.ensures.steps

pub returns-in-Spent-clause-states : goal.returns-in-Spent-clause-states
returns-in-Spent-clause-states g c = c.next.ensures.states

pub returns-in-Spent-clause-known : goal.returns-in-Spent-clause-known
returns-in-Spent-clause-known g c = c.next.ensures.known ∙ c.literals.invariant.known ∙ sym c.requires.known

pub returns-in-Spent-clause-kept : goal.returns-in-Spent-clause-kept
returns-in-Spent-clause-kept g c = g.met.Q.Purse.kept_trans c.args.purse.now c.literals.purse c.next.new.purse c.literals.invariant.kept c.next.ensures.kept

pub returns-in-Spent-clause-ready : goal.returns-in-Spent-clause-ready
returns-in-Spent-clause-ready g c = c.next.ensures.ready

pub returns-in-Spent-clause-budget : goal.returns-in-Spent-clause-budget
returns-in-Spent-clause-budget g c = c.next.ensures.budget ∙ c.literals.invariant.budget

pub returns-clause-steps : goal.returns-clause-steps
returns-clause-steps g c = c.literals.invariant.steps

pub returns-clause-states : goal.returns-clause-states
returns-clause-states g c = c.literals.invariant.states

pub returns-clause-known : goal.returns-clause-known
returns-clause-known g c = c.literals.invariant.known ∙ sym c.requires.known

pub returns-clause-kept : goal.returns-clause-kept
returns-clause-kept g c = c.literals.invariant.kept

pub returns-clause-ready : goal.returns-clause-ready
returns-clause-ready g c = c.literals.invariant.ready

pub returns-clause-budget : goal.returns-clause-budget
returns-clause-budget g c = c.literals.invariant.budget

pub next-requires-clause-some : goal.next-requires-clause-some
next-requires-clause-some g c = c.requires.some

pub next-requires-clause-alike : goal.next-requires-clause-alike
next-requires-clause-alike g c = c.requires.alike

pub next-requires-clause-lemmas : goal.next-requires-clause-lemmas
next-requires-clause-lemmas g c = c.requires.lemmas

pub next-requires-clause-steps : goal.next-requires-clause-steps
next-requires-clause-steps g c = c.literals.invariant.steps

pub next-requires-clause-states : goal.next-requires-clause-states
next-requires-clause-states g c = c.literals.invariant.states

pub next-requires-clause-going : goal.next-requires-clause-going
next-requires-clause-going g c = c.literals.invariant.going

pub next-requires-clause-known : goal.next-requires-clause-known
next-requires-clause-known g c = c.literals.invariant.known

pub next-requires-clause-ready : goal.next-requires-clause-ready
next-requires-clause-ready g c = c.literals.invariant.ready
