use Rattle.std.proofs.Common.{false, true, refl, sym, subst}
use Rattle.clause_core.specs.Systems.{TransitionSystem}
use Rattle.frame_core.specs.Facts.{IsFound}
use Rattle.frame_core.specs.FrameLaw.{system_at}
use Rattle.frame_solver.specs.Firsts.{negation_of}
use Rattle.frame_solver.specs.Paying.{Firsts}
use Rattle.frame_query.proofs.Found.{bad_found, flag_same, first_at_none}
use Rattle.frame_solver.proofs.Paid.{none_same}
use Rattle.frame_query.proofs.finding.found_bad.Goals as goal

pub new-requires : goal.new-requires
new-requires g c =
    let sys = system_at c.args.systems.now c.args.j in
    let P : TransitionSystem → Type 0 = λ s. IsFound record { system = s; values = c.args.values; is_step = false; first = true } in
    subst P (sym c.system_of-system.ensures.value)
    (bad_found sys c.args.lemmas.now c.args.top c.args.values true c.requires.bad (first_at_none sys c.args.lemmas.now c.args.top c.args.values c.requires.bad c.if-top-eq0.true))

pub returns-then-top-eq0-clause-pays : goal.returns-then-top-eq0-clause-pays
returns-then-top-eq0-clause-pays g c =
    none_same c.args.systems.now c.args.lemmas.now (Firsts (negation_of c.args.values (system_at c.args.systems.now 0).state_bits)) _ _ _ _ refl refl

pub new-requires-in-Known : goal.new-requires-in-Known
new-requires-in-Known g c =
    let sys = system_at c.args.systems.now c.args.j in
    let known = rw c.in-Known.is at c.in_ok-first.ensures.found in
    let P : TransitionSystem → Type 0 = λ s. IsFound record { system = s; values = c.args.values; is_step = false; first = c.in-Known.first } in
    subst P (sym c.system_of-system.ensures.value)
    (bad_found sys c.args.lemmas.now c.args.top c.args.values c.in-Known.first c.requires.bad
    (flag_same c.args.systems.now c.args.j c.args.values c.in-Known.first c.requires.number c.requires.alike known))

pub returns-clause-pays : goal.returns-clause-pays
returns-clause-pays g c = c.flag_of.ensures.pays

pub returns-then-top-eq0-clause-engine : goal.returns-then-top-eq0-clause-engine
returns-then-top-eq0-clause-engine g c = c.requires.engine

pub returns-then-top-eq0-clause-known : goal.returns-then-top-eq0-clause-known
returns-then-top-eq0-clause-known g c = refl

pub returns-then-top-eq0-clause-kept : goal.returns-then-top-eq0-clause-kept
returns-then-top-eq0-clause-kept g c = g.met.Q.Purse.kept_refl c.args.purse.now

pub returns-then-top-eq0-clause-ready : goal.returns-then-top-eq0-clause-ready
returns-then-top-eq0-clause-ready g c = c.requires.ready

pub returns-then-top-eq0-clause-budget : goal.returns-then-top-eq0-clause-budget
returns-then-top-eq0-clause-budget g c = refl

pub returns-clause-engine : goal.returns-clause-engine
returns-clause-engine g c = c.flag_of.ensures.engine

pub returns-clause-known : goal.returns-clause-known
returns-clause-known g c = c.flag_of.ensures.known

pub returns-clause-kept : goal.returns-clause-kept
returns-clause-kept g c = c.flag_of.ensures.kept

pub returns-clause-ready : goal.returns-clause-ready
returns-clause-ready g c = c.flag_of.ensures.ready

pub returns-clause-budget : goal.returns-clause-budget
returns-clause-budget g c = c.flag_of.ensures.budget
