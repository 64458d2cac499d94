-- A system that stands for a formula can be proved, and what is answered is of that system.
use Rattle.std.proofs.Common.{◌≡◌, List, length, subst, sym}
use Rattle.clause_core.specs.declared.literal.Lit.{Lit}
use Rattle.clause_core.specs.Literals.{Within}
use Rattle.clause_core.specs.Systems.{TransitionSystem, Gives}
use Rattle.ltl_meaning.specs.Temporal.{Temporal, formula_of}
use Rattle.ltl_meaning.specs.Unfolded.{unfolded}
use Rattle.ltl_monitor.specs.States.{AtomsBelow}
use Rattle.prove_ltl.specs.declared.effort.LtlEffort.{LtlEffort}
use Rattle.prove_ltl.specs.LtlAnswers.{IsLtlDone}
use Rattle.smv_cli.specs.Records.{ltl_effort}
use Rattle.smv_cli.proofs.OfFormulas.{atoms_given}
use Rattle.smv_cli.proofs.formulas.ask.Goals as goal

pub prove_ltl-requires-clause-numbers : goal.prove_ltl-requires-clause-numbers
prove_ltl-requires-clause-numbers g c _ _ =
    let r = c.args.formula.now in
    let stands = c.requires.stands.1.1 in
    subst (λ (f : Temporal). AtomsBelow (length c.atoms-atoms.result.now) (unfolded f)) (sym c.formula-stated.ensures)
    (subst (λ (l : List Lit). AtomsBelow (length l) (unfolded r.formula)) (sym c.atoms-atoms.ensures) stands.numbers)

pub prove_ltl-requires-clause-within : goal.prove_ltl-requires-clause-within
prove_ltl-requires-clause-within g c _ _ =
    let r = c.args.formula.now in
    let stands = c.requires.stands.1.1 in
    subst (λ (s : TransitionSystem). Within s.all_bits c.atoms-atoms.result.now) (sym c.system-system.ensures)
    (subst (λ (l : List Lit). Within r.system.all_bits l) (sym c.atoms-atoms.ensures) stands.within)

pub prove_ltl-requires-clause-given : goal.prove_ltl-requires-clause-given
prove_ltl-requires-clause-given g c _ _ =
    let r = c.args.formula.now in
    let given = atoms_given c.requires.stands.0 c.requires.stands.1.0 r c.requires.stands.1.1 in
    subst (λ (s : TransitionSystem). Gives s.state_bits c.atoms-atoms.result.now s.defs) (sym c.system-system.ensures)
    (subst (λ (l : List Lit). Gives r.system.state_bits l r.system.defs) (sym c.atoms-atoms.ensures) given)

pub returns : goal.returns
returns g c =
    let r = c.args.formula.now in
    let effort = c.args.effort.now in
    let done = c.in_ok-done.ensures in
    let at_effort : IsLtlDone c.system-system.result.now (unfolded (formula_of c.formula-stated.result.now.root)) c.atoms-atoms.result.now (ltl_effort effort) c.in_ok-done.done.work.items c.in_ok-done.done.answer =
    subst (λ (e : LtlEffort). IsLtlDone c.system-system.result.now (unfolded (formula_of c.formula-stated.result.now.root)) c.atoms-atoms.result.now e c.in_ok-done.done.work.items c.in_ok-done.done.answer) c.ltl_effort-limits.ensures done in
    let whole : IsLtlDone r.system (unfolded r.formula) r.atoms (ltl_effort effort) c.in_ok-done.done.work.items c.in_ok-done.done.answer =
    subst (λ (l : List Lit). IsLtlDone r.system (unfolded r.formula) l (ltl_effort effort) c.in_ok-done.done.work.items c.in_ok-done.done.answer) c.atoms-atoms.ensures
    (subst (λ (f : Temporal). IsLtlDone r.system (unfolded f) c.atoms-atoms.result.now (ltl_effort effort) c.in_ok-done.done.work.items c.in_ok-done.done.answer) c.formula-stated.ensures
    (subst (λ (s : TransitionSystem). IsLtlDone s (unfolded (formula_of c.formula-stated.result.now.root)) c.atoms-atoms.result.now (ltl_effort effort) c.in_ok-done.done.work.items c.in_ok-done.done.answer) c.system-system.ensures at_effort)) in
    record { log = whole.log; so_it_was = whole.so_it_was; right = whole.right }
