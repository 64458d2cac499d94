use Rattle.std.proofs.Common.{◌∙◌, sym, subst}
use Rattle.std.specs.Prelude.{All}
use Rattle.std.proofs.lemmas.List.Elements.{All-nil}
use Rattle.clause_core.specs.Literals.{Within}
use Rattle.frame_core.specs.declared.parts.Lemma.{Lemma}
use Rattle.frame_core.specs.FrameLaw.{system_at}
use Rattle.frame_solver.specs.Groups.{base, step_heads, state_heads, clauses_of}
use Rattle.frame_solver.proofs.Renewed.{fresh_loaded}
use Rattle.frame_query.specs.KeptProofs.{AreKept}
use Rattle.frame_query.proofs.Again.{kept_none}
use Rattle.frame_query.proofs.keeping.FrameSolver.new.Goals as goal

pub invariant_of-result : goal.invariant_of-result
invariant_of-result c =
    let sys = system_at c.args.systems.now 0 in
    let lemmas = c.new-2.result in
    let P : Lemma → Type 0 = λ l. Within sys.state_bits l.clause in
    record {
      some = c.requires.some;
      alike = c.requires.alike;
      within = subst (All P) (sym c.new-2.ensures) (All-nil P);
      for_steps = fresh_loaded (base sys) (step_heads sys) 0 (clauses_of lemmas) c.in_ok-steps.steps c.in_ok-steps.ensures;
      for_states = fresh_loaded (base sys) (state_heads c.args.systems.now) 0 (clauses_of lemmas) c.in_ok-states.states c.in_ok-states.ensures;
      of_first = c.in_ok-known.ensures ∙ c.system_of.ensures.value;
      again = subst (AreKept sys lemmas) (sym c.new-3.ensures.items) (kept_none sys lemmas);
    }
