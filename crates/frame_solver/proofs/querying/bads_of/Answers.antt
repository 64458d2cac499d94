use Rattle.std.proofs.Common.{refl}
use Rattle.frame_solver.specs.Paying.{Bads}
use Rattle.frame_core.specs.FrameLaw.{system_at}
use Rattle.frame_solver.specs.Groups.{base, state_heads, clauses_of}
use Rattle.frame_solver.proofs.Loaded.{ready_loaded}
use Rattle.frame_solver.proofs.Paid.{none_asked, one_sub}
use Rattle.frame_solver.proofs.querying.bads_of.Goals as goal

pub returns-in_err-prepare_states-clause-pays : goal.returns-in_err-prepare_states-clause-pays
returns-in_err-prepare_states-clause-pays g c =
    none_asked c.args.systems.now c.args.lemmas.now (Bads c.args.j c.args.i) _ _ _ _ c.prepare_states.ensures.known refl

pub returns-clause-pays : goal.returns-clause-pays
returns-clause-pays g c =
    one_sub c.args.systems.now c.args.lemmas.now (Bads c.args.j c.args.i) _ c.prepare_states.new.engine.solver.learned _ _ _ c.prepare_states.ensures.known c.query_bads.ensures.pays

pub returns-clause-engine : goal.returns-clause-engine
returns-clause-engine g c =
    ready_loaded (base (system_at c.args.systems.now 0)) (state_heads c.args.systems.now) (clauses_of c.args.lemmas.now) c.query_bads.new.engine
    c.query_bads.ensures.engine
