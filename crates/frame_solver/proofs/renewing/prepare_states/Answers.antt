use Rattle.std.proofs.Common.{◌≡◌, List, sym, ◌∙◌, subst, arith, length}
use Rattle.std.specs.Prelude.{All, Contains}
use Rattle.std.proofs.lemmas.Result.{on_ok_weaker}
use Rattle.clause_core.specs.declared.literal.Lit.{Lit}
use Rattle.frame_core.specs.FrameLaw.{system_at}
use Rattle.frame_solver.specs.Groups.{base, state_heads, clauses_of}
use Rattle.frame_solver.specs.Engines.{IsReady}
use Rattle.frame_solver.proofs.Framed.{clauses_count}
use Rattle.frame_solver.proofs.Loaded.{is_ready}
use Rattle.frame_solver.proofs.renewing.prepare_states.Goals as goal

pub returns-clause-done : goal.returns-clause-done
returns-clause-done c =
    let b = base (system_at c.args.systems.now 0) in
    let heads = (state_heads c.args.systems.now) in
    let lemmas = c.args.lemmas.now in
    let loaded = c.catch_up.ensures.each b heads c.in_ok-renew_states.ensures.engine in
    on_ok_weaker {P = c.catch_up.new.engine.loaded ≡ length lemmas} {Q = IsReady b heads (clauses_of lemmas) c.catch_up.new.engine} c.catch_up.result
    (λ all. is_ready b heads (clauses_of lemmas) c.catch_up.new.engine loaded (all ∙ sym (clauses_count lemmas))
    (omega (arith, c.in_ok-renew_states.ensures.room, c.catch_up.ensures.keeps.used, clauses_count lemmas)))
    c.catch_up.ensures.all

pub returns-clause-engine : goal.returns-clause-engine
returns-clause-engine c =
    c.catch_up.ensures.each (base (system_at c.args.systems.now 0)) (state_heads c.args.systems.now) c.in_ok-renew_states.ensures.engine

pub returns-clause-known : goal.returns-clause-known
returns-clause-known c =
    let P : List (List Lit) → Type 0 = All (Contains c.args.engine.now.solver.learned) in
    subst P (sym c.catch_up.ensures.keeps.learned) c.renew_states.ensures.known
