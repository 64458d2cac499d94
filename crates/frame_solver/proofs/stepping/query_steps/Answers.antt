use Rattle.std.proofs.Common.{◌≡◌, ◌+◌, ◌-◌, ℕ, List, [], ◌∷◌, ◌++◌, subst, sym, refl, arith, ◌∙◌, ap, append_assoc}
use Rattle.std.specs.Prelude.{Contains}
use Rattle.std.proofs.lemmas.List.{append-nil}
use Rattle.std.proofs.lemmas.List.Elements.{All-nil}
use Rattle.std.proofs.lemmas.Result.{IfOk-weaker}
use Rattle.clause_core.specs.declared.literal.Lit.{Lit}
use Rattle.clause_core.specs.Systems.{TransitionSystem}
use Rattle.sat_core.specs.Queries.{State}
use Rattle.frame_core.specs.FrameLaw.{system_at}
use Rattle.frame_solver.specs.declared.loading.Engine.{Engine}
use Rattle.frame_solver.specs.Guards.{off}
use Rattle.frame_solver.specs.Groups.{base, step_heads, clauses_of}
use Rattle.frame_solver.specs.Stepping.{step_literals, Finds, Reads}
use Rattle.frame_solver.specs.Paying.{Steps, PaysOne}
use Rattle.frame_solver.proofs.Paid.{none_same, steps_paid}
use Rattle.frame_solver.proofs.Loaded.{still_loaded, own_one, own_two}
use Rattle.frame_solver.proofs.Stepped.{found_by, own_within}
use Rattle.frame_solver.proofs.stepping.query_steps.Goals as goal

pub returns-in_err-push_guarded-clause-pays : goal.returns-in_err-push_guarded-clause-pays
returns-in_err-push_guarded-clause-pays g c =
    none_same c.args.systems.now c.args.lemmas.now (Steps c.args.level c.args.clause.now) _ _ _ _ (ap (λ (s : State). s.learned) c.in_err-push_guarded.ensures.failed) refl

pub returns-in_err-push_guarded-clause-engine : goal.returns-in_err-push_guarded-clause-engine
returns-in_err-push_guarded-clause-engine g c =
    let sys = system_at c.args.systems.now 0 in
    let e = c.args.engine.now in
    let own : ℕ = e.used - 1 in
    let clause = c.args.clause.now in
    still_loaded (base sys) (step_heads sys) (clauses_of c.args.lemmas.now) e _ own [] c.requires.engine (omega arith) (omega (arith, c.requires.engine.room)) refl refl refl refl
    (ap (λ (s : State). s.vars) c.in_err-push_guarded.ensures.failed) (ap (λ (s : State). s.given) c.in_err-push_guarded.ensures.failed ∙ sym (append-nil e.solver.given)) (All-nil (λ (d : List Lit). Contains d (off own)))

pub returns-in_err-literals-clause-pays : goal.returns-in_err-literals-clause-pays
returns-in_err-literals-clause-pays g c =
    none_same c.args.systems.now c.args.lemmas.now (Steps c.args.level c.args.clause.now) _ _ _ _ (ap (λ (s : State). s.learned) c.in_ok-push_guarded.ensures.done) refl

pub returns-in_err-literals-clause-engine : goal.returns-in_err-literals-clause-engine
returns-in_err-literals-clause-engine g c =
    let sys = system_at c.args.systems.now 0 in
    let e = c.args.engine.now in
    let own : ℕ = e.used - 1 in
    let clause = c.args.clause.now in
    still_loaded (base sys) (step_heads sys) (clauses_of c.args.lemmas.now) e _ own ((off own ∷ clause) ∷ []) c.requires.engine (omega arith) (omega (arith, c.requires.engine.room)) refl refl refl refl
    (ap (λ (s : State). s.vars) c.in_ok-push_guarded.ensures.done) (ap (λ (s : State). s.given) c.in_ok-push_guarded.ensures.done) (own_one own clause)

pub ask-requires-clause-extra : goal.ask-requires-clause-extra
ask-requires-clause-extra g c =
    let sys = system_at c.args.systems.now 0 in
    let e = c.args.engine.now in
    let own : ℕ = e.used - 1 in
    let clause = c.args.clause.now in
    let is_extra : c.deref.result.now ≡ step_literals sys.state_bits own clause =
    c.deref.ensures.value ∙ c.in_ok-literals.ensures ∙ ap (λ k. step_literals k own clause) (c.state_bits.ensures.value ∙ ap (λ (s : TransitionSystem). s.state_bits) c.system_of-system.ensures.value) in
    let next : own + 1 ≡ e.used = omega (arith, c.requires.engine.room) in
    let vars : c.push_guarded.new.solver.vars ≡ e.solver.vars = ap (λ (s : State). s.vars) c.in_ok-push_guarded.ensures.done in
    own_within sys c.system_of-system.ensures.law own c.push_guarded.new.solver.vars clause c.deref.result.now is_extra c.requires.within
    (omega (arith, next, c.requires.engine.room)) (omega (arith, next, vars, c.requires.engine.fits))

pub returns-in_err-answer-clause-pays : goal.returns-in_err-answer-clause-pays
returns-in_err-answer-clause-pays g c =
    let sys = system_at c.args.systems.now 0 in
    let e = c.args.engine.now in
    let own : ℕ = e.used - 1 in
    let clause = c.args.clause.now in
    let is_extra : c.deref.result.now ≡ step_literals sys.state_bits own clause =
    c.deref.ensures.value ∙ c.in_ok-literals.ensures ∙ ap (λ k. step_literals k own clause) (c.state_bits.ensures.value ∙ ap (λ (s : TransitionSystem). s.state_bits) c.system_of-system.ensures.value) in
    let next : own + 1 ≡ e.used = omega (arith, c.requires.engine.room) in
    steps_paid c.args.systems.now c.args.lemmas.now e c.requires.engine own c.args.level clause next c.push_guarded.new.solver c.ask.new.engine.solver
    c.deref.result.now _ _ is_extra c.in_ok-push_guarded.ensures.done c.ask.ensures.asked

pub returns-in_err-answer-clause-engine : goal.returns-in_err-answer-clause-engine
returns-in_err-answer-clause-engine g c =
    let sys = system_at c.args.systems.now 0 in
    let e = c.args.engine.now in
    let own : ℕ = e.used - 1 in
    let clause = c.args.clause.now in
    still_loaded (base sys) (step_heads sys) (clauses_of c.args.lemmas.now) e _ own ((off own ∷ clause) ∷ []) c.requires.engine (omega arith) (omega (arith, c.requires.engine.room))
    (ap (λ (q : Engine). q.base) c.ask.ensures.same) (ap (λ (q : Engine). q.heads) c.ask.ensures.same) (ap (λ (q : Engine). q.loaded) c.ask.ensures.same) (ap (λ (q : Engine). q.used) c.ask.ensures.same)
    (c.ask.ensures.vars ∙ ap (λ (s : State). s.vars) c.in_ok-push_guarded.ensures.done) (c.ask.ensures.given ∙ ap (λ (s : State). s.given) c.in_ok-push_guarded.ensures.done) (own_one own clause)

pub returns-in_err-push-clause-pays : goal.returns-in_err-push-clause-pays
returns-in_err-push-clause-pays g c =
    let sys = system_at c.args.systems.now 0 in
    let e = c.args.engine.now in
    let own : ℕ = e.used - 1 in
    let clause = c.args.clause.now in
    let is_extra : c.deref.result.now ≡ step_literals sys.state_bits own clause =
    c.deref.ensures.value ∙ c.in_ok-literals.ensures ∙ ap (λ k. step_literals k own clause) (c.state_bits.ensures.value ∙ ap (λ (s : TransitionSystem). s.state_bits) c.system_of-system.ensures.value) in
    let next : own + 1 ≡ e.used = omega (arith, c.requires.engine.room) in
    let P : List (List Lit) → Type 0 = λ xs. PaysOne c.args.systems.now c.args.lemmas.now e.solver.learned xs (g.Q.Purse.tickets c.args.purse.now)
    (g.Q.Purse.tickets c.ask.new.purse) (Steps c.args.level clause) in
    subst P (sym (ap (λ (s : State). s.learned) c.in_err-push.ensures.failed))
    (steps_paid c.args.systems.now c.args.lemmas.now e c.requires.engine own c.args.level clause next c.push_guarded.new.solver c.ask.new.engine.solver
    c.deref.result.now _ _ is_extra c.in_ok-push_guarded.ensures.done c.ask.ensures.asked)

pub returns-in_err-push-clause-engine : goal.returns-in_err-push-clause-engine
returns-in_err-push-clause-engine g c =
    let sys = system_at c.args.systems.now 0 in
    let e = c.args.engine.now in
    let own : ℕ = e.used - 1 in
    let clause = c.args.clause.now in
    still_loaded (base sys) (step_heads sys) (clauses_of c.args.lemmas.now) e _ own ((off own ∷ clause) ∷ []) c.requires.engine (omega arith) (omega (arith, c.requires.engine.room))
    (ap (λ (q : Engine). q.base) c.ask.ensures.same) (ap (λ (q : Engine). q.heads) c.ask.ensures.same) (ap (λ (q : Engine). q.loaded) c.ask.ensures.same) (ap (λ (q : Engine). q.used) c.ask.ensures.same)
    (ap (λ (s : State). s.vars) c.in_err-push.ensures.failed ∙ c.ask.ensures.vars ∙ ap (λ (s : State). s.vars) c.in_ok-push_guarded.ensures.done) (ap (λ (s : State). s.given) c.in_err-push.ensures.failed ∙ c.ask.ensures.given ∙ ap (λ (s : State). s.given) c.in_ok-push_guarded.ensures.done) (own_one own clause)

pub returns-clause-found : goal.returns-clause-found
returns-clause-found g c =
    let sys = system_at c.args.systems.now 0 in
    let e = c.args.engine.now in
    let own : ℕ = e.used - 1 in
    let clause = c.args.clause.now in
    let is_extra : c.deref.result.now ≡ step_literals sys.state_bits own clause =
    c.deref.ensures.value ∙ c.in_ok-literals.ensures ∙ ap (λ k. step_literals k own clause) (c.state_bits.ensures.value ∙ ap (λ (s : TransitionSystem). s.state_bits) c.system_of-system.ensures.value) in
    let next : own + 1 ≡ e.used = omega (arith, c.requires.engine.room) in
    let f = c.ask.new.engine in
    let budget = g.Q.Purse.budget c.args.purse.now in
    let over = g.Q.Purse.spent c.ask.new.purse in
    let answer = c.in_ok-answer.answer in
    let first : f.base + f.heads ≡ e.base + e.heads = ap (λ (q : Engine). q.base + q.heads) c.ask.ensures.same in
    IfOk-weaker c.read.result (Reads c.system_of-system.result.now (f.base + f.heads) c.args.lemmas.now clause answer) (Finds sys c.args.lemmas.now c.args.level clause budget over)
    (λ found reads.
    let R : TransitionSystem → Type 0 = λ s. Reads s (f.base + f.heads) c.args.lemmas.now clause answer found in
    let F : ℕ → Type 0 = λ k. Reads sys k c.args.lemmas.now clause answer found in
    found_by sys c.system_of-system.ensures.law c.args.lemmas.now c.requires.lemmas e c.requires.engine own c.args.level clause next c.requires.within c.requires.level
    c.requires.first c.push_guarded.new.solver c.deref.result.now budget over answer found is_extra c.in_ok-push_guarded.ensures.done c.in_ok-answer.ensures.answer
    (subst F first (subst R c.system_of-system.ensures.value reads)))
    c.read.ensures

pub returns-clause-pays : goal.returns-clause-pays
returns-clause-pays g c =
    let sys = system_at c.args.systems.now 0 in
    let e = c.args.engine.now in
    let own : ℕ = e.used - 1 in
    let clause = c.args.clause.now in
    let is_extra : c.deref.result.now ≡ step_literals sys.state_bits own clause =
    c.deref.ensures.value ∙ c.in_ok-literals.ensures ∙ ap (λ k. step_literals k own clause) (c.state_bits.ensures.value ∙ ap (λ (s : TransitionSystem). s.state_bits) c.system_of-system.ensures.value) in
    let next : own + 1 ≡ e.used = omega (arith, c.requires.engine.room) in
    let P : List (List Lit) → Type 0 = λ xs. PaysOne c.args.systems.now c.args.lemmas.now e.solver.learned xs (g.Q.Purse.tickets c.args.purse.now)
    (g.Q.Purse.tickets c.ask.new.purse) (Steps c.args.level clause) in
    subst P (sym (ap (λ (s : State). s.learned) c.in_ok-push.ensures.done))
    (steps_paid c.args.systems.now c.args.lemmas.now e c.requires.engine own c.args.level clause next c.push_guarded.new.solver c.ask.new.engine.solver
    c.deref.result.now _ _ is_extra c.in_ok-push_guarded.ensures.done c.ask.ensures.asked)

pub returns-clause-engine : goal.returns-clause-engine
returns-clause-engine g c =
    let sys = system_at c.args.systems.now 0 in
    let e = c.args.engine.now in
    let own : ℕ = e.used - 1 in
    let clause = c.args.clause.now in
    let closed : c.push.new.self.given ≡ e.solver.given ++ (off own ∷ clause) ∷ (off own ∷ []) ∷ [] =
    ap (λ (s : State). s.given) c.in_ok-push.ensures.done ∙ ap (λ xs. xs ++ (off own ∷ []) ∷ []) (c.ask.ensures.given ∙ ap (λ (s : State). s.given) c.in_ok-push_guarded.ensures.done)
    ∙ append_assoc e.solver.given ((off own ∷ clause) ∷ []) ((off own ∷ []) ∷ []) in
    still_loaded (base sys) (step_heads sys) (clauses_of c.args.lemmas.now) e _ own ((off own ∷ clause) ∷ (off own ∷ []) ∷ []) c.requires.engine (omega arith) (omega (arith, c.requires.engine.room))
    (ap (λ (q : Engine). q.base) c.ask.ensures.same) (ap (λ (q : Engine). q.heads) c.ask.ensures.same) (ap (λ (q : Engine). q.loaded) c.ask.ensures.same) (ap (λ (q : Engine). q.used) c.ask.ensures.same)
    (ap (λ (s : State). s.vars) c.in_ok-push.ensures.done ∙ c.ask.ensures.vars ∙ ap (λ (s : State). s.vars) c.in_ok-push_guarded.ensures.done) closed (own_two own clause [])
