-- The own values of a fair lasso of the monitored system are a lasso of the system.
use Rattle.std.proofs.Common.{◌≡◌, ℕ, ◌+◌, ◌-◌, ◌<◌, Bool, List, [], length, sym, ap, ◌∙◌, subst, arith}
use Rattle.std.specs.Prelude.{nat_lt, if◌then◌else◌}
use Rattle.std.proofs.lemmas.Bool.Decides.{nat_tests}
use Rattle.std.proofs.lemmas.List.{get_or_default}
use Rattle.ltl_meaning.specs.Ltl.{Ltl}
use Rattle.clause_core.specs.declared.literal.Lit.{Lit}
use Rattle.clause_core.specs.Assignments.{Agrees}
use Rattle.clause_core.specs.Systems.{TransitionSystem, Gives, StepBits}
use Rattle.ltl_monitor.specs.States.{Extends, IsMonitor}
use Rattle.ltl_monitor.specs.Lassos.{IsLasso}
use Rattle.ltl_monitor.proofs.BitLassos.{first_like, step_like}
use Rattle.lasso_search.specs.Lassos.{Lasso, state, after, KeepsSteps, IsFairLasso, IsOwnLasso}
use Rattle.lasso_search.proofs.Stretched.{below_monitor}

after_inside : (i n s : ℕ) → s < n → (if nat_lt (i + 1) n then i + 1 else s) < n
after_inside i n s h = grind (arith, nat_tests)

module _ (sys m : TransitionSystem) (f : Ltl) (atoms : List Lit) (ism : IsMonitor sys f atoms m) (own_gives : Gives sys.state_bits sys.fair sys.defs)
    (gives : Gives m.state_bits m.fair m.defs) (n : ℕ) (r own : Lasso) (fair : IsFairLasso m n r) (is : IsOwnLasso sys m r own) where
  values : ℕ → ℕ → Bool
  values i = (own_gives.extends (state r i)).0

  extends : (i : ℕ) → Extends sys (state r i) (values i)
  unfolding values
  extends i = (let g = own_gives.extends (state r i) in (g.1, g.2))

  below : IsLasso sys (state r) n r.start
  below = below_monitor sys m f atoms ism gives (state r) values n r.start extends fair.lasso

  same : (i : ℕ) → i < n → Agrees sys.state_bits (state r i) (state own i)
  same i lt v low = sym ((is.rows i (omega (arith, lt, fair.size))).state v low)

  step_same : (i j : ℕ) → i < n → j < n → StepBits sys (state r i) (state r j) → StepBits sys (state own i) (state own j)
  step_same i j lt lj h = step_like sys (state r i) (state r j) (state own i) (state own j) (same i lt) (same j lj) h

  is_lasso : IsLasso sys (state own) n own.start
  is_lasso =
      let inside = below.inside in
      let start : own.start ≡ r.start = is.start in record {
        inside = omega (arith, inside, start);
        first = first_like sys (state r 0) (state own 0) (same 0 (omega (arith, inside))) below.first;
        steps = λ i lt. step_same i (i + 1) (omega (arith, lt)) lt (below.steps i lt);
        back = subst (λ k. StepBits sys (state own (n - 1)) (state own k)) (sym start) (step_same (n - 1) r.start (omega (arith, inside)) inside below.back);
      }

  after_same : (i : ℕ) → after own i ≡ after r i
  after_same i =
      ap (λ k. if nat_lt (i + 1) k then i + 1 else own.start) is.size ∙ ap (λ s. if nat_lt (i + 1) (length r.rows) then i + 1 else s) is.start

  keeps_steps : KeepsSteps sys own
  keeps_steps =
      let size : length own.rows ≡ length r.rows = is.size in record {
        full = λ k d lt. ap length (get_or_default own.rows k d [] lt) ∙ (is.rows k (omega (arith, lt, size))).full;
        steps = λ i lt. (is.rows i (omega (arith, lt, size))).step (fair.steps.steps i (omega (arith, lt, size)));
        next = λ i lt b low.
            (let here : i < length r.rows = omega (arith, lt, size) in
            let begins : r.start < n = fair.lasso.inside in
            let long : length r.rows ≡ n = fair.size in
            let start : r.start < length r.rows = omega (arith, begins, long) in
            let inside : after r i < length r.rows = after_inside i (length r.rows) r.start start in
            (is.rows i here).next b low ∙ fair.steps.next i here b (omega (arith, low, ism.bits))
            ∙ sym ((is.rows (after r i) inside).state b low) ∙ ap (λ k. state own k b) (sym (after_same i)));
      }

  pub own_is_lasso : KeepsSteps sys own × IsLasso sys (state own) n own.start
  own_is_lasso = (keeps_steps, is_lasso)
