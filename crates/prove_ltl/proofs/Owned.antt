-- The own values of a fair monitored lasso violate the formula.
use Rattle.std.proofs.Common.{◌≡◌, ℕ, ◌<◌, Bool, List, [], length, sym, ap, ◌∙◌, subst, inl, inr, arith}
use Rattle.std.proofs.lemmas.Bool.{cases_lt}
use Rattle.std.proofs.lemmas.List.{get_or_past}
use Rattle.clause_core.specs.declared.literal.Lit.{Lit}
use Rattle.clause_core.specs.Assignments.{assignment_of}
use Rattle.clause_core.specs.Systems.{TransitionSystem}
use Rattle.ltl_meaning.specs.Ltl.{Ltl}
use Rattle.ltl_monitor.specs.FairLasso.{Violates}
use Rattle.ltl_monitor.specs.States.{Extends, justice_of}
use Rattle.ltl_monitor.specs.Lassos.{IsLasso, word_of}
use Rattle.lasso_search.specs.Lassos.{Lasso, state, KeepsSteps, IsFairLasso, IsOwnLasso}
use Rattle.ltl_lassos.specs.Violating.{ViolatesAlong, AreViolating}

module _ (sys m : TransitionSystem) (f : Ltl) (atoms : List Lit) (n : ℕ) (r own : Lasso) (fair : IsFairLasso m n r) (is : IsOwnLasso sys m r own)
    (keeps : KeepsSteps sys own) (lasso : IsLasso sys (state own) n own.start) where
  same_bits : (i v : ℕ) → v < sys.state_bits → state own i v ≡ state r i v
  same_bits i v low = elim (cases_lt i (length r.rows)) [
    | inl here ↦ (is.rows i here).state v low
    | inr past ↦
        (let size = is.size in
        ap (λ (row : List Bool). assignment_of row v) (get_or_past own.rows i [] (omega (arith, past, size)) ∙ sym (get_or_past r.rows i [] past)))
  ]

  pub own_violates : ((values : ℕ → ℕ → Bool) → ((i : ℕ) → Extends sys (state r i) (values i)) → IsLasso sys (state r) n r.start ×
      Violates (justice_of sys atoms) f (word_of sys atoms values n r.start) n r.start) → AreViolating sys f atoms own.rows own.start
  own_violates found =
      let size : n ≡ length own.rows = sym (is.size ∙ fair.size) in
      let start : r.start ≡ own.start = sym is.start in
      let inside = lasso.inside in
      let along : ViolatesAlong sys f atoms (state own) n r.start = λ values ext.
      (found values (λ i. ((λ v low. (ext i).0 v low ∙ same_bits i v low), (ext i).1))).1 in
      record {
        inside = omega (arith, inside, size);
        full = keeps.full;
        first = lasso.first;
        steps = keeps.steps;
        next = keeps.next;
        violates = subst (λ (l : ℕ). ViolatesAlong sys f atoms (state own) (length own.rows) l) start
            (subst (λ (k : ℕ). ViolatesAlong sys f atoms (state own) k r.start) size along);
      }
