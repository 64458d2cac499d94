use Rattle.std.proofs.Common.{◌≡◌, ◌<◌, ℕ, ◌++◌, ◌∙◌, sym, subst, ap, refl, inl, inr, length, List, [], take, get_or, arith, below_more, ◌-◌}
use Rattle.std.specs.List.{All}
use Rattle.std.proofs.lemmas.List.{nil_from_length}
use Rattle.clause_core.specs.declared.literal.Lit.{Lit}
use Rattle.clause_core.specs.Literals.{Within}
use Rattle.clause_core.proofs.Lists.{within_take}
use Rattle.rup_check.specs.Chains.{before}
use Rattle.rup_check.proofs.Walking.{before_within, follows_same}
use Rattle.rup_check.proofs.steps.check_steps.Goals as goal

pub follows_by-requires-clause-within : goal.follows_by-requires-clause-within
follows_by-requires-clause-within c =
    let k = c.loop-k.k in
    let n = length c.args.values.now in
    let steps = c.args.log.now.steps in
    let P : ℕ → Type 0 = λ n. All (Within n) (before c.args.clauses.now c.args.units.now c.steps-steps.result.now k) in
    let taken : All (Within n) (take k steps) = within_take n steps k (omega (arith, ap length c.steps-steps.ensures.value)) (λ j lt. (c.loop-k.invariant.hinted j lt).0) in
    let Q : List (List Lit) → Type 0 = λ w. All (Within n) (take k w) in
    subst P (sym c.loop-k.auto.values)
    (before_within n c.args.clauses.now c.args.units.now c.steps-steps.result.now k c.requires.in_clauses c.requires.in_units
    (subst Q (sym c.steps-steps.ensures.value) taken))

pub returns-then-not-follows_by-clause-says : goal.returns-then-not-follows_by-clause-says
returns-then-not-follows_by-clause-says c =
    let k = c.loop-k.k in
    let same = c.steps-steps.ensures.value in
    let lt : k < length c.args.log.now.steps = omega (arith, ap length same) in
    let step : c.get-step.result.now ≡ get_or c.args.log.now.steps k [] = c.get-step.ensures ∙ ap (λ (w : List (List Lit)). get_or w k []) same in (
      c.loop-k.invariant.hinted,
      inl (
        lt,
        λ h. c.if-not-follows_by.ensures.says
            (follows_same c.args.clauses.now c.args.units.now _ _ k _ _ _ _ (sym same) (sym step) (sym c.hints.ensures) h.1),
      ),
    )

pub loop-k-preserved : goal.loop-k-preserved
loop-k-preserved c =
    let k = c.loop-k.k in
    let same = c.steps-steps.ensures.value in
    let step : c.get-step.result.now ≡ get_or c.args.log.now.steps k [] = c.get-step.ensures ∙ ap (λ (w : List (List Lit)). get_or w k []) same in
    let Q : List Lit → Type 0 = Within (length c.loop-k.values) in
    let R : ℕ → Type 0 = λ n. Within n (get_or c.args.log.now.steps k []) in
    record {
      clear = c.follows_by.ensures.clear;
      hinted = below_more _ _ c.loop-k.invariant.hinted (
        subst R c.loop-k.auto.values (subst Q step (c.is_within.ensures.0 c.if-not-is_within.false)),
        follows_same c.args.clauses.now c.args.units.now _ _ k _ _ _ _ same step c.hints.ensures c.if-not-follows_by.ensures.says,
      );
    }

pub returns-then-get-ne0-clause-says : goal.returns-then-get-ne0-clause-says
returns-then-get-ne0-clause-says c =
    let n = c.len-n.result in
    let same = c.steps-steps.ensures.value in
    let whole : n ≡ length c.args.log.now.steps = omega (arith, ap length same) in (
      λ j lt. c.loop-k.invariant.hinted j (omega arith),
      inr (
        whole,
        λ e.
            let at : n - 1 ≡ e.0 = omega (arith, e.1) in
            let empty : c.get.result.now ≡ [] = c.get.ensures ∙ ap (λ (w : List (List Lit)). get_or w (n - 1) []) same ∙ (rw at e.2) in
            c.if-get-ne0.true (ap length empty),
      ),
    )

pub returns-clause-says : goal.returns-clause-says
returns-clause-says c =
    let n = c.len-n.result in
    let same = c.steps-steps.ensures.value in
    let whole : n ≡ length c.args.log.now.steps = omega (arith, ap length same) in
    let last : get_or c.args.log.now.steps (n - 1) [] ≡ [] =
    sym (c.get.ensures ∙ ap (λ (w : List (List Lit)). get_or w (n - 1) []) same) ∙ nil_from_length _ c.if-get-ne0.false in
    (λ j below. c.loop-k.invariant.hinted j (omega arith), (n - 1, omega arith, last))
