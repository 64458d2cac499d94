use Rattle.std.proofs.Common.{◌≡◌, ◌∙◌, ℕ, ◌++◌, sym, subst, length, take, List, inr, arith}
use Rattle.std.specs.List.{All}
use Rattle.std.proofs.lemmas.List.{take_all}
use Rattle.std.proofs.lemmas.List.Elements.{All-take}
use Rattle.clause_core.specs.declared.literal.Lit.{Lit}
use Rattle.clause_core.specs.Literals.{Within}
use Rattle.clause_core.specs.Propagation.{Follows}
use Rattle.hinted_log.specs.Hints.{FollowsBy}
use Rattle.rup_check.specs.Chains.{before, units_of}
use Rattle.rup_check.proofs.Leading.{match_true, match_false}
use Rattle.rup_check.proofs.Walking.{before_within}
use Rattle.rup_check.proofs.searching.hint_next.Goals as goal

pub hints_of-requires-clause-within : goal.hints_of-requires-clause-within
hints_of-requires-clause-within c =
    let n = length c.args.values.now in
    let s = c.steps.result.now in
    let same : n ≡ length c.clear.new.values = omega arith in
    let P : ℕ → Type 0 = λ n. All (Within n) (before c.args.clauses.now c.args.units.now s (length s)) in
    let Q : List (List Lit) → Type 0 = All (Within n) in
    let kept : Q s = subst Q (sym c.steps.ensures.value) c.requires.in_steps in
    subst P same (before_within n c.args.clauses.now c.args.units.now s (length s) c.requires.in_clauses c.requires.in_units (All-take (Within n) (length s) s kept))

pub returns-then-not-branch : goal.returns-then-not-branch
returns-then-not-branch c f =
    let s = c.steps.result.now in
    let given = c.args.clauses.now ++ units_of c.args.units.now in
    let cs = before c.args.clauses.now c.args.units.now s (length s) in
    let whole : take (length s) s ≡ c.args.hinted.now.steps = take_all _ _ (omega arith) ∙ c.steps.ensures.value in
    let P : List (List Lit) → Type 0 = λ w. Follows (given ++ w) c.args.step.now in
    match_false (FollowsBy cs c.args.step.now c.hints_of.new.found.items) (Follows cs c.args.step.now → ⊥) c.in_ok-hints_of.field-0 c.if-not-branch.true
    c.in_ok-hints_of.ensures (subst P (sym whole) f)

pub returns : goal.returns
returns c =
    let s = c.steps.result.now in
    let given = c.args.clauses.now ++ units_of c.args.units.now in
    let cs = before c.args.clauses.now c.args.units.now s (length s) in
    let whole : take (length s) s ≡ c.args.hinted.now.steps = take_all _ _ (omega arith) ∙ c.steps.ensures.value in
    let f : FollowsBy cs c.args.step.now c.hints_of.new.found.items =
    match_true (FollowsBy cs c.args.step.now c.hints_of.new.found.items) (Follows cs c.args.step.now → ⊥) c.in_ok-hints_of.field-0 c.if-not-branch.false c.in_ok-hints_of.ensures in
    let P : List (List Lit) → Type 0 = λ w. FollowsBy (given ++ w) c.args.step.now c.hints_of.new.found.items in
    let R : List ℕ → Type 0 = λ w. FollowsBy (given ++ c.args.hinted.now.steps) c.args.step.now w in
    inr (c.deref.result.now, subst R (sym c.deref.ensures.value) (subst P whole f), c.in_ok-push.ensures.done)
