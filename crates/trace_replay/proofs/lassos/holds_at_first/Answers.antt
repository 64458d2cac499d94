-- The table of the formula tells whether the specification holds.
use Rattle.std.proofs.Common.{◌∙◌, ℕ, List, sym, subst}
use Rattle.smv_meaning.specs.Lassos.{Lasso}
use Rattle.smv_formulas.specs.Says.{atom_parts}
use Rattle.smv_formulas.specs.Words.{IsWordOf}
use Rattle.trace_replay.proofs.lassos.holds_at_first.Goals as goal

pub returns : goal.returns
returns c =
    let p = c.args.typed.now.scope.program in
    let nodes = c.args.typed.now.nodes in
    let w : Lasso = record { states = c.args.states.now; inputs = c.args.inputs.now; start = c.args.start } in
    let word = c.in_ok-word.word in
    let is : IsWordOf p (atom_parts nodes c.in_ok-specified.specified.atoms) w word = subst (λ (a : List ℕ). IsWordOf p (atom_parts nodes a) w word) c.as_slice.ensures c.in_ok-word.ensures in
    let says = c.in_ok-specified.ensures.words w word is 0 in
    let told = c.in_ok-table.ensures 0 in
    (λ x. says.0 (told.0 (sym c.value.ensures ∙ x)), λ h. c.value.ensures ∙ told.1 (says.1 h))
