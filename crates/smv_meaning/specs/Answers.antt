-- What the evaluation of one expression answers.
use Rattle.std.specs.Prelude.{◌≡◌, ℕ, true, false, List, [], Some, Result, Ok, Err, if◌then◌else◌}
use Rattle.std.specs.List.{Contains}
use Rattle.smv_tree.specs.declared.tree.Program.{Program}
use Rattle.smv_tree.specs.declared.tree.Expr.{Expr}
use Rattle.smv_value.specs.declared.value.Value.{Value}
use Rattle.smv_resolve.specs.declared.resolve.ResolveStop.{ResolveStop}
use Rattle.smv_resolve.specs.declared.resolve.ResolveStop.TheVariants as stop
use Rattle.smv_resolve.specs.declared.item.ItemKind.{ItemKind}
use Rattle.smv_resolve.specs.Items.{ResolvedItem}
use Rattle.smv_resolve.specs.StuckParts.{first_stuck_part}
use Rattle.smv_resolve.specs.Resolved.{resolved, is_stuck}
use Rattle.smv_layout.specs.Layout.{items_of, laid_expression}
use Rattle.smv_slots.specs.Slots.{slots_of}
use Rattle.smv_meaning.specs.declared.outcome.Evaluation.{Evaluation}
use Rattle.smv_meaning.specs.Faults.{speaks_of_paths}
use Rattle.smv_meaning.specs.Runs.{are_inputs, is_given, is_state, speaks_of_step}
use Rattle.smv_meaning.specs.Values.{outcome}

-- the outcome of the expression in the instance of this number, in the state s with the inputs u and the next state t;
-- or that some part of the expression is stuck, told at the first one
abbrev pub Evaluates : Program → ℕ → Expr → List Value → List Value → List Value → Result Evaluation ResolveStop → Type 0
Evaluates p at e s u t (Ok o) = o ≡ outcome (slots_of p) s u t (laid_expression p (resolved p at e))
Evaluates p at e s u t (Err (stop.Stuck place)) = (first_stuck_part p at e ≡ Some place) × (is_stuck (resolved p at e) ≡ true)
Evaluates p at e s u t (Err stop.NoMemory) = Unit {0}

-- what an item of this kind looks at: these values of a step, or none if it speaks of a state
abbrev pub looked_at : ItemKind → List Value → List Value
looked_at kind values = if speaks_of_step kind then values else []

-- Where the expression is the value of an item of the program, and no temporal formula, its outcome is values or a
-- fault. That holds in each state of the declared types, and in each step between two of them with such inputs.
abbrev pub GivesWhereTyped : Program → ℕ → Expr → List Value → List Value → List Value → Evaluation → Type 0
GivesWhereTyped p at e s u t o = (x : ResolvedItem) (v w : List Value) → Contains (items_of p) x → x.value ≡ laid_expression p (resolved p at e) → speaks_of_paths x.kind ≡ false →
    is_state p s ≡ true → are_inputs p v ≡ true → is_state p w ≡ true → u ≡ looked_at x.kind v → t ≡ looked_at x.kind w → is_given o ≡ true
