-- Where no value reads a slot of its own time, no slot depends on itself.
use Rattle.std.proofs.Common.{◌≡◌, ◌∙◌, ap, sym, subst, ℕ, List, length, map}
use Rattle.digraph.specs.Cycles.{Acyclic}
use Rattle.smv_slots.specs.Slots.{slots_of}
use Rattle.smv_flat.specs.Assignments.{dependencies}
use Rattle.smv_flat.specs.Graph.{assigned_by}
use Rattle.smv_flat.proofs.Depending.{dependency, slot_graph}
use Rattle.smv_flat.proofs.Quiet.{all_apart}
use Rattle.smv_flat.proofs.cycles.judge_cycle.Goals as goal

pub returns-then-is_apart-clause-right : goal.returns-then-is_apart-clause-right
returns-then-is_apart-clause-right c =
    let p = c.args.typed.now.scope.program in
    let slots = length (slots_of p) in
    let nodes = c.args.typed.now.nodes in
    let all = c.args.all.now in
    let P : List (List ℕ) → Type 0 = λ g. Acyclic g in
    let same : dependency slots nodes c.args.time all ≡ dependencies p c.args.time = ap (slot_graph slots c.args.time) c.requires.assigned in
    subst P same (all_apart slots nodes c.args.time all c.args.reads.now c.requires.reads (sym c.is_apart.ensures ∙ c.if-is_apart.true))
