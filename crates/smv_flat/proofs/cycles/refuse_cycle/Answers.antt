-- The slots of a cycle of the graph are one of dependencies, and where the graph has none there is none.
use Rattle.std.proofs.Common.{◌≡◌, ◌∙◌, ap, sym, subst, arith, ℕ, List, length, map}
use Rattle.digraph.specs.Cycles.{Acyclic, Closed, IsCanonicalCycle}
use Rattle.smv_resolve.specs.declared.node.ExprNode.{ExprNode}
use Rattle.smv_slots.specs.Slots.{slots_of}
use Rattle.smv_flat.specs.Assignments.{dependencies}
use Rattle.smv_flat.specs.Graph.{assigned_by, slots_among, whole_graph}
use Rattle.smv_flat.proofs.Rounds.{least_slots}
use Rattle.smv_flat.proofs.Depending.{acyclic, dependency, slot_graph}
use Rattle.smv_flat.proofs.Leading.{closed, size}
use Rattle.smv_flat.proofs.cycles.refuse_cycle.Goals as goal

pub canonical_cycle-requires-clause-closed : goal.canonical_cycle-requires-clause-closed
canonical_cycle-requires-clause-closed c =
    let P : List (List ℕ) → Type 0 = λ g. Closed g in
    subst P (sym (c.deref.ensures.value ∙ c.in_ok-graph.ensures)) (closed c.len-slots.result c.as_slice-nodes.result.now c.args.time c.args.all.now)

pub canonical_cycle-requires-clause-few : goal.canonical_cycle-requires-clause-few
canonical_cycle-requires-clause-few c =
    let long = ap length (c.deref.ensures.value ∙ c.in_ok-graph.ensures) in
    let is = size c.len-slots.result c.as_slice-nodes.result.now c.args.time c.args.all.now in
    omega (arith, long, is)

pub returns-in-None-clause-right : goal.returns-in-None-clause-right
returns-in-None-clause-right c =
    let p = c.args.typed.now.scope.program in
    let slots = c.len-slots.result in
    let nodes = c.as_slice-nodes.result.now in
    let all = c.args.all.now in
    let P : List (List ℕ) → Type 0 = λ g. Acyclic g in
    let same : dependency slots nodes c.args.time all ≡ dependencies p c.args.time =
    ap (λ n. slot_graph n c.args.time (map (assigned_by nodes) all)) (c.len-slots.ensures ∙ ap length c.args.typed.now.laid_out)
    ∙ ap (λ (ns : List ExprNode). slot_graph (length (slots_of p)) c.args.time (map (assigned_by ns) all)) c.as_slice-nodes.ensures
    ∙ ap (slot_graph (length (slots_of p)) c.args.time) c.requires in
    subst P same (acyclic slots nodes c.args.time all (subst P (c.deref.ensures.value ∙ c.in_ok-graph.ensures) (rw c.in-None.is at c.in_ok-canonical_cycle.ensures)))

pub returns-clause-refused : goal.returns-clause-refused
returns-clause-refused c =
    let p = c.args.typed.now.scope.program in
    let slots = c.len-slots.result in
    let nodes = c.as_slice-nodes.result.now in
    let all = c.args.all.now in
    let same : dependency slots nodes c.args.time all ≡ dependencies p c.args.time =
    ap (λ n. slot_graph n c.args.time (map (assigned_by nodes) all)) (c.len-slots.ensures ∙ ap length c.args.typed.now.laid_out)
    ∙ ap (λ (ns : List ExprNode). slot_graph (length (slots_of p)) c.args.time (map (assigned_by ns) all)) c.as_slice-nodes.ensures
    ∙ ap (slot_graph (length (slots_of p)) c.args.time) c.requires in
    let round = c.in-Some.round in
    let G : List (List ℕ) → Type 0 = λ g. IsCanonicalCycle g round in
    let found : IsCanonicalCycle (whole_graph slots nodes c.args.time all) round = subst G (c.deref.ensures.value ∙ c.in_ok-graph.ensures) (rw c.in-Some.is at c.in_ok-canonical_cycle.ensures) in
    let D : List (List ℕ) → Type 0 = λ g. IsCanonicalCycle g (slots_among slots round) in
    let path : slots_among slots round ≡ c.as_slice-in-Some.result.now =
    ap (slots_among slots) (sym c.as_slice.ensures) ∙ sym c.in_ok-path-in-Some.ensures ∙ sym c.as_slice-in-Some.ensures in
    let R : List ℕ → Type 0 = λ vs. IsCanonicalCycle (dependencies p c.args.time) vs in
    (c.as_slice-in-Some.result.now, subst R path (subst D same (least_slots slots nodes c.args.time all round found)), c.in_ok-refusal-in-Some.ensures)
