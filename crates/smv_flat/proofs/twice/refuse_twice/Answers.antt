-- The marks tell whether an assignment meets one before it.
use Rattle.std.proofs.Common.{◌≡◌, ◌∙◌, ap, sym, subst, arith, ◌<◌, ◌+◌, length, get_or, set, length-set, map, take, true, false, Some}
use Rattle.std.proofs.lemmas.List.{get_or_default}
use Rattle.smv_flat.specs.declared.assigned.Assigned.{Assigned}
use Rattle.smv_flat.specs.declared.twice.Taken.{Taken}
use Rattle.smv_flat.specs.Assignments.{SlotAssignment, assigned_twice}
use Rattle.smv_flat.specs.Graph.{assigned_by}
use Rattle.smv_flat.specs.Marks.{Knows, any_meets, free, is_taken, taken_at}
use Rattle.smv_flat.proofs.Marking.{ends_here, goes_on, knows_more}
use Rattle.smv_flat.proofs.Within.{nothing, number_within, slot_within, stands_there}
use Rattle.smv_flat.proofs.twice.refuse_twice.Goals as goal

pub index-requires : goal.index-requires
index-requires c =
    let within = slot_within c.args.typed.now.scope.program c.args.typed.now.nodes c.args.all.now c.requires c.loop-a.a-index c.loop-a-test.true in
    omega (arith, within)

pub index-requires-in-loop-a : goal.index-requires-in-loop-a
index-requires-in-loop-a c =
    let within = slot_within c.args.typed.now.scope.program c.args.typed.now.nodes c.args.all.now c.requires c.loop-a.a-index c.loop-a-test.true in
    omega (arith, within)

pub index_mut-requires : goal.index_mut-requires
index_mut-requires c =
    let within = slot_within c.args.typed.now.scope.program c.args.typed.now.nodes c.args.all.now c.requires c.loop-a.a-index c.loop-a-test.true in
    omega (arith, within)

pub returns-then-is_taken-clause-refused : goal.returns-then-is_taken-clause-refused
returns-then-is_taken-clause-refused c =
    let p = c.args.typed.now.scope.program in
    let nodes = c.args.typed.now.nodes in
    let all = c.args.all.now in
    let as' = map (assigned_by nodes) all in
    let k = c.loop-a.a-index in
    let a : Assigned = get_or all k nothing in
    let b : SlotAssignment = assigned_by nodes a in
    let ts = c.loop-a.taken.items in
    let within = slot_within p nodes all c.requires k c.loop-a-test.true in
    let here : c.index.result.now ≡ taken_at ts a.slot = c.index.ensures ∙ get_or_default ts a.slot _ free (omega (arith, within, c.loop-a.invariant.long)) in
    let meets : any_meets (take k as') a.slot a.kind ≡ true =
    sym (c.loop-a.invariant.knows a.slot a.kind) ∙ ap (λ t. is_taken t a.kind) (sym here) ∙ sym c.if-is_taken.ensures in
    ends_here p as' k b (assigned_twice p) (number_within p nodes all c.requires k c.loop-a-test.true) (stands_there p nodes all c.requires k c.loop-a-test.true) meets c.loop-a.invariant.left
    ∙ ap (λ r. Some r) (sym c.in_ok-twice_refusal.ensures)

pub loop-a-preserved : goal.loop-a-preserved
loop-a-preserved c =
    let p = c.args.typed.now.scope.program in
    let nodes = c.args.typed.now.nodes in
    let all = c.args.all.now in
    let as' = map (assigned_by nodes) all in
    let k = c.loop-a.a-index in
    let a : Assigned = get_or all k nothing in
    let b : SlotAssignment = assigned_by nodes a in
    let ts = c.loop-a.taken.items in
    let inside = number_within p nodes all c.requires k c.loop-a-test.true in
    let is = stands_there p nodes all c.requires k c.loop-a-test.true in
    let within = slot_within p nodes all c.requires k c.loop-a-test.true in
    let fits : a.slot < length ts = omega (arith, within, c.loop-a.invariant.long) in
    let here : c.index.result.now ≡ taken_at ts a.slot = c.index.ensures ∙ get_or_default ts a.slot _ free fits in
    let again : c.index-in-loop-a.result.now ≡ taken_at ts a.slot = c.index-in-loop-a.ensures ∙ get_or_default ts a.slot _ free fits in
    let clear : any_meets (take k as') a.slot a.kind ≡ false =
    sym (c.loop-a.invariant.knows a.slot a.kind) ∙ ap (λ t. is_taken t a.kind) (sym here) ∙ sym c.if-is_taken.ensures in
    let P : Taken → Type 0 = λ t. Knows (set ts a.slot t) (take (k + 1) as') in
    record {
      long = length-set ts a.slot c.taken_by.result ∙ c.loop-a.invariant.long;
      knows = subst P (sym c.taken_by.ensures) (knows_more ts as' k b c.index-in-loop-a.result.now inside is again fits c.loop-a.invariant.knows);
      left = goes_on p as' k b (assigned_twice p) inside is clear c.loop-a.invariant.left;
    }
