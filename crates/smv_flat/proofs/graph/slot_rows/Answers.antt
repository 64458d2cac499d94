-- After all assignments the lists are the rows.
use Rattle.std.proofs.Common.{◌≡◌, subst, arith, List, take}
use Rattle.std.proofs.lemmas.List.{take_all}
use Rattle.smv_flat.specs.declared.assigned.Assigned.{Assigned}
use Rattle.smv_flat.proofs.Rows.{Lists, lists_all}
use Rattle.smv_flat.proofs.graph.slot_rows.Goals as goal

pub returns : goal.returns
returns c =
    let P : List Assigned → Type 0 = λ as'. Lists c.args.slots c.args.nodes c.args.time c.loop-a.graph.items as' in
    let whole : take c.loop-a.a-index c.args.all.now ≡ c.args.all.now = take_all c.loop-a.a-index c.args.all.now (omega (arith, c.loop-a-test.false)) in
    lists_all c.args.slots c.args.nodes c.args.time c.loop-a.graph.items c.args.all.now c.loop-a.invariant.long (subst P whole c.loop-a.invariant.lists)
