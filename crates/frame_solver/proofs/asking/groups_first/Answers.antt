use Rattle.std.proofs.Common.{List, ◌+◌, length, subst, sym}
use Rattle.clause_core.specs.declared.literal.Lit.{Lit}
use Rattle.frame_solver.specs.Asking.{AreAsked}
use Rattle.frame_solver.proofs.Asked.{asked_after}
use Rattle.frame_solver.proofs.asking.groups_first.Goals as goal

pub returns : goal.returns
returns c =
    let n = c.args.heads + length c.args.lemmas.now in
    let P : List Lit → Type 0 = AreAsked c.args.base c.args.heads c.args.lemmas.now c.args.i c.args.also n c.args.extra.now in
    subst P (sym c.in_ok-extend_from_slice.ensures.items)
    (asked_after c.args.base c.args.heads c.args.lemmas.now c.args.i c.args.also c.args.extra.now n c.in_ok-literals.literals.items c.in_ok-literals.ensures)
