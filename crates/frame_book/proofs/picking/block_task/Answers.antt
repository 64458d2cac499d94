use Rattle.std.proofs.Common.{inr, ◌+◌, ℕ, refl, IsTrue}
use Rattle.frame_history.specs.declared.entries.Subject.TheVariants.{Block}
use Rattle.frame_history.specs.History.{BookState}
use Rattle.frame_book.specs.Pages.{state_of}
use Rattle.frame_book.specs.Picking.{IsLevelOf}
use Rattle.frame_book.proofs.Turning.{up_to_task}
use Rattle.frame_book.proofs.Picked.{no_block}
use Rattle.frame_book.proofs.picking.block_task.Goals as goal

pub is_new-requires : goal.is_new-requires
is_new-requires c =
    let is : IsLevelOf c.args.levels.now (Block c.args.o) (c.blocked-blocked.result + 1) = (c.blocked-blocked.result, c.blocked-blocked.ensures, refl) in
    up_to_task c.args.levels.now c.args.register.now (Block c.args.o) (c.blocked-blocked.result + 1) c.requires.sane is

pub returns-else-is_new : goal.returns-else-is_new
returns-else-is_new c =
    let s : BookState = state_of c.args.levels.now c.args.register.now c.args.marks.now in
    let b : ℕ = c.blocked-blocked.result in
    no_block c.args.limits s c.args.o b c.blocked-blocked.ensures
    (inr (λ new. let t : IsTrue c.is_new.result = c.is_new.ensures.1 new in let f = c.if-is_new.false in cc))
