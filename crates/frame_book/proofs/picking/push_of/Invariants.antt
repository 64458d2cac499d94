use Rattle.std.proofs.Common.{◌<◌, ℕ}
use Rattle.frame_history.specs.declared.entries.Subject.TheVariants.{Push}
use Rattle.frame_book.specs.Pages.{state_of}
use Rattle.frame_book.specs.Picking.{IsNotOffered}
use Rattle.frame_book.proofs.picking.push_of.Given as goal

abbrev pub invariant-loop-n : goal.invariant-loop-n
invariant-loop-n l = (k : ℕ) → k < l.n → IsNotOffered l.limits (state_of l.levels l.register l.marks) (Push k)
