use Rattle.std.proofs.Common.{ℕ, subst}
use Rattle.frame_core.specs.declared.outcomes.Raising.{Raising}
use Rattle.frame_core.specs.declared.outcomes.Raising.TheVariants as raising
use Rattle.frame_core.specs.Facts.{ProvedClause}
use Rattle.frame_core.specs.FrameLaw.{FrameState}
use Rattle.frame_core.specs.Changes.{RaisesSame}
use Rattle.frame_book.proofs.Accepted.{raised_is}
use Rattle.frame_book.proofs.settling.push.Goals as goal

pub returns-in-Raised : goal.returns-in-Raised
returns-in-Raised c =
    let f : FrameState = c.args.levels.now in
    let p : ProvedClause = c.args.proved in
    let n : ℕ = c.args.n in
    let now : FrameState = c.raise-raising.new.self in
    let done : RaisesSame f n p raising.Raised now = subst (λ (r : Raising). RaisesSame f n p r now) c.in-Raised.is c.raise-raising.ensures in
    let e = c.into_parts-parents.ensures in
    let r = raised_is f now c.args.made.now n p c.level-level.result c.into_parts-parents.result.parents.items
    c.requires.subject c.requires.in_range c.requires.level c.requires.clause c.requires.same e.shown done c.level-level.ensures e.parents in
    record { accepted = r.0; tells = (c.level-level.ensures, e.parents); changes = r.1 }
