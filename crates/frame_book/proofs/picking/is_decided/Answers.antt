use Rattle.std.proofs.Common.{◌≡◌, true, false, sym, subst}
use Rattle.std.specs.Prelude.{None}
use Rattle.frame_core.specs.FrameLaw.{FrameState}
use Rattle.frame_core.specs.Changes.{VerdictSays}
use Rattle.frame_history.specs.History.{BookState}
use Rattle.frame_book.specs.Pages.{state_of}
use Rattle.frame_book.proofs.Picked.{undecided}
use Rattle.frame_book.proofs.picking.is_decided.Goals as goal

pub returns-in-None-clause-value : goal.returns-in-None-clause-value
returns-in-None-clause-value c =
    let says : VerdictSays c.args.levels.now c.args.j None = subst (λ (f : FrameState). VerdictSays f c.args.j None) c.frames.ensures c.in-None.ensures in
    let s : BookState = state_of c.args.levels.now c.args.register.now c.args.marks.now in
    ((λ e. let f : false ≡ true = e in absurd (cc)), (λ d. absurd (undecided s c.args.j says c.if-is_limited.ensures d)))

pub returns-in-None-clause-says : goal.returns-in-None-clause-says
returns-in-None-clause-says c =
    λ e. (sym c.if-is_limited.ensures, subst (λ (f : FrameState). VerdictSays f c.args.j None) c.frames.ensures c.in-None.ensures)
