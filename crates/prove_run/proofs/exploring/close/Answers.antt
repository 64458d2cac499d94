use Rattle.std.proofs.Common.{List, length, subst, sym, refl}
use Rattle.frame_core.specs.FrameLaw.{FrameState}
use Rattle.frame_history.specs.declared.entries.Entry.{Entry}
use Rattle.frame_book.specs.Book.{BookView}
use Rattle.frame_worker.specs.Exploring.{IsExplored}
use Rattle.prove_run.proofs.Closing.{explored}
use Rattle.prove_run.proofs.exploring.close.Goals as goal

pub returns : goal.returns
returns g c =
    record {
      explored = λ old tickets v over played.
          (let b : BookView = c.args.book in
          subst (λ (h : List Entry). IsExplored b.systems b.limits b.carried h c.into_parts-frames.result.frames (length old) (length tickets) over)
          (sym c.into_parts-frames.ensures.history)
          (subst (λ (f : FrameState). IsExplored b.systems b.limits b.carried b.history f (length old) (length tickets) over) (sym c.into_parts-frames.ensures.frames)
          (explored b.systems b.limits b.carried b v old tickets over refl refl refl played c.requires.closed)));
    }
