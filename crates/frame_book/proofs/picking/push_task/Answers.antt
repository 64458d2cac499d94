use Rattle.std.proofs.Common.{◌≡◌, ◌+◌, ap, ◌∙◌}
use Rattle.frame_core.specs.declared.parts.Lemma.{Lemma}
use Rattle.frame_core.specs.FrameLaw.{FrameState, lemma_at}
use Rattle.frame_history.specs.declared.entries.Subject.TheVariants.{Push}
use Rattle.frame_book.specs.Picking.{IsLevelOf}
use Rattle.frame_book.proofs.Turning.{up_to_task}
use Rattle.frame_book.proofs.picking.push_task.Goals as goal

pub is_new-requires : goal.is_new-requires
is_new-requires c =
    let same : c.lemma-lemma.result.now ≡ lemma_at c.args.levels.now.lemmas c.args.n =
    c.lemma-lemma.ensures ∙ ap (λ (f : FrameState). lemma_at f.lemmas c.args.n) c.frames.ensures in
    let is : IsLevelOf c.args.levels.now (Push c.args.n) (c.lemma-lemma.result.now.level + 1) = ap (λ (l : Lemma). l.level + 1) same in
    up_to_task c.args.levels.now c.args.register.now (Push c.args.n) (c.lemma-lemma.result.now.level + 1) c.requires.sane is
