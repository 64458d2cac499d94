use Rattle.std.proofs.Common.{◌≡◌, ℕ, List, length, sym, ap, subst, ◌∙◌}
use Rattle.std.specs.List.{All}
use Rattle.frame_core.specs.FrameLaw.{FrameState}
use Rattle.frame_book.specs.Steps.{IsCoveredBy}
use Rattle.frame_book.proofs.Accepted.{covers_each}
use Rattle.frame_book.proofs.settling.block_and_retire.Goals as goal

pub enter_change-requires-clause-added : goal.enter_change-requires-clause-added
enter_change-requires-clause-added c = λ added.
    let f : FrameState = c.args.levels.now in
    let m : ℕ = c.lemmas-m.result in
    let numbers : List ℕ = c.in-Ok.covered.items in
    let at : m ≡ length f.lemmas = c.lemmas-m.ensures ∙ ap (λ (z : FrameState). length z.lemmas) c.frames.ensures in
    let r = covers_each f c.block.new.levels c.args.made.now c.args.proved c.in_ok-change.change m numbers c.in_ok-change.ensures.done added at c.in-Ok.ensures.covered in
    (r.2, r.1, subst (λ (z : List ℕ). All (IsCoveredBy c.block.new.levels.lemmas m) z) (sym c.deref.ensures.value) r.0)
