use Rattle.std.proofs.Common.{◌≡◌, ℕ, List, length, ap, subst, ◌∙◌}
use Rattle.clause_core.specs.declared.literal.Lit.{Lit}
use Rattle.frame_core.specs.declared.parts.Lemma.{Lemma}
use Rattle.frame_core.specs.FrameLaw.{FrameState}
use Rattle.frame_core.specs.Facts.{ProvedClause}
use Rattle.frame_core.specs.Looking.{AreCoveredBy}
use Rattle.frame_book.proofs.settling.make_room.Goals as goal

pub returns-clause-covered : goal.returns-clause-covered
returns-clause-covered c =
    let f : FrameState = c.args.levels.now in
    let p : ProvedClause = c.args.proved.now in
    let ls : c.all_lemmas-lemmas.result.now ≡ f.lemmas = c.all_lemmas-lemmas.ensures.value ∙ ap (λ (z : FrameState). z.lemmas) c.frames.ensures in
    let numbers : List ℕ = c.in_ok-covered.covered.items in
    let all : List Lemma = c.all_lemmas-lemmas.result.now in
    subst (λ (z : List Lemma). AreCoveredBy z p.clause p.level (length z) numbers) ls
    (subst (λ (z : List Lit). AreCoveredBy all z p.level (length all) numbers) c.clause.ensures
    (subst (λ (z : ℕ). AreCoveredBy all c.clause.result.now z (length all) numbers) c.level.ensures c.in_ok-covered.ensures))
