use Rattle.std.proofs.Common.{ℕ, subst}
use Rattle.frame_core.specs.declared.outcomes.Insertion.{Insertion}
use Rattle.frame_core.specs.declared.outcomes.Insertion.TheVariants as insertion
use Rattle.frame_core.specs.Facts.{ProvedClause}
use Rattle.frame_core.specs.FrameLaw.{FrameState}
use Rattle.frame_core.specs.Changes.{InsertsSame}
use Rattle.frame_book.proofs.Accepted.{added_is, held_is}
use Rattle.frame_book.proofs.settling.block.Goals as goal

pub returns-in-Added-clause-done : goal.returns-in-Added-clause-done
returns-in-Added-clause-done c =
    let f : FrameState = c.args.levels.now in
    let p : ProvedClause = c.args.proved in
    let n : ℕ = c.in-Added.field-0 in
    let now : FrameState = c.insert_copy.new.levels in
    let done : InsertsSame f p (insertion.Added n) now = subst (λ (r : Insertion). InsertsSame f p r now) c.in-Added.is c.in-Ok.ensures.done in
    let e = c.into_parts-clause.ensures in
    let r = added_is f now c.args.made.now c.args.o n p c.into_parts-clause.result.clause c.level-level.result c.into_parts-clause.result.parents.items
    c.requires.subject c.requires.level c.requires.unmet c.requires.same e.shown done e.clause c.level-level.ensures e.parents in
    record { accepted = r.0; tells = (e.clause, c.level-level.ensures, e.parents); changes = r.1 }

pub returns-in-Held-clause-done : goal.returns-in-Held-clause-done
returns-in-Held-clause-done c =
    let f : FrameState = c.args.levels.now in
    let p : ProvedClause = c.args.proved in
    let n : ℕ = c.in-Held.lemma in
    let now : FrameState = c.insert_copy.new.levels in
    let done : InsertsSame f p (insertion.Held n) now = subst (λ (r : Insertion). InsertsSame f p r now) c.in-Held.is c.in-Ok.ensures.done in
    let e = c.into_parts-clause.ensures in
    let r = held_is f now c.args.made.now c.args.o n p c.into_parts-clause.result.clause c.level-level.result
    c.requires.subject c.requires.level c.requires.unmet done e.clause c.level-level.ensures in
    record { accepted = r.0; tells = (e.clause, c.level-level.ensures); changes = r.1 }
