use Rattle.clause_core.specs.Assignments.{assignment_of}
use Rattle.book_agenda.proofs.Retired.{part_more}
use Rattle.book_agenda.proofs.values.meets_live.Goals as goal

pub parts-preserved : goal.parts-preserved
parts-preserved c =
    part_more c.args.lemmas.now c.parts.c c.args.level (assignment_of c.args.values.now) c.parts.invariant (c.meets_part.ensures.0 c.if-not-meets_part.false)
