-- As many marks, all of them.
use Rattle.std.proofs.Common.{ap, ◌∙◌}
use Rattle.value_texts.proofs.OfMarks.{all_marks, marks_told}
use Rattle.value_texts.proofs.symbols.are_marks.Goals as goal

pub returns-then-text-count : goal.returns-then-text-count
returns-then-text-count c = c.are_all_marks.ensures ∙ ap all_marks c.as_bytes.ensures.value ∙ marks_told c.args.count c.args.text.now c.if-text-count.true
