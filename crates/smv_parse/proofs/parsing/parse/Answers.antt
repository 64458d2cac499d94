use Rattle.std.proofs.Common.{sym}
use Rattle.smv_parse.proofs.OfParsing.{read_spelled, told_fault}
use Rattle.smv_parse.proofs.parsing.parse.Goals as goal

pub returns-in-Ok-clause-spelled : goal.returns-in-Ok-clause-spelled
returns-in-Ok-clause-spelled c =
    rw (← c.as_slice-items.ensures) (read_spelled c.as_slice-items.result.now c.in-Ok.program (sym c.in_default.ensures) c.in-Ok.ensures)

pub returns-in_ok-refusal-in-Err-Refused-clause-refused :
    goal.returns-in_ok-refusal-in-Err-Refused-clause-refused
returns-in_ok-refusal-in-Err-Refused-clause-refused c =
    told_fault c.args.tokens.now c.as_slice-items.result.now c.in-Err-Refused.fault c.in-Err-Refused.rest.now c.in_ok-refusal-in-Err-Refused.refusal c.as_slice-items.ensures (sym c.in_default.ensures)
    (rw c.in-Err-Refused.field-0-is at c.in-Err-Refused.ensures) c.in_ok-refusal-in-Err-Refused.ensures
