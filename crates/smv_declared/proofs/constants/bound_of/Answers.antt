-- A literal is told as itself, and what is stuck is no constant.
use Rattle.std.proofs.Common.{◌∙◌, sym}
use Rattle.smv_resolve.specs.Resolved.{wholly_resolved}
use Rattle.smv_declared.proofs.Found.{literal, stuck_is_none}
use Rattle.smv_declared.proofs.constants.bound_of.Goals as goal

pub returns-in-Constant : goal.returns-in-Constant
returns-in-Constant c = rw c.in-Constant.is (c.constant_of_value.ensures ∙ sym (literal c.args.scope.now.program c.args.at c.in-Constant.field-0 c.in-Constant.value))

pub returns-in-Err-Stuck : goal.returns-in-Err-Stuck
returns-in-Err-Stuck c = sym (stuck_is_none (wholly_resolved c.args.scope.now.program c.args.at c.args.e.now) ((rw c.in-Err-Stuck.field-0-is at c.in-Err-Stuck.ensures).1))
