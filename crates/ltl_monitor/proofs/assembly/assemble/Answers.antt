use Rattle.std.proofs.Common.{sym, ◌∙◌, subst}
use Rattle.clause_core.specs.Systems.{IsSystem}
use Rattle.ltl_monitor.proofs.assembly.assemble.Goals as goal

pub new-requires : goal.new-requires
new-requires c = subst IsSystem (c.in_ok-rules.ensures c.args.bad c.args.good) c.requires.valid

pub returns : goal.returns
returns c = c.new.ensures ∙ sym (c.in_ok-rules.ensures c.args.bad c.args.good)
