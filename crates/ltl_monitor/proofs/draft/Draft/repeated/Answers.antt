use Rattle.std.proofs.Common.{sym, ap, ◌∙◌}
use Rattle.ltl_meaning.proofs.Windows.{repeated_none}
use Rattle.ltl_monitor.specs.Drafting.{drafted}
use Rattle.ltl_monitor.proofs.Repeated.{once_more}
use Rattle.ltl_monitor.proofs.draft.Draft.repeated.Goals as goal

pub loop-init : goal.loop-init
loop-init c = λ s f d same is. is ∙ ap (λ g. drafted s g d) (sym (repeated_none c.args.operator f))

pub loop-preserved : goal.loop-preserved
loop-preserved c = λ s f d same is. once_more s c.args.layout.now c.args.operator c.loop.counter f d _ _ same (c.loop.invariant s f d same is) c.in_ok-whole.ensures
