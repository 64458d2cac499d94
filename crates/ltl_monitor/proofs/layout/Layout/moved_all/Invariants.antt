use Rattle.std.proofs.Common.{◌≡◌, map, take}
use Rattle.ltl_monitor.specs.Drafting.{moved}
use Rattle.ltl_monitor.proofs.layout.Layout.moved_all.Given as goal

abbrev pub invariant-loop-literal : goal.invariant-loop-literal
invariant-loop-literal l = l.all ≡ map (moved l.self l.space) (take l.literal-index l.literals)
