-- What is noted of the nodes so far.
use Rattle.std.proofs.Common.{◌≡◌, map, take}
use Rattle.smv_types.specs.Briefs.{judged_by}
use Rattle.smv_types.proofs.judged_list.judged_by_all.Given as goal

abbrev pub invariant-loop-brief : goal.invariant-loop-brief
invariant-loop-brief l = l.list.items ≡ map (judged_by l.broken) (take l.brief-index l.briefs)
