use Rattle.std.proofs.Common.{take}
use Rattle.rup_check.specs.Chains.{before, ClearedAt}
use Rattle.rup_check.proofs.chains.clear_hinted.Given as goal

abbrev pub invariant-loop-h : goal.invariant-loop-h
invariant-loop-h l = ClearedAt (before l.clauses l.units l.steps l.count) l.initial.values (take l.h-index l.hints) l.values
