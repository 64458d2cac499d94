use Rattle.std.proofs.Common.{◌≡◌}
use Rattle.ltl_meaning.specs.Ltl.{Ltl}
use Rattle.ltl_meaning.specs.Unfolded.{repeated}
use Rattle.ltl_monitor.specs.declared.draft.Draft.{Draft}
use Rattle.ltl_monitor.specs.declared.draft.Scene.{Scene}
use Rattle.ltl_monitor.specs.Drafting.{drafted}
use Rattle.ltl_monitor.proofs.draft.Draft.repeated.Given as goal

-- what was added is the operator as often as the loop was gone through
abbrev pub invariant-loop : goal.invariant-loop
invariant-loop l =
    (s : Scene) (f : Ltl) (d : Draft) → s.layout ≡ l.layout → record { draft = l.fn.self; lit = l.fn.operand } ≡ drafted s f d
    → record { draft = l.self; lit = l.whole } ≡ drafted s (repeated l.operator l.counter f) d
