-- What comes of one counter, where runs are followed further.
use Rattle.std.specs.Prelude.{◌≡◌, ⊤, List}
use Rattle.clause_core.specs.Systems.{TransitionSystem}
use Rattle.prove_ltl.specs.declared.effort.LtlEffort.{LtlEffort}
use Rattle.prove_ltl.specs.declared.leaping.Tried.{Tried}
use Rattle.prove_ltl.specs.declared.leaping.Tried.TheVariants.{Done, Passed, Open}
use Rattle.prove_ltl.specs.Climbing.{IsDoneFor}

-- a right answer; or frames of the same systems; or nothing
abbrev pub TriesCounter : TransitionSystem → LtlEffort → TransitionSystem → List TransitionSystem → Tried → Type 0
TriesCounter sys effort m systems (Done d) = IsDoneFor sys effort m d
TriesCounter sys effort m systems (Passed frames signals) = frames.systems ≡ systems
TriesCounter sys effort m systems Open = ⊤
