-- What one worker finds of lassos, while others count signals.
use Rattle.std.specs.Prelude.{⊤}
use Rattle.clause_core.specs.Systems.{TransitionSystem}
use Rattle.prove_ltl.specs.declared.effort.LtlEffort.{LtlEffort}
use Rattle.prove_ltl.specs.declared.beside.Sought.{Sought}
use Rattle.prove_ltl.specs.declared.beside.Sought.TheVariants.{Found, None, Open}
use Rattle.prove_ltl.specs.Climbing.{IsDoneFor}
use Rattle.prove_ltl.specs.Lengths.{HasNoneUpTo}

-- a right answer; or no length up to the bound has a fair lasso; or nothing is known of that
abbrev pub Seeks : TransitionSystem → LtlEffort → TransitionSystem → Sought → Type 0
Seeks sys effort m (Found d) = IsDoneFor sys effort m d
Seeks sys effort m None = HasNoneUpTo m effort.bound
Seeks sys effort m Open = ⊤
