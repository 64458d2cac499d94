-- What the plays of books say of their outcomes and systems.
use Rattle.std.specs.Prelude.{◌≡◌, Bool, true, false}
use Rattle.clause_core.specs.Systems.{TransitionSystem}
use Rattle.frame_book.specs.declared.claim.ClaimOutcome.{ClaimOutcome}
use Rattle.frame_book.specs.declared.claim.ClaimOutcome.TheVariants.{Proved, Step, Found, Clear, Spent}
use Rattle.frame_tests.specs.ThreeBits.{latch, register}

-- the system of a play
abbrev pub played : Bool → TransitionSystem
played true = latch
played false = register

-- what came of a claim was shown of this system
abbrev pub IsOf : TransitionSystem → ClaimOutcome → Type 0
IsOf s (Proved p) = p.system ≡ s
IsOf s (Step t) = t.system ≡ s
IsOf s (Found f) = f.system ≡ s
IsOf s (Clear c) = c.system ≡ s
IsOf s (Spent drawn budget) = Unit {0}
