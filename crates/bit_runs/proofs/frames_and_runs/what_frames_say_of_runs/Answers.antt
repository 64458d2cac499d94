use Rattle.frame_core.specs.FrameLaw.{system_at, top_at}
use Rattle.bit_system.proofs.Agreeing.{agreeing}
use Rattle.bit_states.proofs.Codes.{coding}
use Rattle.bit_runs.proofs.Framing.{never_bad, never_bad_below}
use Rattle.bit_system.proofs.Reaching.{unbroken, unbroken_within}
use Rattle.bit_runs.proofs.frames_and_runs.what_frames_say_of_runs.Goals as goal

pub returns-clause-invariant : goal.returns-clause-invariant
returns-clause-invariant c = λ p spec sys lemmas i stands inv. unbroken p spec sys (agreeing p spec sys stands) (coding p stands.types) (never_bad sys lemmas i inv)

pub returns-clause-below : goal.returns-clause-below
returns-clause-below c = λ p spec f j n hold below stands lt.
    let sys = system_at f.systems j in
    unbroken_within p spec sys (agreeing p spec sys stands) (coding p stands.types) n (never_bad_below sys f.lemmas (top_at f.tops j) n (hold.lemmas j below) (hold.safe j below) lt)
