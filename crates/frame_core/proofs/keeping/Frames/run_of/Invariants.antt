use Rattle.std.proofs.Common.{◌≡◌, ◌<◌, [], ◌∷◌, ◌++◌, length}
use Rattle.frame_core.specs.FrameLaw.{system_at, obligation_at}
use Rattle.frame_core.specs.Runs.{IsBitRun}
use Rattle.frame_core.proofs.keeping.Frames.run_of.Given as goal

abbrev pub invariant-rows : goal.invariant-rows
invariant-rows l =
    record {
      within : l.at < length l.self.obligations;
      of : (obligation_at l.self.obligations l.at).system ≡ (obligation_at l.self.obligations l.n).system;
      run : IsBitRun (system_at l.self.systems (obligation_at l.self.obligations l.n).system)
          (l.rows.items ++ (obligation_at l.self.obligations l.at).values ∷ []);
    }

abbrev pub decreases-rows : goal.decreases-rows
decreases-rows l = l.at
