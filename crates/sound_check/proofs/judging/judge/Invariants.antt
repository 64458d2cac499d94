use Rattle.std.specs.Prelude.{option_copied}
use Rattle.sound_check.specs.Judgements.{AreShownBelow, parts_of}
use Rattle.sound_check.proofs.judging.judge.Given as goal

abbrev pub invariant-loop-item : goal.invariant-loop-item
invariant-loop-item l = AreShownBelow l.questions (parts_of (option_copied l.sound)) l.item
