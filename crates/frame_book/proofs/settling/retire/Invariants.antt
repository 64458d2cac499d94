use Rattle.std.proofs.Common.{◌≡◌, ◌≤◌, ◌+◌, List, ◌++◌, true, vec_len}
use Rattle.std.specs.Prelude.{vec_capacity}
use Rattle.frame_core.specs.FrameLaw.{lemma_at}
use Rattle.frame_history.specs.declared.entries.Change.{Change}
use Rattle.frame_book.specs.Steps.{Retires, AreSameLemmas}
use Rattle.frame_book.proofs.settling.retire.Given as goal

abbrev pub invariant-loop-n : goal.invariant-loop-n
invariant-loop-n l =
    ((ds : List Change) × (l.changes.items ≡ l.initial.changes.items ++ ds) × Retires l.initial.levels ds l.levels)
    × AreSameLemmas l.initial.levels.lemmas l.levels.lemmas × ((lemma_at l.levels.lemmas l.m).live ≡ true)
    × (vec_len l.changes ≤ vec_len l.initial.changes + l.n-index) × (vec_capacity l.changes ≡ vec_capacity l.initial.changes)
