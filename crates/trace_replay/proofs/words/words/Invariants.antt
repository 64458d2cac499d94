-- The words so far.
use Rattle.std.proofs.Common.{◌≡◌, ℕ, List, map, take, Bor}
use Rattle.trace_replay.proofs.words.words.Given as goal

abbrev pub invariant-loop-piece : goal.invariant-loop-piece
invariant-loop-piece l = l.words.items ≡ map (λ (x : Bor (List ℕ)). x.now) (take l.piece-index l.piece-items)
