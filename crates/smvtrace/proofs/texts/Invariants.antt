-- The texts so far.
use Rattle.std.proofs.Common.{◌≡◌, map, take, Bor, List, ℕ}
use Rattle.std.specs.Prelude.{string_bytes}
use Rattle.smvtrace.proofs.texts.Given as goal

abbrev pub invariant-loop-word : goal.invariant-loop-word
invariant-loop-word l = map (λ (w : Bor (List ℕ)). w.now) l.texts.items ≡ map string_bytes (take l.word-index l.words)
