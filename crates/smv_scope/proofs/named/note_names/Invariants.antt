-- The names so far.
use Rattle.std.proofs.Common.{◌≡◌, ℕ, List, None, take, position, bytes_eq}
use Rattle.std.specs.HashMap.{get_by_text}
use Rattle.smv_scope.proofs.named.note_names.Given as goal

abbrev pub invariant-loop-k : goal.invariant-loop-k
invariant-loop-k g l = (q : List ℕ) → get_by_text l.initial.table q ≡ None → get_by_text l.table q ≡ position (λ (x : g.row.T.Denot). bytes_eq q (g.T.Named.name_of x)) (take l.k l.items)
