use Rattle.std.proofs.Common.{◌≡◌, ◌≤◌, ℕ, get_or, length, None}
use Rattle.frame_query.proofs.kept_proofs.make_room.Given as goal

abbrev pub invariant-room : goal.invariant-room
invariant-room l = ((m : ℕ) → get_or l.proofs.items m None ≡ get_or l.initial.proofs.items m None) × (l._k ≤ length l.proofs.items)
