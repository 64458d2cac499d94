-- Room for changes.
use Rattle.std.specs.Prelude.{◌≡◌, ℕ, ◌≤◌, List, All, vec_len, vec_capacity}
use Rattle.std.proofs.Common.{Vec, Global}
use Rattle.frame_history.specs.declared.entries.Change.{Change}

-- how many rooms there are, how many changes each has room for, and how many rooms there may be without memory
pub record Room : Type 0 where
  pub count : ℕ
  pub size : ℕ
  pub spare : ℕ

-- each is empty and has that room
abbrev pub AreEmptyRooms : ℕ → List (Vec Change Global) → Type 0
AreEmptyRooms size rooms = All (λ (r : Vec Change Global). (vec_len r ≡ 0) × (size ≤ vec_capacity r)) rooms
