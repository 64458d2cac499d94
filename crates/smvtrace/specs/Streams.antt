-- What a whole read and a whole write do.
use Rattle.std.specs.Prelude.{◌≡◌, ℕ, List, take, IfSome, Option}
use Rattle.std.specs.Io.KnownBytes.{Appends}

-- the text is all that the source had left, or the first `limit` bytes of it
abbrev pub ReadsFirst : ℕ → Option (List ℕ) → List ℕ → Type 0
ReadsFirst limit left text = IfSome left (λ all. text ≡ take limit all)

-- the sink took the first n bytes of the piece, for some n
abbrev pub AppendsFront : Option (List ℕ) → Option (List ℕ) → List ℕ → Type 0
AppendsFront before now piece = (n : ℕ) × Appends before now (take n piece)
