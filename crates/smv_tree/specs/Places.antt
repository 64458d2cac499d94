-- Places in a source: lines end at a line feed, and columns count bytes, both from 1.
use Rattle.std.specs.Prelude.{ℕ, ◌+◌, ◌==◌, if◌then◌else◌, List, [], ◌∷◌}
use Rattle.smv_tree.specs.declared.place.Place.{Place}

-- the place of the first byte
abbrev pub start : Place
start = record { line = 1; column = 1 }

-- the place behind a byte: a line ends at its line feed
abbrev pub behind_byte : Place → ℕ → Place
behind_byte place b = if b == 10 then record { line = place.line + 1; column = 1 } else record { line = place.line; column = place.column + 1 }

-- the place behind some bytes
abbrev pub behind : Place → List ℕ → Place
behind place [] = place
behind place (b ∷ rest) = behind (behind_byte place b) rest
