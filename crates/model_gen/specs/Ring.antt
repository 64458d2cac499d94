-- A ring of cells, of which one begins with the token and each takes it from the one before: an own choice of this
-- project.
use Rattle.std.specs.Prelude.{ℕ, ◌-◌, ◌==◌, Bool, true, false, if◌then◌else◌, List, ◌++◌, codes}
use Rattle.std.specs.Fmt.{decimal}
use Rattle.std.specs.List.{flat_map, range_with_len}

-- the cell before this one; before the first comes the last
abbrev pub before : ℕ → ℕ → ℕ
before cells i = if i == 0 then cells - 1 else i - 1

abbrev pub truth_text : Bool → List ℕ
truth_text true = codes "TRUE"
truth_text false = codes "FALSE"

abbrev pub cell_name : ℕ → List ℕ
cell_name i = codes "c" ++ decimal i

-- the declaration of a cell: the cell that it takes the token from, and whether it begins with it
abbrev pub cell_line : ℕ → ℕ → ℕ → List ℕ
cell_line cells start i =
    codes "VAR " ++ cell_name i ++ codes " : cell(" ++ cell_name (before cells i) ++ codes ", " ++ truth_text (i == start) ++ codes ");\n"

-- what a cell is
abbrev pub cell_text : List ℕ
cell_text = codes "MODULE cell(prev, start)\nVAR t : boolean;\nASSIGN init(t) := start; next(t) := prev.t;\nMODULE main\n"

-- the first two cells never have the token together, and the first has it again and again
abbrev pub claims_text : List ℕ
claims_text = codes "INVARSPEC !(c0.t & c1.t)\nLTLSPEC G F c0.t\n"

-- the model of so many cells, of which this one begins with the token
abbrev pub ring_text : ℕ → ℕ → List ℕ
ring_text cells start = cell_text ++ flat_map (cell_line cells start) (range_with_len 0 cells) ++ claims_text
