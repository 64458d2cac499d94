use Rattle.std.proofs.Common.{◌≡◌, drop}
use Rattle.ltl_meaning.specs.Temporal.{Temporal, chain_of, formula_of, links_of}
use Rattle.ltl_meaning.specs.Unfolded.{unfolded}
use Rattle.ltl_meaning.specs.Truth.{Satisfies}
use Rattle.ltl_meaning.specs.Lasso.{on}
use Rattle.ltl_table.specs.Columns.{Tells}
use Rattle.ltl_table.proofs.column.+column.Given as goal

-- the column is that of the links so far, and the others join them to the whole
abbrev pub invariant-loop-link : goal.invariant-loop-link
invariant-loop-link l =
    (f : Temporal) × Tells l.so_far.items l.n (Satisfies (on l.word) (unfolded f))
    × (chain_of f (links_of (drop l.link-index l.link-items)) ≡ formula_of l.node)
