use Rattle.std.proofs.Common.{◌≡◌, min, drop}
use Rattle.ltl_meaning.specs.declared.height.TheConstants.{LIMIT}
use Rattle.ltl_meaning.specs.Temporal.{Temporal, chain_of, formula_of, links_of, past_depth}
use Rattle.ltl_meaning.proofs.height.+capped_height.Given as goal

-- the height is that of the links so far, and the others join them to the whole
abbrev pub invariant-loop-link : goal.invariant-loop-link
invariant-loop-link l =
    (f : Temporal) × (l.height ≡ min (past_depth f) LIMIT)
    × (chain_of f (links_of (drop l.link-index l.link-items)) ≡ formula_of l.node)
