use Rattle.std.proofs.Common.{◌≡◌, ◌↔◌, IsTrue, drop}
use Rattle.ltl_meaning.specs.Temporal.{Temporal, chain_of, formula_of, links_of}
use Rattle.ltl_meaning.specs.Unfolded.{unfolded}
use Rattle.ltl_monitor.specs.States.{AtomsBelow}
use Rattle.ltl_monitor.proofs.monitoring.+are_below.Given as goal

-- what was asked is of the links so far, and the others join them to the whole
abbrev pub invariant-loop-link : goal.invariant-loop-link
invariant-loop-link l =
    (f : Temporal) × (IsTrue l.all ↔ AtomsBelow l.bound (unfolded f))
    × (chain_of f (links_of (drop l.link-index l.link-items)) ≡ formula_of l.node)
