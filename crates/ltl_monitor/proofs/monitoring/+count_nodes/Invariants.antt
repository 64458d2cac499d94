use Rattle.std.proofs.Common.{◌≡◌, drop}
use Rattle.ltl_meaning.specs.Temporal.{Temporal, chain_of, formula_of, links_of}
use Rattle.ltl_meaning.specs.Unfolded.{unfolded}
use Rattle.ltl_monitor.specs.Monitor.{nodes}
use Rattle.ltl_monitor.proofs.monitoring.+count_nodes.Given as goal

-- what was counted are the operators of the links so far, and the others join them to the whole
abbrev pub invariant-loop-link : goal.invariant-loop-link
invariant-loop-link l =
    (f : Temporal) × (l.all ≡ nodes (unfolded f)) × (chain_of f (links_of (drop l.link-index l.link-items)) ≡ formula_of l.node)
