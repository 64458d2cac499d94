use Rattle.std.proofs.Common.{◌≡◌, drop}
use Rattle.ltl_meaning.specs.Temporal.{Temporal, chain_of, formula_of, links_of}
use Rattle.ltl_meaning.specs.Unfolded.{unfolded}
use Rattle.ltl_monitor.specs.Drafting.{drafted}
use Rattle.ltl_monitor.proofs.draft.Draft.+add.Given as goal

-- what was added is the formula of the links so far, and the others join it to the whole
abbrev pub invariant-loop-link : goal.invariant-loop-link
invariant-loop-link l =
    (f : Temporal) × (record { draft = l.self; lit = l.all } ≡ drafted l.scene (unfolded f) l.fn.self)
    × (chain_of f (links_of (drop l.link-index l.link-items)) ≡ formula_of l.node)
