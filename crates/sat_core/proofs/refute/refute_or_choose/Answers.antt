use Rattle.std.proofs.Common.{◌≡◌, length}
use Rattle.std.specs.Option.{MatchOption}
use Rattle.std.proofs.lemmas.Result.{IfOk-weaker}
use Rattle.sat_core.specs.Queries.{IsRefutedAtOnce}
use Rattle.sat_core.specs.Searching.{PerLevel, Level}
use Rattle.sat_core.specs.Ends.{HasCore}
use Rattle.sat_core.proofs.refute.refute_or_choose.Goals as goal

pub returns-in-None-clause-at_once : goal.returns-in-None-clause-at_once
returns-in-None-clause-at_once g c =
    let old = c.args.inner.now in
    let new = c.choose.new.inner in
    let asked = c.args.assumptions.now in
    let not_so = rw c.in-None.is at c.in_ok-core.ensures in
    IfOk-weaker c.choose.result
    (λ _. PerLevel (Level (g.P.Propagator.clauses new) asked) (g.P.Propagator.trail new).literals.items (g.P.Propagator.trail new).level_starts.items)
    (λ o. length (g.P.Propagator.trail old).level_starts.items ≡ 0 → IsRefutedAtOnce (g.P.Propagator.clauses old) asked → MatchOption o ⊥ HasCore)
    (λ o _ zero p. absurd (not_so zero p)) c.choose.ensures.levels
