use Rattle.std.proofs.Common.{◌≡◌, length, false, subst, ap, arith}
use Rattle.std.specs.List.{All, Contains}
use Rattle.std.specs.Option.{MatchOption}
use Rattle.std.specs.Result.{IfOk}
use Rattle.std.proofs.lemmas.Result.{IfOk-weaker}
use Rattle.clause_core.specs.Literals.{negate}
use Rattle.sat_prop.specs.declared.trail.Trail.{Trail}
use Rattle.sat_prop.specs.Trails.{among}
use Rattle.sat_core.specs.Queries.{IsRefutedAtOnce}
use Rattle.sat_core.specs.Searching.{Refutes}
use Rattle.sat_core.specs.Ends.{NoneOpposed, RefutesOnTrail}
use Rattle.sat_core.proofs.Refuting.{option_weaker, core_refutes, not_at_once}
use Rattle.sat_core.proofs.refute.core_before_decisions.Goals as goal

pub returns-then-len-eq0 : goal.returns-then-len-eq0
returns-then-len-eq0 g c =
    let t = g.P.Propagator.trail c.args.inner.now in
    let cs = g.P.Propagator.clauses c.args.inner.now in
    let asked = c.args.assumptions.now in
    let based = g.met.P.Propagator.based c.args.inner.now in
    let rest = c.requires.rest in
    let none : length t.level_starts.items ≡ 0 = omega (arith, c.if-len-eq0.true, c.len.ensures, c.assignment-trail.result.now.level_starts.ok.0, ap (λ (x : Trail). length x.level_starts.items) c.assignment-trail.ensures) in
    let S : Trail → Type 0 = λ x.
    IfOk c.core_at_once.result (λ o. MatchOption o (All (λ a. among x.literals.items (negate a) ≡ false) asked × NoneOpposed asked) (λ core. All (Contains asked) core.items × RefutesOnTrail x.literals.items core.items)) in
    let said : S t = subst S c.assignment-trail.ensures c.core_at_once.ensures in
    IfOk-weaker c.core_at_once.result
    (λ o. MatchOption o (All (λ a. among t.literals.items (negate a) ≡ false) asked × NoneOpposed asked) (λ core. All (Contains asked) core.items × RefutesOnTrail t.literals.items core.items))
    (λ o. MatchOption o (length t.level_starts.items ≡ 0 → IsRefutedAtOnce cs asked → ⊥) (λ core. All (Contains asked) core.items × Refutes cs core.items))
    (λ o m. option_weaker o _ _ _ _ (λ off zero. not_at_once t cs based rest none asked off.0 off.1) (λ core r. (r.0, core_refutes t cs based rest none core.items r.1)) m)
    said
