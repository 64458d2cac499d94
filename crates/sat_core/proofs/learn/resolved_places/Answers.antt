use Rattle.std.proofs.Common.{List, [], arith, get_or, length, ◌-◌, subst, sym, take, ℕ}
use Rattle.clause_core.specs.declared.literal.Lit.{Lit}
use Rattle.clause_core.specs.Propagation.{AllFalse}
use Rattle.sat_prop.specs.Trails.{among, FalseOn}
use Rattle.sat_core.specs.Searching.{LowListed, MarksFalse}
use Rattle.sat_core.proofs.Shortening.{low_sorted}
use Rattle.sat_core.proofs.learn.resolved_places.Goals as goal

pub resolve-requires-clause-false_on : goal.resolve-requires-clause-false_on
resolve-requires-clause-false_on g c =
    let t = g.P.Propagator.trail c.args.inner.now in
    let F : List Lit → Type 0 = FalseOn t.literals.items in
    subst F (sym c.clause.ensures) c.requires.conflict.1

pub resolve-requires-clause-open : goal.resolve-requires-clause-open
resolve-requires-clause-open g c all =
    let t = g.P.Propagator.trail c.args.inner.now in
    let A : List Lit → Type 0 = AllFalse (among (take c.args.floor t.literals.items)) in
    c.requires.open (subst A c.clause.ensures all)

pub shorten-requires-clause-floor_in : goal.shorten-requires-clause-floor_in
shorten-requires-clause-floor_in g c =
    let t = g.P.Propagator.trail c.args.inner.now in
    omega (arith, c.requires.floor, t.in_trail (length t.level_starts.items - 1) (omega (arith, c.requires.level)))

pub shorten-requires-clause-low : goal.shorten-requires-clause-low
shorten-requires-clause-low g c =
    let marks = c.resolve.new.marks in
    let P : List ℕ → Type 0 = LowListed marks c.args.floor in
    subst P (sym c.deref.ensures.value) (low_sorted marks c.args.floor c.resolve.new.low.items c.sort_unstable.new.self.items c.sort_unstable.ensures.permutation c.in_ok-point.ensures.low)

pub returns-clause-places : goal.returns-clause-places
returns-clause-places g c s closed on others =
    let t = g.P.Propagator.trail c.args.inner.now in
    let cs = g.P.Propagator.clauses c.args.inner.now in
    let M : List Lit → Type 0 = MarksFalse t.literals.items cs c.resolve.new.marks in
    let conflict : M (get_or cs c.args.k []) = subst M c.clause.ensures c.in_ok-point.ensures.marks in
    conflict s closed (c.in_ok-others.ensures.recovers s closed on others)
