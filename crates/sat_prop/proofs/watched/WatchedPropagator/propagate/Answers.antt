use Rattle.std.proofs.Common.{List, ℕ, subst}
use Rattle.sat_prop.specs.States.{IsWatching}
use Rattle.sat_prop.proofs.watched.WatchedPropagator.propagate.Goals as goal

pub invariant_of-self : goal.invariant_of-self
invariant_of-self c =
    let new = c.settle.new in
    let P : List ℕ → Type 0 = λ x. IsWatching c.args.self.now.clauses new.trail new.rows new.lists x new.swept new.head in
    record { watching = subst P c.deref.ensures.value c.settle.ensures.watching }

pub returns-clause-says : goal.returns-clause-says
returns-clause-says c = c.settle.ensures.says
