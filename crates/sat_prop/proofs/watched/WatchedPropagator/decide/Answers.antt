use Rattle.std.proofs.Common.{List, ℕ, subst}
use Rattle.sat_prop.specs.States.{IsGuarded}
use Rattle.sat_prop.proofs.Keeping.{watching_trail}
use Rattle.sat_prop.proofs.watched.WatchedPropagator.decide.Goals as goal

pub invariant_of-self : goal.invariant_of-self
invariant_of-self c =
    let s = c.args.self.now in
    let t = c.decide_on.new.trail in
    let P : List ℕ → Type 0 = λ x. IsGuarded s.clauses t s.rows x s.swept s.head in
    record { watching = watching_trail s.clauses s.trail t s.rows s.lists s.short.items s.swept s.head s.head c.decide_on.ensures.vars (subst P c.deref.ensures.value c.decide_on.ensures.guarded) s.watching }
