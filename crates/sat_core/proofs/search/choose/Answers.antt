use Rattle.std.proofs.Common.{◌≡◌, ◌⊎◌, subst, inl, inr, true}
use Rattle.std.specs.List.{All, Contains}
use Rattle.std.proofs.lemmas.List.Elements.{All-weaker, All-contains}
use Rattle.clause_core.specs.declared.literal.Lit.{Lit}
use Rattle.clause_core.specs.Literals.{negate}
use Rattle.sat_prop.specs.declared.trail.Trail.{Trail}
use Rattle.sat_prop.specs.Trails.{among}
use Rattle.sat_core.specs.Searching.{decided}
use Rattle.sat_core.proofs.Finals.{decisions_assumed, levels_decide}
use Rattle.sat_core.proofs.search.choose.Goals as goal

pub returns-in_ok-core_of-in-Fails-clause-says : goal.returns-in_ok-core_of-in-Fails-clause-says
returns-in_ok-core_of-in-Fails-clause-says g c budget over =
    let t = g.P.Propagator.trail c.args.inner.now in
    let cs = g.P.Propagator.clauses c.args.inner.now in
    let a = c.in-Fails.a in
    let assumptions = c.args.assumptions.now in
    let A : Trail → Type 0 = λ x. among x.literals.items (negate a) ≡ true in
    let off : A t = subst A c.assignment.ensures c.in-Fails.ensures.says.1 in
    let all = decisions_assumed t cs assumptions a c.requires.levels c.in-Fails.ensures.says.0 off in
    let core = c.in_ok-core_of-in-Fails.field-0.items in (
      All-weaker (λ l. (a ≡ l) ⊎ Contains (decided t.literals.items t.level_starts.items) l) (Contains assumptions) (λ l h.
          elim h [
            | inl e ↦ let P : Lit → Type 0 = Contains assumptions in subst P e c.in-Fails.ensures.says.0
            | inr d ↦ All-contains (Contains assumptions) (decided t.literals.items t.level_starts.items) l all d
          ]) core c.in_ok-core_of-in-Fails.ensures.parts,
      c.in_ok-core_of-in-Fails.ensures.refuted,
    )

pub returns-in_ok-decide-in-Decide-clause-levels : goal.returns-in_ok-decide-in-Decide-clause-levels
returns-in_ok-decide-in-Decide-clause-levels g c =
    let t = g.P.Propagator.trail c.args.inner.now in
    let u = g.P.Propagator.trail c.decide.new.self in
    let done = c.in_ok-decide-in-Decide.ensures in
    levels_decide t u (g.P.Propagator.clauses c.args.inner.now) (g.P.Propagator.clauses c.decide.new.self) c.args.assumptions.now c.in-Decide.l
    c.requires.levels c.requires.rest (inl c.in-Decide.ensures.says.0) done.literals done.level_starts done.clauses_kept

pub returns-in_ok-decide-in-Some-clause-levels : goal.returns-in_ok-decide-in-Some-clause-levels
returns-in_ok-decide-in-Some-clause-levels g c =
    let t = g.P.Propagator.trail c.args.inner.now in
    let u = g.P.Propagator.trail c.decide-in-Some.new.self in
    let done = c.in_ok-decide-in-Some.ensures in
    let A : Trail → Type 0 = λ x. All (λ a. among x.literals.items a ≡ true) c.args.assumptions.now in
    let l : Lit = record { var = c.in-Some.var; positive = c.sign-positive.result } in
    levels_decide t u (g.P.Propagator.clauses c.args.inner.now) (g.P.Propagator.clauses c.decide-in-Some.new.self) c.args.assumptions.now l
    c.requires.levels c.requires.rest (inr (subst A c.assignment.ensures c.in-AllTrue.ensures.says)) done.literals done.level_starts done.clauses_kept
