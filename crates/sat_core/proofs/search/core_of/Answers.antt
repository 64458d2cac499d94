use Rattle.std.proofs.Common.{◌≡◌, ◌<◌, length, List, [], ◌∷◌, ◌++◌, ◌⊎◌, arith, subst, sym, ap, inl, inr, ℕ, ◌∙◌}
use Rattle.std.specs.List.{Contains}
use Rattle.std.proofs.lemmas.List.Elements.{All-cons, All-nil, All-weaker, Contains-push, Contains-push_cases}
use Rattle.clause_core.specs.declared.literal.Lit.{Lit}
use Rattle.clause_core.specs.Literals.{negate, at}
use Rattle.sat_prop.proofs.Ways.{among_where}
use Rattle.sat_core.specs.Searching.{decided}
use Rattle.sat_core.proofs.Finals.{refuted_core}
use Rattle.sat_core.proofs.search.core_of.Goals as goal

pub trace-requires-clause-false_on : goal.trace-requires-clause-false_on
trace-requires-clause-false_on g c =
    let t = g.P.Propagator.trail c.args.inner.now in
    All-cons (λ m. (q : ℕ) × (q < length t.literals.items) × (at t.literals.items q ≡ negate m)) c.args.a [] (among_where t.literals.items (negate c.args.a) c.requires.off)
    (All-nil (λ m. (q : ℕ) × (q < length t.literals.items) × (at t.literals.items q ≡ negate m)))

pub returns-clause-refuted : goal.returns-clause-refuted
returns-clause-refuted g c =
    let t = g.P.Propagator.trail c.args.inner.now in
    let cs = g.P.Propagator.clauses c.args.inner.now in
    let a = c.args.a in
    let said = c.in_ok-trace.ensures in
    let C : List Lit → Type 0 = λ xs. Contains xs a in
    let pushed : c.push.new.self.items ≡ [] ++ a ∷ [] = c.in_ok-push.ensures.items ∙ ap (λ xs. xs ++ a ∷ []) c.new-core.ensures.items in
    let first : C c.push.new.self.items = subst C (sym pushed) (Contains-push [] a) in
    refuted_core t.literals.items cs c.trace.new.marks a c.trace.new.core.items said.marks (λ q lq m. said.done q m) (said.kept a first)

pub returns-clause-parts : goal.returns-clause-parts
returns-clause-parts g c =
    let t = g.P.Propagator.trail c.args.inner.now in
    let a = c.args.a in
    let D : Lit → Type 0 = Contains (decided t.literals.items t.level_starts.items) in
    let pushed : c.push.new.self.items ≡ [] ++ a ∷ [] = c.in_ok-push.ensures.items ∙ ap (λ xs. xs ++ a ∷ []) c.new-core.ensures.items in
    All-weaker (λ x. Contains c.push.new.self.items x ⊎ D x) (λ x. (a ≡ x) ⊎ D x) (λ x h.
    elim h [
      | inl i ↦
          let P : List Lit → Type 0 = λ xs. Contains xs x in
          let j : Contains ([] ++ a ∷ []) x = subst P pushed i in
          elim (Contains-push_cases [] a x j) [
            | inl none ↦ absurd (omega (arith, none.1))
            | inr e ↦ inl e
          ]
      | inr d ↦ inr d
    ]) c.trace.new.core.items c.in_ok-trace.ensures.parts
