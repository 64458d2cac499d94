use Rattle.std.proofs.Common.{◌≡◌, ◌≤◌, ℕ, ◌∙◌, sym, subst, List, arith}
use Rattle.std.specs.List.{All}
use Rattle.clause_core.specs.declared.literal.Lit.{Lit}
use Rattle.clause_core.specs.Literals.{Within}
use Rattle.cert_core.specs.Certificates.{negated}
use Rattle.cert_check.proofs.Verdicts.{negated_within}
use Rattle.cert_check.proofs.parts.judge_first.Goals as goal

pub shows-requires-clause-units : goal.shows-requires-clause-units
shows-requires-clause-units c =
    let e : c.deref.result.now ≡ negated c.get-c.result.now = c.deref.ensures.value ∙ c.in_ok-units.ensures in
    let le : c.state_bits-state_bits.result ≤ c.loop-k.checker = omega (arith, c.loop-k.invariant.vars, c.requires, c.state_bits-state_bits.ensures.room) in
    let P : List Lit → Type 0 = Within c.loop-k.checker in
    subst P (sym e) (negated_within c.state_bits-state_bits.result c.loop-k.checker c.get-c.result.now le (c.is_within.ensures.0 c.if-not-is_within.false))

pub shows-requires-clause-clauses : goal.shows-requires-clause-clauses
shows-requires-clause-clauses c =
    let e : c.args.system.now.all_bits ≡ c.loop-k.checker = sym (c.loop-k.invariant.vars ∙ c.requires) in
    let P : List (List Lit) → Type 0 = All (Within c.loop-k.checker) in
    let R : ℕ → Type 0 = λ n. All (Within n) c.args.system.now.init in
    subst P (sym c.init.ensures) (subst R e c.law.ensures.init_in)
