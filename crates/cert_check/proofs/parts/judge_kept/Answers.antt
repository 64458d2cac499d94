use Rattle.std.proofs.Common.{◌≡◌, ◌≤◌, ◌<◌, ◌*◌, ℕ, ◌∙◌, sym, subst, List, [], length, arith}
use Rattle.std.specs.List.{All}
use Rattle.clause_core.specs.declared.literal.Lit.{Lit}
use Rattle.clause_core.specs.Literals.{Within}
use Rattle.cert_core.specs.Certificates.{negated_next}
use Rattle.cert_check.proofs.Verdicts.{next_within}
use Rattle.cert_check.proofs.parts.judge_kept.Goals as goal

pub shows-requires-clause-units : goal.shows-requires-clause-units
shows-requires-clause-units c =
    let n = c.state_bits-state_bits.result in
    let e : c.deref.result.now ≡ negated_next n c.get-c.result.now = c.deref.ensures.value ∙ c.in_ok-units.ensures in
    let le : 2 * n ≤ c.loop-k.checker = omega (arith, c.loop-k.invariant.vars, c.requires.vars, c.state_bits-state_bits.ensures.room) in
    let cs = c.clauses-clauses.result.now in
    let lt : c.loop-k.k < length cs = omega arith in
    let P : List Lit → Type 0 = Within c.loop-k.checker in
    let Q : List Lit → Type 0 = Within c.args.system.now.state_bits in
    let S : List (List Lit) → Type 0 = All Q in
    let near : S cs = subst S (sym c.clauses-clauses.ensures) c.requires.within in
    let R : ℕ → Type 0 = λ w. Within w c.get-c.result.now in
    let within : R n = subst R (sym c.state_bits-state_bits.ensures.value) (subst Q (sym c.get-c.ensures) (near c.loop-k.k [] lt)) in
    subst P (sym e) (next_within n c.loop-k.checker c.get-c.result.now le within)
