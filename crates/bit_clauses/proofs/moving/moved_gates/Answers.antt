-- Moved gates are gates.
use Rattle.std.proofs.Common.{◌∙◌, ◌+◌, List, ap, sym, subst}
use Rattle.std.specs.List.{All}
use Rattle.clause_core.specs.declared.literal.Lit.{Lit}
use Rattle.bit_clauses.specs.Gated.{IsGated}
use Rattle.bit_clauses.specs.Moving.{Skips, moved_clause, moved_clauses}
use Rattle.bit_clauses.proofs.Moves.{gated_moved, all_skip_moved, skips_moved}
use Rattle.bit_clauses.proofs.moving.moved_gates.Goals as goal

pub returns-clause-gates : goal.returns-clause-gates
returns-clause-gates c = λ g es is.
    let n = c.args.from in
    let by = c.args.by in
    let gates = c.args.gates.now in
    let lits = c.in_ok-literals.ensures.moved ∙ ap (moved_clause n by) c.deref.ensures.value in
    subst (λ (cs : List (List Lit)). IsGated n g es cs c.in_ok-literals.literals.items) (sym c.in_ok-clauses.ensures.moved)
    (subst (λ (ls : List Lit). IsGated n g es (moved_clauses n by gates.clauses) ls) (sym lits) (gated_moved n by g es gates.clauses gates.literals.items is))

pub returns-clause-skips : goal.returns-clause-skips
returns-clause-skips c =
    let n = c.args.from in
    let by = c.args.by in
    subst (λ (cs : List (List Lit)). All (Skips n (n + by)) cs) (sym c.in_ok-clauses.ensures.moved) (all_skip_moved n by c.args.gates.now.clauses)

pub returns-clause-literals_skip : goal.returns-clause-literals_skip
returns-clause-literals_skip c =
    let n = c.args.from in
    let by = c.args.by in
    subst (λ (ls : List Lit). Skips n (n + by) ls) (sym c.in_ok-literals.ensures.moved) (skips_moved n by c.deref.result.now)
