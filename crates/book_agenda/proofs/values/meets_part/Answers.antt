use Rattle.std.proofs.Common.{◌*◌, ◌+◌, ℕ, Bool, eq-eqb}
use Rattle.clause_core.specs.Assignments.{assignment_of}
use Rattle.book_agenda.proofs.Tabled.{all_set, met_lemma}
use Rattle.book_agenda.proofs.values.meets_part.Goals as goal

pub returns-then-met : goal.returns-then-met
returns-then-met c =
    let x : ℕ → Bool = assignment_of c.args.values.now in (
      (λ _ b lt on le.
          let h = c.having_value-met.ensures b lt (all_set c.having_value-met.result b c.if-met.true lt) in
          met_lemma c.args.lemmas.now c.args.clauses.now x (c.args.c * 64 + b) h.0 c.requires.table h.1 h.2),
      (λ _. eq-eqb c.having_value-met.result 18446744073709551615 c.if-met.true),
    )
