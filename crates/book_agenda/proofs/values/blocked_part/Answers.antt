use Rattle.std.proofs.Common.{◌*◌, ◌+◌, ℕ, Bool}
use Rattle.clause_core.specs.Assignments.{assignment_of}
use Rattle.book_agenda.proofs.Retired.{met_many}
use Rattle.book_agenda.proofs.Tabled.{all_set, met_lemma}
use Rattle.book_agenda.proofs.values.blocked_part.Goals as goal

pub returns-then-met : goal.returns-then-met
returns-then-met c =
    let ls = c.args.lemmas.now in
    let n : ℕ = c.args.c in
    let x : ℕ → Bool = assignment_of c.args.values.now in
    met_many ls (n * 64) c.args.level x 64
    (λ b lt.
    let h = c.having_value-met.ensures b lt (all_set c.having_value-met.result b c.if-met.true lt) in
    met_lemma ls c.args.clauses.now x (n * 64 + b) h.0 c.requires.table h.1 h.2)
    c.requires.before
