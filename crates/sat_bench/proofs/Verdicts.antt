-- A solver's right answer gives a right verdict.
use Rattle.std.proofs.Common.{◌≡◌, ℕ, ◌-◌, ◌++◌, Bool, true, List, [], ◌∷◌, get_or, arith, refl}
use Rattle.std.specs.List.{All, Contains}
use Rattle.std.proofs.lemmas.List.Elements.{All-append, All-contains, All-map}
use Rattle.clause_core.specs.declared.literal.Lit.{Lit}
use Rattle.clause_core.specs.Assignments.{assignment_of, ClauseTrue}
use Rattle.clause_core.proofs.Sound.{refutes}
use Rattle.sat_core.specs.declared.answer.Answer.{Answer}
use Rattle.sat_core.specs.declared.answer.Answer.TheVariants.{Sat, Unsat, Spent}
use Rattle.sat_core.specs.Queries.{AnswerSays, units, log_of}
use Rattle.sat_bench.specs.Verdicts.{verdict_of, VerdictSays}

-- where no literal is assumed, the clauses of a core are true, since there are none
core_true : (a : ℕ → Bool) (core : List Lit) → All (Contains []) core → All (ClauseTrue a) (units core)
core_true a core parts =
    let P : Lit → Type 0 = λ l. a l.var ≡ l.positive in
    let on : All P [] = λ k d lt. absurd (omega (arith, lt)) in
    All-map (ClauseTrue a) (λ l. l ∷ []) core (λ k d lt. (0, get_or core k d, omega arith, refl, All-contains P [] (get_or core k d) on (parts k d lt)))

-- a right answer gives a right verdict
pub right : (vars : ℕ) (cs learned : List (List Lit)) (budget conflicts : ℕ) (over : Bool) (answer : Answer) → AnswerSays vars cs learned [] budget over answer →
    (over ≡ true → conflicts ≡ budget - 1) → VerdictSays cs budget conflicts (verdict_of answer)
right vars cs learned budget conflicts over (Sat model) said paid = (assignment_of model, said.1.0)
right vars cs learned budget conflicts over (Unsat core) said paid = λ a holds.
    refutes vars (cs ++ units core.items) (log_of learned) said.1 a (All-append (ClauseTrue a) cs (units core.items) holds (core_true a core.items said.0))
right vars cs learned budget conflicts over (Spent drawn b) said paid = paid said.2
