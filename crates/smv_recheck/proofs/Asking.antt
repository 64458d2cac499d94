-- What is asked about the items of a program.
use Rattle.std.proofs.Common.{◌<◌, List, Option, None, Some, Result, Ok, Err, length, get_or, arith}
use Rattle.std.specs.List.{All}
use Rattle.std.specs.Prelude.{IfOk}
use Rattle.std.proofs.lemmas.List.Elements.{All-from_get_or}
use Rattle.std.proofs.lemmas.Option.{slice_get-get_or}
use Rattle.bit_clauses.specs.declared.deciding.Decided.{Decided}
use Rattle.hinted_log.specs.Hints.{HintedLog}
use Rattle.smv_tree.specs.declared.tree.Program.{Program}
use Rattle.smv_resolve.specs.Items.{ResolvedItem}
use Rattle.bit_faults.specs.Questions.{AreFaultQuestions, IsFaultQuestion, judged_items}
use Rattle.sound_check.specs.declared.judging.SoundVerdict.{SoundVerdict}
use Rattle.sound_check.specs.Judgements.{VerdictSays, parts_of}
use Rattle.sound_check.specs.Questions.{IsQuestion}
use Rattle.smv_recheck.specs.Checking.{IsSoundness}
use Rattle.smv_recheck.proofs.Recording.{element_at}

is_question : (p : Program) (x : ResolvedItem) (q : Option Decided) → IsFaultQuestion p x q → IsQuestion q
is_question p x None is = tt
is_question p x (Some d) is = is.within

-- each is over its own variables
pub are_questions : (p : Program) (questions : List (Option Decided)) → AreFaultQuestions p questions → All IsQuestion questions
are_questions p questions asked =
    let none : Option Decided = None in
    All-from_get_or IsQuestion questions none (λ k lt. (
    let within : k < length (judged_items p) = omega (arith, lt, asked.long) in
    let here = element_at (judged_items p) k within in
    is_question p here.0 (get_or questions k none) (asked.each k here.0 (get_or questions k none) here.1 (slice_get-get_or questions k none lt))))

-- what the check says, it says of the program's block
pub judged_so : {E : Type 0} (p : Program) (questions : List (Option Decided)) (sound : Option (List (Option HintedLog))) (made : Result SoundVerdict E) → AreFaultQuestions p questions →
    IfOk made (VerdictSays questions (parts_of sound)) → IfOk made (IsSoundness p sound)
judged_so p questions sound (Ok v) asked says = record { questions = questions; asked = asked; says = says }
judged_so p questions sound (Err e) asked says = says
