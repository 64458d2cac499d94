-- What is asked is over its own variables, and the judgement is of what is asked about the items of the program.
use Rattle.std.proofs.Common.{List, Option, sym, subst}
use Rattle.std.specs.List.{All}
use Rattle.std.specs.Prelude.{option_copied}
use Rattle.bit_clauses.specs.declared.deciding.Decided.{Decided}
use Rattle.bit_faults.specs.Questions.{AreFaultQuestions}
use Rattle.sound_check.specs.Questions.{IsQuestion}
use Rattle.smv_recheck.proofs.Asking.{are_questions, judged_so}
use Rattle.smv_recheck.proofs.checking.soundness_of.Goals as goal

pub judge-requires : goal.judge-requires
judge-requires c =
    let p = c.args.flat.now.typed.scope.program in
    subst (λ (qs : List (Option Decided)). All IsQuestion qs) (sym c.deref.ensures.value) (are_questions p c.in_ok-questions.questions.items c.in_ok-questions.ensures)

pub returns : goal.returns
returns c =
    let p = c.args.flat.now.typed.scope.program in
    let asked = subst (λ (qs : List (Option Decided)). AreFaultQuestions p qs) (sym c.deref.ensures.value) c.in_ok-questions.ensures in
    judged_so p c.deref.result.now (option_copied c.args.sound) c.judge.result asked c.judge.ensures
