use Rattle.std.proofs.Common.{subst}
use Rattle.fault_search.specs.declared.searching.Answer.{Answer}
use Rattle.fault_search.specs.Answering.{AnswerSays, AreFree}
use Rattle.fault_search.specs.Paying.{PaysSearch, PaysSome}
use Rattle.smv_prepare.proofs.Refusing.{questions_asked}
use Rattle.smv_prepare.proofs.preparing.asked.Goals as goal

pub search-requires-clause-questions : goal.search-requires-clause-questions
search-requires-clause-questions g c = questions_asked c.args.typed.now.scope.program c.args.questions.now c.requires.questions

pub returns-in-Free-clause-prepared : goal.returns-in-Free-clause-prepared
returns-in-Free-clause-prepared g c =
    let p = c.args.typed.now.scope.program in
    let questions = c.args.questions.now in
    let before = g.Q.Purse.tickets c.args.purse.now in
    let after = g.Q.Purse.tickets c.search.new.purse in
    let A : Answer → Type 0 = λ a. AnswerSays questions (g.Q.Purse.budget c.args.purse.now) (g.Q.Purse.spent c.search.new.purse) a in
    let P : Answer → Type 0 = λ a. PaysSearch questions before after a in
    let free : AreFree questions c.in-Free.sound = subst A c.in-Free.is c.in_ok-sound.ensures.answer in
    let paid : PaysSome questions before after = subst P c.in-Free.is c.in_ok-sound.ensures.pays in
    let never = c.what_is_free_is_sound.ensures.never questions c.in-Free.sound free in (
      record {
        fault_free = c.what_is_never_met.ensures.all p questions c.args.typed.now.right_types c.requires.questions never;
        questions = questions;
        asked = c.requires.questions;
        free = free;
      },
      record { questions = questions; asked = c.requires.questions; paid = paid },
    )
