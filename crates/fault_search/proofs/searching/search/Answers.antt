use Rattle.std.proofs.Common.{◌∙◌, refl}
use Rattle.fault_search.proofs.Answered.{answered_more, answered_never, answered_none, faulty_at, on_error, question_at}
use Rattle.fault_search.proofs.Paid.{nothing_asked, pays_more, pays_open, pays_some}
use Rattle.fault_search.proofs.searching.search.Goals as goal

pub loop-item-init : goal.loop-item-init
loop-item-init g c = record {
  answered = answered_none c.args.questions.now c.in_ok-sound.sound c.in_ok-sound.ensures;
  pays = nothing_asked c.args.questions.now (g.Q.Purse.tickets c.args.purse.now);
  kept = g.met.Q.Purse.kept_refl c.args.purse.now;
  ready = c.requires.ready;
  budget = refl;
}

pub loop-item-preserved : goal.loop-item-preserved
loop-item-preserved g c =
    let qs = c.args.questions.now in
    let n = c.loop-item.item in
    let q = c.index-questions-item.result in
    let old = c.loop-item.invariant in
    let here = question_at qs n q c.loop-item-test.true c.index-questions-item.is in
    let says = rw c.in-Never.is at c.in_ok-steps.ensures.asked in
    record {
      answered = answered_more qs c.loop-item.sound c.note.new.sound n q c.in-Never.steps here c.note.ensures says.0 old.answered;
      pays = pays_more qs n q _ _ _ here c.ask_about.ensures.pays old.pays;
      kept = g.met.Q.Purse.kept_trans c.args.purse.now c.loop-item.purse c.ask_about.new.purse old.kept c.ask_about.ensures.kept;
      ready = c.ask_about.ensures.ready;
      budget = c.ask_about.ensures.budget ∙ old.budget;
    }

pub returns-in_err-steps-clause-pays : goal.returns-in_err-steps-clause-pays
returns-in_err-steps-clause-pays g c =
    let qs = c.args.questions.now in
    let n = c.loop-item.item in
    let q = c.index-questions-item.result in
    let here = question_at qs n q c.loop-item-test.true c.index-questions-item.is in
    on_error c.from_residual-in_err-steps.result _ _ c.from_residual-in_err-steps.ensures.0
    (pays_some qs _ _ _ (pays_more qs n q _ _ _ here c.ask_about.ensures.pays c.loop-item.invariant.pays))

pub returns-in-Met-clause-answer : goal.returns-in-Met-clause-answer
returns-in-Met-clause-answer g c =
    let qs = c.args.questions.now in
    let n = c.loop-item.item in
    let q = c.index-questions-item.result in
    let here = question_at qs n q c.loop-item-test.true c.index-questions-item.is in
    let says = rw c.in-Met.is at c.in_ok-steps.ensures.asked in
    faulty_at qs n q c.in-Met.model here says (answered_never qs c.loop-item.sound n c.loop-item.invariant.answered.each)

pub returns-in-Met-clause-pays : goal.returns-in-Met-clause-pays
returns-in-Met-clause-pays g c =
    let qs = c.args.questions.now in
    let n = c.loop-item.item in
    let q = c.index-questions-item.result in
    let here = question_at qs n q c.loop-item-test.true c.index-questions-item.is in
    pays_some qs _ _ _ (pays_more qs n q _ _ _ here c.ask_about.ensures.pays c.loop-item.invariant.pays)

pub returns-in-Spent-clause-pays : goal.returns-in-Spent-clause-pays
returns-in-Spent-clause-pays g c =
    let qs = c.args.questions.now in
    let n = c.loop-item.item in
    let q = c.index-questions-item.result in
    let here = question_at qs n q c.loop-item-test.true c.index-questions-item.is in
    let says = rw c.in-Spent.is at c.in_ok-steps.ensures.asked in
    pays_open qs n q _ _ here says.0 (answered_never qs c.loop-item.sound n c.loop-item.invariant.answered.each)
    (pays_more qs n q _ _ _ here c.ask_about.ensures.pays c.loop-item.invariant.pays)
