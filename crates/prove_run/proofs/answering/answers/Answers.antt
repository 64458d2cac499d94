use Rattle.std.proofs.Common.{◌≡◌, List, [], ◌∷◌, ◌++◌, length, sym, subst, ap, ◌∙◌, refl, arith, length-append}
use Rattle.prove_run.specs.declared.answers.Answer.{Answer}
use Rattle.prove_run.specs.Answers.{AreAnswered}
use Rattle.prove_run.proofs.Finished.{none_answered}
use Rattle.prove_run.proofs.answering.answers.Goals as goal

pub systems-init : goal.systems-init
systems-init g c =
    let none : c.new-answers.result.items ≡ [] = c.new-answers.ensures.items in
    let start = g.Q.Purse.tickets c.args.purse.now in
    record {
      so_many = ap (λ (z : List Answer). length z) none;
      still = c.requires.over;
      answered = subst (λ (z : List Answer). AreAnswered c.args.effort.now c.args.frames.now c.args.over start start c.args.over z) (sym none)
          (none_answered c.args.effort.now c.args.frames.now c.args.over start);
      kept = g.met.Q.Purse.kept_refl c.args.purse.now;
      ready = c.requires.ready;
      budget = refl;
    }

pub systems-preserved : goal.systems-preserved
systems-preserved g c =
    let f = c.args.frames.now in
    let effort = c.args.effort.now in
    let old = c.systems.invariant in
    let next = c.in_ok-answer_of.ensures in
    let xs : List Answer = c.systems.answers.items in
    let a : Answer = c.in_ok-answer_of.field-0 in
    let start = g.Q.Purse.tickets c.args.purse.now in
    let items : c.push.new.self.items ≡ xs ++ a ∷ [] = c.in_ok-push.ensures.items in
    let long = length-append xs (a ∷ []) in
    let many = ap (λ (z : List Answer). length z) items in
    let before = old.so_many in
    record {
      so_many = omega arith;
      still = next.spent;
      answered = subst (λ (z : List Answer). AreAnswered effort f c.args.over start (g.Q.Purse.tickets c.answer_of.new.purse) c.answer_of.new.spent z) (sym items)
          (next.next start xs old.so_many old.answered);
      kept = g.met.Q.Purse.kept_trans c.args.purse.now c.systems.purse c.answer_of.new.purse old.kept next.kept;
      ready = next.ready;
      budget = next.budget ∙ old.budget;
    }
