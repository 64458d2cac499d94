use Rattle.std.proofs.Common.{ℕ, Bool, List, subst}
use Rattle.std.specs.Prelude.{IfOk}
use Rattle.clause_core.specs.Assignments.{assignment_of}
use Rattle.clause_core.specs.Systems.{FirstBits}
use Rattle.frame_core.specs.FrameLaw.{system_at}
use Rattle.frame_history.specs.declared.entries.Subject.TheVariants.{Bad, Block, Push}
use Rattle.frame_claims.specs.Asking.{AnswersBad, AnswersBlock, PaysFor}
use Rattle.frame_claims.specs.Paying.{MayAskBad, MayAskBlock}
use Rattle.frame_claims.proofs.Claiming.{may_of, answer_of, pays_of, push_answer, push_pays}
use Rattle.frame_claims.proofs.claims.ask.Goals as goal

pub ask_block-requires-clause-later : goal.ask_block-requires-clause-later
ask_block-requires-clause-later g c =
    let v = c.args.solver.now in
    let may = may_of v c.args.claim.now (Block c.in-Block.field-0) c.in-Block.ensures c.requires.asked in
    λ first. may.3 (subst (λ (x : List Bool). FirstBits (system_at v.systems 0) (assignment_of x)) c.values.ensures first)

pub ask_push-requires-clause-first : goal.ask_push-requires-clause-first
ask_push-requires-clause-first g c =
    (may_of c.args.solver.now c.args.claim.now (Push c.in-Push.lemma) c.in-Push.ensures c.requires.asked).3

pub returns-in-Bad-clause-answer : goal.returns-in-Bad-clause-answer
returns-in-Bad-clause-answer g c =
    let v = c.args.solver.now in
    let j : ℕ = c.in-Bad.j in
    let over : Bool = g.Q.Purse.spent c.ask_bad.new.purse in
    answer_of v c.args.claim.now over c.ask_bad.result (Bad j) c.in-Bad.ensures
    (subst (λ (i : ℕ). IfOk c.ask_bad.result (AnswersBad v j i over)) c.level-level.ensures c.ask_bad.ensures.answer)

pub returns-in-Bad-clause-pays : goal.returns-in-Bad-clause-pays
returns-in-Bad-clause-pays g c =
    let v = c.args.solver.now in
    let w = c.ask_bad.new.solver in
    let j : ℕ = c.in-Bad.j in
    let x : List ℕ = g.Q.Purse.tickets c.args.purse.now in
    let y : List ℕ = g.Q.Purse.tickets c.ask_bad.new.purse in
    pays_of v w c.args.claim.now x y (Bad j) c.in-Bad.ensures
    (subst (λ (i : ℕ). PaysFor v w x y (MayAskBad j i)) c.level-level.ensures c.ask_bad.ensures.pays)

pub returns-in-Block-clause-answer : goal.returns-in-Block-clause-answer
returns-in-Block-clause-answer g c =
    let v = c.args.solver.now in
    let over : Bool = g.Q.Purse.spent c.ask_block.new.purse in
    answer_of v c.args.claim.now over c.ask_block.result (Block c.in-Block.field-0) c.in-Block.ensures
    (subst (λ (i : ℕ). IfOk c.ask_block.result (AnswersBlock v c.args.claim.now.values i over)) c.level-level.ensures
    (subst (λ (x : List Bool). IfOk c.ask_block.result (AnswersBlock v x c.level-level.result over)) c.values.ensures c.ask_block.ensures.answer))

pub returns-in-Block-clause-pays : goal.returns-in-Block-clause-pays
returns-in-Block-clause-pays g c =
    let v = c.args.solver.now in
    let w = c.ask_block.new.solver in
    let x : List ℕ = g.Q.Purse.tickets c.args.purse.now in
    let y : List ℕ = g.Q.Purse.tickets c.ask_block.new.purse in
    pays_of v w c.args.claim.now x y (Block c.in-Block.field-0) c.in-Block.ensures
    (subst (λ (i : ℕ). PaysFor v w x y (MayAskBlock c.args.claim.now.values i)) c.level-level.ensures
    (subst (λ (z : List Bool). PaysFor v w x y (MayAskBlock z c.level-level.result)) c.values.ensures c.ask_block.ensures.pays))

pub returns-in-Push-clause-answer : goal.returns-in-Push-clause-answer
returns-in-Push-clause-answer g c =
    push_answer c.args.solver.now c.args.claim.now (g.Q.Purse.spent c.ask_push.new.purse) c.ask_push.result c.in-Push.lemma c.in-Push.ensures
    c.requires.asked c.ask_push.ensures.answer

pub returns-in-Push-clause-pays : goal.returns-in-Push-clause-pays
returns-in-Push-clause-pays g c =
    push_pays c.args.solver.now c.ask_push.new.solver c.args.claim.now (g.Q.Purse.tickets c.args.purse.now) (g.Q.Purse.tickets c.ask_push.new.purse)
    c.in-Push.lemma c.in-Push.ensures c.requires.asked c.ask_push.ensures.pays
