use Rattle.std.proofs.Common.{◌≡◌, ℕ, Bool, List, sym, subst, ap, ◌∙◌}
use Rattle.std.proofs.lemmas.Result.{IfOk-weaker}
use Rattle.clause_core.specs.declared.literal.Lit.{Lit}
use Rattle.clause_core.specs.Literals.{Within}
use Rattle.frame_core.specs.Facts.{ProvedClause, FoundStep}
use Rattle.frame_core.specs.FrameLaw.{system_at}
use Rattle.frame_solver.specs.Firsts.{AllFirstsMeet, negation_of}
use Rattle.frame_query.specs.Findings.{FindsRelative}
use Rattle.frame_solver.specs.Paying.{PaysOne, Steps}
use Rattle.frame_solver.specs.Stepping.{IsStepOut}
use Rattle.frame_query.specs.declared.outcomes.Relative.TheVariants.{Proved, Step}
use Rattle.frame_solver.proofs.Negated.{negation_within}
use Rattle.frame_claims.specs.Asking.{AnswersBlock, IsSmaller, IsBefore}
use Rattle.frame_claims.proofs.Blocking.{initial_meet, smaller_answers, before_answers, part_paid, note_paid, one_paid}
use Rattle.frame_claims.proofs.asking.ask_block.Goals as goal

pub relative-requires-clause-within : goal.relative-requires-clause-within
relative-requires-clause-within g c =
    let sys = system_at c.args.solver.now.systems 0 in
    let is : c.deref.result.now ≡ negation_of c.args.values.now sys.state_bits =
    c.deref.ensures.value ∙ c.in_ok-clause.ensures ∙ ap (negation_of c.args.values.now) c.requires.bits in
    subst (Within sys.state_bits) (sym is) (negation_within c.args.values.now sys.state_bits)

pub relative-requires-clause-first : goal.relative-requires-clause-first
relative-requires-clause-first g c =
    let sys = system_at c.args.solver.now.systems 0 in
    let is : c.deref.result.now ≡ negation_of c.args.values.now sys.state_bits =
    c.deref.ensures.value ∙ c.in_ok-clause.ensures ∙ ap (negation_of c.args.values.now) c.requires.bits in
    subst (AllFirstsMeet sys) (sym is) (initial_meet sys c.args.values.now c.requires.later)

pub returns-in-Proved-clause-answer : goal.returns-in-Proved-clause-answer
returns-in-Proved-clause-answer g c =
    let v = c.args.solver.now in
    let values = c.args.values.now in
    let bits : ℕ = (system_at v.systems 0).state_bits in
    let is : c.deref.result.now ≡ negation_of values bits =
    c.deref.ensures.value ∙ c.in_ok-clause.ensures ∙ ap (negation_of values) c.requires.bits in
    let over : Bool = g.Q.Purse.spent c.smaller.new.purse in
    let p : ProvedClause = c.in-Proved.proved in
    let found : FindsRelative v.systems v.lemmas c.deref.result.now c.args.level (g.Q.Purse.budget c.args.purse.now) (g.Q.Purse.spent c.relative.new.purse) (Proved p) =
    subst (FindsRelative v.systems v.lemmas c.deref.result.now c.args.level (g.Q.Purse.budget c.args.purse.now) (g.Q.Purse.spent c.relative.new.purse)) c.in-Proved.is
    c.in_ok-proved.ensures.found in
    let w = c.relative.new.self in
    IfOk-weaker c.smaller.result (IsSmaller w p) (AnswersBlock v values c.args.level over)
    (λ o h. smaller_answers v w values bits c.args.level over p o c.relative.ensures.lemmas found.0 found.2 (found.1 ∙ is) h) c.smaller.ensures.answer

pub returns-in-Proved-clause-pays : goal.returns-in-Proved-clause-pays
returns-in-Proved-clause-pays g c =
    let v = c.args.solver.now in
    let values = c.args.values.now in
    let bits : ℕ = (system_at v.systems 0).state_bits in
    let is : c.deref.result.now ≡ negation_of values bits =
    c.deref.ensures.value ∙ c.in_ok-clause.ensures ∙ ap (negation_of values) c.requires.bits in
    let p : ProvedClause = c.in-Proved.proved in
    let found : FindsRelative v.systems v.lemmas c.deref.result.now c.args.level (g.Q.Purse.budget c.args.purse.now) (g.Q.Purse.spent c.relative.new.purse) (Proved p) =
    subst (FindsRelative v.systems v.lemmas c.deref.result.now c.args.level (g.Q.Purse.budget c.args.purse.now) (g.Q.Purse.spent c.relative.new.purse)) c.in-Proved.is
    c.in_ok-proved.ensures.found in
    let w = c.relative.new.self in
    let x : List ℕ = g.Q.Purse.tickets c.args.purse.now in
    let y : List ℕ = g.Q.Purse.tickets c.relative.new.purse in
    let paid = subst (λ (d : List Lit). PaysOne v.systems v.lemmas v.known w.known x y (Steps c.args.level d)) is c.in_ok-proved.ensures.pays in
    let z : List ℕ = g.Q.Purse.tickets c.smaller.new.purse in
    part_paid v w c.smaller.new.solver values c.args.level x y z p c.relative.ensures.systems c.relative.ensures.lemmas found.2 (found.1 ∙ is) paid
    c.smaller.ensures.pays

pub returns-in-Step-clause-answer : goal.returns-in-Step-clause-answer
returns-in-Step-clause-answer g c =
    let v = c.args.solver.now in
    let values = c.args.values.now in
    let sys = system_at v.systems 0 in
    let bits : ℕ = sys.state_bits in
    let is : c.deref.result.now ≡ negation_of values bits =
    c.deref.ensures.value ∙ c.in_ok-clause.ensures ∙ ap (negation_of values) c.requires.bits in
    let s : FoundStep = c.in-Step.step in
    let found : FindsRelative v.systems v.lemmas c.deref.result.now c.args.level (g.Q.Purse.budget c.args.purse.now) (g.Q.Purse.spent c.relative.new.purse) (Step s) =
    subst (FindsRelative v.systems v.lemmas c.deref.result.now c.args.level (g.Q.Purse.budget c.args.purse.now) (g.Q.Purse.spent c.relative.new.purse)) c.in-Step.is
    c.in_ok-proved.ensures.found in
    let out : IsStepOut sys v.lemmas c.args.level (negation_of values bits) s.values =
    subst (λ (d : List Lit). IsStepOut sys v.lemmas c.args.level d s.values) is found.1 in
    let over : Bool = g.Q.Purse.spent c.before-in-Step.new.purse in
    IfOk-weaker c.before-in-Step.result (IsBefore s over) (AnswersBlock v values c.args.level over)
    (λ o h. before_answers v values c.args.level over s o found.0 out h) c.before-in-Step.ensures.answer

pub returns-in-Step-clause-pays : goal.returns-in-Step-clause-pays
returns-in-Step-clause-pays g c =
    let v = c.args.solver.now in
    let values = c.args.values.now in
    let bits : ℕ = (system_at v.systems 0).state_bits in
    let is : c.deref.result.now ≡ negation_of values bits =
    c.deref.ensures.value ∙ c.in_ok-clause.ensures ∙ ap (negation_of values) c.requires.bits in
    let w = c.relative.new.self in
    let x : List ℕ = g.Q.Purse.tickets c.args.purse.now in
    let y : List ℕ = g.Q.Purse.tickets c.relative.new.purse in
    let paid = subst (λ (d : List Lit). PaysOne v.systems v.lemmas v.known w.known x y (Steps c.args.level d)) is c.in_ok-proved.ensures.pays in
    let z : List ℕ = g.Q.Purse.tickets c.before-in-Step.new.purse in
    let u = c.before-in-Step.new.solver in
    let d : List Lit = negation_of c.in-Step.step.values (system_at w.systems 0).state_bits in
    note_paid v w u values c.args.level x y z d c.relative.ensures.systems c.relative.ensures.lemmas paid c.before-in-Step.ensures.pays

pub returns-clause-pays : goal.returns-clause-pays
returns-clause-pays g c =
    let v = c.args.solver.now in
    let values = c.args.values.now in
    let bits : ℕ = (system_at v.systems 0).state_bits in
    let is : c.deref.result.now ≡ negation_of values bits =
    c.deref.ensures.value ∙ c.in_ok-clause.ensures ∙ ap (negation_of values) c.requires.bits in
    let paid = subst (λ (d : List Lit). PaysOne v.systems v.lemmas v.known c.relative.new.self.known (g.Q.Purse.tickets c.args.purse.now)
    (g.Q.Purse.tickets c.relative.new.purse) (Steps c.args.level d)) is c.in_ok-proved.ensures.pays in
    one_paid v c.relative.new.self values c.args.level (g.Q.Purse.tickets c.args.purse.now) (g.Q.Purse.tickets c.relative.new.purse) paid

pub returns-in_err-proved-clause-pays : goal.returns-in_err-proved-clause-pays
returns-in_err-proved-clause-pays g c =
    let v = c.args.solver.now in
    let values = c.args.values.now in
    let bits : ℕ = (system_at v.systems 0).state_bits in
    let is : c.deref.result.now ≡ negation_of values bits =
    c.deref.ensures.value ∙ c.in_ok-clause.ensures ∙ ap (negation_of values) c.requires.bits in
    let paid = subst (λ (d : List Lit). PaysOne v.systems v.lemmas v.known c.relative.new.self.known (g.Q.Purse.tickets c.args.purse.now)
    (g.Q.Purse.tickets c.relative.new.purse) (Steps c.args.level d)) is c.relative.ensures.pays in
    one_paid v c.relative.new.self values c.args.level (g.Q.Purse.tickets c.args.purse.now) (g.Q.Purse.tickets c.relative.new.purse) paid
