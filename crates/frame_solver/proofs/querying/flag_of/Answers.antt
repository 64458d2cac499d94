use Rattle.std.proofs.Common.{◌≡◌, List, refl, sym, ◌∙◌, ap, subst}
use Rattle.clause_core.specs.declared.literal.Lit.{Lit}
use Rattle.clause_core.specs.Literals.{Within}
use Rattle.clause_core.specs.Systems.{TransitionSystem}
use Rattle.frame_core.specs.FrameLaw.{system_at}
use Rattle.frame_solver.specs.Firsts.{negation_of, FindsFirsts}
use Rattle.frame_solver.specs.Paying.{Firsts, PaysOne}
use Rattle.frame_solver.proofs.Negated.{negation_within, flag_says}
use Rattle.frame_solver.proofs.Paid.{none_same}
use Rattle.frame_solver.proofs.querying.flag_of.Goals as goal

pub returns-in_err-clause-clause-pays : goal.returns-in_err-clause-clause-pays
returns-in_err-clause-clause-pays g c =
    none_same c.args.systems.now c.args.lemmas.now (Firsts (negation_of c.args.values.now (system_at c.args.systems.now 0).state_bits)) _ _ _ _ refl refl

pub firsts_of-requires-clause-within : goal.firsts_of-requires-clause-within
firsts_of-requires-clause-within g c =
    let sys = system_at c.args.systems.now 0 in
    let is : c.deref.result.now ≡ negation_of c.args.values.now sys.state_bits =
    c.deref.ensures.value ∙ c.in_ok-clause.ensures ∙ ap (negation_of c.args.values.now) (c.state_bits.ensures.value ∙ ap (λ (s : TransitionSystem). s.state_bits) c.system_of-system.ensures.value) in
    let P : List Lit → Type 0 = Within sys.state_bits in
    subst P (sym is) (negation_within c.args.values.now sys.state_bits)

pub returns-in_err-answer-clause-pays : goal.returns-in_err-answer-clause-pays
returns-in_err-answer-clause-pays g c =
    let sys = system_at c.args.systems.now 0 in
    let is : c.deref.result.now ≡ negation_of c.args.values.now sys.state_bits =
    c.deref.ensures.value ∙ c.in_ok-clause.ensures ∙ ap (negation_of c.args.values.now) (c.state_bits.ensures.value ∙ ap (λ (s : TransitionSystem). s.state_bits) c.system_of-system.ensures.value) in
    let P : List Lit → Type 0 = λ xs. PaysOne c.args.systems.now c.args.lemmas.now c.args.engine.now.solver.learned c.firsts_of.new.engine.solver.learned
    (g.Q.Purse.tickets c.args.purse.now) (g.Q.Purse.tickets c.firsts_of.new.purse) (Firsts xs) in
    subst P is c.firsts_of.ensures.pays

pub returns-clause-found : goal.returns-clause-found
returns-clause-found g c =
    let sys = system_at c.args.systems.now 0 in
    let is : c.deref.result.now ≡ negation_of c.args.values.now sys.state_bits =
    c.deref.ensures.value ∙ c.in_ok-clause.ensures ∙ ap (negation_of c.args.values.now) (c.state_bits.ensures.value ∙ ap (λ (s : TransitionSystem). s.state_bits) c.system_of-system.ensures.value) in
    let budget = g.Q.Purse.budget c.args.purse.now in
    let over = g.Q.Purse.spent c.firsts_of.new.purse in
    let P : List Lit → Type 0 = λ xs. FindsFirsts sys xs budget over c.in_ok-answer.answer in
    flag_says sys c.args.values.now budget over c.in_ok-answer.answer c.read_flag.result (subst P is c.in_ok-answer.ensures.found) c.read_flag.ensures

pub returns-clause-pays : goal.returns-clause-pays
returns-clause-pays g c =
    let sys = system_at c.args.systems.now 0 in
    let is : c.deref.result.now ≡ negation_of c.args.values.now sys.state_bits =
    c.deref.ensures.value ∙ c.in_ok-clause.ensures ∙ ap (negation_of c.args.values.now) (c.state_bits.ensures.value ∙ ap (λ (s : TransitionSystem). s.state_bits) c.system_of-system.ensures.value) in
    let P : List Lit → Type 0 = λ xs. PaysOne c.args.systems.now c.args.lemmas.now c.args.engine.now.solver.learned c.firsts_of.new.engine.solver.learned
    (g.Q.Purse.tickets c.args.purse.now) (g.Q.Purse.tickets c.firsts_of.new.purse) (Firsts xs) in
    subst P is c.firsts_of.ensures.pays
