use Rattle.std.proofs.Common.{◌≡◌, ◌∙◌, List, ap, sym, subst}
use Rattle.std.specs.Prelude.{IfOk}
use Rattle.std.specs.List.{All}
use Rattle.clause_core.specs.declared.literal.Lit.{Lit}
use Rattle.clause_core.specs.Literals.{Within}
use Rattle.clause_core.specs.Systems.{TransitionSystem}
use Rattle.cert_core.specs.Certificates.{IsInvariant}
use Rattle.frame_core.specs.FrameLaw.{system_at}
use Rattle.prove_run.specs.Answers.{CertifySays}
use Rattle.prove_run.specs.Certifying.{clauses_above}
use Rattle.prove_run.proofs.Invariant.{invariant_of, above_within}
use Rattle.prove_run.proofs.Answered.{is_system}
use Rattle.prove_run.proofs.answering.certificate_of.Goals as goal

pub certify-requires-clause-within : goal.certify-requires-clause-within
certify-requires-clause-within g c =
    let f = c.args.frames.now in
    let s : TransitionSystem = c.index-systems-j.result in
    let is = is_system c.systems.result.now f.systems c.args.j s c.systems.ensures.value c.requires.number c.index-systems-j.is in
    let are : c.in_ok-clauses.clauses ≡ clauses_above c.args.level f.lemmas = c.in_ok-clauses.ensures ∙ ap (clauses_above c.args.level) c.all_lemmas.ensures.value in
    let P : TransitionSystem → Type 0 = λ t. All (Within t.state_bits) c.in_ok-clauses.clauses in
    let Q : List (List Lit) → Type 0 = All (Within (system_at f.systems c.args.j).state_bits) in
    subst P (sym is) (subst Q (sym are) (above_within f c.args.j c.args.level c.all_lemmas.ensures.law c.requires.number))

pub certify-requires-clause-invariant : goal.certify-requires-clause-invariant
certify-requires-clause-invariant g c =
    let f = c.args.frames.now in
    let s : TransitionSystem = c.index-systems-j.result in
    let is = is_system c.systems.result.now f.systems c.args.j s c.systems.ensures.value c.requires.number c.index-systems-j.is in
    let are : c.in_ok-clauses.clauses ≡ clauses_above c.args.level f.lemmas = c.in_ok-clauses.ensures ∙ ap (clauses_above c.args.level) c.all_lemmas.ensures.value in
    let P : TransitionSystem → Type 0 = λ t. IsInvariant t c.in_ok-clauses.clauses in
    let Q : List (List Lit) → Type 0 = IsInvariant (system_at f.systems c.args.j) in
    subst P (sym is) (subst Q (sym are) (invariant_of f c.args.j c.args.level c.all_lemmas.ensures.law c.requires.number c.requires.invariant))

pub returns-clause-certified : goal.returns-clause-certified
returns-clause-certified g c =
    let f = c.args.frames.now in
    let s : TransitionSystem = c.index-systems-j.result in
    let is = is_system c.systems.result.now f.systems c.args.j s c.systems.ensures.value c.requires.number c.index-systems-j.is in
    let are : c.in_ok-clauses.clauses ≡ clauses_above c.args.level f.lemmas = c.in_ok-clauses.ensures ∙ ap (clauses_above c.args.level) c.all_lemmas.ensures.value in
    subst (λ (t : TransitionSystem). IfOk c.certify.result (CertifySays t (clauses_above c.args.level f.lemmas) c.args.counter (g.Q.Purse.tickets c.args.purse.now) (g.Q.Purse.tickets c.certify.new.purse) (g.Q.Purse.spent c.certify.new.purse))) is
    (subst (λ (ds : List (List Lit)). IfOk c.certify.result (CertifySays s ds c.args.counter (g.Q.Purse.tickets c.args.purse.now) (g.Q.Purse.tickets c.certify.new.purse) (g.Q.Purse.spent c.certify.new.purse))) are c.certify.ensures.certified)
