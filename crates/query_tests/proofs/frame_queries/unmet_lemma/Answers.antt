use Rattle.std.proofs.Common.{List, ◌∙◌, ap, subst}
use Rattle.std.specs.Prelude.{IfOk, IfNone}
use Rattle.clause_core.specs.declared.literal.Lit.{Lit}
use Rattle.frame_core.specs.declared.parts.Lemma.{Lemma}
use Rattle.frame_core.specs.FrameLaw.{system_at}
use Rattle.frame_solver.specs.Firsts.{AllFirstsMeet}
use Rattle.query_tests.proofs.frame_queries.unmet_lemma.Goals as goal

pub returns-clause-met : goal.returns-clause-met
returns-clause-met c =
    let P : List Lit → Type 0 = λ xs. IfOk c.unmet.result (λ r. IfNone r (AllFirstsMeet (system_at c.args.solver.now.systems 0) xs)) in
    subst P (c.as_slice-clause.ensures ∙ ap (λ (l : Lemma). l.clause) c.lemma.ensures) c.unmet.ensures.met
