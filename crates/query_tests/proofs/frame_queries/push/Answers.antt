use Rattle.std.proofs.Common.{List, ◌∙◌, subst, sym}
use Rattle.clause_core.specs.Systems.{TransitionSystem}
use Rattle.frame_core.specs.declared.parts.Lemma.{Lemma}
use Rattle.frame_core.specs.FrameLaw.{system_at, lemma_at}
use Rattle.frame_solver.specs.Firsts.{AllFirstsMeet}
use Rattle.query_tests.proofs.frame_queries.push.Goals as goal

pub push_met-requires-clause-first : goal.push_met-requires-clause-first
push_met-requires-clause-first c =
    let first = rw c.in-None.is at c.in_ok-answer.ensures.met in
    let P : List TransitionSystem → Type 0 = λ xs. AllFirstsMeet (system_at xs 0) (lemma_at c.args.lemmas.now 0).clause in
    let Q : List Lemma → Type 0 = λ ls. AllFirstsMeet (system_at c.unmet_lemma.new.solver.systems 0) (lemma_at ls 0).clause in
    subst Q (sym (c.unmet_lemma.ensures.lemmas ∙ c.requires.lemmas)) (subst P (sym c.unmet_lemma.ensures.systems) first)
