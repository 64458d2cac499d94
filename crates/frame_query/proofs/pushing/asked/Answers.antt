use Rattle.std.proofs.Common.{◌≡◌, ◌+◌, ◌∙◌, List, get_or, ap, sym, subst}
use Rattle.std.proofs.lemmas.List.{get_or_default}
use Rattle.clause_core.specs.declared.literal.Lit.{Lit}
use Rattle.frame_core.specs.declared.parts.Lemma.{Lemma}
use Rattle.frame_core.specs.FrameLaw.{system_at, lemma_at, no_lemma}
use Rattle.frame_solver.specs.Firsts.{AllFirstsMeet}
use Rattle.frame_query.specs.Findings.{FindsRelative}
use Rattle.frame_query.proofs.pushing.asked.Goals as goal

pub relative_of-requires-clause-first : goal.relative_of-requires-clause-first
relative_of-requires-clause-first g c =
    let lemmas = c.args.lemmas.now in
    let n = c.args.n in
    let here : Lemma = c.index-lemmas-n-2.result in
    let e : c.as_slice-clause.result.now ≡ (lemma_at lemmas n).clause =
    c.as_slice-clause.ensures ∙ ap (λ (l : Lemma). l.clause) (get_or_default lemmas n here no_lemma c.requires.number) in
    let P : List Lit → Type 0 = AllFirstsMeet (system_at c.args.systems.now 0) in
    subst P (sym e) c.requires.first

pub keep_found-requires-clause-found : goal.keep_found-requires-clause-found
keep_found-requires-clause-found g c =
    let lemmas = c.args.lemmas.now in
    let n = c.args.n in
    let here : Lemma = c.index-lemmas-n-2.result in
    let e : c.as_slice-clause.result.now ≡ (lemma_at lemmas n).clause =
    c.as_slice-clause.ensures ∙ ap (λ (l : Lemma). l.clause) (get_or_default lemmas n here no_lemma c.requires.number) in
    let budget = g.Q.Purse.budget c.args.purse.now in
    let over = g.Q.Purse.spent c.relative_of.new.purse in
    let F : List Lit → Type 0 = λ xs. FindsRelative c.args.systems.now lemmas xs ((get_or lemmas n c.index-lemmas-n.result).level + 1) budget over c.in_ok-found.found in
    (budget, over, subst F e c.in_ok-found.ensures.found)

pub returns-in_err-found-clause-engine : goal.returns-in_err-found-clause-engine
returns-in_err-found-clause-engine g c = c.relative_of.ensures.engine

pub returns-in_err-found-clause-known : goal.returns-in_err-found-clause-known
returns-in_err-found-clause-known g c = c.relative_of.ensures.known

pub returns-in_err-found-clause-kept : goal.returns-in_err-found-clause-kept
returns-in_err-found-clause-kept g c = c.relative_of.ensures.kept

pub returns-in_err-found-clause-ready : goal.returns-in_err-found-clause-ready
returns-in_err-found-clause-ready g c = c.relative_of.ensures.ready

pub returns-in_err-found-clause-budget : goal.returns-in_err-found-clause-budget
returns-in_err-found-clause-budget g c = c.relative_of.ensures.budget

pub returns-in_err-found-clause-proofs : goal.returns-in_err-found-clause-proofs
returns-in_err-found-clause-proofs g c = c.requires.proofs

pub returns-in_err-keep_found-clause-engine : goal.returns-in_err-keep_found-clause-engine
returns-in_err-keep_found-clause-engine g c = c.relative_of.ensures.engine

pub returns-in_err-keep_found-clause-known : goal.returns-in_err-keep_found-clause-known
returns-in_err-keep_found-clause-known g c = c.relative_of.ensures.known

pub returns-in_err-keep_found-clause-kept : goal.returns-in_err-keep_found-clause-kept
returns-in_err-keep_found-clause-kept g c = c.relative_of.ensures.kept

pub returns-in_err-keep_found-clause-ready : goal.returns-in_err-keep_found-clause-ready
returns-in_err-keep_found-clause-ready g c = c.relative_of.ensures.ready

pub returns-in_err-keep_found-clause-budget : goal.returns-in_err-keep_found-clause-budget
returns-in_err-keep_found-clause-budget g c = c.relative_of.ensures.budget

pub returns-in_err-keep_found-clause-proofs : goal.returns-in_err-keep_found-clause-proofs
returns-in_err-keep_found-clause-proofs g c = c.keep_found.ensures

pub returns-clause-engine : goal.returns-clause-engine
returns-clause-engine g c = c.relative_of.ensures.engine

pub returns-clause-known : goal.returns-clause-known
returns-clause-known g c = c.relative_of.ensures.known

pub returns-clause-kept : goal.returns-clause-kept
returns-clause-kept g c = c.relative_of.ensures.kept

pub returns-clause-ready : goal.returns-clause-ready
returns-clause-ready g c = c.relative_of.ensures.ready

pub returns-clause-budget : goal.returns-clause-budget
returns-clause-budget g c = c.relative_of.ensures.budget

pub returns-clause-proofs : goal.returns-clause-proofs
returns-clause-proofs g c = c.keep_found.ensures

pub relative_of-requires-clause-some : goal.relative_of-requires-clause-some
relative_of-requires-clause-some g c = c.requires.some

pub relative_of-requires-clause-lemmas : goal.relative_of-requires-clause-lemmas
relative_of-requires-clause-lemmas g c = c.requires.lemmas

pub relative_of-requires-clause-engine : goal.relative_of-requires-clause-engine
relative_of-requires-clause-engine g c = c.requires.engine

pub relative_of-requires-clause-known : goal.relative_of-requires-clause-known
relative_of-requires-clause-known g c = c.requires.known

pub relative_of-requires-clause-ready : goal.relative_of-requires-clause-ready
relative_of-requires-clause-ready g c = c.requires.ready
