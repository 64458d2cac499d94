use Rattle.std.proofs.Common.{◌≡◌, ◌+◌, ◌<◌, [], sym, ◌∙◌, ap, subst, arith, get_or, length}
use Rattle.std.proofs.lemmas.List.{get_or-map}
use Rattle.frame_core.specs.declared.parts.Lemma.{Lemma}
use Rattle.sat_core.specs.Queries.{State}
use Rattle.frame_solver.specs.declared.loading.Engine.{Engine}
use Rattle.frame_solver.specs.Groups.{clauses_of}
use Rattle.frame_solver.specs.Engines.{IsLoaded}
use Rattle.frame_solver.proofs.Framed.{clauses_count}
use Rattle.frame_solver.proofs.Loaded.{lemma_loaded}
use Rattle.frame_solver.proofs.renewing.catch_up.Goals as goal

pub returns-in_err-add_lemma-clause-each : goal.returns-in_err-add_lemma-clause-each
returns-in_err-add_lemma-clause-each c = λ b hs h.
    let P : Engine → Type 0 = IsLoaded b hs (clauses_of c.args.lemmas.now) in
    subst P (sym c.in_err-add_lemma.ensures.failed) (c.lemmas.invariant.2 b hs h)

pub lemmas-preserved : goal.lemmas-preserved
lemmas-preserved c =
    let lemmas = c.args.lemmas.now in
    let n = c.lemmas.n in
    let e = c.lemmas.engine in
    let f = c.add_lemma.new.engine in
    let done = c.in_ok-add_lemma.ensures.done in
    let fb : f.base ≡ e.base = ap (λ (q : Engine). q.base) done in
    let fh : f.heads ≡ e.heads = ap (λ (q : Engine). q.heads) done in
    let fl : f.loaded ≡ e.loaded + 1 = ap (λ (q : Engine). q.loaded) done in
    let fu : f.used ≡ e.used = ap (λ (q : Engine). q.used) done in
    let solver = ap (λ (q : Engine). q.solver) done in
    let keeps = c.lemmas.invariant.1 in
    let lt : n < length lemmas = omega (arith, c.lemmas-test.true) in
    let at : e.loaded ≡ n = c.lemmas.invariant.0 in
    let read : c.as_slice.result.now ≡ get_or (clauses_of lemmas) n [] =
    c.as_slice.ensures ∙ sym (get_or-map (λ (q : Lemma). q.clause) lemmas n c.index-lemmas-n.result [] lt) in
    let here : c.as_slice.result.now ≡ get_or (clauses_of lemmas) e.loaded [] = read ∙ ap (λ k. get_or (clauses_of lemmas) k []) (sym at) in (
      omega (arith, fl, at),
      record {
        base = fb ∙ keeps.base;
        heads = fh ∙ keeps.heads;
        used = fu ∙ keeps.used;
        vars = ap (λ (s : State). s.vars) solver ∙ keeps.vars;
        learned = ap (λ (s : State). s.learned) solver ∙ keeps.learned;
      },
      (λ b hs h.
          let was = c.lemmas.invariant.2 b hs h in
          lemma_loaded b hs (clauses_of lemmas) c.as_slice.result.now e f was (omega (arith, at, lt, clauses_count lemmas)) here
          (omega (arith, c.requires.room, keeps.base, keeps.heads, keeps.used, was.base, was.count, at, lt)) fb fh fl fu solver),
    )
