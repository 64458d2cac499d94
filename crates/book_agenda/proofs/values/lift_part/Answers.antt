use Rattle.std.proofs.Common.{◌≡◌, ◌∙◌, ◌+◌, ◌*◌, ◌-◌, ℕ, List, refl, inl, inr, arith, slice_index_or, ap, subst}
use Rattle.std.proofs.lemmas.List.{get_or_read}
use Rattle.clause_core.specs.declared.literal.Lit.{Lit}
use Rattle.clause_core.specs.Assignments.{ClauseTrue, assignment_of}
use Rattle.frame_core.specs.declared.parts.Lemma.{Lemma}
use Rattle.frame_core.specs.FrameLaw.{lemma_at, obligation_at}
use Rattle.book_agenda.proofs.Agendas.{floors_set}
use Rattle.book_agenda.proofs.Tabled.{all_set, met_state}
use Rattle.book_agenda.proofs.values.lift_part.Goals as goal

pub returns-then-met-clause-floors : goal.returns-then-met-clause-floors
returns-then-met-clause-floors c =
    let e = c.lift_between.ensures in
    let bs = c.args.blocked.now.items in
    floors_set c.args.floors.now.items bs c.lift_between.new.blocked.items c.args.c c.lift_between.result c.requires.floors c.requires.part e.length
    e.before (λ o past. let cs = c.lift_between.new.blocked.items in let low = c.end_of-end.ensures.low in e.behind o (omega arith))
    (λ o begin end lt. e.floor o begin (c.end_of-end.ensures.all o end (omega (arith, c.len.ensures))))

pub returns-else-index-lemma-clause-each : goal.returns-else-index-lemma-clause-each
returns-else-index-lemma-clause-each c = λ o begin end lt.
    let floors = c.args.floors.now.items in
    let is : c.index.result.now ≡ slice_index_or floors c.args.c 0 = get_or_read floors c.args.c c.index.result.now c.requires.part c.index.ensures 0 in
    let low = c.requires.floors.low c.args.c o c.requires.part begin end lt in
    let level : c.lemma.result.now.level ≡ (lemma_at c.args.frames.now.lemmas c.args.n).level = ap (λ (z : Lemma). z.level) c.lemma.ensures in
    inl (refl, inr (omega (arith, c.if-index-lemma.false)))

pub returns-else-met-clause-each : goal.returns-else-met-clause-each
returns-else-met-clause-each c = λ o begin end lt.
    let f = c.args.frames.now in
    let l : Lemma = lemma_at f.lemmas c.args.n in
    let lits : c.as_slice.result.now ≡ l.clause = c.as_slice.ensures ∙ ap (λ (z : Lemma). z.clause) c.lemma-then-index-lemma.ensures in
    let b : ℕ = o - c.args.c * 64 in
    let row : c.args.c * 64 + b ≡ o = omega arith in
    let h = c.having-met.ensures b (omega arith) (all_set c.having-met.result b c.if-met.false (omega arith)) in
    let P : ℕ → List Lit → Type 0 = λ k clause. ClauseTrue (assignment_of (obligation_at f.obligations k).values) clause in
    let met = met_state f.obligations c.args.states.now c.as_slice.result.now (c.args.c * 64 + b) h.0 c.requires.table h.1 h.2 in
    inl (refl, inl (subst (P o) lits (subst (λ (k : ℕ). P k c.as_slice.result.now) row met)))
