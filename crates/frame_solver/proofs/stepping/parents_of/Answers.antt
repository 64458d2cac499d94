use Rattle.std.proofs.Common.{◌≡◌, ◌+◌, ◌-◌, ◌++◌, ◌∷◌, [], List, take, get_or, length, subst, sym, arith, ◌∙◌, ap, ℕ, ◌<◌}
use Rattle.std.proofs.lemmas.List.{take_more, get_or_read}
use Rattle.clause_core.specs.declared.literal.Lit.{Lit}
use Rattle.clause_core.specs.Literals.{none_lit}
use Rattle.clause_core.proofs.Lists.{lit_same}
use Rattle.frame_core.specs.declared.parts.Parent.{Parent}
use Rattle.frame_core.specs.declared.parts.Lemma.{Lemma}
use Rattle.frame_core.specs.FrameLaw.{no_lemma}
use Rattle.frame_solver.specs.Guards.{on}
use Rattle.frame_solver.specs.Stepping.{AreParents}
use Rattle.frame_solver.proofs.Cutting.{parents_push, parents_skip}
use Rattle.frame_solver.proofs.stepping.parents_of.Goals as goal
use Rattle.frame_solver.proofs.stepping.parents_of.Goals.{then-is_of_lemma+in_ok-parent+in_ok-push, else-is_of_lemma}

pub literals-preserved : goal.literals-preserved
literals-preserved c =
    let lemmas = c.args.lemmas.now in
    let core = c.args.core.now in
    let first = c.args.first in
    let i = c.literals.l-index in
    let parents = c.literals.parents.items in
    let lt : i < length core = c.literals-test.true in
    let l : Lit = get_or core i none_lit in
    let more = take_more core i none_lit lt in
    let P : List Lit → Type 0 = λ xs. AreParents first lemmas xs c.if-is_of_lemma.parents.items in
    let Q : List Parent → Type 0 = AreParents first lemmas (take i core ++ l ∷ []) in
    elim c.if-is_of_lemma.branch [
      | then-is_of_lemma+in_ok-parent+in_ok-push w ↦
          let m : ℕ = l.var - first in
          let is : l ≡ on (first + m) = lit_same l (on (first + m)) (omega (arith, w.if-is_of_lemma.ensures.1)) w.if-is_of_lemma.ensures.0 in
          let e : c.if-is_of_lemma.parents.items ≡ parents ++ w.in_ok-parent.field-0 ∷ [] = cc (w.parents-is, w.in_ok-push.ensures.items) in
          let low : m < length lemmas = omega (arith, w.if-is_of_lemma.ensures.1, w.if-is_of_lemma.ensures.2) in
          subst P (sym more) (subst Q (sym e) (parents_push first lemmas (take i core) l parents c.literals.invariant w.in_ok-parent.field-0 m
          w.in_ok-parent.ensures.number low
          (w.in_ok-parent.ensures.clause ∙ ap (λ (q : Lemma). q.clause) (get_or_read lemmas m w.index-lemmas-n.result low w.index-lemmas-n.is no_lemma)) is))
      | else-is_of_lemma w ↦
          let e : c.if-is_of_lemma.parents.items ≡ parents = cc w.parents-is in
          subst P (sym more) (subst Q (sym e) (parents_skip first lemmas (take i core) l parents c.literals.invariant w.if-is_of_lemma.ensures))
    ]
