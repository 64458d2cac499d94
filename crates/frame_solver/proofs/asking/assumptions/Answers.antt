use Rattle.std.proofs.Common.{◌≡◌, ◌+◌, ◌∷◌, [], ◌++◌, ℕ, List, length, subst, sym, arith, ◌∙◌}
use Rattle.clause_core.specs.declared.literal.Lit.{Lit}
use Rattle.frame_solver.specs.Guards.{on}
use Rattle.frame_solver.specs.Asking.{AreAsked}
use Rattle.frame_solver.proofs.Asked.{asked_none, asked_push, asked_skip}
use Rattle.frame_solver.proofs.asking.assumptions.Goals as goal
use Rattle.frame_solver.proofs.asking.assumptions.Goals.{then-is_asked+in_ok-push, else-is_asked}

pub groups-init : goal.groups-init
groups-init c =
    let P : List Lit → Type 0 = AreAsked c.args.base c.args.heads c.args.lemmas.now c.args.i c.args.also 0 c.args.extra.now in
    subst P (sym c.in_ok-literals.ensures.items) (asked_none c.args.base c.args.heads c.args.lemmas.now c.args.i c.args.also c.args.extra.now)

pub groups-preserved : goal.groups-preserved
groups-preserved c =
    let P : List Lit → Type 0 = AreAsked c.args.base c.args.heads c.args.lemmas.now c.args.i c.args.also (c.groups.k + 1) c.args.extra.now in
    elim c.if-is_asked.branch [
      | then-is_asked+in_ok-push w ↦
          let e : c.if-is_asked.literals.items ≡ c.groups.literals.items ++ on (c.args.base + c.groups.k) ∷ [] = cc (w.literals-is, w.in_ok-push.ensures.items) in
          subst P (sym e)
          (asked_push c.args.base c.args.heads c.args.lemmas.now c.args.i c.args.also c.args.extra.now c.groups.k c.groups.literals.items
          (sym c.is_asked.ensures ∙ w.if-is_asked.true) c.groups.invariant)
      | else-is_asked w ↦
          let e : c.if-is_asked.literals.items ≡ c.groups.literals.items = cc w.literals-is in
          subst P (sym e) (asked_skip c.args.base c.args.heads c.args.lemmas.now c.args.i c.args.also c.args.extra.now c.groups.k c.groups.literals.items
          (sym c.is_asked.ensures ∙ w.if-is_asked.false) c.groups.invariant)
    ]

pub returns : goal.returns
returns c =
    let P : ℕ → Type 0 = λ n. AreAsked c.args.base c.args.heads c.args.lemmas.now c.args.i c.args.also n c.args.extra.now c.groups.literals.items in
    let e : c.groups.k ≡ c.args.heads + length c.args.lemmas.now = omega arith in
    subst P e c.groups.invariant
