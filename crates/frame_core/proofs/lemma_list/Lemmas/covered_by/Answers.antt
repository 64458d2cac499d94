use Rattle.std.proofs.Common.{◌≡◌, ◌+◌, ◌∷◌, [], ◌++◌, ◌∙◌, true, false, sym, ap, subst}
use Rattle.frame_core.specs.Looking.{AreCoveredBy, CoversAt}
use Rattle.frame_core.proofs.Held.{covered_more, covered_same}
use Rattle.frame_core.proofs.lemma_list.Lemmas.covered_by.Goals as goal
use Rattle.frame_core.proofs.lemma_list.Lemmas.covered_by.Goals.{then-covers_at+in_ok-push, else-covers_at}

pub loop-n-preserved : goal.loop-n-preserved
loop-n-preserved c =
    let ls = c.args.self.now in
    let clause = c.args.clause.now in
    let level = c.args.level in
    let n = c.loop-n.n in
    let old = c.loop-n.numbers.items in
    elim c.if-covers_at.branch [
      | then-covers_at+in_ok-push w ↦
          let e : c.if-covers_at.numbers.items ≡ old ++ n ∷ [] = ap (λ v. v.items) w.numbers-is ∙ w.in_ok-push.ensures.items in
          subst (AreCoveredBy ls clause level (n + 1)) (sym e) (covered_more ls clause level n old (c.covers_at.ensures.0 w.if-covers_at.true) c.loop-n.invariant)
      | else-covers_at w ↦
          let e : c.if-covers_at.numbers.items ≡ old = ap (λ v. v.items) w.numbers-is in
          subst (AreCoveredBy ls clause level (n + 1)) (sym e) (covered_same ls clause level n old (λ (h : CoversAt ls clause level n).
          let on = c.covers_at.ensures.1 h in
          let off : true ≡ false = sym on ∙ w.if-covers_at.false in
          cc) c.loop-n.invariant)
    ]
