use Rattle.std.proofs.Common.{◌≡◌, ◌∙◌, [], get_or, sym, arith}
use Rattle.frame_core.proofs.Same.{same_more, differ_here}
use Rattle.frame_core.proofs.comparing.first_difference.Goals as goal

pub loop-k-preserved : goal.loop-k-preserved
loop-k-preserved c =
    let a = c.args.a.now in
    let b = c.args.b.now in
    let same : get_or a c.loop-k.k [] ≡ get_or b c.loop-k.k [] =
    sym c.get.ensures ∙ c.is_same_clause.ensures.0 c.if-not-is_same_clause.false ∙ c.get-in-loop-k.ensures in
    same_more a b c.loop-k.k (omega arith) (omega arith) c.loop-k.invariant same

pub returns-then-not-is_same_clause : goal.returns-then-not-is_same_clause
returns-then-not-is_same_clause c =
    let a = c.args.a.now in
    let b = c.args.b.now in (
      c.loop-k.invariant,
      differ_here a b c.loop-k.k (omega arith) (omega arith) (λ e.
          let true' = c.is_same_clause.ensures.1 (c.get.ensures ∙ e ∙ sym c.get-in-loop-k.ensures) in cc),
    )
