use Rattle.std.proofs.Common.{◌+◌, arith, subst, sym}
use Rattle.ltl_meaning.specs.Unfolded.{repeated}
use Rattle.ltl_meaning.specs.Truth.{Satisfies}
use Rattle.ltl_meaning.specs.Lasso.{on}
use Rattle.ltl_meaning.proofs.Windows.{repeated_none, repeated_more, repeated_rises}
use Rattle.ltl_meaning.proofs.Period.{some_period}
use Rattle.ltl_table.specs.Columns.{Tells}
use Rattle.ltl_table.proofs.Parts.{unary_part}
use Rattle.ltl_table.proofs.column.repeated.Goals as goal

pub loop-init : goal.loop-init
loop-init c = (
  c.requires.full,
  λ f low told. subst (λ g. Tells c.args.operand.items c.args.n (Satisfies (on c.args.word.now) g)) (sym (repeated_none c.args.operator f)) told,
)

pub unary-requires : goal.unary-requires
unary-requires c = rw c.as_slice.ensures.value (omega (arith, some_period c.args.word.now, c.loop.invariant.0))

pub loop-preserved : goal.loop-preserved
loop-preserved c = (
  omega (arith, c.in_ok-above.ensures.len, c.loop.invariant.0),
  λ f low told.
      let more = repeated_rises f c.args.operator (c.loop.counter + 1) c.args.times (omega arith) in
      unary_part c.args.word.now c.args.passes c.args.start c.args.n c.requires.low c.requires.high
      c.args.operator (repeated c.args.operator c.loop.counter f) (repeated c.args.operator (c.loop.counter + 1) f) (repeated_more c.args.operator c.loop.counter f)
      (omega (arith, more, low)) c.as_slice.result.now c.in_ok-above.above.items (rw c.as_slice.ensures.value (c.loop.invariant.1 f low told))
      (omega (arith, c.in_ok-above.ensures.len)) c.in_ok-above.ensures.each,
)
