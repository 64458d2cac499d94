-- A member of one span more.
use Rattle.std.proofs.Common.{sym, ap, ◌∙◌, arith}
use Rattle.std.specs.List.{flat_map, list_any}
use Rattle.std.proofs.lemmas.List.{take_all}
use Rattle.smv_value.specs.Results.{same}
use Rattle.value_sets.specs.Members.{span_values}
use Rattle.value_sets.proofs.Runs.{none_more, some_here}
use Rattle.value_sets.proofs.spans.some_has.Goals as goal

pub returns-then-has : goal.returns-then-has
returns-then-has c = sym (some_here c.args.v c.args.spans.now c.loop-span.span-index _ c.loop-span-test.true (sym c.if-has.ensures))

pub loop-span-preserved : goal.loop-span-preserved
loop-span-preserved c = none_more c.args.v c.args.spans.now c.loop-span.span-index _ c.loop-span-test.true c.loop-span.invariant (sym c.if-has.ensures)

pub returns : goal.returns
returns c =
    sym (ap (λ xs. list_any (same c.args.v) (flat_map span_values xs)) (sym (take_all c.loop-span.span-index c.args.spans.now (omega (arith, c.loop-span-test.false)))) ∙ c.loop-span.invariant)
