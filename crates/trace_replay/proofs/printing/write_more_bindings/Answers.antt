-- One more binding is written.
use Rattle.std.proofs.Common.{◌∙◌, ◌++◌, take, refl, ap, arith, codes}
use Rattle.std.proofs.lemmas.Grind.{put_two}
use Rattle.trace_replay.specs.declared.entry.Binding.{Binding}
use Rattle.trace_replay.specs.Lines.{binding_text, more_bindings}
use Rattle.trace_replay.proofs.OfLines.{bindings_more}
use Rattle.trace_replay.proofs.printing.write_more_bindings.Goals as goal

pub loop-b-preserved : goal.loop-b-preserved
loop-b-preserved g c = λ plain.
    let before = c.loop-b.invariant plain in
    let wrote = c.in_ok-write.ensures.writes before.plain refl in
    let i = c.loop-b.b-index in
    let bindings = c.args.bindings.now in
    put_two _ _ _ _ _ _ _ before wrote
    (ap (λ (b : Binding). more_bindings (take i bindings) ++ (codes ", " ++ binding_text b)) c.b-item.is
    ∙ bindings_more bindings i _ (omega (arith, c.loop-b-test.true)))
