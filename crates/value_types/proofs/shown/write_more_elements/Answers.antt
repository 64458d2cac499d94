-- One more element is written.
use Rattle.std.proofs.Common.{◌∙◌, ◌++◌, take, refl, ap, arith, codes}
use Rattle.std.proofs.lemmas.Grind.{put_two}
use Rattle.smv_value.specs.Texts.{value_text}
use Rattle.value_types.specs.Shown.{more_elements}
use Rattle.value_types.proofs.Texts.{elements_more}
use Rattle.value_types.proofs.shown.write_more_elements.Goals as goal

pub loop-e-preserved : goal.loop-e-preserved
loop-e-preserved g c = λ plain.
    let before = c.loop-e.invariant plain in
    let wrote = c.in_ok-write.ensures.writes before.plain refl in
    let i = c.loop-e.e-index in
    let names = c.args.names.now in
    let elements = c.args.elements.now in
    put_two _ _ _ _ _ _ _ before wrote
    (ap (λ x. more_elements names (take i elements) ++ (codes ", " ++ value_text names x)) c.value.ensures
    ∙ elements_more names elements i _ (omega (arith, c.loop-e-test.true)))
