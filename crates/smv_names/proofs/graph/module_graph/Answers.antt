use Rattle.std.proofs.Common.{List, ℕ, [], ◌∷◌, ◌++◌, map, take, sym, ap, ◌∙◌}
use Rattle.smv_names.specs.Reached.{modules_used}
use Rattle.smv_names.proofs.Adding.{map-take}
use Rattle.smv_names.proofs.graph.module_graph.Goals as goal

pub loop-m-preserved : goal.loop-m-preserved
loop-m-preserved c =
    let ms = c.args.program.now.modules in
    let before : List (List ℕ) = map (modules_used ms) (take c.loop-m.m-index c.as_slice-m-items.result.now) in
    c.in_ok-push.ensures.items
    ∙ ap (λ (g : List (List ℕ)). g ++ c.in_ok-used.used ∷ []) c.loop-m.invariant
    ∙ ap (λ (used : List ℕ). before ++ used ∷ []) (c.in_ok-used.ensures ∙ ap (λ xs. modules_used xs c.m-item.result) c.as_slice.ensures)
    ∙ sym (map-take (modules_used ms) c.as_slice-m-items.result.now c.loop-m.m-index c.m-item.result c.loop-m-test.true c.m-item.is)
