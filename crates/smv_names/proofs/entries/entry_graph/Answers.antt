use Rattle.std.proofs.Common.{List, ℕ, [], ◌∷◌, ◌++◌, map, take, sym, ap, ◌∙◌}
use Rattle.std.proofs.lemmas.List.{map-append}
use Rattle.smv_names.specs.Defined.{entries_named}
use Rattle.smv_names.specs.Entries.{read_entry, read_entries}
use Rattle.smv_names.proofs.Adding.{map-take}
use Rattle.smv_names.proofs.entries.entry_graph.Goals as goal

pub loop-x-preserved : goal.loop-x-preserved
loop-x-preserved c =
    let p = c.args.scope.now.program in
    let before = read_entries (take c.loop-x.x-index c.args.entries.now) in
    c.in_ok-push.ensures.items
    ∙ ap (λ (g : List (List ℕ)). g ++ c.in_ok-named.named ∷ []) c.loop-x.invariant
    ∙ ap (λ (named : List ℕ). map (entries_named p) before ++ named ∷ []) c.in_ok-named.ensures
    ∙ sym (ap (map (entries_named p)) (map-take read_entry c.args.entries.now c.loop-x.x-index c.x-item.result c.loop-x-test.true c.x-item.is) ∙ map-append (entries_named p) before (read_entry c.x-item.result ∷ []))
