-- One node more has its row.
use Rattle.std.proofs.Common.{◌≡◌, ◌∙◌, ap, sym, arith, ℕ, ◌+◌, ◌++◌, List, [], ◌∷◌, length, map, slice_get, append_assoc}
use Rattle.std.specs.List.{range_with_len}
use Rattle.std.proofs.lemmas.List.FromFn.{map-range_with_len_more}
use Rattle.smv_flat.specs.Graph.{row}
use Rattle.smv_flat.proofs.graph.push_rows.Goals as goal

pub loop-k-preserved : goal.loop-k-preserved
loop-k-preserved c =
    let f = λ (i : ℕ). row c.args.slots (length c.args.nodes.now) c.args.ahead i (slice_get c.args.nodes.now i) in
    let k = c.loop-k.k in
    let so_far = map f (range_with_len 0 k) in
    let list : List ℕ = c.in_ok-list.list in
    let zero-plus : 0 + k ≡ k = omega arith in
    c.in_ok-push.ensures.items ∙ ap (λ ls. ls ++ list ∷ []) c.loop-k.invariant ∙ append_assoc c.args.graph.now.items so_far (list ∷ [])
    ∙ ap (λ (l : List ℕ). c.args.graph.now.items ++ (so_far ++ l ∷ [])) c.in_ok-list.ensures
    ∙ ap (λ ls. c.args.graph.now.items ++ ls) (sym (map-range_with_len_more f 0 k k zero-plus))
