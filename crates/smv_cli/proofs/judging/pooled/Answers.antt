-- One specification more.
use Rattle.std.proofs.Common.{◌≡◌, ◌∙◌, ◌+◌, ◌<◌, ◌≤◌, ◌++◌, [], ◌∷◌, ℕ, List, Some, ap, arith, cond, get_or, length, map, take, sym, subst, slice_get}
use Rattle.std.proofs.lemmas.List.{length-map, take_all}
use Rattle.std.proofs.lemmas.Option.{slice_get-get_or}
use Rattle.std.proofs.Math.ListN.{get_or-map}
use Rattle.clause_core.specs.Systems.{TransitionSystem}
use Rattle.smv_resolve.specs.declared.item.Item.{Item}
use Rattle.smv_resolve.specs.declared.node.ExprNode.{ExprNode}
use Rattle.smv_resolve.specs.Items.{ResolvedItem, item_by}
use Rattle.frame_core.specs.FrameLaw.{system_at}
use Rattle.bit_conditions.specs.Asked.{is_invariant}
use Rattle.smv_cli.specs.Written.{pooled}
use Rattle.smv_cli.proofs.Pooling.{systems_more}
use Rattle.smv_cli.proofs.judging.pooled.Goals as goal

fits : (i n m : ℕ) → i < n → n ≤ m → i < m
fits i n m h k = omega (arith, h, k)

more : (nodes : List ExprNode) (specs : List Item) (systems before now : List TransitionSystem) (j : ℕ) (d : Item) (s : TransitionSystem) → j < length specs → length specs ≤ length systems
    → before ≡ pooled (take j (map (item_by nodes) specs)) systems → s ≡ system_at systems j
    → now ≡ before ++ cond (is_invariant (get_or specs j d).kind) (s ∷ []) [] → now ≡ pooled (take (j + 1) (map (item_by nodes) specs)) systems
more nodes specs systems before now j d s inside room so_far is e =
    let xs = map (item_by nodes) specs in
    let x = item_by nodes (get_or specs j d) in
    let within : j < length xs = subst (λ n. j < n) (sym (length-map specs (item_by nodes))) inside in
    let here : slice_get xs j ≡ Some x = slice_get-get_or xs j (item_by nodes d) within ∙ ap (λ (y : ResolvedItem). Some y) (get_or-map (item_by nodes) specs j d) in
    e ∙ ap (λ (l : List TransitionSystem). l ++ cond (is_invariant x.kind) (s ∷ []) []) so_far
    ∙ ap (λ (t : TransitionSystem). pooled (take j xs) systems ++ cond (is_invariant x.kind) (t ∷ []) []) is
    ∙ sym (systems_more xs systems j x (fits j (length specs) (length systems) inside room) here)

all_of : (nodes : List ExprNode) (specs : List Item) (systems found : List TransitionSystem) (n : ℕ) → length specs ≤ n → found ≡ pooled (take n (map (item_by nodes) specs)) systems
    → found ≡ pooled (map (item_by nodes) specs) systems
all_of nodes specs systems found n h e =
    let xs = map (item_by nodes) specs in
    e ∙ ap (λ (l : List ResolvedItem). pooled l systems) (take_all n xs (subst (λ m. m ≤ n) (sym (length-map specs (item_by nodes))) h))

pub loop-j-preserved : goal.loop-j-preserved
loop-j-preserved c = λ nodes.
    more nodes c.args.specs.now c.args.built.now.systems c.loop-j.systems.items c.push_invariant.new.systems.items c.loop-j.j _ c.system_of.result.now (omega arith) c.requires
    (c.loop-j.invariant nodes) c.system_of.ensures c.in_ok-push_invariant.ensures

pub returns : goal.returns
returns c = λ nodes. all_of nodes c.args.specs.now c.args.built.now.systems c.loop-j.systems.items c.loop-j.j (omega arith) (c.loop-j.invariant nodes)
