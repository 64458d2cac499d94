-- What the nodes of a list are: each is what it says of those before it. And lists that have one entry for each node.
use Rattle.std.proofs.Common.{◌≡◌, ℕ, ◌+◌, ◌-◌, ◌<◌, ◌≤◌, List, [], ◌∷◌, ◌++◌, length, get_or, map, take, drop, fold, slice_get, Some, refl, sym, ap, ◌∙◌, arith, append_assoc, append-nil}
use Rattle.std.proofs.lemmas.List.{drop-map, get_or_append_left, get_or_past, get_or_push, length-map, length-take-le, take-append-drop, take_more}
use Rattle.std.proofs.lemmas.List.Sums.{fold-append}
use Rattle.std.proofs.lemmas.Option.{get_or_from_slice_get, slice_get_within}
use Rattle.std.proofs.Math.Seq.{take-append_seam}
use Rattle.smv_resolve.specs.declared.node.ExprNode.{ExprNode}
use Rattle.smv_resolve.specs.Resolved.{Resolved, last_of, part_at, part_of, parts_of, resolved_by, with_node}

-- one node more is one part more
pub parts_of-push : (nodes : List ExprNode) (n : ExprNode) → parts_of (nodes ++ n ∷ []) ≡ with_node (parts_of nodes) n
unfolding parts_of
parts_of-push nodes n = fold-append with_node [] nodes (n ∷ [])

-- the first nodes, and the next one
pub parts_of-next : (nodes : List ExprNode) (i : ℕ) (d : ExprNode) → i < length nodes → parts_of (take (i + 1) nodes) ≡ with_node (parts_of (take i nodes)) (get_or nodes i d)
parts_of-next nodes i d within = ap parts_of (take_more nodes i d within) ∙ parts_of-push (take i nodes) (get_or nodes i d)

-- further nodes add parts
grown : (nodes : List ExprNode) (parts : List Resolved) → (more : List Resolved) × (fold with_node parts nodes ≡ parts ++ more) × (length more ≡ length nodes)
grown [] parts = ([], sym (append-nil parts), refl)
grown (n ∷ nodes) parts =
    let rest = grown nodes (with_node parts n) in
    (resolved_by parts n ∷ rest.0, rest.1 ∙ append_assoc parts (resolved_by parts n ∷ []) rest.0, (let e = rest.2 in omega (arith, e)))

-- there is a part for each node
pub length-parts : (nodes : List ExprNode) → length (parts_of nodes) ≡ length nodes
unfolding parts_of
length-parts nodes = let g = grown nodes [] in ap length g.1 ∙ g.2

parts_of-append : (xs ys : List ExprNode) → (more : List Resolved) × (parts_of (xs ++ ys) ≡ parts_of xs ++ more)
unfolding parts_of
parts_of-append xs ys = let g = grown ys (fold with_node [] xs) in (g.0, fold-append with_node [] xs ys ∙ g.1)

-- the parts of the first nodes are the first parts
pub parts_of-take : (nodes : List ExprNode) (i : ℕ) → i ≤ length nodes → take i (parts_of nodes) ≡ parts_of (take i nodes)
parts_of-take nodes i within =
    let first = parts_of (take i nodes) in
    let long : i ≡ length first = omega (arith, length-parts (take i nodes), length-take-le i nodes within) in
    let whole = parts_of-append (take i nodes) (drop i nodes) in
    ap (take i) (ap parts_of (sym (take-append-drop i nodes)) ∙ whole.1) ∙ ap (λ (k : ℕ). take k (first ++ whole.0)) long ∙ take-append_seam first whole.0

-- what the nodes before number k are
abbrev pub before : List ExprNode → ℕ → List Resolved
before nodes k = parts_of (take k nodes)

-- there are k
pub before_long : (nodes : List ExprNode) (k : ℕ) → k ≤ length nodes → length (before nodes k) ≡ k
before_long nodes k within = length-parts (take k nodes) ∙ length-take-le k nodes within

-- the part of this number among them
abbrev pub below : List ExprNode → ℕ → ℕ → Resolved
below nodes k j = part_at (before nodes k) j

-- it is the part of this number among all
pub below_is : (nodes : List ExprNode) (k j : ℕ) → j < k → k ≤ length nodes → below nodes k j ≡ part_of nodes j
below_is nodes k j lt within =
    let size = length-parts nodes in
    let inside : k ≤ length (parts_of nodes) = omega (arith, size, within) in
    let here : j < length (take k (parts_of nodes)) = (let e = length-take-le k (parts_of nodes) inside in omega (arith, e, lt)) in
    ap (λ parts. part_at parts j) (sym (parts_of-take nodes k within))
    ∙ sym (get_or_append_left (take k (parts_of nodes)) (drop k (parts_of nodes)) Resolved.Stuck j here)
    ∙ ap (λ parts. part_at parts j) (take-append-drop k (parts_of nodes))

-- what does not lie before a node is stuck there
pub below_stuck : (nodes : List ExprNode) (k j : ℕ) → k ≤ length nodes → k ≤ j → below nodes k j ≡ Resolved.Stuck
below_stuck nodes k j within past =
    let size = before_long nodes k within in get_or_past (before nodes k) j Resolved.Stuck (omega (arith, size, past))

-- a node is what it says of the nodes before it
pub part_is : (nodes : List ExprNode) (k : ℕ) (x : ExprNode) → slice_get nodes k ≡ Some x → part_of nodes k ≡ resolved_by (before nodes k) x
part_is nodes k x is =
    let lt : k < length nodes = slice_get_within nodes k x is in
    let size : length (before nodes k) ≡ k = before_long nodes k (omega (arith, lt)) in
    sym (below_is nodes (k + 1) k (omega arith) (omega (arith, lt)))
    ∙ ap (λ parts. part_at parts k) (parts_of-next nodes k x lt ∙ ap (with_node (before nodes k)) (get_or_from_slice_get nodes k x x is))
    ∙ get_or_push (before nodes k) (resolved_by (before nodes k) x) Resolved.Stuck k size

-- there is no part past the nodes
pub part_past : (nodes : List ExprNode) (k : ℕ) → length nodes ≤ k → part_of nodes k ≡ Resolved.Stuck
part_past nodes k past =
    let size = length-parts nodes in get_or_past (parts_of nodes) k Resolved.Stuck (omega (arith, size, past))

-- what is said of each entry is said of the last of them
pub last_of-map : {A B : Type 0} (f : A → B) (count : ℕ) (xs : List A) → last_of count (map f xs) ≡ map f (last_of count xs)
last_of-map f count xs = ap (λ (n : ℕ). drop (n - count) (map f xs)) (length-map xs f) ∙ drop-map f (length xs - count) xs
