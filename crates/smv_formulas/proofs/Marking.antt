-- The mark of one node more.
use Rattle.std.proofs.Common.{◌≡◌, ◌∙◌, ℕ, ◌+◌, ◌<◌, Bool, ◌||◌, List, [], ◌∷◌, ◌++◌, map, take, length, get_or, refl, sym, ap}
use Rattle.std.specs.List.{list_any}
use Rattle.std.proofs.Math.Bool.{or-false}
use Rattle.std.proofs.Math.ListN.{get_or-map}
use Rattle.std.proofs.lemmas.List.{map-append, take_more}
use Rattle.smv_resolve.specs.declared.node.ExprNode.{ExprNode}
use Rattle.smv_resolve.specs.declared.node.ExprNode.TheVariants as node
use Rattle.smv_resolve.specs.Resolved.{Resolved, operands_of, last_of, part_at, part_of, parts_of, resolved_by}
use Rattle.smv_resolve.proofs.Parts.{last_of-map, parts_of-push}
use Rattle.smv_meaning.specs.Formulas.{has_temporal, has_some_temporal, is_temporal}
use Rattle.smv_formulas.specs.Marks.{mark_at, mark_by, marks_of}

some_marked : (rs : List Resolved) → list_any (λ (mark : Bool). mark) (map has_temporal rs) ≡ has_some_temporal (operands_of rs)
some_marked [] = refl
some_marked (r ∷ rs) = ap (λ (b : Bool). has_temporal r || b) (some_marked rs)

-- the mark of a part stands at its number
pub mark_at-parts : (parts : List Resolved) (k : ℕ) → mark_at (map has_temporal parts) k ≡ has_temporal (part_at parts k)
mark_at-parts parts k = get_or-map has_temporal parts k Resolved.Stuck

pub mark_at-nodes : (nodes : List ExprNode) (k : ℕ) → mark_at (marks_of nodes) k ≡ has_temporal (part_of nodes k)
mark_at-nodes nodes k = mark_at-parts (parts_of nodes) k

mark_by-resolved : (parts : List Resolved) (n : ExprNode) → mark_by (map has_temporal parts) n ≡ has_temporal (resolved_by parts n)
mark_by-resolved parts (node.Constant place b) = refl
mark_by-resolved parts (node.Slot place k) = refl
mark_by-resolved parts (node.Whole place i) = refl
mark_by-resolved parts (node.Named place naming a) = mark_at-parts parts a
mark_by-resolved parts (node.Next place a) = mark_at-parts parts a
mark_by-resolved parts (node.Operand a) = mark_at-parts parts a
mark_by-resolved parts (node.Apply place o count) =
    ap (λ (b : Bool). is_temporal o || b)
    (ap (list_any (λ (mark : Bool). mark)) (last_of-map has_temporal count parts) ∙ some_marked (last_of count parts))
mark_by-resolved parts (node.Link place o a b) =
    ap (λ (x : Bool). is_temporal o || (x || mark_at (map has_temporal parts) b)) (mark_at-parts parts a)
    ∙ ap (λ (x : Bool). is_temporal o || (has_temporal (part_at parts a) || x)) (mark_at-parts parts b ∙ sym (or-false _))

-- no nodes have no marks
pub marks_none : [] ≡ marks_of []
unfolding parts_of
marks_none = refl

-- one node more of a list, by the marks of those before it
pub marks_next : (nodes : List ExprNode) (made : List Bool) (i : ℕ) (d : ExprNode) (mark : Bool) → i < length nodes
    → made ≡ marks_of (take i nodes) → mark ≡ mark_by made (get_or nodes i d) → made ++ mark ∷ [] ≡ marks_of (take (i + 1) nodes)
marks_next nodes made i d mark within so_far is =
    let first = take i nodes in
    let n = get_or nodes i d in
    ap (λ (x : Bool). made ++ x ∷ []) is
    ∙ ap (λ (l : List Bool). l ++ mark_by l n ∷ []) so_far
    ∙ ap (λ (x : Bool). marks_of first ++ x ∷ []) (mark_by-resolved (parts_of first) n)
    ∙ sym (map-append has_temporal (parts_of first) (resolved_by (parts_of first) n ∷ []))
    ∙ ap (map has_temporal) (sym (parts_of-push first n))
    ∙ ap marks_of (sym (take_more nodes i d within))
