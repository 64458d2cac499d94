-- Whether the part of one node more is formed.
use Rattle.std.proofs.Common.{◌≡◌, ◌∙◌, ℕ, suc, ◌+◌, ◌<◌, Bool, not, ◌&&◌, List, [], ◌∷◌, ◌++◌, map, take, length, get_or, refl, sym, ap}
use Rattle.std.specs.List.{list_all}
use Rattle.std.proofs.Math.Bool.{and-true}
use Rattle.std.proofs.Math.ListN.{get_or-map}
use Rattle.std.proofs.lemmas.List.{length-map, map-append, take_more}
use Rattle.smv_resolve.specs.declared.node.ExprNode.{ExprNode}
use Rattle.smv_resolve.specs.declared.node.ExprNode.TheVariants as node
use Rattle.smv_resolve.specs.Resolved.{Resolved, operands_of, last_of, part_at, part_of, parts_of, resolved_by}
use Rattle.smv_resolve.proofs.Parts.{last_of-map, parts_of-push}
use Rattle.smv_meaning.specs.Formulas.{has_temporal}
use Rattle.smv_formulas.specs.Formed.{are_formed, formed_at, formed_by, formed_of, formed_over, is_formed, operand_count}
use Rattle.smv_formulas.specs.Forms.{form_of}
use Rattle.smv_formulas.specs.Marks.{marks_of}
use Rattle.smv_formulas.proofs.Marking.{mark_at-parts}

all_formed : (rs : List Resolved) → list_all (λ (b : Bool). b) (map is_formed rs) ≡ are_formed (operands_of rs)
all_formed [] = refl
all_formed (r ∷ rs) = ap (λ (b : Bool). is_formed r && b) (all_formed rs)

count_operands : (rs : List Resolved) → length rs ≡ operand_count (operands_of rs)
count_operands [] = refl
count_operands (r ∷ rs) = ap suc (count_operands rs)

formed_at-parts : (parts : List Resolved) (k : ℕ) → formed_at (map is_formed parts) k ≡ is_formed (part_at parts k)
formed_at-parts parts k = get_or-map is_formed parts k Resolved.Stuck

pub formed_at-nodes : (nodes : List ExprNode) (k : ℕ) → formed_at (formed_of nodes) k ≡ is_formed (part_of nodes k)
formed_at-nodes nodes k = formed_at-parts (parts_of nodes) k

formed_by-resolved : (parts : List Resolved) (n : ExprNode) → formed_by (map has_temporal parts) (map is_formed parts) n ≡ is_formed (resolved_by parts n)
formed_by-resolved parts (node.Constant place b) = refl
formed_by-resolved parts (node.Slot place k) = refl
formed_by-resolved parts (node.Whole place i) = refl
formed_by-resolved parts (node.Named place naming a) = ap not (mark_at-parts parts a)
formed_by-resolved parts (node.Next place a) = refl
formed_by-resolved parts (node.Operand a) = formed_at-parts parts a
formed_by-resolved parts (node.Apply place o count) =
    let rs = last_of count parts in
    ap (λ (bs : List Bool). formed_over (form_of o) (length bs) (list_all (λ (b : Bool). b) bs)) (last_of-map is_formed count parts)
    ∙ ap (λ n. formed_over (form_of o) n (list_all (λ (b : Bool). b) (map is_formed rs))) (length-map rs is_formed ∙ count_operands rs)
    ∙ ap (formed_over (form_of o) (operand_count (operands_of rs))) (all_formed rs)
formed_by-resolved parts (node.Link place o a b) =
    ap (λ (x : Bool). formed_over (form_of o) 2 (x && formed_at (map is_formed parts) b)) (formed_at-parts parts a)
    ∙ ap (λ (x : Bool). formed_over (form_of o) 2 (is_formed (part_at parts a) && x)) (formed_at-parts parts b ∙ sym (and-true _))

pub formed_none : [] ≡ formed_of []
unfolding parts_of
formed_none = refl

-- one node more of a list, by the marks of those before it
pub formed_next : (nodes : List ExprNode) (marks made : List Bool) (i : ℕ) (d : ExprNode) (is : Bool) → i < length nodes
    → marks ≡ marks_of (take i nodes) → made ≡ formed_of (take i nodes) → is ≡ formed_by marks made (get_or nodes i d) → made ++ is ∷ [] ≡ formed_of (take (i + 1) nodes)
formed_next nodes marks made i d is within marked so_far is_it =
    let first = take i nodes in
    let n = get_or nodes i d in
    ap (λ (x : Bool). made ++ x ∷ []) is_it
    ∙ ap (λ (m : List Bool). made ++ formed_by m made n ∷ []) marked
    ∙ ap (λ (l : List Bool). l ++ formed_by (marks_of first) l n ∷ []) so_far
    ∙ ap (λ (x : Bool). formed_of first ++ x ∷ []) (formed_by-resolved (parts_of first) n)
    ∙ sym (map-append is_formed (parts_of first) (resolved_by (parts_of first) n ∷ []))
    ∙ ap (map is_formed) (sym (parts_of-push first n))
    ∙ ap formed_of (sym (take_more nodes i d within))
