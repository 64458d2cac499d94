-- What stands for a node follows from what stands for those before it.
use Rattle.std.proofs.Common.{◌≡◌, ℕ, ◌+◌, ◌<◌, ◌≤◌, List, [], ◌∷◌, ◌++◌, length, get_or, map, take, Option, Some, None, slice_get, Result, IfOk, refl, sym, ap, subst, ◌∙◌}
use Rattle.std.specs.Prelude.{ℤ, slice_index_or, unwrap_or}
use Rattle.std.specs.Option.{option_map}
use Rattle.std.specs.List.{All}
use Rattle.std.proofs.Math.ListN.{get_or-map}
use Rattle.std.proofs.lemmas.List.{map-append, take-map}
use Rattle.std.proofs.lemmas.List.Elements.{All-nil}
use Rattle.std.proofs.lemmas.Option.{slice_get-map, unwrap_or-slice_get}
use Rattle.std.proofs.lemmas.Result.{IfOk-weaker}
use Rattle.smv_tree.specs.declared.place.Place.{Place}
use Rattle.smv_value.specs.declared.operator.Operator.{Operator}
use Rattle.smv_resolve.specs.declared.node.ExprNode.{ExprNode}
use Rattle.smv_resolve.specs.Finding.{Grows}
use Rattle.smv_resolve.specs.Resolved.{Resolved, last_of, operands_of, part_at, parts_of, resolved_by}
use Rattle.smv_resolve.proofs.Parts.{last_of-map, parts_of-next, parts_of-take}
use Rattle.smv_declared.specs.declared.constant.Constant.{Constant}
use Rattle.smv_declared.specs.declared.variable_type.VariableType.{VariableType}
use Rattle.smv_declared.specs.Constants.{constant_of, constants_of}
use Rattle.smv_layout.specs.declared.laid.LaidNode.{LaidNode}
use Rattle.smv_layout.specs.Indices.{index_of}
use Rattle.smv_layout.specs.Layout.{Laid, all_laid, applied, bounds_in, laid}
use Rattle.smv_layout.specs.Nodes.{AreLaid, IsLaid, Knows, Stands, entry_by, laid_at, laid_by}
use Rattle.smv_layout.proofs.Indexing.{index_found, indices-operands}
use Rattle.smv_layout.proofs.Standing.{AreLaid_grown, AreLaid_push, laid_kept, map_kept}

constants-operands : (rs : List Resolved) → constants_of (operands_of rs) ≡ map constant_of rs
constants-operands [] = refl
constants-operands (r ∷ rs) = ap (λ (cs : List Constant). constant_of r ∷ cs) (constants-operands rs)

laid-operands : (vs : List VariableType) (rs : List Resolved) → all_laid vs (operands_of rs) ≡ map (laid vs) rs
laid-operands vs [] = refl
laid-operands vs (r ∷ rs) = ap (λ (xs : List Laid). laid vs r ∷ xs) (laid-operands vs rs)

entry_is : (nodes : List ExprNode) (o : Option LaidNode) → entry_by nodes o ≡ unwrap_or (option_map (laid_by nodes) o) (Laid.Value Resolved.Stuck)
entry_is nodes None = refl
entry_is nodes (Some x) = refl

laid_at_is : (nodes : List ExprNode) (entries : List LaidNode) (k : ℕ) → laid_at nodes entries k ≡ get_or (map (laid_by nodes) entries) k (Laid.Value Resolved.Stuck)
laid_at_is nodes entries k =
    entry_is nodes (slice_get entries k)
    ∙ ap (λ (o : Option Laid). unwrap_or o (Laid.Value Resolved.Stuck)) (sym (slice_get-map (laid_by nodes) entries k))
    ∙ unwrap_or-slice_get (map (laid_by nodes) entries) k (Laid.Value Resolved.Stuck)

-- the entry of this number stands for the part of this number
pub laid_found : (vs : List VariableType) (nodes : List ExprNode) (entries : List LaidNode) (parts : List Resolved) (k : ℕ) → map (laid_by nodes) entries ≡ map (laid vs) parts →
    laid_at nodes entries k ≡ laid vs (part_at parts k)
laid_found vs nodes entries parts k e =
    laid_at_is nodes entries k ∙ ap (λ (xs : List Laid). get_or xs k (Laid.Value Resolved.Stuck)) e ∙ get_or-map (laid vs) parts k Resolved.Stuck

-- it stays so when nodes are added
pub laid_at_kept : (old new : List ExprNode) (entries : List LaidNode) (k : ℕ) → Grows old new → All (Stands old) entries → laid_at new entries k ≡ laid_at old entries k
laid_at_kept old new entries k g s =
    laid_at_is new entries k
    ∙ ap (λ (xs : List Laid). get_or xs k (Laid.Value Resolved.Stuck)) (map_kept (laid_by new) (laid_by old) (Stands old) (laid_kept old new g) entries s)
    ∙ sym (laid_at_is old entries k)

pub two_laid : (nodes : List ExprNode) (x y : LaidNode) (a b : Laid) → laid_by nodes x ≡ a → laid_by nodes y ≡ b → map (laid_by nodes) (x ∷ y ∷ []) ≡ a ∷ b ∷ []
two_laid nodes x y a b e f = ap (λ (z : Laid). z ∷ laid_by nodes y ∷ []) e ∙ ap (λ (z : Laid). a ∷ z ∷ []) f

-- nothing stands for no nodes
pub laid_none : (vs : List VariableType) (nodes : List ExprNode) (entries : List LaidNode) → entries ≡ [] → AreLaid nodes entries (map (laid vs) (parts_of []))
unfolding parts_of
laid_none vs nodes entries e = record { stand = subst (All (Stands nodes)) (sym e) (All-nil (Stands nodes)); are = ap (map (laid_by nodes)) e }

pub applied_along : (vs : List VariableType) (place : Place) (o : Operator) (a b : Option (ℕ × ℕ)) (c d : List (Option ℤ)) (x y : List Laid) → a ≡ b → c ≡ d → x ≡ y →
    applied vs place o a c x ≡ applied vs place o b d y
applied_along vs place o a b c d x y e f g =
    ap (λ (z : Option (ℕ × ℕ)). applied vs place o z c x) e ∙ ap (λ (z : List (Option ℤ)). applied vs place o b z x) f ∙ ap (applied vs place o b d) g

-- an operator over the last parts
pub applied_last : (vs : List VariableType) (place : Place) (o : Operator) (count : ℕ) (nodes : List ExprNode) (entries : List LaidNode) (constants : List Constant) (indices : List (Option ℤ)) (parts : List Resolved) →
    Knows constants indices parts → map (laid_by nodes) entries ≡ map (laid vs) parts →
    applied vs place o (bounds_in (last_of count constants)) (last_of count indices) (map (laid_by nodes) (last_of count entries)) ≡ laid vs (Resolved.Apply place o (operands_of (last_of count parts)))
applied_last vs place o count nodes entries constants indices parts k e =
    applied_along vs place o _ _ _ _ _ _
    (ap bounds_in (ap (last_of count) k.constants_are ∙ last_of-map constant_of count parts ∙ sym (constants-operands (last_of count parts))))
    (ap (last_of count) k.indices_are ∙ last_of-map index_of count parts ∙ sym (indices-operands (last_of count parts)))
    (sym (last_of-map (laid_by nodes) count entries) ∙ ap (last_of count) e ∙ last_of-map (laid vs) count parts ∙ sym (laid-operands vs (last_of count parts)))

-- a link of a chain
pub applied_two : (vs : List VariableType) (place : Place) (o : Operator) (a b : ℕ) (nodes : List ExprNode) (entries : List LaidNode) (constants : List Constant) (indices : List (Option ℤ)) (parts : List Resolved) →
    Knows constants indices parts → map (laid_by nodes) entries ≡ map (laid vs) parts →
    applied vs place o None (slice_index_or indices a None ∷ slice_index_or indices b None ∷ [])
    (laid_at nodes entries a ∷ laid_at nodes entries b ∷ [])
    ≡ laid vs (Resolved.Apply place o (operands_of (part_at parts a ∷ part_at parts b ∷ [])))
applied_two vs place o a b nodes entries constants indices parts k e =
    applied_along vs place o _ _ _ _ _ _
    refl
    (ap (λ (c : Option ℤ). c ∷ slice_index_or indices b None ∷ []) (index_found parts indices a k.indices_are) ∙ ap (λ (c : Option ℤ). index_of (part_at parts a) ∷ c ∷ []) (index_found parts indices b k.indices_are))
    (ap (λ (c : Laid). c ∷ laid_at nodes entries b ∷ []) (laid_found vs nodes entries parts a e) ∙ ap (λ (c : Laid). laid vs (part_at parts a) ∷ c ∷ []) (laid_found vs nodes entries parts b e))

-- what is known of all nodes is known of those before one
pub knows_before : (from : List ExprNode) (i : ℕ) (constants before : List Constant) (indices earlier : List (Option ℤ)) → i ≤ length from →
    constants ≡ map constant_of (parts_of from) → indices ≡ map index_of (parts_of from) → before ≡ take i constants → earlier ≡ take i indices → Knows before earlier (parts_of (take i from))
knows_before from i constants before indices earlier l c d b e = record {
  constants_are = b ∙ ap (take i) c ∙ take-map constant_of i (parts_of from) ∙ ap (map constant_of) (parts_of-take from i l);
  indices_are = e ∙ ap (take i) d ∙ take-map index_of i (parts_of from) ∙ ap (map index_of) (parts_of-take from i l);
}

-- one node more
pub laid_more : (vs : List VariableType) (from old new : List ExprNode) (i : ℕ) (d : ExprNode) (entries after : List LaidNode) (x : LaidNode) → Grows old new → i < length from →
    AreLaid old entries (map (laid vs) (parts_of (take i from))) → IsLaid new x (laid vs (resolved_by (parts_of (take i from)) (get_or from i d))) → after ≡ entries ++ x ∷ [] →
    AreLaid new after (map (laid vs) (parts_of (take (i + 1) from)))
laid_more vs from old new i d entries after x g l a is e =
    let parts : List Resolved = parts_of (take i from) in
    let more : map (laid vs) (parts_of (take (i + 1) from)) ≡ map (laid vs) parts ++ laid vs (resolved_by parts (get_or from i d)) ∷ [] =
    ap (map (laid vs)) (parts_of-next from i d l) ∙ map-append (laid vs) parts (resolved_by parts (get_or from i d) ∷ []) in
    let pushed : AreLaid new (entries ++ x ∷ []) (map (laid vs) parts ++ laid vs (resolved_by parts (get_or from i d)) ∷ []) =
    AreLaid_push new entries x (map (laid vs) parts) (laid vs (resolved_by parts (get_or from i d))) (AreLaid_grown old new entries (map (laid vs) parts) g a) is in
    let here : AreLaid new after (map (laid vs) parts ++ laid vs (resolved_by parts (get_or from i d)) ∷ []) =
    subst (λ (xs : List LaidNode). AreLaid new xs (map (laid vs) parts ++ laid vs (resolved_by parts (get_or from i d)) ∷ [])) (sym e) pushed in
    subst (AreLaid new after) (sym more) here

-- what is made stands for the node, whatever the parts before it are
pub lays : {E : Type 0} (vs : List VariableType) (constants : List Constant) (indices : List (Option ℤ)) (entries : List LaidNode) (old new : List ExprNode) (r : Result LaidNode E) (y : Laid) (n : ExprNode) →
    ((parts : List Resolved) → Knows constants indices parts → map (laid_by old) entries ≡ map (laid vs) parts → y ≡ laid vs (resolved_by parts n)) → IfOk r (λ x. IsLaid new x y) →
    IfOk r (λ x. (parts : List Resolved) → Knows constants indices parts → map (laid_by old) entries ≡ map (laid vs) parts → IsLaid new x (laid vs (resolved_by parts n)))
lays vs constants indices entries old new r y n same l =
    IfOk-weaker r (λ x. IsLaid new x y) (λ x. (parts : List Resolved) → Knows constants indices parts → map (laid_by old) entries ≡ map (laid vs) parts → IsLaid new x (laid vs (resolved_by parts n)))
    (λ x i parts k e. record { stands = i.stands; is = i.is ∙ same parts k e }) l
