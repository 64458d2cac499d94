-- Lists of nodes that grow.
use Rattle.std.proofs.Common.{◌≡◌, ℕ, ◌+◌, ◌-◌, ◌<◌, ◌≤◌, List, [], ◌∷◌, ◌++◌, length, get_or, map, take, Err, refl, sym, ap, ◌∙◌, arith, append_assoc, length-append}
use Rattle.std.specs.List.{All}
use Rattle.std.proofs.lemmas.List.{get_or_append_left, length-map, map-append, take_more, take_all, drop_at}
use Rattle.std.proofs.Math.Seq.{get_or-append_seam}
use Rattle.smv_resolve.specs.declared.node.ExprNode.{ExprNode}
use Rattle.smv_resolve.specs.Resolved.{Resolved, resolved_by, part_at, parts_of, part_of, last_of}
use Rattle.smv_resolve.specs.declared.memo.FoundNode.{FoundNode}
use Rattle.smv_resolve.specs.declared.memo.ResolveError.{ResolveError}
use Rattle.smv_resolve.specs.declared.memo.ResolveError.TheVariants as error
use Rattle.smv_resolve.specs.Finding.{Grows, UnlessMemory}
use Rattle.smv_resolve.proofs.Parts.{length-parts, parts_of-push}

-- the parts before it stay
part_of_old : (nodes : List ExprNode) (n : ExprNode) (k : ℕ) → k < length nodes → part_of (nodes ++ n ∷ []) k ≡ part_of nodes k
part_of_old nodes n k l =
    let within : k < length (parts_of nodes) = omega (arith, l, length-parts nodes) in
    ap (λ (parts : List Resolved). part_at parts k) (parts_of-push nodes n)
    ∙ get_or_append_left (parts_of nodes) (resolved_by (parts_of nodes) n ∷ []) Resolved.Stuck k within

-- the last part is what the node is over those before it
pub part_of_new : (nodes : List ExprNode) (n : ExprNode) → part_of (nodes ++ n ∷ []) (length nodes) ≡ resolved_by (parts_of nodes) n
part_of_new nodes n =
    ap (λ (parts : List Resolved). part_at parts (length nodes)) (parts_of-push nodes n)
    ∙ ap (λ (k : ℕ). get_or (parts_of nodes ++ resolved_by (parts_of nodes) n ∷ []) k Resolved.Stuck) (sym (length-parts nodes))
    ∙ get_or-append_seam (parts_of nodes) (resolved_by (parts_of nodes) n) [] Resolved.Stuck

pub Grows-push : (nodes : List ExprNode) (n : ExprNode) → Grows nodes (nodes ++ n ∷ [])
Grows-push nodes n = record { longer = omega (arith, length-append nodes (n ∷ [])); kept = part_of_old nodes n }

pub Grows-self : (nodes : List ExprNode) → Grows nodes nodes
Grows-self nodes = record { longer = omega arith; kept = λ k l. refl }

pub Grows-two : {a b c : List ExprNode} → Grows a b → Grows b c → Grows a c
Grows-two g h = record {
  longer = omega (arith, g.longer, h.longer);
  kept = λ k l. h.kept k (omega (arith, l, g.longer)) ∙ g.kept k l;
}

-- one node more, as a list that is that one
pub Grows-at : (old new : List ExprNode) (n : ExprNode) → new ≡ old ++ n ∷ [] → Grows old new
Grows-at old new n e = rw e (Grows-push old n)

-- one operand more behind the nodes before
pub parts_operand : (old mid new : List ExprNode) (ks : List ℕ) (i k : ℕ) → i < length ks → k ≡ get_or ks i k → All (λ j. j < length old) ks →
    parts_of mid ≡ parts_of old ++ map (part_of old) (take i ks) → parts_of new ≡ parts_of mid ++ part_at (parts_of mid) k ∷ [] →
    parts_of new ≡ parts_of old ++ map (part_of old) (take (i + 1) ks)
parts_operand old mid new ks i k l here stand before more =
    let low : get_or ks i k < length old = stand i k l in
    let within : k < length (parts_of old) = omega (arith, low, here, length-parts old) in
    more
    ∙ ap (λ (r : Resolved). parts_of mid ++ r ∷ []) (ap (λ (parts : List Resolved). part_at parts k) before ∙ get_or_append_left (parts_of old) (map (part_of old) (take i ks)) Resolved.Stuck k within)
    ∙ ap (λ (parts : List Resolved). parts ++ part_of old k ∷ []) before
    ∙ append_assoc (parts_of old) (map (part_of old) (take i ks)) (part_of old k ∷ [])
    ∙ ap (λ (parts : List Resolved). parts_of old ++ parts) (sym (map-append (part_of old) (take i ks) (k ∷ [])) ∙ ap (map (part_of old)) (ap (λ (j : ℕ). take i ks ++ j ∷ []) here ∙ sym (take_more ks i k l)))

-- the last parts are the operands
pub last_are : (old mid : List ExprNode) (ks : List ℕ) (i : ℕ) → length ks ≤ i → parts_of mid ≡ parts_of old ++ map (part_of old) (take i ks) →
    last_of (length ks) (parts_of mid) ≡ map (part_of old) ks
last_are old mid ks i past is =
    let whole : parts_of mid ≡ parts_of old ++ map (part_of old) ks = is ∙ ap (λ (js : List ℕ). parts_of old ++ map (part_of old) js) (take_all i ks past) in
    let long : length (parts_of old) ≡ length (parts_of old ++ map (part_of old) ks) - length ks =
    omega (arith, length-append (parts_of old) (map (part_of old) ks), length-map ks (part_of old)) in
    ap (last_of (length ks)) whole ∙ drop_at (parts_of old) (map (part_of old) ks) (length (parts_of old ++ map (part_of old) ks) - length ks) long

-- new nodes, and then more of them unless memory runs out
pub grows_on : {old mid : List ExprNode} (new : List ExprNode) (h : ResolveError) → Grows old mid → UnlessMemory {A = FoundNode} (Err h) (Grows mid new) → UnlessMemory {A = FoundNode} (Err h) (Grows old new)
grows_on new (error.Stuck place) g h = Grows-two g h
grows_on new error.NoMemory g h = tt
