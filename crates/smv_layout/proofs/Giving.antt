-- The indices of an array that a parameter was given.
use Rattle.std.proofs.Common.{◌≡◌, ℕ, ◌+◌, ◌<◌, List, [], ◌∷◌, ◌++◌, length, get_or, map, take, sym, ap, subst, ◌∙◌}
use Rattle.std.proofs.lemmas.List.{map-append, take_more}
use Rattle.std.proofs.lemmas.List.Elements.{All-push}
use Rattle.smv_tree.specs.declared.place.Place.{Place}
use Rattle.smv_resolve.specs.declared.node.Naming.TheVariants as naming
use Rattle.smv_resolve.specs.declared.node.ExprNode.{ExprNode}
use Rattle.smv_resolve.specs.Finding.{Grows}
use Rattle.smv_resolve.specs.Resolved.{Resolved, part_of}
use Rattle.smv_layout.specs.declared.laid.SubscriptNode.{SubscriptNode}
use Rattle.smv_layout.specs.Arrays.{Subscript}
use Rattle.smv_layout.specs.Layout.{subscript_given}
use Rattle.smv_layout.specs.Nodes.{AreSubscripts, IsNode, SubscriptsStand, subscript_by}
use Rattle.smv_layout.proofs.Standing.{subscripts_kept, subscripts_stand}

-- one index more
pub given_more : (old mid new : List ExprNode) (place : Place) (xs given after : List SubscriptNode) (i node : ℕ) (x : SubscriptNode) → SubscriptsStand old xs → Grows old mid → Grows mid new →
    i < length xs → x ≡ get_or xs i x → AreSubscripts mid given (map (subscript_given place) (map (subscript_by old) (take i xs))) →
    IsNode new node (Resolved.Named place naming.Passed (part_of mid x.node)) → after ≡ given ++ record { place = x.place; node = node; constant = x.constant } ∷ [] →
    AreSubscripts new after (map (subscript_given place) (map (subscript_by old) (take (i + 1) xs)))
given_more old mid new place xs given after i node x s g h l e a n is =
    let y : SubscriptNode = record { place = x.place; node = node; constant = x.constant } in
    let before : List Subscript = map (subscript_given place) (map (subscript_by old) (take i xs)) in
    let low : x.node < length old = subst (λ (z : SubscriptNode). z.node < length old) (sym e) (s i x l) in
    let more : map (subscript_given place) (map (subscript_by old) (take (i + 1) xs)) ≡ before ++ subscript_given place (subscript_by old x) ∷ [] =
    ap (λ (ys : List SubscriptNode). map (subscript_given place) (map (subscript_by old) ys)) (take_more xs i x l ∙ ap (λ (z : SubscriptNode). take i xs ++ z ∷ []) (sym e))
    ∙ ap (map (subscript_given place)) (map-append (subscript_by old) (take i xs) (x ∷ []))
    ∙ map-append (subscript_given place) (map (subscript_by old) (take i xs)) (subscript_by old x ∷ []) in
    let whole : AreSubscripts new (given ++ y ∷ []) (map (subscript_given place) (map (subscript_by old) (take (i + 1) xs))) = record {
      stand = All-push (λ z. z.node < length new) given y (subscripts_stand mid new h given a.stand) n.stands;
      are =
          map-append (subscript_by new) given (y ∷ [])
          ∙ ap (λ (ys : List Subscript). ys ++ subscript_by new y ∷ []) (subscripts_kept mid new h given a.stand ∙ a.are)
          ∙ ap (λ (r : Resolved). let z : Subscript = record { place = x.place; index = r; constant = x.constant } in before ++ z ∷ []) (n.is ∙ ap (λ (r : Resolved). Resolved.Named place naming.Passed r) (g.kept x.node low))
          ∙ sym more;
    } in
    subst (λ (ys : List SubscriptNode). AreSubscripts new ys (map (subscript_given place) (map (subscript_by old) (take (i + 1) xs)))) (sym is) whole
