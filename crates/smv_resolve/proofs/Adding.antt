-- Lists of items that grow.
use Rattle.std.proofs.Common.{◌≡◌, ℕ, ◌<◌, Bool, true, false, if◌then◌else◌, List, [], ◌∷◌, ◌++◌, length, map, Option, Some, None, Err, refl, sym, ap, ◌∙◌, arith, append_assoc, append-nil}
use Rattle.std.proofs.lemmas.Bool.{cond-true, cond-false, or_from}
use Rattle.smv_tree.specs.declared.place.Place.{Place}
use Rattle.smv_tree.specs.declared.tree.Program.{Program}
use Rattle.smv_tree.specs.declared.tree.Expr.{Expr}
use Rattle.smv_tree.specs.declared.tree.Assignment.{Assignment}
use Rattle.smv_resolve.specs.declared.node.ExprNode.{ExprNode}
use Rattle.smv_resolve.specs.declared.item.Item.{Item}
use Rattle.smv_resolve.specs.declared.item.ItemKind.{ItemKind}
use Rattle.smv_resolve.specs.declared.item.ItemKind.TheVariants as item
use Rattle.smv_resolve.specs.declared.resolve.ResolveStop.{ResolveStop}
use Rattle.smv_resolve.specs.declared.resolve.ResolveStop.TheVariants as stop
use Rattle.smv_resolve.specs.Resolved.{Resolved, resolved, part_of, is_stuck}
use Rattle.smv_resolve.specs.Items.{ResolvedItem, resolved_left, resolved_assignment, target_by, item_by, is_stuck_item, first_stuck}
use Rattle.smv_resolve.specs.FirstPlaces.{first_place}
use Rattle.smv_resolve.specs.Finding.{Grows}
use Rattle.smv_resolve.proofs.Growing.{Grows-two}
use Rattle.smv_resolve.specs.Listing.{IsRoot, StandsTarget, AllStand, Added, Adds}

-- items stay as they are when nodes are added

target_kept : (old new : List ExprNode) → Grows old new → (target : Option ℕ) → StandsTarget old target → target_by new target ≡ target_by old target
target_kept old new g None s = refl
target_kept old new g (Some k) s = ap (λ r. Some r) (g.kept k s)

target_stands : (old new : List ExprNode) → Grows old new → (target : Option ℕ) → StandsTarget old target → StandsTarget new target
target_stands old new g None s = tt
target_stands old new g (Some k) s = omega (arith, s, g.longer)

item_kept : (old new : List ExprNode) → Grows old new → (x : Item) → StandsTarget old x.target → x.value < length old → item_by new x ≡ item_by old x
item_kept old new g x s l =
    ap (λ (t : Option Resolved). let r : ResolvedItem = record { at = x.at; kind = x.kind; place = x.place; begins = x.begins; target = t; value = part_of new x.value } in r) (target_kept old new g x.target s)
    ∙ ap (λ (v : Resolved). let r : ResolvedItem = record { at = x.at; kind = x.kind; place = x.place; begins = x.begins; target = target_by old x.target; value = v } in r) (g.kept x.value l)

items_kept : (old new : List ExprNode) → Grows old new → (xs : List Item) → AllStand old xs → map (item_by new) xs ≡ map (item_by old) xs
unfolding AllStand
items_kept old new g [] s = refl
items_kept old new g (x ∷ xs) s =
    ap (λ (y : ResolvedItem). y ∷ map (item_by new) xs) (item_kept old new g x s.0 s.1) ∙ ap (λ (ys : List ResolvedItem). item_by old x ∷ ys) (items_kept old new g xs s.2)

AllStand_grown : (old new : List ExprNode) → Grows old new → (xs : List Item) → AllStand old xs → AllStand new xs
unfolding AllStand
AllStand_grown old new g [] s = tt
AllStand_grown old new g (x ∷ xs) s = (target_stands old new g x.target s.0, omega (arith, s.1, g.longer), AllStand_grown old new g xs s.2)

-- one item more

AllStand-push : (nodes : List ExprNode) (x : Item) → StandsTarget nodes x.target → x.value < length nodes → (xs : List Item) → AllStand nodes xs → AllStand nodes (xs ++ x ∷ [])
unfolding AllStand
AllStand-push nodes x t v [] s = (t, v, tt)
AllStand-push nodes x t v (y ∷ xs) s = (s.0, s.1, AllStand-push nodes x t v xs s.2)

pub stand_more : (old new : List ExprNode) (before after : List Item) (x : Item) → Grows old new → AllStand old before → StandsTarget new x.target → x.value < length new →
    after ≡ before ++ x ∷ [] → AllStand new after
stand_more old new before after x g s t v e = rw e (AllStand-push new x t v before (AllStand_grown old new g before s))

map-push : (nodes : List ExprNode) (x : Item) (xs : List Item) → map (item_by nodes) (xs ++ x ∷ []) ≡ map (item_by nodes) xs ++ item_by nodes x ∷ []
map-push nodes x [] = refl
map-push nodes x (y ∷ xs) = ap (λ (ys : List ResolvedItem). item_by nodes y ∷ ys) (map-push nodes x xs)

pub added_one : (old new : List ExprNode) (before after : List Item) (x : Item) (y : ResolvedItem) → Grows old new → AllStand old before →
    after ≡ before ++ x ∷ [] → item_by new x ≡ y → is_stuck_item y ≡ false → Added old new before after (y ∷ [])
added_one old new before after x y g s e is free = record {
  items = rw e (map-push new x before ∙ ap (λ (ys : List ResolvedItem). ys ++ item_by new x ∷ []) (items_kept old new g before s) ∙ ap (λ (z : ResolvedItem). map (item_by old) before ++ z ∷ []) is);
  clear = cond-false (is_stuck_item y) (Some y.place) None free;
}

pub stuck_one : (y : ResolvedItem) → is_stuck_item y ≡ true → first_stuck (y ∷ []) ≡ Some y.place
stuck_one y h = cond-true (is_stuck_item y) (Some y.place) None h

-- the first of two lists is stuck, or none is and then the second counts

clear_cases : (b : Bool) (place : Place) (r s t : Option Place) → (r ≡ None → s ≡ t) → (if b then Some place else r) ≡ None → (if b then Some place else s) ≡ t
clear_cases true place r s t h e = absurd cc
clear_cases false place r s t h e = h e

clear-append : (xs ys : List ResolvedItem) → first_stuck xs ≡ None → first_stuck (xs ++ ys) ≡ first_stuck ys
clear-append [] ys h = refl
clear-append (x ∷ xs) ys h = clear_cases (is_stuck_item x) x.place (first_stuck xs) (first_stuck (xs ++ ys)) (first_stuck ys) (λ e. clear-append xs ys e) h

stuck_cases : (b : Bool) (place told : Place) (r s : Option Place) → (r ≡ Some told → s ≡ Some told) → (if b then Some place else r) ≡ Some told → (if b then Some place else s) ≡ Some told
stuck_cases true place told r s h e = e
stuck_cases false place told r s h e = h e

stuck-append : (xs ys : List ResolvedItem) (place : Place) → first_stuck xs ≡ Some place → first_stuck (xs ++ ys) ≡ Some place
stuck-append [] ys place h = absurd cc
stuck-append (x ∷ xs) ys place h = stuck_cases (is_stuck_item x) x.place place (first_stuck xs) (first_stuck (xs ++ ys)) (λ e. stuck-append xs ys place e) h

-- What is left of the whole: it stands behind the items so far as the whole behind those before, and nothing done is
-- stuck.
pub record Rests (old now : List ExprNode) (before after : List Item) (whole rest : List ResolvedItem) : Type 0 where
  pub items : map (item_by now) after ++ rest ≡ map (item_by old) before ++ whole
  pub clear : first_stuck rest ≡ first_stuck whole

pub rests_start : (nodes : List ExprNode) (items : List Item) (whole : List ResolvedItem) → Rests nodes nodes items items whole whole
rests_start nodes items whole = record { items = refl; clear = refl }

pub rests_more : (old now new : List ExprNode) (before items after : List Item) (whole all these rest : List ResolvedItem) → all ≡ these ++ rest →
    Rests old now before items whole all → Added now new items after these → Rests old new before after whole rest
rests_more old now new before items after whole all these rest e r a = record {
  items =
      ap (λ (xs : List ResolvedItem). xs ++ rest) a.items ∙ append_assoc (map (item_by now) items) these rest ∙ ap (λ (xs : List ResolvedItem). map (item_by now) items ++ xs) (sym e) ∙ r.items;
  clear = sym (clear-append these rest a.clear) ∙ ap first_stuck (sym e) ∙ r.clear;
}

pub rests_end : (old now : List ExprNode) (before items : List Item) (whole all : List ResolvedItem) → all ≡ [] → Rests old now before items whole all → Added old now before items whole
rests_end old now before items whole all e r = record {
  items = sym (append-nil (map (item_by now) items)) ∙ ap (λ (xs : List ResolvedItem). map (item_by now) items ++ xs) (sym e) ∙ r.items;
  clear = sym r.clear ∙ ap first_stuck e;
}

pub rests_halt : (old now new one : List ExprNode) (before items after last : List Item) (whole all these rest : List ResolvedItem) (h : ResolveStop) → all ≡ these ++ rest →
    Rests old now before items whole all → Adds now new items after these (Err h) → Adds old one before last whole (Err h)
rests_halt old now new one before items after last whole all these rest (stop.Stuck place) e r a = sym r.clear ∙ ap first_stuck e ∙ stuck-append these rest place a
rests_halt old now new one before items after last whole all these rest stop.NoMemory e r a = tt

-- the items of one assignment, of one constraint or specification

item_is : (nodes : List ExprNode) (x : Item) (t : Option Resolved) (v : Resolved) → target_by nodes x.target ≡ t → part_of nodes x.value ≡ v →
    item_by nodes x ≡ record { at = x.at; kind = x.kind; place = x.place; begins = x.begins; target = t; value = v }
item_is nodes x t v e f =
    ap (λ (u : Option Resolved). let r : ResolvedItem = record { at = x.at; kind = x.kind; place = x.place; begins = x.begins; target = u; value = part_of nodes x.value } in r) e
    ∙ ap (λ (u : Resolved). let r : ResolvedItem = record { at = x.at; kind = x.kind; place = x.place; begins = x.begins; target = t; value = u } in r) f

pub added_assignment : (p : Program) (at : ℕ) (a : Assignment) (old mid new : List ExprNode) (before after : List Item) (target value : ℕ) →
    Grows old mid → Grows mid new → AllStand old before → IsRoot mid (resolved_left p at a.kind a.target) target → IsRoot new (resolved p at a.value) value →
    after ≡ before ++ record { at = at; kind = item.Assignment a.kind; place = a.place; begins = first_place a.value; target = Some target; value = value } ∷ [] →
    Added old new before after (resolved_assignment p at a ∷ [])
added_assignment p at a old mid new before after target value g h s t v e =
    let x : Item = record { at = at; kind = item.Assignment a.kind; place = a.place; begins = first_place a.value; target = Some target; value = value } in
    added_one old new before after x (resolved_assignment p at a) (Grows-two g h) s e
    (item_is new x (Some (resolved_left p at a.kind a.target)) (resolved p at a.value) (ap (λ r. Some r) (h.kept target t.stands ∙ t.is)) v.is)
    (or_from (is_stuck (resolved_left p at a.kind a.target)) (is_stuck (resolved p at a.value)) t.clear v.clear)

pub added_plain : (p : Program) (at : ℕ) (kind : ItemKind) (place begins : Place) (e : Expr) (old new : List ExprNode) (before after : List Item) (value : ℕ) →
    Grows old new → AllStand old before → IsRoot new (resolved p at e) value →
    after ≡ before ++ record { at = at; kind = kind; place = place; begins = begins; target = None; value = value } ∷ [] →
    Added old new before after (record { at = at; kind = kind; place = place; begins = begins; target = None; value = resolved p at e } ∷ [])
added_plain p at kind place begins e old new before after value g s v f =
    let x : Item = record { at = at; kind = kind; place = place; begins = begins; target = None; value = value } in
    added_one old new before after x (record { at = at; kind = kind; place = place; begins = begins; target = None; value = resolved p at e }) g s f
    (item_is new x None (resolved p at e) refl v.is) v.clear
