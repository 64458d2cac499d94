-- The items that are judged are those of the program.
use Rattle.std.proofs.Common.{◌≡◌, ◌∙◌, ℕ, zero, suc, ◌<◌, Bool, true, false, not, cond, ◌&&◌, List, [], ◌∷◌, ◌++◌, length, get_or, map, refl, sym, ap, arith}
use Rattle.std.specs.Prelude.{All, Some, slice_get}
use Rattle.std.specs.List.{filter, list_all}
use Rattle.std.proofs.lemmas.Bool.{and_parts}
use Rattle.std.proofs.lemmas.List.{map-append}
use Rattle.std.proofs.lemmas.List.Folds.{list_all-append}
use Rattle.smv_tree.specs.declared.tree.Program.{Program}
use Rattle.smv_resolve.specs.declared.item.Item.{Item}
use Rattle.smv_resolve.specs.declared.node.ExprNode.{ExprNode}
use Rattle.smv_resolve.specs.Items.{ResolvedItem, item_by}
use Rattle.smv_layout.specs.Layout.{items_of}
use Rattle.smv_meaning.specs.declared.typed.Typed.{Typed}
use Rattle.smv_meaning.specs.Runs.{is_claim, is_known_item, specifications_of}
use Rattle.smv_slots.specs.Slots.{slots_of}
use Rattle.bit_faults.specs.Questions.{IsKnown, judged_items}

-- items over nodes

abbrev is_other : ResolvedItem → Bool
is_other x = not (is_claim x.kind)

abbrev is_other_item : Item → Bool
is_other_item x = not (is_claim x.kind)

picked : (nodes : List ExprNode) (x : Item) (items : List Item) (there : List ResolvedItem) → map (item_by nodes) items ≡ there
    → (b : Bool) → map (item_by nodes) (cond b (x ∷ items) items) ≡ cond b (item_by nodes x ∷ there) there
picked nodes x items there same true = ap (λ (l : List ResolvedItem). item_by nodes x ∷ l) same
picked nodes x items there same false = same

others : (nodes : List ExprNode) (items : List Item) → map (item_by nodes) (filter is_other_item items) ≡ filter is_other (map (item_by nodes) items)
others nodes [] = refl
others nodes (x ∷ items) = picked nodes x (filter is_other_item items) (filter is_other (map (item_by nodes) items)) (others nodes items) (is_other_item x)

-- the others, and then the claims
pub judged_by : (p : Program) (nodes : List ExprNode) (items plain claims : List Item) → map (item_by nodes) items ≡ items_of p → plain ≡ filter (λ (x : Item). not (is_claim x.kind)) items →
    map (item_by nodes) claims ≡ specifications_of p → map (item_by nodes) (plain ++ claims) ≡ judged_items p
judged_by p nodes items plain claims all are specs =
    map-append (item_by nodes) plain claims
    ∙ ap (λ (l : List ResolvedItem). l ++ map (item_by nodes) claims) (ap (map (item_by nodes)) are ∙ others nodes items ∙ ap (filter is_other) all)
    ∙ ap (λ (l : List ResolvedItem). filter is_other (items_of p) ++ l) specs

-- tests that all pass

module _ (test : ResolvedItem → Bool) where
  all_by : (xs : List ResolvedItem) → ((j : ℕ) (x : ResolvedItem) → slice_get xs j ≡ Some x → test x ≡ true) → list_all test xs ≡ true
  all_by [] each = refl
  all_by (x ∷ xs) each = ap (λ (b : Bool). b && list_all test xs) (each 0 x refl) ∙ all_by xs (λ j y at. each (suc j) y at)

  pub all_at : (xs : List ResolvedItem) (j : ℕ) (x : ResolvedItem) → list_all test xs ≡ true → slice_get xs j ≡ Some x → test x ≡ true
  all_at [] j x all at = cc
  all_at (y ∷ xs) zero x all at = ap test (let e : x ≡ y = cc in e) ∙ (and_parts (test y) (list_all test xs) all).0
  all_at (y ∷ xs) (suc j) x all at = all_at xs j x (and_parts (test y) (list_all test xs) all).1 at

  -- of two parts and of the whole

  joined : (x : ResolvedItem) (xs as' bs : List ResolvedItem) (b : Bool) → (list_all test as' ≡ true → list_all test bs ≡ true → list_all test xs ≡ true) →
      list_all test (cond (not b) (x ∷ as') as') ≡ true → list_all test (cond b (x ∷ bs) bs) ≡ true → list_all test (x ∷ xs) ≡ true
  joined x xs as' bs true rest one two =
      let both = and_parts (test x) (list_all test bs) two in
      ap (λ (c : Bool). c && list_all test xs) both.0 ∙ rest one both.1
  joined x xs as' bs false rest one two =
      let both = and_parts (test x) (list_all test as') one in
      ap (λ (c : Bool). c && list_all test xs) both.0 ∙ rest both.1 two

  join : (xs : List ResolvedItem) → list_all test (filter is_other xs) ≡ true → list_all test (filter (λ (x : ResolvedItem). is_claim x.kind) xs) ≡ true → list_all test xs ≡ true
  join [] one two = refl
  join (x ∷ xs) one two = joined x xs (filter is_other xs) (filter (λ (x : ResolvedItem). is_claim x.kind) xs) (is_claim x.kind) (join xs) one two

  kept_by : (x : ResolvedItem) (ys : List ResolvedItem) (b : Bool) → test x ≡ true → list_all test ys ≡ true → list_all test (cond b (x ∷ ys) ys) ≡ true
  kept_by x ys true here rest = ap (λ (c : Bool). c && list_all test ys) here ∙ rest
  kept_by x ys false here rest = rest

  kept : (keep : ResolvedItem → Bool) (xs : List ResolvedItem) → list_all test xs ≡ true → list_all test (filter keep xs) ≡ true
  kept keep [] all = refl
  kept keep (x ∷ xs) all =
      let both = and_parts (test x) (list_all test xs) all in
      kept_by x (filter keep xs) (keep x) both.0 (kept keep xs both.1)

  both_are : (a b : Bool) → a ≡ true → b ≡ true → (a && b) ≡ true
  both_are a b one two = ap (λ (c : Bool). c && b) one ∙ two

  pub all_judged : (p : Program) → ((j : ℕ) (x : ResolvedItem) → slice_get (judged_items p) j ≡ Some x → test x ≡ true) → list_all test (items_of p) ≡ true
  all_judged p each =
      let whole : list_all test (judged_items p) ≡ true = all_by (judged_items p) each in
      let parts = and_parts (list_all test (filter is_other (items_of p))) (list_all test (specifications_of p)) (sym (list_all-append test (filter is_other (items_of p)) (specifications_of p)) ∙ whole) in
      join (items_of p) parts.0 parts.1

  pub judged_pass : (p : Program) → list_all test (items_of p) ≡ true → list_all test (judged_items p) ≡ true
  judged_pass p all =
      list_all-append test (filter is_other (items_of p)) (specifications_of p)
      ∙ both_are (list_all test (filter is_other (items_of p))) (list_all test (specifications_of p)) (kept is_other (items_of p) all) (kept (λ (x : ResolvedItem). is_claim x.kind) (items_of p) all)

-- the outcome of each is known

of_map : (nodes : List ExprNode) (test : ResolvedItem → Bool) (items : List Item) (i : ℕ) (d : Item) → i < length items → list_all test (map (item_by nodes) items) ≡ true →
    test (item_by nodes (get_or items i d)) ≡ true
of_map nodes test [] i d lt all = absurd (let no : ⊥ = omega (arith, lt) in no)
of_map nodes test (x ∷ items) zero d lt all = (and_parts (test (item_by nodes x)) (list_all test (map (item_by nodes) items)) all).0
of_map nodes test (x ∷ items) (suc i) d lt all =
    of_map nodes test items i d (omega (arith, lt)) (and_parts (test (item_by nodes x)) (list_all test (map (item_by nodes) items)) all).1

pub all_known : (typed : Typed) (items : List Item) → map (item_by typed.nodes) items ≡ judged_items typed.scope.program →
    All (λ (item : Item). IsKnown typed.scope.program (item_by typed.nodes item)) items
all_known typed items are = λ i d lt. λ s u t from given to.
    let p = typed.scope.program in
    let test : ResolvedItem → Bool = is_known_item (slots_of p) s u t in
    of_map typed.nodes test items i d lt (ap (list_all test) are ∙ judged_pass test p (typed.known s u t from given to))
