-- One more line of a listing.
use Rattle.std.proofs.Common.{◌≡◌, ℕ, suc, ◌+◌, ◌<◌, Bool, true, false, List, [], ◌∷◌, ◌++◌, filter, length, map, not, take, get_or, sym, ap, cond, ◌∙◌, arith, append_assoc, append-nil, length-append, length-take}
use Rattle.std.proofs.lemmas.List.{length-map, take_more}
use Rattle.std.proofs.lemmas.List.Elements.{filter_more}
use Rattle.std.proofs.Math.ListN.{get_or-map}
use Rattle.smv_tree.specs.declared.tree.Program.{Program}
use Rattle.smv_resolve.specs.declared.item.Item.{Item}
use Rattle.smv_resolve.specs.declared.node.ExprNode.{ExprNode}
use Rattle.smv_slots.specs.declared.slot.Slot.{Slot}
use Rattle.smv_resolve.specs.Items.{ResolvedItem, item_by}
use Rattle.smv_meaning.specs.Runs.{is_claim}
use Rattle.smv_cli.specs.Listing.{item_line, items_text, slot_line, slots_text}

module _ (p : Program) where
  slots_text-push : (k : ℕ) (xs : List Slot) (x : Slot) → slots_text p k (xs ++ x ∷ []) ≡ slots_text p k xs ++ slot_line p (k + length xs) x
  slots_text-push k [] x = append-nil (slot_line p k x) ∙ ap (λ n. slot_line p n x) (let e : k ≡ k + 0 = omega arith in e)
  slots_text-push k (y ∷ xs) x =
      ap (λ (l : List ℕ). slot_line p k y ++ l)
      (slots_text-push (k + 1) xs x ∙ ap (λ n. slots_text p (k + 1) xs ++ slot_line p n x) (let e : (k + 1) + length xs ≡ k + suc (length xs) = omega arith in e))
      ∙ sym (append_assoc (slot_line p k y) (slots_text p (k + 1) xs) (slot_line p (k + suc (length xs)) x))

  slots_more : (xs : List Slot) (i : ℕ) (x : Slot) → i < length xs → slots_text p 0 (take i xs) ++ slot_line p i (get_or xs i x) ≡ slots_text p 0 (take (i + 1) xs)
  slots_more xs i x h =
      let front : take (i + 1) xs ≡ take i xs ++ get_or xs i x ∷ [] = take_more xs i x h in
      let n : i ≡ 0 + length (take i xs) = omega (arith, length-take i xs) in
      ap (λ m. slots_text p 0 (take i xs) ++ slot_line p m (get_or xs i x)) n
      ∙ sym (slots_text-push 0 (take i xs) (get_or xs i x)) ∙ ap (slots_text p 0) (sym front)

  -- a text with the lines of the first i slots, and then the line of one more
  pub slots_told : (xs : List Slot) (i : ℕ) (d : Slot) (old before now : List ℕ) → i < length xs → before ≡ old ++ slots_text p 0 (take i xs)
      → now ≡ before ++ slot_line p i (get_or xs i d) → now ≡ old ++ slots_text p 0 (take (i + 1) xs)
  slots_told xs i d old before now h so_far e =
      e ∙ ap (λ (l : List ℕ). l ++ slot_line p i (get_or xs i d)) so_far ∙ append_assoc old (slots_text p 0 (take i xs)) (slot_line p i (get_or xs i d))
      ∙ ap (λ (l : List ℕ). old ++ l) (slots_more xs i d h)

  items_text-push : (k : ℕ) (xs : List ResolvedItem) (x : ResolvedItem) → items_text p k (xs ++ x ∷ []) ≡ items_text p k xs ++ item_line p (k + length xs) x
  items_text-push k [] x = append-nil (item_line p k x) ∙ ap (λ n. item_line p n x) (let e : k ≡ k + 0 = omega arith in e)
  items_text-push k (y ∷ xs) x =
      ap (λ (l : List ℕ). item_line p k y ++ l)
      (items_text-push (k + 1) xs x ∙ ap (λ n. items_text p (k + 1) xs ++ item_line p n x) (let e : (k + 1) + length xs ≡ k + suc (length xs) = omega arith in e))
      ∙ sym (append_assoc (item_line p k y) (items_text p (k + 1) xs) (item_line p (k + suc (length xs)) x))

abbrev is_shown : ResolvedItem → Bool
is_shown x = not (is_claim x.kind)

-- the items but for specifications, of the first i
abbrev pub shown_items : List ExprNode → ℕ → List Item → List ResolvedItem
shown_items nodes i items = filter (λ (x : ResolvedItem). not (is_claim x.kind)) (take i (map (item_by nodes) items))

module _ (nodes : List ExprNode) (items : List Item) (i : ℕ) (d : Item) where
  more : i < length items → shown_items nodes (i + 1) items ≡ shown_items nodes i items ++ cond (is_shown (item_by nodes (get_or items i d))) (item_by nodes (get_or items i d) ∷ []) []
  more h =
      filter_more is_shown (map (item_by nodes) items) i (item_by nodes d) (omega (arith, h, length-map items (item_by nodes)))
      ∙ ap (λ (y : ResolvedItem). shown_items nodes i items ++ cond (is_shown y) (y ∷ []) []) (get_or-map (item_by nodes) items i d)

  -- one more item that is shown
  pub one_shown : i < length items → is_claim (get_or items i d).kind ≡ false → shown_items nodes (i + 1) items ≡ shown_items nodes i items ++ item_by nodes (get_or items i d) ∷ []
  one_shown h e = more h ∙ ap (λ (b : Bool). shown_items nodes i items ++ cond (not b) (item_by nodes (get_or items i d) ∷ []) []) e

  pub none_shown : i < length items → is_claim (get_or items i d).kind ≡ true → shown_items nodes (i + 1) items ≡ shown_items nodes i items
  none_shown h e = more h ∙ ap (λ (b : Bool). shown_items nodes i items ++ cond (not b) (item_by nodes (get_or items i d) ∷ []) []) e ∙ append-nil _

  -- and it counts
  pub one_more_shown : (n : ℕ) → i < length items → is_claim (get_or items i d).kind ≡ false → n ≡ length (shown_items nodes i items) → n + 1 ≡ length (shown_items nodes (i + 1) items)
  one_more_shown n h e counted =
      omega (arith, counted, ap length (one_shown h e), length-append (shown_items nodes i items) (item_by nodes (get_or items i d) ∷ []))

-- a text with the lines of the items so far, and then the line of one more
pub items_told : (p : Program) (nodes : List ExprNode) (items : List Item) (i : ℕ) (d : Item) (n : ℕ) (old before now : List ℕ) → i < length items
    → is_claim (get_or items i d).kind ≡ false → n ≡ length (shown_items nodes i items)
    → before ≡ old ++ items_text p 0 (shown_items nodes i items) → now ≡ before ++ item_line p n (item_by nodes (get_or items i d))
    → (now ≡ old ++ items_text p 0 (shown_items nodes (i + 1) items)) × (n + 1 ≡ length (shown_items nodes (i + 1) items))
items_told p nodes items i d n old before now h no_claim counted so_far e =
    let x = item_by nodes (get_or items i d) in
    let shown = shown_items nodes i items in
    let more_shown : shown_items nodes (i + 1) items ≡ shown ++ x ∷ [] = one_shown nodes items i d h no_claim in
    let at : n ≡ 0 + length shown = omega (arith, counted) in
    let line : items_text p 0 shown ++ item_line p n x ≡ items_text p 0 (shown_items nodes (i + 1) items) =
    ap (λ m. items_text p 0 shown ++ item_line p m x) at ∙ sym (items_text-push p 0 shown x) ∙ ap (items_text p 0) (sym more_shown) in (
      e ∙ ap (λ (l : List ℕ). l ++ item_line p n x) so_far ∙ append_assoc old (items_text p 0 shown) (item_line p n x) ∙ ap (λ (l : List ℕ). old ++ l) line,
      omega (arith, counted, ap length more_shown, length-append shown (x ∷ [])),
    )
