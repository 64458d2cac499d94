-- What parts are to the formulas around them.
use Rattle.std.proofs.Common.{◌≡◌, ◌∙◌, ℕ, ◌+◌, ◌-◌, ◌<◌, ◌≤◌, Bool, true, false, not, List, [], ◌∷◌, length, take, drop, slice_get, Some, None, sym, ap, subst, arith}
use Rattle.std.proofs.lemmas.List.{get_or-drop}
use Rattle.smv_tree.specs.declared.place.Place.{Place}
use Rattle.smv_tree.specs.declared.tree.Program.{Program}
use Rattle.smv_value.specs.declared.operator.Operator.{Operator}
use Rattle.smv_resolve.specs.declared.node.ExprNode.{ExprNode}
use Rattle.smv_resolve.specs.declared.node.ExprNode.TheVariants as node
use Rattle.smv_resolve.specs.Resolved.{Resolved, operands_of, last_of, part_at, part_of, parts_of, resolved_by}
use Rattle.smv_resolve.proofs.Parts.{before_long}
use Rattle.std.specs.List.{list_all}
use Rattle.std.proofs.lemmas.List.Folds.{list_all-map}
use Rattle.smv_value.specs.declared.value.Value.{Value}
use Rattle.smv_slots.specs.declared.slot.Slot.{Slot}
use Rattle.smv_resolve.specs.declared.node.Naming.{Naming}
use Rattle.smv_meaning.specs.Formulas.{has_temporal, is_known}
use Rattle.smv_meaning.specs.Values.{outcome}
use Rattle.smv_formulas.specs.Formed.{is_formed}
use Rattle.smv_formulas.specs.Known.{AreSound, IsSound, IsSoundBelow, IsSoundPiece, KeepsKnown}
use Rattle.smv_formulas.proofs.Knowing.{known_part, sound_operands}
use Rattle.smv_meaning.specs.Lassos.{Lasso, Holds, IsTrueIn, OperandHolds}
use Rattle.ltl_meaning.proofs.Alike.{AreAlike, flipped}
use Rattle.ltl_meaning.specs.Temporal.{Temporal}
use Rattle.smv_formulas.specs.declared.forms.Form.{Form}
use Rattle.smv_formulas.specs.declared.pieces.Piece.{Piece}
use Rattle.smv_formulas.specs.declared.pieces.Piece.TheVariants as piece
use Rattle.smv_formulas.specs.Forms.{form_holds, form_of}
use Rattle.smv_formulas.specs.Marks.{mark_at, marks_of}
use Rattle.smv_formulas.specs.Pieces.{IsPiece, IsPieceBelow}
use Rattle.smv_formulas.specs.Trees.{IsAtom, SaysOn, TellsOn, joint_holds, part_below}
use Rattle.smv_formulas.proofs.Marking.{mark_at-nodes}
use Rattle.smv_formulas.proofs.Operators.{chained, form_alike, operator_is}
use Rattle.smv_formulas.proofs.Parts.{below_none, below_says, below_whole, inside, marked, operand_is, stuck_never, unmarked}
use Rattle.smv_formulas.proofs.Telling.{tells_alike, tells_atom}

-- an operator over the last parts
module _ (p : Program) (w : Lasso) (parts : List Resolved) where
  dropped : (n i k : ℕ) → k ≡ n + i → AreAlike (OperandHolds p w (operands_of (drop n parts)) i) (Holds p w (part_at parts k))
  dropped n i k e =
      subst (λ (r : Resolved). AreAlike (OperandHolds p w (operands_of (drop n parts)) i) (Holds p w r))
      (get_or-drop n parts i Resolved.Stuck ∙ ap (part_at parts) (sym e)) (operand_is p w (drop n parts) i)

  over_last : (place : Place) (o : Operator) (count left : ℕ) → left ≡ length parts - count
      → has_temporal (Resolved.Apply place o (operands_of (last_of count parts))) ≡ true
      → AreAlike (Holds p w (Resolved.Apply place o (operands_of (last_of count parts)))) (form_holds (form_of o) (Holds p w (part_at parts left)) (Holds p w (part_at parts (left + 1))))
  over_last place o count left e h =
      let first : AreAlike (OperandHolds p w (operands_of (last_of count parts)) 0) (Holds p w (part_at parts left)) = dropped (length parts - count) 0 left (omega (arith, e)) in
      let second : AreAlike (OperandHolds p w (operands_of (last_of count parts)) 1) (Holds p w (part_at parts (left + 1))) = dropped (length parts - count) 1 (left + 1) (omega (arith, e)) in
      chained _ _ _ (marked p w place o (operands_of (last_of count parts)) h)
      (chained _ _ _ (operator_is o _ _) (form_alike _ _ first _ _ second (form_of o)))

  over_two : (place : Place) (o : Operator) (a b : ℕ) → has_temporal (Resolved.Apply place o (operands_of (part_at parts a ∷ part_at parts b ∷ []))) ≡ true
      → AreAlike (Holds p w (Resolved.Apply place o (operands_of (part_at parts a ∷ part_at parts b ∷ [])))) (form_holds (form_of o) (Holds p w (part_at parts a)) (Holds p w (part_at parts b)))
  over_two place o a b h =
      chained _ _ _ (marked p w place o (operands_of (part_at parts a ∷ part_at parts b ∷ [])) h) (operator_is o (Holds p w (part_at parts a)) (Holds p w (part_at parts b)))

module _ (parts : List Resolved) (n : ExprNode) (place : Place) (o : Operator) (f : Form) (is_form : f ≡ form_of o) where
  pub apply_piece : (k count left : ℕ) → n ≡ node.Apply place o count → left ≡ k - count → length parts ≡ k → has_temporal (resolved_by parts n) ≡ true
      → IsPiece parts (resolved_by parts n) (piece.Joined f left (left + 1))
  apply_piece k count left is e long h =
      subst (λ (g : Form). IsPiece parts (resolved_by parts n) (piece.Joined g left (left + 1))) (sym is_form)
      (subst (λ (m : ExprNode). IsPiece parts (resolved_by parts m) (piece.Joined (form_of o) left (left + 1))) (sym is)
      (λ p w. over_last p w parts place o count left (omega (arith, e, long)) (subst (λ (m : ExprNode). has_temporal (resolved_by parts m) ≡ true) is h)))

  pub link_piece : (a b : ℕ) → n ≡ node.Link place o a b → has_temporal (resolved_by parts n) ≡ true → IsPiece parts (resolved_by parts n) (piece.Joined f a b)
  link_piece a b is h =
      subst (λ (g : Form). IsPiece parts (resolved_by parts n) (piece.Joined g a b)) (sym is_form)
      (subst (λ (m : ExprNode). IsPiece parts (resolved_by parts m) (piece.Joined (form_of o) a b)) (sym is)
      (λ p w. over_two p w parts place o a b (subst (λ (m : ExprNode). has_temporal (resolved_by parts m) ≡ true) is h)))

  -- what they are made of is sound where they are

  last_sound : (slots : List Slot) (s u : List Value) (k count left : ℕ) → left ≡ k - count → length parts ≡ k → IsSound slots s u (Resolved.Apply place o (operands_of (last_of count parts)))
      → AreSound (form_of o) slots s u (part_at parts left) (part_at parts (left + 1))
  last_sound slots s u k count left e long h =
      let n = length parts - count in
      let first : part_at (last_of count parts) 0 ≡ part_at parts left = get_or-drop n parts 0 Resolved.Stuck ∙ ap (part_at parts) (let z : n + 0 ≡ left = omega (arith, e, long) in z) in
      let second : part_at (last_of count parts) 1 ≡ part_at parts (left + 1) =
      get_or-drop n parts 1 Resolved.Stuck ∙ ap (part_at parts) (let z : n + 1 ≡ left + 1 = omega (arith, e, long) in z) in
      subst (λ (b : Resolved). AreSound (form_of o) slots s u (part_at parts left) b) second
      (subst (λ (a : Resolved). AreSound (form_of o) slots s u a (part_at (last_of count parts) 1)) first (sound_operands slots s u o place (last_of count parts) h))

  pub apply_sound : (k count left : ℕ) → n ≡ node.Apply place o count → left ≡ k - count → length parts ≡ k → IsSoundPiece parts (resolved_by parts n) (piece.Joined f left (left + 1))
  apply_sound k count left is e long =
      subst (λ (g : Form). IsSoundPiece parts (resolved_by parts n) (piece.Joined g left (left + 1))) (sym is_form)
      (subst (λ (m : ExprNode). IsSoundPiece parts (resolved_by parts m) (piece.Joined (form_of o) left (left + 1))) (sym is) (λ slots s u h. last_sound slots s u k count left e long h))

  pub link_sound : (a b : ℕ) → n ≡ node.Link place o a b → IsSoundPiece parts (resolved_by parts n) (piece.Joined f a b)
  link_sound a b is =
      subst (λ (g : Form). IsSoundPiece parts (resolved_by parts n) (piece.Joined g a b)) (sym is_form)
      (subst (λ (m : ExprNode). IsSoundPiece parts (resolved_by parts m) (piece.Joined (form_of o) a b)) (sym is)
      (λ slots s u h. sound_operands slots s u o place (part_at parts a ∷ part_at parts b ∷ []) h))

-- a name stands for no temporal operator where it is sound
pub named_sound : (parts : List Resolved) (n : ExprNode) (place : Place) (naming : Naming) (a : ℕ) → n ≡ node.Named place naming a → has_temporal (resolved_by parts n) ≡ true
    → IsSoundPiece parts (resolved_by parts n) (piece.Same a)
named_sound parts n place naming a is h slots s u sound =
    let here : has_temporal (part_at parts a) ≡ true = subst (λ (m : ExprNode). has_temporal (resolved_by parts m) ≡ true) is h in
    let not_here : not (has_temporal (part_at parts a)) ≡ true = subst (λ (m : ExprNode). is_formed (resolved_by parts m) ≡ true) is sound.0 in
    absurd (let e = sym (ap not here) ∙ not_here in let no : ⊥ = cc in no)

pub same_sound : (parts : List Resolved) (n : ExprNode) (a : ℕ) → n ≡ node.Operand a → IsSoundPiece parts (resolved_by parts n) (piece.Same a)
same_sound parts n a is slots s u sound = subst (λ (m : ExprNode). IsSound slots s u (resolved_by parts m)) is sound

-- these have no temporal operator, or are not known

pub constant_sound : (parts : List Resolved) (n : ExprNode) (place : Place) (v : Value) → n ≡ node.Constant place v → IsSoundPiece parts (resolved_by parts n) piece.Atom
constant_sound parts n place v is = subst (λ (m : ExprNode). IsSoundPiece parts (resolved_by parts m) piece.Atom) (sym is) (λ slots s u h. h.1)

pub slot_sound : (parts : List Resolved) (n : ExprNode) (place : Place) (k : ℕ) → n ≡ node.Slot place k → IsSoundPiece parts (resolved_by parts n) piece.Atom
slot_sound parts n place k is = subst (λ (m : ExprNode). IsSoundPiece parts (resolved_by parts m) piece.Atom) (sym is) (λ slots s u h. h.1)

pub whole_sound : (parts : List Resolved) (n : ExprNode) (place : Place) (i : ℕ) → n ≡ node.Whole place i → IsSoundPiece parts (resolved_by parts n) piece.Atom
whole_sound parts n place i is =
    subst (λ (m : ExprNode). IsSoundPiece parts (resolved_by parts m) piece.Atom) (sym is) (λ slots s u h. absurd (let e = h.1 in let no : ⊥ = cc in no))

pub next_sound : (parts : List Resolved) (n : ExprNode) (place : Place) (a : ℕ) → n ≡ node.Next place a → IsSoundPiece parts (resolved_by parts n) piece.Atom
next_sound parts n place a is =
    subst (λ (m : ExprNode). IsSoundPiece parts (resolved_by parts m) piece.Atom) (sym is) (λ slots s u h. absurd (let e = h.1 in let no : ⊥ = cc in no))

-- a part of the first so many

piece_below : (nodes : List ExprNode) (limit k : ℕ) (x : Piece) → k < limit → IsPiece (parts_of (take k nodes)) (part_below nodes limit k) x → IsPieceBelow nodes limit k x
piece_below nodes limit k piece.Never lt h = h
piece_below nodes limit k other lt h = (lt, h)

module _ (nodes : List ExprNode) (limit k : ℕ) (within : limit ≤ length nodes) where
  pub no_piece : slice_get (take limit nodes) k ≡ None → IsPieceBelow nodes limit k piece.Never
  no_piece none p w t x = stuck_never p w t (subst (λ (r : Resolved). Holds p w r t) (below_none nodes limit k none) x)

  module _ (n : ExprNode) (here : slice_get (take limit nodes) k ≡ Some n) (marks : List Bool) (all : marks ≡ marks_of nodes) (mark : Bool) (is : mark ≡ mark_at marks k) where
    lt : k < limit
    lt = inside nodes limit k n within here

    mark_is : has_temporal (part_below nodes limit k) ≡ mark
    mark_is = ap has_temporal (below_whole nodes limit k within lt) ∙ sym (mark_at-nodes nodes k) ∙ ap (λ (l : List Bool). mark_at l k) (sym all) ∙ sym is

    pub unmarked_piece : mark ≡ false → IsPieceBelow nodes limit k piece.Atom
    unmarked_piece h = (lt, λ p w t. unmarked p w (part_below nodes limit k) (mark_is ∙ h) t)

    pub some_piece : (x : Piece) → mark ≡ true
        → ((parts : List Resolved) → length parts ≡ k → has_temporal (resolved_by parts n) ≡ true → IsPiece parts (resolved_by parts n) x)
        → IsPieceBelow nodes limit k x
    some_piece x h so =
        let says = below_says nodes limit k n within here in
        piece_below nodes limit k x lt
        (subst (λ (r : Resolved). IsPiece (parts_of (take k nodes)) r x) (sym says)
        (so (parts_of (take k nodes)) (before_long nodes k (omega (arith, lt, within))) (ap has_temporal (sym says) ∙ mark_is ∙ h)))

    pub unmarked_sound : mark ≡ false → IsSoundBelow nodes limit k piece.Atom
    unmarked_sound h slots s u sound = known_part slots s u (part_below nodes limit k) (mark_is ∙ h) sound.0 sound.1

    pub some_sound : (x : Piece) → mark ≡ true
        → ((parts : List Resolved) → length parts ≡ k → has_temporal (resolved_by parts n) ≡ true → IsSoundPiece parts (resolved_by parts n) x)
        → IsSoundBelow nodes limit k x
    some_sound x h so =
        let says = below_says nodes limit k n within here in
        subst (λ (r : Resolved). IsSoundPiece (parts_of (take k nodes)) r x) (sym says)
        (so (parts_of (take k nodes)) (before_long nodes k (omega (arith, lt, within))) (ap has_temporal (sym says) ∙ mark_is ∙ h))

  -- what is known of the atoms

  pub known_atom : (old new : List ℕ) → k < limit → IsSoundBelow nodes limit k piece.Atom
      → ((test : ℕ → Bool) → list_all test old ≡ true → test k ≡ true → list_all test new ≡ true) → KeepsKnown nodes old new (λ slots s u. IsSound slots s u (part_below nodes limit k))
  known_atom old new lt so passes slots s u before h =
      let known : Resolved → Bool = λ r. is_known (outcome slots s u [] r) in
      let here : known (part_of nodes k) ≡ true = subst (λ (r : Resolved). known r ≡ true) (below_whole nodes limit k within lt) (so slots s u h) in
      list_all-map known (part_of nodes) new ∙ passes (λ a. known (part_of nodes a)) (sym (list_all-map known (part_of nodes) old) ∙ before) here

  -- what formulas say of it

  pub says_atom : (atoms : List ℕ) (f : Temporal) → IsPieceBelow nodes limit k piece.Atom → IsAtom atoms k f → SaysOn nodes atoms f (part_below nodes limit k)
  says_atom atoms f so atom =
      let whole = below_whole nodes limit k within so.0 in
      tells_alike nodes atoms f (λ p w. IsTrueIn p w (part_of nodes k)) (λ p w. Holds p w (part_below nodes limit k))
      (λ p w. subst (λ (r : Resolved). AreAlike (IsTrueIn p w r) (Holds p w (part_below nodes limit k))) whole (flipped _ _ (so.1 p w)))
      (tells_atom nodes atoms k f atom)

  pub says_same : (atoms : List ℕ) (f : Temporal) (a : ℕ) → IsPieceBelow nodes limit k (piece.Same a) → SaysOn nodes atoms f (part_below nodes k a) → SaysOn nodes atoms f (part_below nodes limit k)
  says_same atoms f a so told =
      tells_alike nodes atoms f (λ p w. Holds p w (part_below nodes k a)) (λ p w. Holds p w (part_below nodes limit k)) (λ p w. flipped _ _ (so.1 p w)) told

  pub says_joined : (atoms : List ℕ) (f : Temporal) (o : Form) (a b : ℕ) → IsPieceBelow nodes limit k (piece.Joined o a b) → TellsOn nodes atoms f (joint_holds nodes k o a b) → SaysOn nodes atoms f (part_below nodes limit k)
  says_joined atoms f o a b so told =
      tells_alike nodes atoms f (joint_holds nodes k o a b) (λ p w. Holds p w (part_below nodes limit k)) (λ p w. flipped _ _ (so.1 p w)) told
