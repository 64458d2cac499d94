-- The mark of one node more, and the marks of parts.
use Rattle.std.proofs.Common.{◌≡◌, ◌∙◌, ℕ, ◌+◌, ◌<◌, Bool, ◌||◌, List, [], ◌∷◌, ◌++◌, map, take, length, get_or, Option, refl, sym, ap}
use Rattle.std.specs.List.{list_any}
use Rattle.std.proofs.Math.Bool.{or-false}
use Rattle.std.proofs.Math.ListN.{get_or-map}
use Rattle.std.proofs.lemmas.List.{map-append, take_more}
use Rattle.smv_slots.specs.declared.slot.Slot.{Slot}
use Rattle.smv_resolve.specs.declared.node.ExprNode.{ExprNode}
use Rattle.smv_resolve.specs.declared.node.ExprNode.TheVariants as node
use Rattle.smv_resolve.specs.Resolved.{Resolved, operands_of, last_of, part_at, part_of, parts_of, resolved_by}
use Rattle.smv_resolve.proofs.Parts.{last_of-map, parts_of-push}
use Rattle.smv_formulas.specs.Says.{atom_parts}
use Rattle.bit_formula.specs.Marks.{mark_at, mark_by, marks_of}
use Rattle.bit_formula.specs.Reading.{reads_slot, some_reads_slot}

module _ (test : Option Slot → Bool) (slots : List Slot) where
  abbrev reads : Resolved → Bool
  reads = reads_slot test slots

  some_marked : (rs : List Resolved) → list_any (λ (mark : Bool). mark) (map reads rs) ≡ some_reads_slot test slots (operands_of rs)
  some_marked [] = refl
  some_marked (r ∷ rs) = ap (λ (b : Bool). reads r || b) (some_marked rs)

  -- the mark of a part stands at its number
  mark_at-parts : (parts : List Resolved) (k : ℕ) → mark_at (map reads parts) k ≡ reads (part_at parts k)
  mark_at-parts parts k = get_or-map reads parts k Resolved.Stuck

  mark_by-resolved : (parts : List Resolved) (n : ExprNode) → mark_by test slots (map reads parts) n ≡ reads (resolved_by parts n)
  mark_by-resolved parts (node.Constant place b) = refl
  mark_by-resolved parts (node.Slot place k) = refl
  mark_by-resolved parts (node.Whole place i) = refl
  mark_by-resolved parts (node.Named place naming a) = mark_at-parts parts a
  mark_by-resolved parts (node.Next place a) = refl
  mark_by-resolved parts (node.Operand a) = mark_at-parts parts a
  mark_by-resolved parts (node.Apply place o count) =
      ap (list_any (λ (mark : Bool). mark)) (last_of-map reads count parts) ∙ some_marked (last_of count parts)
  mark_by-resolved parts (node.Link place o a b) =
      ap (λ (x : Bool). x || mark_at (map reads parts) b) (mark_at-parts parts a)
      ∙ ap (λ (x : Bool). reads (part_at parts a) || x) (mark_at-parts parts b ∙ sym (or-false _))

  -- no nodes have no marks
  pub marks_none : [] ≡ marks_of test slots []
  unfolding parts_of
  marks_none = refl

  -- one node more of a list, by the marks of those before it
  pub marks_next : (nodes : List ExprNode) (made : List Bool) (i : ℕ) (d : ExprNode) (mark : Bool) → i < length nodes
      → made ≡ marks_of test slots (take i nodes) → mark ≡ mark_by test slots made (get_or nodes i d) → made ++ mark ∷ [] ≡ marks_of test slots (take (i + 1) nodes)
  marks_next nodes made i d mark within so_far is =
      let first = take i nodes in
      let n = get_or nodes i d in
      ap (λ (x : Bool). made ++ x ∷ []) is
      ∙ ap (λ (l : List Bool). l ++ mark_by test slots l n ∷ []) so_far
      ∙ ap (λ (x : Bool). marks_of test slots first ++ x ∷ []) (mark_by-resolved (parts_of first) n)
      ∙ sym (map-append reads (parts_of first) (resolved_by (parts_of first) n ∷ []))
      ∙ ap (map reads) (sym (parts_of-push first n))
      ∙ ap (marks_of test slots) (sym (take_more nodes i d within))

  -- the marks of atoms
  pub marked_atoms : (nodes : List ExprNode) (atoms : List ℕ) → list_any (λ (k : ℕ). mark_at (marks_of test slots nodes) k) atoms ≡ list_any reads (atom_parts nodes atoms)
  marked_atoms nodes [] = refl
  marked_atoms nodes (a ∷ atoms) =
      ap (λ (b : Bool). b || list_any (λ (k : ℕ). mark_at (marks_of test slots nodes) k) atoms) (mark_at-parts (parts_of nodes) a)
      ∙ ap (λ (b : Bool). reads (part_of nodes a) || b) (marked_atoms nodes atoms)
