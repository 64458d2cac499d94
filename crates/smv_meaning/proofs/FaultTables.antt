-- Tables of faults and of slots, one node after another.
use Rattle.std.proofs.Common.{◌≡◌, ◌∙◌, ℕ, zero, suc, ◌+◌, ◌<◌, Bool, List, [], ◌∷◌, ◌++◌, length, get_or, map, take, slice_get, Option, None, Some, refl, sym, ap, arith, if◌then◌else◌}
use Rattle.std.specs.Option.{option_or}
use Rattle.std.proofs.Math.ListN.{get_or-map}
use Rattle.std.proofs.lemmas.List.{map-append}
use Rattle.smv_tree.specs.declared.place.Place.{Place}
use Rattle.smv_value.specs.declared.value.FaultRule.{FaultRule}
use Rattle.smv_value.specs.declared.value.Value.{Value}
use Rattle.smv_slots.specs.declared.slot.Slot.{Slot}
use Rattle.smv_resolve.specs.declared.node.ExprNode.{ExprNode}
use Rattle.smv_resolve.specs.declared.node.ExprNode.TheVariants as node
use Rattle.smv_resolve.specs.Resolved.{Resolved, last_of, operands_of, part_at, part_of, parts_of, resolved_by}
use Rattle.smv_resolve.proofs.Parts.{last_of-map, part_is, parts_of-next}
use Rattle.smv_meaning.specs.declared.outcome.Evaluation.{Evaluation}
use Rattle.smv_meaning.specs.Faults.{slot_assigned}
use Rattle.smv_meaning.specs.Formulas.{fault_in, formula_fault, formula_faults, is_over_formulas}
use Rattle.smv_meaning.specs.Tables.{fault_at, fault_by_node, first_fault, outcome_at, outcomes_of, slot_by_node}
use Rattle.smv_meaning.specs.Values.{outcome}
use Rattle.smv_meaning.proofs.Tables.{outcome_at-map}

-- no nodes, and one node more

pub table_none : {A : Type 0} (f : Resolved → A) → [] ≡ map f (parts_of [])
unfolding parts_of
table_none f = refl

pub table_more : {A : Type 0} (f : Resolved → A) (nodes : List ExprNode) (i : ℕ) (d : ExprNode) (made : List A) (o : A) → i < length nodes →
    made ≡ map f (parts_of (take i nodes)) → o ≡ f (resolved_by (parts_of (take i nodes)) (get_or nodes i d)) →
    made ++ o ∷ [] ≡ map f (parts_of (take (i + 1) nodes))
table_more {A} f nodes i d made o within so_far is =
    let parts = parts_of (take i nodes) in
    ap (λ (l : List A). l ++ o ∷ []) so_far
    ∙ ap (λ (x : A). map f parts ++ x ∷ []) is
    ∙ sym (map-append f parts (resolved_by parts (get_or nodes i d) ∷ []))
    ∙ ap (map f) (sym (parts_of-next nodes i d within))

pub slot_of_part : (parts : List Resolved) (a : ℕ) → get_or (map slot_assigned parts) a None ≡ slot_assigned (part_at parts a)
slot_of_part parts a = get_or-map slot_assigned parts a Resolved.Stuck

pub slot_by_node-resolved : (parts : List Resolved) (n : ExprNode) → slot_by_node (map slot_assigned parts) n ≡ slot_assigned (resolved_by parts n)
slot_by_node-resolved parts (node.Constant place v) = refl
slot_by_node-resolved parts (node.Slot place k) = refl
slot_by_node-resolved parts (node.Whole place i) = refl
slot_by_node-resolved parts (node.Named place naming a) = slot_of_part parts a
slot_by_node-resolved parts (node.Next place a) = refl
slot_by_node-resolved parts (node.Operand a) = slot_of_part parts a
slot_by_node-resolved parts (node.Apply place o count) = refl
slot_by_node-resolved parts (node.Link place o a b) = refl

branches : {A : Type 0} (b : Bool) (x y z w : A) → x ≡ z → y ≡ w → (if b then x else y) ≡ (if b then z else w)
branches {A} b x y z w p q = ap (λ (v : A). if b then v else y) p ∙ ap (λ (v : A). if b then z else v) q

module _ (slots : List Slot) (s u : List Value) where
  abbrev fault_of : Resolved → Option (FaultRule × Place)
  fault_of r = formula_fault slots s u r

  faults-map : (rs : List Resolved) → first_fault (map fault_of rs) ≡ formula_faults slots s u (operands_of rs)
  faults-map [] = refl
  faults-map (r ∷ rs) = ap (option_or (fault_of r)) (faults-map rs)

  pub fault_of_part : (parts : List Resolved) (a : ℕ) → fault_at (map fault_of parts) a ≡ fault_of (part_at parts a)
  fault_of_part parts a = get_or-map fault_of parts a Resolved.Stuck

  pub fault_by_node-resolved : (parts : List Resolved) (mine : Option (FaultRule × Place)) (n : ExprNode) → mine ≡ fault_in (outcome slots s u [] (resolved_by parts n)) →
      fault_by_node mine (map fault_of parts) n ≡ formula_fault slots s u (resolved_by parts n)
  fault_by_node-resolved parts mine (node.Constant place v) is = refl
  fault_by_node-resolved parts mine (node.Slot place k) is = refl
  fault_by_node-resolved parts mine (node.Whole place i) is = refl
  fault_by_node-resolved parts mine (node.Named place naming a) is = is
  fault_by_node-resolved parts mine (node.Next place a) is = is
  fault_by_node-resolved parts mine (node.Operand a) is = fault_of_part parts a
  fault_by_node-resolved parts mine (node.Apply place o count) is =
      let operands = ap first_fault (last_of-map fault_of count parts) ∙ faults-map (last_of count parts) in
      branches (is_over_formulas o) _ _ _ _ operands is
  fault_by_node-resolved parts mine (node.Link place o a b) is =
      let operands = ap (λ (x : Option (FaultRule × Place)). option_or x (option_or (fault_at (map fault_of parts) b) None)) (fault_of_part parts a)
      ∙ ap (λ (x : Option (FaultRule × Place)). option_or (fault_of (part_at parts a)) (option_or x None)) (fault_of_part parts b) in
      branches (is_over_formulas o) _ _ _ _ operands is

  entry : (xs : List ExprNode) (i : ℕ) (d : ExprNode) → i < length xs → slice_get xs i ≡ Some (get_or xs i d)
  entry [] i d l = absurd (omega (arith, l))
  entry (x ∷ xs) zero d l = refl
  entry (x ∷ xs) (suc i) d l = entry xs i d (omega (arith, l))

  -- one node more, by the table of outcomes
  pub fault_next : (here : List Evaluation) (nodes : List ExprNode) (i : ℕ) (d : ExprNode) (made : List (Option (FaultRule × Place))) (mine o : Option (FaultRule × Place)) →
      i < length nodes → here ≡ outcomes_of slots s u [] nodes → made ≡ map fault_of (parts_of (take i nodes)) →
      mine ≡ fault_in (outcome_at here i) → o ≡ fault_by_node mine made (get_or nodes i d) →
      made ++ o ∷ [] ≡ map fault_of (parts_of (take (i + 1) nodes))
  fault_next here nodes i d made mine o within told so_far own is =
      let parts = parts_of (take i nodes) in
      let n = get_or nodes i d in
      let part : part_of nodes i ≡ resolved_by parts n = part_is nodes i n (entry nodes i d within) in
      let given : mine ≡ fault_in (outcome slots s u [] (resolved_by parts n)) =
      own ∙ ap (λ (os : List Evaluation). fault_in (outcome_at os i)) told ∙ ap fault_in (outcome_at-map slots s u [] (parts_of nodes) i)
      ∙ ap (λ (r : Resolved). fault_in (outcome slots s u [] r)) part in
      table_more fault_of nodes i d made o within so_far
      (is ∙ ap (λ (l : List (Option (FaultRule × Place))). fault_by_node mine l n) so_far ∙ fault_by_node-resolved parts mine n given)

-- one node more of a table of slots
pub slot_next : (nodes : List ExprNode) (i : ℕ) (d : ExprNode) (made : List (Option ℕ)) (o : Option ℕ) → i < length nodes →
    made ≡ map slot_assigned (parts_of (take i nodes)) → o ≡ slot_by_node made (get_or nodes i d) → made ++ o ∷ [] ≡ map slot_assigned (parts_of (take (i + 1) nodes))
slot_next nodes i d made o within so_far is =
    let n = get_or nodes i d in
    table_more slot_assigned nodes i d made o within so_far
    (is ∙ ap (λ (l : List (Option ℕ)). slot_by_node l n) so_far ∙ slot_by_node-resolved (parts_of (take i nodes)) n)
