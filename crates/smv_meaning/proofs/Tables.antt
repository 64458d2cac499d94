-- The outcome of one node more.
use Rattle.std.proofs.Common.{◌≡◌, ◌∙◌, ℕ, zero, suc, ◌+◌, ◌<◌, ◌≤◌, List, [], ◌∷◌, ◌++◌, map, take, length, get_or, slice_get, refl, sym, ap}
use Rattle.std.proofs.Math.ListN.{get_or-map}
use Rattle.std.proofs.lemmas.List.{map-append, take-map, take_more}
use Rattle.smv_value.specs.declared.value.Value.{Value}
use Rattle.smv_resolve.specs.declared.node.ExprNode.{ExprNode}
use Rattle.smv_resolve.specs.declared.node.ExprNode.TheVariants as node
use Rattle.smv_slots.specs.declared.slot.Slot.{Slot}
use Rattle.smv_resolve.specs.Resolved.{Resolved, operands_of, last_of, parts_of, part_at, resolved_by}
use Rattle.smv_resolve.proofs.Parts.{last_of-map, parts_of-push, parts_of-take}
use Rattle.smv_meaning.specs.declared.outcome.Evaluation.{Evaluation}
use Rattle.smv_meaning.specs.declared.outcome.Evaluation.TheVariants.{Nothing}
use Rattle.smv_meaning.specs.Tables.{outcome_at, outcome_by, outcomes_of, seen}
use Rattle.smv_meaning.specs.Outcomes.{applied}
use Rattle.smv_meaning.specs.Values.{outcome, outcomes}

outcomes-map : (slots : List Slot) (s u t : List Value) (rs : List Resolved) → outcomes slots s u t (operands_of rs) ≡ map (outcome slots s u t) rs
outcomes-map slots s u t [] = refl
outcomes-map slots s u t (r ∷ rs) = ap (λ (os : List Evaluation). outcome slots s u t r ∷ os) (outcomes-map slots s u t rs)

seen_or : (os : List Evaluation) (k : ℕ) → seen (slice_get os k) ≡ get_or os k Nothing
seen_or [] k = refl
seen_or (o ∷ os) zero = refl
seen_or (o ∷ os) (suc k) = seen_or os k

module _ (slots : List Slot) (s u t : List Value) where
  -- the outcome of a part stands at its number
  pub outcome_at-map : (parts : List Resolved) (k : ℕ) → outcome_at (map (outcome slots s u t) parts) k ≡ outcome slots s u t (part_at parts k)
  outcome_at-map parts k = seen_or (map (outcome slots s u t) parts) k ∙ get_or-map (outcome slots s u t) parts k Resolved.Stuck

module _ (slots : List Slot) (s u t : List Value) (parts : List Resolved) where
  abbrev here : List Evaluation
  here = map (outcome slots s u t) parts

  abbrev later : List Evaluation
  later = map (outcome slots t [] []) parts

  is_here : (k : ℕ) → outcome_at here k ≡ outcome slots s u t (part_at parts k)
  is_here k = outcome_at-map slots s u t parts k

  outcome_by-resolved : (n : ExprNode) → outcome_by slots s u here later n ≡ outcome slots s u t (resolved_by parts n)
  outcome_by-resolved (node.Constant place b) = refl
  outcome_by-resolved (node.Slot place k) = refl
  outcome_by-resolved (node.Whole place i) = refl
  outcome_by-resolved (node.Named place naming a) = is_here a
  outcome_by-resolved (node.Next place a) = outcome_at-map slots t [] [] parts a
  outcome_by-resolved (node.Operand a) = is_here a
  outcome_by-resolved (node.Apply place o count) =
      ap (applied o place) (last_of-map (outcome slots s u t) count parts ∙ sym (outcomes-map slots s u t (last_of count parts)))
  outcome_by-resolved (node.Link place o a b) =
      ap (λ (x : Evaluation). applied o place (x ∷ outcome_at here b ∷ [])) (is_here a)
      ∙ ap (λ (x : Evaluation). applied o place (outcome slots s u t (part_at parts a) ∷ x ∷ [])) (is_here b)

module _ (slots : List Slot) (s u t : List Value) where
  -- the outcomes with that of one node more, by those of the nodes before it
  one_more : (nodes : List ExprNode) (n : ExprNode) → outcomes_of slots s u t (nodes ++ n ∷ [])
      ≡ outcomes_of slots s u t nodes ++ outcome_by slots s u (outcomes_of slots s u t nodes) (outcomes_of slots t [] [] nodes) n ∷ []
  one_more nodes n =
      ap (map (outcome slots s u t)) (parts_of-push nodes n)
      ∙ map-append (outcome slots s u t) (parts_of nodes) (resolved_by (parts_of nodes) n ∷ [])
      ∙ ap (λ (o : Evaluation). outcomes_of slots s u t nodes ++ o ∷ []) (sym (outcome_by-resolved slots s u t (parts_of nodes) n))

-- no nodes have no outcomes
pub outcomes_none : (slots : List Slot) (s u t : List Value) → [] ≡ outcomes_of slots s u t []
unfolding parts_of
outcomes_none slots s u t = refl

module _ (slots : List Slot) (s u t : List Value) (nodes : List ExprNode) where
  -- the first outcomes are those of the first nodes
  pub outcomes_of-take : (i : ℕ) → i ≤ length nodes → take i (outcomes_of slots s u t nodes) ≡ outcomes_of slots s u t (take i nodes)
  outcomes_of-take i within = take-map (outcome slots s u t) i (parts_of nodes) ∙ ap (map (outcome slots s u t)) (parts_of-take nodes i within)

  -- one node more of a list, by the outcomes of those before it
  pub outcomes_next : (made later : List Evaluation) (i : ℕ) (d : ExprNode) (o : Evaluation) → i < length nodes
      → made ≡ outcomes_of slots s u t (take i nodes) → later ≡ outcomes_of slots t [] [] (take i nodes)
      → o ≡ outcome_by slots s u made later (get_or nodes i d) → made ++ o ∷ [] ≡ outcomes_of slots s u t (take (i + 1) nodes)
  outcomes_next made later i d o within so_far next is =
      let first = take i nodes in
      let n = get_or nodes i d in
      ap (λ (x : Evaluation). made ++ x ∷ []) is
      ∙ ap (λ (l : List Evaluation). l ++ outcome_by slots s u l later n ∷ []) so_far
      ∙ ap (λ (l : List Evaluation). outcomes_of slots s u t first ++ outcome_by slots s u (outcomes_of slots s u t first) l n ∷ []) next
      ∙ sym (one_more slots s u t first n)
      ∙ ap (outcomes_of slots s u t) (sym (take_more nodes i d within))
