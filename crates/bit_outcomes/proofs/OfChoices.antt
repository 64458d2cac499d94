-- The branch that is taken: its fault, its value and its members.
use Rattle.std.proofs.Common.{◌≡◌, ◌∙◌, ℕ, zero, suc, ◌+◌, ◌*◌, ◌<◌, ◌≤◌, Bool, true, false, ◌||◌, cond, List, [], ◌∷◌, length, get_or, drop, refl, sym, ap, subst, arith}
use Rattle.std.specs.Prelude.{Option, None, Some, All, IfSome}
use Rattle.std.specs.List.{list_any}
use Rattle.std.proofs.lemmas.List.{drop_more, get_or_default}
use Rattle.bit_graph.specs.declared.edge.Edge.{Edge}
use Rattle.bit_graph.specs.declared.edge.GraphNode.{GraphNode}
use Rattle.bit_graph.specs.Meaning.{Consistent, edge_value}
use Rattle.smv_tree.specs.declared.place.Place.{Place}
use Rattle.smv_value.specs.declared.value.FaultRule.{FaultRule}
use Rattle.smv_value.specs.declared.value.Value.{Value}
use Rattle.smv_value.specs.declared.value.Value.TheVariants as value
use Rattle.smv_meaning.specs.declared.outcome.Evaluation.{Evaluation}
use Rattle.smv_meaning.specs.declared.outcome.Evaluation.TheVariants.{Fault, Nothing, Values}
use Rattle.smv_meaning.specs.Outcomes.{choice, taken, truth, truth_of}
use Rattle.smv_meaning.proofs.Choosing.{choice_end}
use Rattle.bit_operators.specs.declared.symbolic.Symbolic.{Symbolic}
use Rattle.bit_operators.specs.declared.symbolic.Symbolic.TheVariants as symbolic
use Rattle.bit_operators.specs.Denoting.{denoted}
use Rattle.bit_outcomes.specs.declared.told.Member.{Member}
use Rattle.bit_outcomes.specs.Telling.{IsThere, TellsOne, TellsSet, is_member}

-- conditions and branches from a place on

two_more : (xs : List Evaluation) (i : ℕ) → i + 1 < length xs → drop i xs ≡ get_or xs i Nothing ∷ get_or xs (i + 1) Nothing ∷ drop (i + 2) xs
two_more xs i l =
    let two : i + 1 + 1 ≡ i + 2 = omega arith in
    drop_more xs i Nothing (omega (arith, l))
    ∙ ap (λ (ys : List Evaluation). get_or xs i Nothing ∷ ys) (drop_more xs (i + 1) Nothing l ∙ ap (λ (n : ℕ). get_or xs (i + 1) Nothing ∷ drop n xs) two)

pub choice_pair : (rule : FaultRule) (p : Place) (xs : List Evaluation) (i : ℕ) → 2 * i + 1 < length xs →
    choice rule p (drop (2 * i) xs) ≡ taken (truth (get_or xs (2 * i) Nothing)) (get_or xs (2 * i) Nothing) (get_or xs (2 * i + 1) Nothing) (choice rule p (drop (2 * (i + 1)) xs))
choice_pair rule p xs i l =
    let next : 2 * i + 2 ≡ 2 * (i + 1) = omega arith in
    ap (choice rule p) (two_more xs (2 * i) l)
    ∙ ap (λ (n : ℕ). taken (truth (get_or xs (2 * i) Nothing)) (get_or xs (2 * i) Nothing) (get_or xs (2 * i + 1) Nothing) (choice rule p (drop n xs))) next

pub choice_step : (rule : FaultRule) (p : Place) (xs : List Evaluation) (k i : ℕ) → k + 1 ≡ i → 2 * k + 1 < length xs →
    choice rule p (drop (2 * k) xs) ≡ taken (truth (get_or xs (2 * k) Nothing)) (get_or xs (2 * k) Nothing) (get_or xs (2 * k + 1) Nothing) (choice rule p (drop (2 * i) xs))
choice_step rule p xs k i e l =
    choice_pair rule p xs k l
    ∙ ap (λ (n : ℕ). taken (truth (get_or xs (2 * k) Nothing)) (get_or xs (2 * k) Nothing) (get_or xs (2 * k + 1) Nothing) (choice rule p (drop (2 * n) xs))) e

-- a last branch
pub choice_last : (rule : FaultRule) (p : Place) (xs : List Evaluation) (i : ℕ) → i < length xs → length xs ≤ i + 1 → choice rule p (drop i xs) ≡ get_or xs i Nothing
choice_last rule p xs i l e = choice_end rule p xs i e ∙ get_or_default xs i (Fault rule p) Nothing l

past : (xs : List Evaluation) (i : ℕ) (d : Evaluation) → length xs ≤ i → get_or xs i d ≡ d
past [] i d l = refl
past (x ∷ xs) zero d l = absurd (omega (arith, l))
past (x ∷ xs) (suc i) d l = past xs i d (omega (arith, l))

-- none
pub choice_open : (rule : FaultRule) (p : Place) (xs : List Evaluation) (i : ℕ) → length xs ≤ i → choice rule p (drop i xs) ≡ Fault rule p
choice_open rule p xs i l = choice_end rule p xs i (omega (arith, l)) ∙ past xs i (Fault rule p) l

module _ (v : ℕ → Bool) where
  or_right : (a b : Bool) → b ≡ true → (a || b) ≡ true
  or_right true b h = refl
  or_right false b h = h

  -- what is told along edges that say the same

  one_along : (e f : Edge) (z x : Symbolic) (o : Evaluation) → edge_value v e ≡ edge_value v f → (edge_value v f ≡ false → (w : Value) → denoted v x ≡ Some w → denoted v z ≡ Some w) →
      TellsOne v f x o → TellsOne v e z o
  one_along e f z x Nothing h k t = tt
  one_along e f z x (Fault rule place) h k t = h ∙ t
  one_along e f z x (Values vs) h k t = (h ∙ t.0, record { value = t.1.value; only = t.1.only; denotes = k t.0 t.1.value t.1.denotes })

  pub set_along : (e f : Edge) (ns ms : List Member) (o : Evaluation) → edge_value v e ≡ edge_value v f → (edge_value v f ≡ false → All (IsThere v) ms → All (IsThere v) ns) →
      (edge_value v f ≡ false → (w : Value) → list_any (is_member v w) ns ≡ list_any (is_member v w) ms) → TellsSet v f ms o → TellsSet v e ns o
  set_along e f ns ms Nothing h k l t = tt
  set_along e f ns ms (Fault rule place) h k l t = h ∙ t
  set_along e f ns ms (Values vs) h k l t = (h ∙ t.0, record { there = k t.0 t.1.there; same = λ w. t.1.same w ∙ sym (l t.0 w) })

  -- the truth of a condition

  pub truth_is : (b : Edge) (vs : List Value) (x : Value) → vs ≡ x ∷ [] → denoted v (symbolic.Boolean b) ≡ Some x → truth (Values vs) ≡ Some (edge_value v b)
  truth_is b vs x only d =
      let same : x ≡ value.Bool (edge_value v b) = cc in
      ap (λ (vs : List Value). truth (Values vs)) only ∙ ap truth_of same

  module _ (failed b f g e : Edge) (h : edge_value v e ≡ (edge_value v failed || cond (edge_value v b) (edge_value v f) (edge_value v g))) where
    edge_by : (t : Bool) → edge_value v failed ≡ false → edge_value v b ≡ t → edge_value v e ≡ cond t (edge_value v f) (edge_value v g)
    edge_by t a is = h ∙ ap (λ (c : Bool). c || cond (edge_value v b) (edge_value v f) (edge_value v g)) a ∙ ap (λ (c : Bool). cond c (edge_value v f) (edge_value v g)) is

    module _ (x y z : Symbolic) (k : (w : Value) → cond (edge_value v b) (edge_value v f) (edge_value v g) ≡ false → cond (edge_value v b) (denoted v x) (denoted v y) ≡ Some w → denoted v z ≡ Some w) where
      value_by : (t : Bool) → edge_value v b ≡ t → cond t (edge_value v f) (edge_value v g) ≡ false → (w : Value) → cond t (denoted v x) (denoted v y) ≡ Some w → denoted v z ≡ Some w
      value_by t is c w d =
          k w (ap (λ (t : Bool). cond t (edge_value v f) (edge_value v g)) is ∙ c) (ap (λ (t : Bool). cond t (denoted v x) (denoted v y)) is ∙ d)

      one_by : (t : Bool) (c a r : Evaluation) → edge_value v failed ≡ false → edge_value v b ≡ t → TellsOne v f x a → TellsOne v g y r → TellsOne v e z (taken (Some t) c a r)
      one_by true c a r n is p q = one_along e f z x a (edge_by true n is) (value_by true is) p
      one_by false c a r n is p q = one_along e g z y r (edge_by false n is) (value_by false is) q

      pub one_taken : (c a r : Evaluation) → TellsOne v failed (symbolic.Boolean b) c → TellsOne v f x a → TellsOne v g y r → TellsOne v e z (taken (truth c) c a r)
      one_taken Nothing a r s p q = tt
      one_taken (Fault rule place) a r s p q = h ∙ ap (λ (c : Bool). c || cond (edge_value v b) (edge_value v f) (edge_value v g)) s
      one_taken (Values vs) a r s p q =
          subst (λ (t : Option Bool). TellsOne v e z (taken t (Values vs) a r)) (sym (truth_is b vs s.1.value s.1.only s.1.denotes)) (one_by (edge_value v b) (Values vs) a r s.0 refl p q)

-- what is promised anyway is promised where there is no fault
pub without_fault : (r : Option Symbolic) (g : List GraphNode) (b f e : Edge) (x y : Symbolic) →
    IfSome r (λ s. (v : ℕ → Bool) (w : Value) → Consistent v g → cond (edge_value v b) (denoted v x) (denoted v y) ≡ Some w → denoted v s ≡ Some w) →
    IfSome r (λ s. (v : ℕ → Bool) (w : Value) → Consistent v g → cond (edge_value v b) (edge_value v f) (edge_value v e) ≡ false → cond (edge_value v b) (denoted v x) (denoted v y) ≡ Some w →
    denoted v s ≡ Some w)
without_fault None g b f e x y h = h
without_fault (Some s) g b f e x y h = λ v w c n d. h v w c d
