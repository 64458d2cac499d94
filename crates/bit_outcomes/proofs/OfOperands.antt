-- Operators over operands that have one value each, integers between two, and whether one is among others.
use Rattle.std.proofs.Common.{◌≡◌, ◌∙◌, ℕ, zero, suc, ◌+◌, ◌<◌, Bool, true, false, ◌&&◌, ◌||◌, cond, List, [], ◌∷◌, ◌++◌, length, get_or, take, refl, sym, ap, subst, arith, ℤ}
use Rattle.std.specs.Prelude.{Option, None, Some, Result, Ok, Err, All}
use Rattle.std.specs.List.{list_all, list_any}
use Rattle.std.proofs.lemmas.List.{take_more}
use Rattle.bit_graph.specs.declared.edge.Edge.{Edge}
use Rattle.bit_graph.specs.Meaning.{edge_value}
use Rattle.smv_tree.specs.declared.place.Place.{Place}
use Rattle.smv_value.specs.declared.operator.Operator.{Operator}
use Rattle.smv_value.specs.declared.value.FaultRule.{FaultRule}
use Rattle.smv_value.specs.declared.value.Value.{Value}
use Rattle.smv_value.specs.declared.value.Value.TheVariants as value
use Rattle.smv_value.specs.Results.{fault_of, is_value, result_of, same, unless, value_of}
use Rattle.value_types.specs.Types.{is_between}
use Rattle.value_sets.specs.Members.{only, run}
use Rattle.value_sets.proofs.Runs.{in_run_is, none_in_run}
use Rattle.smv_meaning.specs.declared.outcome.Evaluation.{Evaluation}
use Rattle.smv_meaning.specs.declared.outcome.Evaluation.TheVariants.{Fault, Nothing, Values}
use Rattle.smv_meaning.specs.Outcomes.{given, included, operated, over, ranged}
use Rattle.bit_operators.specs.declared.symbolic.Symbolic.{Symbolic}
use Rattle.bit_operators.specs.declared.symbolic.Symbolic.TheVariants as symbolic
use Rattle.bit_operators.specs.Denoting.{denoted}
use Rattle.bit_numbers.specs.Counts.{AreDenoted}
use Rattle.bit_outcomes.specs.declared.told.Member.{Member}
use Rattle.bit_outcomes.specs.declared.told.Which.TheVariants as which
use Rattle.bit_outcomes.specs.Telling.{IsThere, TellsOne, TellsSet, is_member}
use Rattle.bit_outcomes.specs.Gathering.{TellsEach, beside, bound}
use Rattle.bit_table.specs.Computing.{Computes, is_fault}
use Rattle.bit_outcomes.proofs.OfMembers.{or_right, or_same}

-- one operand more

push_by : (vs ws : List Value) (os : List Evaluation) (o : Evaluation) → ((w : Value) → operated Values (vs ++ w ∷ []) (os ++ o ∷ []) ≡ beside (operated Values (vs ++ w ∷ []) os) o) →
    (m : Option Value) → over (Values ws) m (λ w. operated Values (vs ++ w ∷ []) (os ++ o ∷ [])) ≡ beside (over (Values ws) m (λ w. operated Values (vs ++ w ∷ []) os)) o
push_by vs ws os o next None = refl
push_by vs ws os o next (Some w) = next w

operated_push : (vs : List Value) (os : List Evaluation) (o : Evaluation) → operated Values vs (os ++ o ∷ []) ≡ beside (operated Values vs os) o
operated_push vs [] o = refl
operated_push vs (Nothing ∷ os) o = refl
operated_push vs (Fault rule place ∷ os) o = refl
operated_push vs (Values ws ∷ os) o = push_by vs ws os o (λ w. operated_push (vs ++ w ∷ []) os o) (only ws)

pub operated_more : (os : List Evaluation) (i : ℕ) → i < length os → operated Values [] (take (i + 1) os) ≡ beside (operated Values [] (take i os)) (get_or os i Nothing)
operated_more os i lt = ap (operated Values []) (take_more os i Nothing lt) ∙ operated_push [] (take i os) (get_or os i Nothing)

-- an operator by the values of its operands

bound_by : (f : List Value → Evaluation) (vs ws : List Value) (os : List Evaluation) → ((w : Value) → operated f (vs ++ w ∷ []) os ≡ bound f (operated Values (vs ++ w ∷ []) os)) →
    (m : Option Value) → over (Values ws) m (λ w. operated f (vs ++ w ∷ []) os) ≡ bound f (over (Values ws) m (λ w. operated Values (vs ++ w ∷ []) os))
bound_by f vs ws os next None = refl
bound_by f vs ws os next (Some w) = next w

pub bound_is : (f : List Value → Evaluation) (vs : List Value) (os : List Evaluation) → operated f vs os ≡ bound f (operated Values vs os)
bound_is f vs [] = refl
bound_is f vs (Nothing ∷ os) = refl
bound_is f vs (Fault rule place ∷ os) = refl
bound_is f vs (Values ws ∷ os) = bound_by f vs ws os (λ w. bound_is f (vs ++ w ∷ []) os) (only ws)

module _ (v : ℕ → Bool) where
  denoted_push : (ss : List Symbolic) (xs : List Value) (s : Symbolic) (w : Value) → AreDenoted v ss xs → denoted v s ≡ Some w → AreDenoted v (ss ++ s ∷ []) (xs ++ w ∷ [])
  denoted_push [] [] s w d h = (h, tt)
  denoted_push [] (x ∷ xs) s w d h = absurd d
  denoted_push (t ∷ ss) [] s w d h = absurd d
  denoted_push (t ∷ ss) (x ∷ xs) s w d h = (d.0, denoted_push ss xs s w d.1 h)

  pub each_together : (f g r : Edge) (ss : List Symbolic) (s : Symbolic) (x o : Evaluation) → edge_value v r ≡ (edge_value v f || edge_value v g) → TellsEach v f ss x → TellsOne v g s o →
      TellsEach v r (ss ++ s ∷ []) (beside x o)
  each_together f g r ss s Nothing o h a b = tt
  each_together f g r ss s (Fault rule place) o h a b = h ∙ ap (λ (x : Bool). x || edge_value v g) a
  each_together f g r ss s (Values xs) Nothing h a b = tt
  each_together f g r ss s (Values xs) (Fault rule place) h a b = h ∙ or_right v (edge_value v f) (edge_value v g) b
  each_together f g r ss s (Values xs) (Values ws) h a b =
      subst (λ (ws : List Value). TellsEach v r (ss ++ s ∷ []) (over (Values ws) (only ws) (λ w. Values (xs ++ w ∷ [])))) (sym b.1.only)
      (h ∙ or_same v (edge_value v f) (edge_value v g) false false a.0 b.0, denoted_push ss xs s b.1.value a.1 b.1.denotes)

  -- one operand, and two

  pub one_each : (f : Edge) (s : Symbolic) (o : Evaluation) → TellsOne v f s o → TellsEach v f (s ∷ []) (operated Values [] (o ∷ []))
  one_each f s Nothing a = tt
  one_each f s (Fault rule place) a = a
  one_each f s (Values ws) a =
      subst (λ (ws : List Value). TellsEach v f (s ∷ []) (operated Values [] (Values ws ∷ []))) (sym a.1.only) (a.0, (a.1.denotes, tt))

  pub two_each : (f g r : Edge) (s t : Symbolic) (o p : Evaluation) → edge_value v r ≡ (edge_value v f || edge_value v g) → TellsOne v f s o → TellsOne v g t p →
      TellsEach v r (s ∷ t ∷ []) (operated Values [] (o ∷ p ∷ []))
  two_each f g r s t o p h a b =
      subst (λ (x : Evaluation). TellsEach v r (s ∷ t ∷ []) x) (sym (operated_push [] (o ∷ []) p)) (each_together f g r (s ∷ []) t (operated Values [] (o ∷ [])) p h (one_each f s o a) b)

  -- no operand so far
  pub none_gathered : (f : Edge) → edge_value v f ≡ false → TellsEach v f [] (Values [])
  none_gathered f h = (h, tt)

  -- an answer that is a value or a fault
  abbrev tells : Result (Option Value) FaultRule → Bool
  tells (Ok None) = false
  tells (Ok (Some y)) = true
  tells (Err rule) = true

  values_by : (b : Bool) (w u : Result (Option Value) FaultRule) → cond b w (Ok None) ≡ u → tells u ≡ true → b ≡ true
  values_by true w u h n = refl
  values_by false w (Ok None) h n = absurd cc
  values_by false w (Ok (Some y)) h n = absurd cc
  values_by false w (Err rule) h n = absurd cc

  module _ (o : Operator) (place : Place) (g e r : Edge) (ss : List Symbolic) (z : Symbolic) (h : edge_value v r ≡ (edge_value v g || edge_value v e)) (k : Computes v o ss z e) where
    are_values : (xs : List Value) (u : Result (Option Value) FaultRule) → result_of o xs ≡ u → tells u ≡ true → list_all is_value xs ≡ true
    are_values xs u is n = values_by (list_all is_value xs) (unless (fault_of o xs) (value_of o xs)) u is n

    by_result : (xs : List Value) (u : Result (Option Value) FaultRule) → edge_value v g ≡ false → AreDenoted v ss xs → result_of o xs ≡ u → TellsOne v r z (given place u)
    by_result xs (Ok None) a d is = tt
    by_result xs (Ok (Some y)) a d is = (
      h ∙ or_same v (edge_value v g) (edge_value v e) false false a (k.faults xs d (are_values xs (Ok (Some y)) is refl) ∙ ap is_fault is),
      record {
        value = y;
        only = refl;
        denotes = k.gives xs y d is;
      },
    )
    by_result xs (Err rule) a d is = h ∙ or_right v (edge_value v g) (edge_value v e) (k.faults xs d (are_values xs (Err rule) is refl) ∙ ap is_fault is)

    pub computed_told : (x : Evaluation) → TellsEach v g ss x → TellsOne v r z (bound (λ vs. given place (result_of o vs)) x)
    computed_told Nothing a = tt
    computed_told (Fault rule p) a = h ∙ ap (λ (b : Bool). b || edge_value v e) a
    computed_told (Values xs) a = by_result xs (result_of o xs) a.0 a.1 refl

  -- whether one is among others

  module _ (f g r e : Edge) (x : Symbolic) (ms : List Member) (h : edge_value v r ≡ (edge_value v f || edge_value v g))
      (k : (w : Value) → denoted v x ≡ Some w → All (IsThere v) ms → edge_value v e ≡ list_any (is_member v w) ms) where
    of_one : (w : Value) (q : Evaluation) → edge_value v f ≡ false → denoted v x ≡ Some w → TellsSet v g ms q → TellsOne v r (symbolic.Boolean e) (included (Values (w ∷ [])) q)
    of_one w Nothing a d b = tt
    of_one w (Fault rule place) a d b = h ∙ or_right v (edge_value v f) (edge_value v g) b
    of_one w (Values ws) a d b = (
      h ∙ or_same v (edge_value v f) (edge_value v g) false false a b.0,
      record {
        value = value.Bool (list_any (same w) ws);
        only = refl;
        denotes = ap (λ (c : Bool). Some (value.Bool c)) (k w d b.1.there ∙ sym (b.1.same w));
      },
    )

    pub included_told : (p q : Evaluation) → TellsOne v f x p → TellsSet v g ms q → TellsOne v r (symbolic.Boolean e) (included p q)
    included_told Nothing q a b = tt
    included_told (Fault rule place) q a b = h ∙ ap (λ (c : Bool). c || edge_value v g) a
    included_told (Values vs) q a b =
        subst (λ (vs : List Value). TellsOne v r (symbolic.Boolean e) (included (Values vs) q)) (sym a.1.only) (of_one a.1.value q a.0 a.1.denotes b)

  -- the integers between two

  pub in_run : (low high : ℤ) (w : Value) → list_any (same w) (run low high) ≡ is_between low high w
  in_run low high (value.Int z) = sym (in_run_is low high z)
  in_run low high (value.Bool b) = none_in_run (value.Bool b) (λ z. refl) low high
  in_run low high (value.Sym n) = none_in_run (value.Sym n) (λ z. refl) low high
  in_run low high (value.Word s n b) = none_in_run (value.Word s n b) (λ z. refl) low high

  abbrev pub of_run : Edge → ℤ → ℤ → Member
  of_run e low high = record { present = e; which = which.Run low high }

  pub run_is : (e : Edge) (ms : List Member) (a b low high : ℤ) → ms ≡ of_run e a b ∷ [] → a ≡ low → b ≡ high → ms ≡ of_run e low high ∷ []
  run_is e ms a b low high h p q = h ∙ (λ i. of_run e (p i) (q i) ∷ [])

  and_only : (a b : Bool) → a ≡ true → ((a && b) || false) ≡ b
  and_only true true h = refl
  and_only true false h = refl
  and_only false b h = absurd cc

  module _ (f g r e : Edge) (x y : Symbolic) (low high : ℤ) (h : edge_value v r ≡ (edge_value v f || edge_value v g)) (there : edge_value v e ≡ true)
      (is_low : denoted v x ≡ Some (value.Int low)) (is_high : denoted v y ≡ Some (value.Int high)) where
    run_there : All (IsThere v) (of_run e low high ∷ [])
    run_there zero d lt = λ p. tt
    run_there (suc k) d lt = absurd (let no : ⊥ = omega (arith, lt) in no)

    run_told : edge_value v f ≡ false → edge_value v g ≡ false → TellsSet v r (of_run e low high ∷ []) (Values (run low high))
    run_told a b = (
      h ∙ or_same v (edge_value v f) (edge_value v g) false false a b,
      record {
        there = run_there;
        same = λ w. in_run low high w ∙ sym (and_only (edge_value v e) (is_between low high w) there);
      },
    )

    is_integer : (s : Symbolic) (w : Value) (z : ℤ) → denoted v s ≡ Some (value.Int z) → denoted v s ≡ Some w → w ≡ value.Int z
    is_integer s w z p q = cc

    second : (q : Evaluation) → edge_value v f ≡ false → TellsOne v g y q → TellsSet v r (of_run e low high ∷ []) (ranged (Values (value.Int low ∷ [])) q)
    second Nothing a b = tt
    second (Fault rule place) a b = h ∙ or_right v (edge_value v f) (edge_value v g) b
    second (Values ws) a b =
        let one : ws ≡ value.Int high ∷ [] = b.1.only ∙ ap (λ (w : Value). w ∷ []) (is_integer y b.1.value high is_high b.1.denotes) in
        subst (λ (ws : List Value). TellsSet v r (of_run e low high ∷ []) (ranged (Values (value.Int low ∷ [])) (Values ws))) (sym one) (run_told a b.0)

    pub ranged_told : (p q : Evaluation) → TellsOne v f x p → TellsOne v g y q → TellsSet v r (of_run e low high ∷ []) (ranged p q)
    ranged_told Nothing q a b = tt
    ranged_told (Fault rule place) q a b = h ∙ ap (λ (c : Bool). c || edge_value v g) a
    ranged_told (Values vs) q a b =
        let one : vs ≡ value.Int low ∷ [] = a.1.only ∙ ap (λ (w : Value). w ∷ []) (is_integer x a.1.value low is_low a.1.denotes) in
        subst (λ (vs : List Value). TellsSet v r (of_run e low high ∷ []) (ranged (Values vs) q)) (sym one) (second q a.0 b)
