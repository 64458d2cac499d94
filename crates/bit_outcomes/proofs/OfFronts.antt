-- The first conditions and branches of a choice, one more of them, and the rest.
use Rattle.std.proofs.Common.{◌≡◌, ◌∙◌, ◌⊎◌, ℕ, zero, suc, ◌+◌, ◌*◌, ◌≤◌, Bool, true, false, ◌&&◌, ◌||◌, not, List, length, get_or, drop, inl, inr, refl, sym, ap, subst, arith}
use Rattle.std.specs.Prelude.{All, IfSome, Option, Some}
use Rattle.std.specs.List.{list_any}
use Rattle.std.proofs.lemmas.Bool.{cases_Bool}
use Rattle.bit_graph.specs.declared.edge.Edge.{Edge}
use Rattle.bit_graph.specs.Meaning.{edge_value}
use Rattle.smv_tree.specs.declared.place.Place.{Place}
use Rattle.smv_value.specs.declared.value.FaultRule.{FaultRule}
use Rattle.smv_value.specs.declared.value.Value.{Value}
use Rattle.smv_meaning.specs.declared.outcome.Evaluation.{Evaluation}
use Rattle.smv_meaning.specs.declared.outcome.Evaluation.TheVariants.{Fault, Nothing, Values}
use Rattle.smv_meaning.specs.Outcomes.{choice, taken, truth}
use Rattle.bit_operators.specs.declared.symbolic.Symbolic.TheVariants as symbolic
use Rattle.bit_outcomes.specs.declared.fronts.Front.{Front}
use Rattle.bit_outcomes.specs.declared.told.Member.{Member}
use Rattle.bit_outcomes.specs.Fronts.{IsUndecided, TellsFront}
use Rattle.bit_outcomes.specs.Telling.{IsThere, TellsOne, TellsSet, is_member}
use Rattle.bit_outcomes.proofs.OfChoices.{choice_pair, set_along, truth_is}

-- what comes of the first conditions and branches, where the rest gives r
abbrev pub front_of : List Evaluation → ℕ → Evaluation → Evaluation
front_of os zero r = r
front_of os (suc i) r = front_of os i (taken (truth (get_or os (2 * i) Nothing)) (get_or os (2 * i) Nothing) (get_or os (2 * i + 1) Nothing) r)

pub front_choice : (rule : FaultRule) (p : Place) (os : List Evaluation) (i : ℕ) → 2 * i ≤ length os → front_of os i (choice rule p (drop (2 * i) os)) ≡ choice rule p os
front_choice rule p os zero l = refl
front_choice rule p os (suc i) l =
    let next : suc i ≡ i + 1 = omega arith in
    ap (front_of os i)
    (ap (λ (n : ℕ). taken (truth (get_or os (2 * i) Nothing)) (get_or os (2 * i) Nothing) (get_or os (2 * i + 1) Nothing) (choice rule p (drop (2 * n) os))) next
    ∙ sym (choice_pair rule p os i (omega (arith, l))))
    ∙ front_choice rule p os i (omega (arith, l))

-- what is so of a value, where there is one
pub some_of : {X : Type 0} (P : X → Type 0) (o : Option X) (x : X) → o ≡ Some x → IfSome o P → P x
some_of P o x is h = subst (λ p. IfSome p P) is h

or_false : (a : Bool) → (a || false) ≡ a
or_false true = refl
or_false false = refl

differ : (b : Bool) → b ≡ true → b ≡ false → ⊥
differ b yes_it no_it = cc

module _ (v : ℕ → Bool) where
  -- members that are guarded by a condition that is FALSE, or TRUE

  guarded_off : (w : Value) (h : Edge) (xs ys zs : List Member) → edge_value v h ≡ false →
      list_any (is_member v w) zs ≡ (list_any (is_member v w) xs || (edge_value v h && list_any (is_member v w) ys)) → list_any (is_member v w) zs ≡ list_any (is_member v w) xs
  guarded_off w h xs ys zs off any = any ∙ ap (λ b. list_any (is_member v w) xs || (b && list_any (is_member v w) ys)) off ∙ or_false (list_any (is_member v w) xs)

  guarded_on : (w : Value) (h : Edge) (xs ys zs : List Member) → edge_value v h ≡ true → list_any (is_member v w) xs ≡ false →
      list_any (is_member v w) zs ≡ (list_any (is_member v w) xs || (edge_value v h && list_any (is_member v w) ys)) → list_any (is_member v w) zs ≡ list_any (is_member v w) ys
  guarded_on w h xs ys zs on none any = any ∙ (λ i. none i || (on i && list_any (is_member v w) ys))

  -- nothing is told of what has no outcome
  none_told : (e : Edge) (zs : List Member) (o : Evaluation) → o ≡ Nothing → TellsSet v e zs o
  none_told e zs o is = subst (TellsSet v e zs) (sym is) tt

  -- what the rest gives, or nothing
  passed : (e : Edge) (zs : List Member) (f : Evaluation → Evaluation) (r : Evaluation) → (f r ≡ r) ⊎ (f r ≡ Nothing) → TellsSet v e zs r → TellsSet v e zs (f r)
  passed e zs f r is told = elim is [ inl same ↦ subst (TellsSet v e zs) (sym same) told | inr none ↦ none_told e zs (f r) none ]

  module _ (x : Front) (f : Evaluation → Evaluation) (before : TellsFront v x f) where
    -- the rest

    module _ (g e : Edge) (ys zs : List Member) (e_is : edge_value v e ≡ (edge_value v x.fault || (edge_value v x.undecided && edge_value v g)))
        (there : (edge_value v x.undecided ≡ true → edge_value v g ≡ false) → All (IsThere v) x.members → (edge_value v x.undecided ≡ true → All (IsThere v) ys) → All (IsThere v) zs)
        (any : (w : Value) → (edge_value v x.undecided ≡ true → edge_value v g ≡ false) →
        list_any (is_member v w) zs ≡ (list_any (is_member v w) x.members || (edge_value v x.undecided && list_any (is_member v w) ys)))
        (r : Evaluation) (told : TellsSet v g ys r) where
      pub front_closed : TellsSet v e zs (f r)
      front_closed = elim (cases_Bool (edge_value v x.undecided)) [
        | inl on ↦
            let is = before.undecided on in
            passed e zs f r (is.rest r)
            (set_along v e g zs ys r (e_is ∙ (λ i. is.sound i || (on i && edge_value v g))) (λ sound here. there (λ _. sound) is.there (λ _. here))
            (λ sound w. guarded_on w x.undecided x.members ys zs on (is.none w) (any w (λ _. sound))) told)
        | inr off ↦
            let none : edge_value v x.undecided ≡ true → edge_value v g ≡ false = λ on. absurd (differ (edge_value v x.undecided) on off) in
            set_along v e x.fault zs x.members (f r) (e_is ∙ (λ i. edge_value v x.fault || (off i && edge_value v g)) ∙ or_false (edge_value v x.fault))
            (λ sound here. there none here (λ on. absurd (differ (edge_value v x.undecided) on off))) (λ sound w. guarded_off w x.undecided x.members ys zs off (any w none)) (before.decided off r)
      ]

    -- one condition more

    module _ (failed b g here : Edge) (ys : List Member) (y : Front) (here_is : edge_value v here ≡ (edge_value v x.undecided && edge_value v b))
        (e_is : edge_value v y.fault ≡ ((edge_value v x.fault || (edge_value v x.undecided && edge_value v failed)) || (edge_value v here && edge_value v g)))
        (n_is : edge_value v y.undecided ≡ ((edge_value v x.undecided && not (edge_value v failed)) && not (edge_value v b)))
        (there : (edge_value v here ≡ true → edge_value v g ≡ false) → All (IsThere v) x.members → (edge_value v here ≡ true → All (IsThere v) ys) → All (IsThere v) y.members)
        (any : (w : Value) → (edge_value v here ≡ true → edge_value v g ≡ false) →
        list_any (is_member v w) y.members ≡ (list_any (is_member v w) x.members || (edge_value v here && list_any (is_member v w) ys))) where
      -- where the branch is not looked at, members stay

      off_there : edge_value v here ≡ false → All (IsThere v) x.members → All (IsThere v) y.members
      off_there off before_there = there (λ on. absurd (differ (edge_value v here) on off)) before_there (λ on. absurd (differ (edge_value v here) on off))

      off_any : edge_value v here ≡ false → (w : Value) → list_any (is_member v w) y.members ≡ list_any (is_member v w) x.members
      off_any off w = guarded_off w here x.members ys y.members off (any w (λ on. absurd (differ (edge_value v here) on off)))

      off_fault : (t : Bool) → edge_value v x.undecided ≡ t → (t && edge_value v failed) ≡ false → edge_value v here ≡ false → edge_value v y.fault ≡ edge_value v x.fault
      off_fault t is quiet off =
          e_is ∙ (λ i. (edge_value v x.fault || (is i && edge_value v failed)) || (off i && edge_value v g)) ∙ or_false (edge_value v x.fault || (t && edge_value v failed))
          ∙ ap (λ q. edge_value v x.fault || q) quiet ∙ or_false (edge_value v x.fault)

      -- it was decided before
      decided_before : edge_value v x.undecided ≡ false → (h : Evaluation → Evaluation) → TellsFront v y (λ r. f (h r))
      decided_before off h =
          let here_off : edge_value v here ≡ false = here_is ∙ ap (λ q. q && edge_value v b) off in
          let no : edge_value v y.undecided ≡ false = n_is ∙ ap (λ q. (q && not (edge_value v failed)) && not (edge_value v b)) off in
          record {
            undecided = λ on. absurd (differ (edge_value v y.undecided) on no);
            decided = λ _ r.
                set_along v y.fault x.fault y.members x.members (f (h r)) (off_fault false off refl here_off) (λ _ all. off_there here_off all) (λ _ w. off_any here_off w) (before.decided off (h r));
          }

      module _ (on : edge_value v x.undecided ≡ true) where
        is : IsUndecided v x f
        is = before.undecided on

        here_as : edge_value v here ≡ edge_value v b
        here_as = here_is ∙ ap (λ q. q && edge_value v b) on

        next_as : edge_value v y.undecided ≡ (not (edge_value v failed) && not (edge_value v b))
        next_as = n_is ∙ ap (λ q. (q && not (edge_value v failed)) && not (edge_value v b)) on

        -- it stays undecided
        stays : (h : Evaluation → Evaluation) → edge_value v failed ≡ false → edge_value v b ≡ false → ((r : Evaluation) → (f (h r) ≡ r) ⊎ (f (h r) ≡ Nothing)) → IsUndecided v y (λ r. f (h r))
        stays h quiet off rest =
            let here_off : edge_value v here ≡ false = here_as ∙ off in
            record {
              sound = off_fault true on quiet here_off ∙ is.sound;
              there = off_there here_off is.there;
              none = λ w. off_any here_off w ∙ is.none w;
              rest = rest;
            }

        not_parts : (a c : Bool) → (not a && not c) ≡ true → (a ≡ false) × (c ≡ false)
        not_parts true c h = absurd cc
        not_parts false true h = absurd cc
        not_parts false false h = (refl, refl)

        -- nothing comes of the condition
        of_nothing : (h : Evaluation → Evaluation) → ((r : Evaluation) → h r ≡ Nothing) → TellsFront v y (λ r. f (h r))
        of_nothing h none =
            let nothing : (r : Evaluation) → f (h r) ≡ Nothing = λ r. ap f (none r) ∙ elim (is.rest Nothing) [ inl same ↦ same | inr same ↦ same ] in
            record {
              undecided = λ next.
                  let parts = not_parts (edge_value v failed) (edge_value v b) (sym next_as ∙ next) in
                  stays h parts.0 parts.1 (λ r. inr (nothing r));
              decided = λ _ r. none_told y.fault y.members (f (h r)) (nothing r);
            }

        -- the condition faults
        of_fault : (h : Evaluation → Evaluation) (o : Evaluation) → edge_value v failed ≡ true → ((e : Edge) (ms : List Member) → edge_value v e ≡ true → TellsSet v e ms o) → ((r : Evaluation) → h r ≡ o) →
            TellsFront v y (λ r. f (h r))
        of_fault h o loud told same =
            let no : edge_value v y.undecided ≡ false = next_as ∙ ap (λ q. not q && not (edge_value v b)) loud in
            let fault : edge_value v y.fault ≡ true =
            e_is ∙ (λ i. (is.sound i || (on i && loud i)) || (edge_value v here && edge_value v g)) in
            record {
              undecided = λ next. absurd (differ (edge_value v y.undecided) next no);
              decided = λ _ r. subst (λ (z : Evaluation). TellsSet v y.fault y.members (f z)) (sym (same r)) (passed y.fault y.members f o (is.rest o) (told y.fault y.members fault));
            }

        -- the condition has a truth
        of_truth : (t : Bool) (c a : Evaluation) → edge_value v failed ≡ false → edge_value v b ≡ t → TellsSet v g ys a → TellsFront v y (λ r. f (taken (Some t) c a r))
        of_truth true c a quiet yes_it told =
            let here_on : edge_value v here ≡ true = here_as ∙ yes_it in
            let no : edge_value v y.undecided ≡ false = next_as ∙ (λ i. not (quiet i) && not (yes_it i)) in
            let fault : edge_value v y.fault ≡ edge_value v g = e_is ∙ (λ i. (is.sound i || (on i && quiet i)) || (here_on i && edge_value v g)) in
            record {
              undecided = λ next. absurd (differ (edge_value v y.undecided) next no);
              decided = λ _ r.
                  passed y.fault y.members f a (is.rest a)
                  (set_along v y.fault g y.members ys a fault (λ sound all. there (λ _. sound) is.there (λ _. all))
                  (λ sound w. guarded_on w here x.members ys y.members here_on (is.none w) (any w (λ _. sound))) told);
            }
        of_truth false c a quiet off told =
            let next : edge_value v y.undecided ≡ true = next_as ∙ (λ i. not (quiet i) && not (off i)) in
            record {
              undecided = λ _. stays (λ r. r) quiet off is.rest;
              decided = λ no r. absurd (differ (edge_value v y.undecided) next no);
            }

      pub front_more : (c a : Evaluation) → TellsOne v failed (symbolic.Boolean b) c → TellsSet v g ys a → TellsFront v y (λ r. f (taken (truth c) c a r))
      front_more c a one told = elim (cases_Bool (edge_value v x.undecided)) [
        | inr off ↦ decided_before off (taken (truth c) c a)
        | inl on ↦ by_outcome on c one
      ]
        where
          by_outcome : edge_value v x.undecided ≡ true → (c : Evaluation) → TellsOne v failed (symbolic.Boolean b) c → TellsFront v y (λ r. f (taken (truth c) c a r))
          by_outcome on Nothing one = of_nothing on (taken (truth Nothing) Nothing a) (λ r. refl)
          by_outcome on (Fault rule place) one =
              of_fault on (taken (truth (Fault rule place)) (Fault rule place) a) (Fault rule place) one (λ e ms h. h) (λ r. refl)
          by_outcome on (Values vs) one =
              subst (λ (t : Option Bool). TellsFront v y (λ r. f (taken t (Values vs) a r))) (sym (truth_is v b vs one.1.value one.1.only one.1.denotes))
              (of_truth on (edge_value v b) (Values vs) a one.0 refl told)
