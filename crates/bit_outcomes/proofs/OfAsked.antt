-- What items ask of outcomes, by what is told of these.
use Rattle.std.proofs.Common.{◌≡◌, ◌∙◌, ℕ, ◌+◌, ◌<◌, Bool, true, false, cond, not, ◌&&◌, ◌||◌, List, [], ◌∷◌, length, get_or, take, refl, sym, ap, subst, eqb, ℤ}
use Rattle.std.specs.Prelude.{Option, None, Some, All, unwrap_or, int_le, slice_get}
use Rattle.std.specs.Bool.{beq}
use Rattle.std.specs.List.{list_all, list_any}
use Rattle.std.specs.Option.{is_some, option_map}
use Rattle.std.proofs.lemmas.Bool.{eqb-true, eq-eqb}
use Rattle.std.proofs.lemmas.List.Folds.{list_any_more}
use Rattle.bit_graph.specs.declared.edge.Edge.{Edge}
use Rattle.bit_graph.specs.Meaning.{edge_value}
use Rattle.bit_arith.specs.Number.{flip, number_of}
use Rattle.bit_operators.proofs.Bitwise.{flip_is}
use Rattle.smv_value.specs.declared.value.Value.{Value}
use Rattle.smv_value.specs.declared.value.Value.TheVariants as value
use Rattle.smv_value.specs.Results.{alike, same}
use Rattle.value_types.specs.declared.value_type.ValueType.{ValueType}
use Rattle.value_types.specs.Types.{is_of_type}
use Rattle.value_types.proofs.Elements.{int_le_refl, same_int}
use Rattle.value_sets.specs.Members.{run}
use Rattle.smv_meaning.specs.declared.outcome.Evaluation.{Evaluation}
use Rattle.smv_meaning.specs.declared.outcome.Evaluation.TheVariants.{Fault, Nothing, Values}
use Rattle.smv_meaning.specs.Faults.{is_outside}
use Rattle.smv_meaning.specs.Formulas.{fault_in}
use Rattle.smv_meaning.specs.Outcomes.{truth, truth_of}
use Rattle.smv_meaning.specs.Runs.{is_among, is_given, is_true, takes}
use Rattle.bit_operators.specs.declared.symbolic.Discrete.{Discrete}
use Rattle.bit_operators.specs.declared.symbolic.Symbolic.{Symbolic}
use Rattle.bit_operators.specs.declared.symbolic.Symbolic.TheVariants as symbolic
use Rattle.bit_operators.specs.Denoting.{denoted, integer_of}
use Rattle.bit_outcomes.specs.declared.told.Member.{Member}
use Rattle.bit_outcomes.specs.declared.told.Which.{Which}
use Rattle.bit_outcomes.specs.declared.told.Which.TheVariants as which
use Rattle.bit_outcomes.specs.Telling.{IsDenoted, IsThere, TellsOne, TellsSet, is_member, is_this, is_which}
use Rattle.bit_outcomes.specs.Asked.{is_false, is_out, is_out_of, is_strange, is_untrue}
use Rattle.bit_outcomes.proofs.OfChoices.{truth_is}
use Rattle.bit_outcomes.proofs.OfMembers.{or_right, or_same}
use Rattle.bit_outcomes.proofs.OfOperands.{in_run}

-- values that are the same

same_bool : (a b : Bool) → beq a b ≡ true → a ≡ b
same_bool true true h = refl
same_bool true false h = absurd cc
same_bool false true h = absurd cc
same_bool false false h = refl

beq_refl : (a : Bool) → beq a a ≡ true
beq_refl true = refl
beq_refl false = refl

both : (a b : Bool) → (a && b) ≡ true → (a ≡ true) × (b ≡ true)
both true b h = (refl, h)
both false b h = absurd cc

both_are : (a b : Bool) → a ≡ true → b ≡ true → (a && b) ≡ true
both_are true b p q = q
both_are false b p q = absurd cc

pub same_is : (v w : Value) → same v w ≡ true → v ≡ w
same_is (value.Bool a) (value.Bool b) h = ap value.Bool (same_bool a b h)
same_is (value.Int a) (value.Int b) h = ap value.Int (same_int a b h)
same_is (value.Sym a) (value.Sym b) h = ap value.Sym (eqb-true a b h)
same_is (value.Word s m a) (value.Word t n b) h =
    let one = both (alike s m t n) (eqb a b) h in
    let two = both (beq s t) (eqb m n) one.0 in
    (λ i. value.Word (same_bool s t two.0 i) (eqb-true m n two.1 i) (eqb-true a b one.1 i))
same_is (value.Bool a) (value.Int b) h = absurd cc
same_is (value.Bool a) (value.Sym b) h = absurd cc
same_is (value.Bool a) (value.Word t n b) h = absurd cc
same_is (value.Int a) (value.Bool b) h = absurd cc
same_is (value.Int a) (value.Sym b) h = absurd cc
same_is (value.Int a) (value.Word t n b) h = absurd cc
same_is (value.Sym a) (value.Bool b) h = absurd cc
same_is (value.Sym a) (value.Int b) h = absurd cc
same_is (value.Sym a) (value.Word t n b) h = absurd cc
same_is (value.Word s m a) (value.Bool b) h = absurd cc
same_is (value.Word s m a) (value.Int b) h = absurd cc
same_is (value.Word s m a) (value.Sym b) h = absurd cc

pub same_refl : (v : Value) → same v v ≡ true
same_refl (value.Bool b) = beq_refl b
same_refl (value.Int z) = both_are (int_le z z) (int_le z z) (int_le_refl z) (int_le_refl z)
same_refl (value.Sym n) = eq-eqb n n refl
same_refl (value.Word s w b) = both_are (alike s w s w) (eqb b b) (both_are (beq s s) (eqb w w) (beq_refl s) (eq-eqb w w refl)) (eq-eqb b b refl)

-- values outside a type

or_left : (a b : Bool) → a ≡ true → (a || b) ≡ true
or_left true b h = refl
or_left false b h = absurd cc

and_false : (a b : Bool) → b ≡ false → (a && b) ≡ false
and_false true b h = h
and_false false b h = refl

turn : (a : Bool) → not a ≡ true → a ≡ false
turn true h = absurd cc
turn false h = refl

module _ (t : ValueType) where
  abbrev fits : Value → Bool
  fits w = is_of_type w t

  abbrev Strange : List Value → Type 0
  Strange xs = (w : Value) × (fits w ≡ false) × (list_any (same w) xs ≡ true)

  or_second : (a b : Bool) → b ≡ true → (a || b) ≡ true
  or_second true b h = refl
  or_second false b h = h

  not_by : (x : Value) (xs : List Value) (b : Bool) → (list_all fits xs ≡ false → Strange xs) → fits x ≡ b → (b && list_all fits xs) ≡ false → Strange (x ∷ xs)
  not_by x xs true next is e =
      let more : Strange xs = next e in
      (more.0, more.1, or_second (same more.0 x) (list_any (same more.0) xs) more.2)
  not_by x xs false next is e = (x, is, or_left (same x x) (list_any (same x) xs) (same_refl x))

  all_not : (xs : List Value) → list_all fits xs ≡ false → Strange xs
  all_not [] h = absurd cc
  all_not (x ∷ xs) h = not_by x xs (fits x) (all_not xs) refl h

  some_by : (w x : Value) (xs : List Value) (b : Bool) → (list_any (same w) xs ≡ true → list_all fits xs ≡ false) → fits w ≡ false → same w x ≡ b → (b || list_any (same w) xs) ≡ true →
      (fits x && list_all fits xs) ≡ false
  some_by w x xs true next f is e = ap (λ (b : Bool). b && list_all fits xs) (ap fits (sym (same_is w x is)) ∙ f)
  some_by w x xs false next f is e = and_false (fits x) (list_all fits xs) (next e)

  some_not : (w : Value) (xs : List Value) → fits w ≡ false → list_any (same w) xs ≡ true → list_all fits xs ≡ false
  some_not w [] f h = absurd cc
  some_not w (x ∷ xs) f h = some_by w x xs (same w x) (some_not w xs f) f refl h

  module _ (v : ℕ → Bool) where
    abbrev Outside : List Member → Type 0
    Outside ms = (w : Value) × (fits w ≡ false) × (list_any (is_member v w) ms ≡ true)

    -- a member outside is a value outside

    strange_is : (s : Symbolic) (o : Option Value) → denoted v s ≡ o → is_strange t o ≡ true → (w : Value) × (fits w ≡ false) × (is_this w (denoted v s) ≡ true)
    strange_is s None is h = absurd cc
    strange_is s (Some w) is h = (w, turn (fits w) h, ap (is_this w) is ∙ same_refl w)

    which_out : (x : Which) → is_out_of v t x ≡ true → (w : Value) × (fits w ≡ false) × (is_which v w x ≡ true)
    which_out (which.Value s) h = strange_is s (denoted v s) refl h
    which_out (which.Run low high) h =
        let one : Strange (run low high) = all_not (run low high) (turn (list_all fits (run low high)) h) in
        (one.0, one.1, sym (in_run v low high one.0) ∙ one.2)

    out_by : (m : Member) (ms : List Member) (b : Bool) → (list_any (is_out v t) ms ≡ true → Outside ms) → is_out v t m ≡ b → (b || list_any (is_out v t) ms) ≡ true → Outside (m ∷ ms)
    out_by m ms true next is e =
        let two = both (edge_value v m.present) (is_out_of v t m.which) is in
        let one = which_out m.which two.1 in
        (one.0, one.1, or_left (is_member v one.0 m) (list_any (is_member v one.0) ms) (both_are (edge_value v m.present) (is_which v one.0 m.which) two.0 one.2))
    out_by m ms false next is e =
        let more : Outside ms = next e in
        (more.0, more.1, or_second (is_member v more.0 m) (list_any (is_member v more.0) ms) more.2)

    some_out : (ms : List Member) → list_any (is_out v t) ms ≡ true → Outside ms
    some_out [] h = absurd cc
    some_out (m ∷ ms) h = out_by m ms (is_out v t m) (some_out ms) refl h

    -- and a value outside that is a member is a member outside

    this_is : (w : Value) (o : Option Value) → fits w ≡ false → is_this w o ≡ true → is_strange t o ≡ true
    this_is w None f h = absurd cc
    this_is w (Some z) f h = ap not (ap fits (sym (same_is w z h)) ∙ f)

    which_is : (w : Value) (x : Which) → fits w ≡ false → is_which v w x ≡ true → is_out_of v t x ≡ true
    which_is w (which.Value s) f h = this_is w (denoted v s) f h
    which_is w (which.Run low high) f h = ap not (some_not w (run low high) f (in_run v low high w ∙ h))

    in_by : (w : Value) (m : Member) (ms : List Member) (b : Bool) → (list_any (is_member v w) ms ≡ true → list_any (is_out v t) ms ≡ true) → fits w ≡ false → is_member v w m ≡ b →
        (b || list_any (is_member v w) ms) ≡ true → (is_out v t m || list_any (is_out v t) ms) ≡ true
    in_by w m ms true next f is e =
        let two = both (edge_value v m.present) (is_which v w m.which) is in
        or_left (is_out v t m) (list_any (is_out v t) ms) (both_are (edge_value v m.present) (is_out_of v t m.which) two.0 (which_is w m.which f two.1))
    in_by w m ms false next f is e = or_second (is_out v t m) (list_any (is_out v t) ms) (next e)

    member_out : (w : Value) (ms : List Member) → fits w ≡ false → list_any (is_member v w) ms ≡ true → list_any (is_out v t) ms ≡ true
    member_out w [] f h = absurd cc
    member_out w (m ∷ ms) f h = in_by w m ms (is_member v w m) (member_out w ms f) f refl h

    equal_by : (a b : Bool) → (a ≡ true → b ≡ false) → (b ≡ false → a ≡ true) → a ≡ not b
    equal_by true true p q = absurd (let no : true ≡ false = p refl in cc)
    equal_by true false p q = refl
    equal_by false true p q = refl
    equal_by false false p q = q refl

    out_is : (vs : List Value) (ms : List Member) → ((w : Value) → list_any (same w) vs ≡ list_any (is_member v w) ms) → list_any (is_out v t) ms ≡ not (list_all fits vs)
    out_is vs ms h = equal_by (list_any (is_out v t) ms) (list_all fits vs)
        (λ p. let one : Outside ms = some_out ms p in some_not one.0 vs one.1 (h one.0 ∙ one.2))
        (λ p. let one : Strange vs = all_not vs p in member_out one.0 ms one.1 (sym (h one.0) ∙ one.2))

-- a member more that may be outside
pub out_more : (v : ℕ → Bool) (t : ValueType) (any out r : Edge) (ms : List Member) (i : ℕ) (m : Member) → i < length ms → m ≡ get_or ms i m →
    edge_value v any ≡ list_any (is_out v t) (take i ms) → edge_value v out ≡ is_out v t m → edge_value v r ≡ (edge_value v any || edge_value v out) →
    edge_value v r ≡ list_any (is_out v t) (take (i + 1) ms)
out_more v t any out r ms i m lt is p q h =
    h ∙ or_same v (edge_value v any) (edge_value v out) (list_any (is_out v t) (take i ms)) (is_out v t (get_or ms i m)) p (q ∙ ap (is_out v t) is)
    ∙ sym (list_any_more (is_out v t) ms i m lt)

module _ (v : ℕ → Bool) where
  and_said : (f n a r : Edge) → n ≡ flip f → edge_value v r ≡ (edge_value v n && edge_value v a) → edge_value v r ≡ (not (edge_value v f) && edge_value v a)
  and_said f n a r is h = h ∙ ap (λ (b : Bool). b && edge_value v a) (ap (edge_value v) is ∙ flip_is f.negated (v f.node))

  failed_not : (f a r : Edge) → edge_value v r ≡ (not (edge_value v f) && edge_value v a) → edge_value v f ≡ true → edge_value v r ≡ false
  failed_not f a r h t = h ∙ ap (λ (b : Bool). not b && edge_value v a) t

  given_not : (f a r : Edge) → edge_value v r ≡ (not (edge_value v f) && edge_value v a) → edge_value v f ≡ false → edge_value v r ≡ edge_value v a
  given_not f a r h t = h ∙ ap (λ (b : Bool). not b && edge_value v a) t

  or_none : (a b : Bool) → a ≡ false → b ≡ false → (a || b) ≡ false
  or_none a b p q = ap (λ (x : Bool). x || b) p ∙ q

  module _ (f g d n any r : Edge) (x : Symbolic) (ms : List Member) (failed : edge_value v d ≡ (edge_value v f || edge_value v g)) (turned : n ≡ flip d)
      (whole : edge_value v r ≡ (edge_value v n && edge_value v any)) (k : (w : Value) → denoted v x ≡ Some w → All (IsThere v) ms → edge_value v any ≡ list_any (is_member v w) ms) where
    of_one : (w : Value) (q : Evaluation) → edge_value v f ≡ false → denoted v x ≡ Some w → TellsSet v g ms q → is_given q ≡ true → edge_value v r ≡ is_among (Some w) q
    of_one w Nothing a e b i = absurd cc
    of_one w (Fault rule place) a e b i = failed_not d any r (and_said d n any r turned whole) (failed ∙ or_right v (edge_value v f) (edge_value v g) b)
    of_one w (Values ws) a e b i =
        given_not d any r (and_said d n any r turned whole) (failed ∙ or_none (edge_value v f) (edge_value v g) a b.0) ∙ k w e b.1.there ∙ sym (b.1.same w)

    pub takes_told : (p q : Evaluation) → TellsOne v f x p → TellsSet v g ms q → is_given p ≡ true → is_given q ≡ true → edge_value v r ≡ takes p q
    takes_told Nothing q a b i j = absurd cc
    takes_told (Fault rule place) q a b i j = failed_not d any r (and_said d n any r turned whole) (failed ∙ ap (λ (c : Bool). c || edge_value v g) a)
    takes_told (Values vs) q a b i j =
        subst (λ (vs : List Value). edge_value v r ≡ takes (Values vs) q) (sym a.1.only) (of_one a.1.value q a.0 a.1.denotes b j)

  -- one member

  out_here : (t : ValueType) (s : Symbolic) (e n : Edge) (b : Bool) → (b ≡ true → (z : Value) × (denoted v s ≡ Some z)) → ((w : Value) → denoted v s ≡ Some w → edge_value v e ≡ is_of_type w t) →
      n ≡ flip e → (b && edge_value v n) ≡ (b && is_strange t (denoted v s))
  out_here t s e n true there is turned =
      let d = there refl in
      ap (edge_value v) turned ∙ flip_is e.negated (v e.node) ∙ ap not (is d.0 d.1) ∙ sym (ap (is_strange t) d.1)
  out_here t s e n false there is turned = refl

  pub value_out : (t : ValueType) (m : Member) (s : Symbolic) (e n r : Edge) → m.which ≡ which.Value s → IsThere v m → ((w : Value) → denoted v s ≡ Some w → edge_value v e ≡ is_of_type w t) →
      n ≡ flip e → edge_value v r ≡ (edge_value v m.present && edge_value v n) → edge_value v r ≡ is_out v t m
  value_out t m s e n r k there is turned h =
      let at : IsDenoted v m.which → IsDenoted v (which.Value s) = subst (IsDenoted v) k in
      h ∙ out_here t s e n (edge_value v m.present) (λ p. at (there p)) is turned ∙ sym (ap (λ (x : Which). edge_value v m.present && is_out_of v t x) k)

  pub run_out : (t : ValueType) (m : Member) (low high : ℤ) (c : Bool) (e r : Edge) → m.which ≡ which.Run low high → c ≡ list_all (λ w. is_of_type w t) (run low high) → edge_value v e ≡ not c →
      edge_value v r ≡ (edge_value v m.present && edge_value v e) → edge_value v r ≡ is_out v t m
  run_out t m low high c e r k is q h =
      h ∙ ap (λ (b : Bool). edge_value v m.present && b) (q ∙ ap not is) ∙ sym (ap (λ (x : Which). edge_value v m.present && is_out_of v t x) k)

  pub true_told : (f n b r : Edge) (o : Evaluation) → n ≡ flip f → edge_value v r ≡ (edge_value v n && edge_value v b) → TellsOne v f (symbolic.Boolean b) o → is_given o ≡ true →
      edge_value v r ≡ is_true o
  true_told f n b r Nothing is h a i = absurd cc
  true_told f n b r (Fault rule place) is h a i = failed_not f b r (and_said f n b r is h) a
  true_told f n b r (Values vs) is h a i =
      given_not f b r (and_said f n b r is h) a.0 ∙ sym (ap (λ (t : Option Bool). unwrap_or t false) (truth_is v b vs a.1.value a.1.only a.1.denotes))

  pub false_told : (f n b m r : Edge) (o : Evaluation) → n ≡ flip f → m ≡ flip b → edge_value v r ≡ (edge_value v n && edge_value v m) → TellsOne v f (symbolic.Boolean b) o → is_given o ≡ true →
      edge_value v r ≡ is_false o
  false_told f n b m r Nothing is im h a i = absurd cc
  false_told f n b m r (Fault rule place) is im h a i = failed_not f m r (and_said f n m r is h) a
  false_told f n b m r (Values vs) is im h a i =
      given_not f m r (and_said f n m r is h) a.0 ∙ ap (edge_value v) im ∙ flip_is b.negated (v b.node)
      ∙ sym (ap is_untrue (truth_is v b vs a.1.value a.1.only a.1.denotes))

  pub fault_one : (f : Edge) (s : Symbolic) (o : Evaluation) → TellsOne v f s o → is_given o ≡ true → edge_value v f ≡ is_some (fault_in o)
  fault_one f s Nothing a i = absurd cc
  fault_one f s (Fault rule place) a i = a
  fault_one f s (Values vs) a i = a.0

  pub fault_set : (f : Edge) (ms : List Member) (o : Evaluation) → TellsSet v f ms o → is_given o ≡ true → edge_value v f ≡ is_some (fault_in o)
  fault_set f ms Nothing a i = absurd cc
  fault_set f ms (Fault rule place) a i = a
  fault_set f ms (Values vs) a i = a.0

  pub outside_told : (t : ValueType) (g n any r : Edge) (ms : List Member) (o : Evaluation) → n ≡ flip g → edge_value v r ≡ (edge_value v n && edge_value v any) →
      (All (IsThere v) ms → edge_value v any ≡ list_any (is_out v t) ms) → TellsSet v g ms o → is_given o ≡ true → edge_value v r ≡ is_outside (Some t) o
  outside_told t g n any r ms Nothing is h k a i = absurd cc
  outside_told t g n any r ms (Fault rule place) is h k a i = failed_not g any r (and_said g n any r is h) a
  outside_told t g n any r ms (Values vs) is h k a i = given_not g any r (and_said g n any r is h) a.0 ∙ k a.1.there ∙ out_is t v vs ms a.1.same

  -- what is neither TRUE nor FALSE

  pub word_plain : (signed : Bool) (bits : List Edge) (s : Symbolic) → s ≡ symbolic.Word signed bits → (w : Value) → denoted v s ≡ Some w → truth_of w ≡ None
  word_plain signed bits s is w d =
      let here : denoted v (symbolic.Word signed bits) ≡ Some w = ap (denoted v) (sym is) ∙ d in
      let same : w ≡ value.Word signed (length bits) (number_of v bits) = cc in
      ap truth_of same

  plain_by : (b : Bool) (o : Option ℕ) (z : ℤ) (w : Value) → cond b (option_map value.Sym o) (Some (value.Int z)) ≡ Some w → truth_of w ≡ None
  plain_by true None z w h = absurd cc
  plain_by true (Some n) z w h = let same : w ≡ value.Sym n = cc in ap truth_of same
  plain_by false o z w h = let same : w ≡ value.Int z = cc in ap truth_of same

  pub discrete_plain : (d : Discrete) (s : Symbolic) → s ≡ symbolic.Discrete d → (w : Value) → denoted v s ≡ Some w → truth_of w ≡ None
  discrete_plain d s is w e = plain_by (edge_value v d.is_symbol) (slice_get d.symbols (number_of v d.code)) (integer_of v d.number) w (ap (denoted v) (sym is) ∙ e)

  pub plain_told : (f : Edge) (s : Symbolic) (o : Evaluation) → ((w : Value) → denoted v s ≡ Some w → truth_of w ≡ None) → TellsOne v f s o → truth o ≡ None
  plain_told f s Nothing k a = refl
  plain_told f s (Fault rule place) k a = refl
  plain_told f s (Values vs) k a = ap (λ (ws : List Value). truth (Values ws)) a.1.only ∙ k a.1.value a.1.denotes
