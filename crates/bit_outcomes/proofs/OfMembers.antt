-- Members of sets: one value as a set, members where a condition is true, and a value among members.
use Rattle.std.proofs.Common.{◌≡◌, ◌∙◌, ℕ, zero, suc, ◌+◌, ◌<◌, Bool, true, false, ◌&&◌, ◌||◌, List, [], ◌∷◌, ◌++◌, length, get_or, take, refl, sym, ap, subst, arith, ℤ}
use Rattle.std.specs.Prelude.{Option, Some, All}
use Rattle.std.specs.List.{list_any}
use Rattle.std.proofs.lemmas.List.Folds.{list_any-append, list_any_more}
use Rattle.std.proofs.lemmas.List.{take_more}
use Rattle.std.proofs.lemmas.List.Elements.{All-append, All-push}
use Rattle.bit_graph.specs.declared.edge.Edge.{Edge}
use Rattle.bit_graph.specs.Meaning.{edge_value}
use Rattle.smv_value.specs.declared.value.Value.{Value}
use Rattle.smv_value.specs.Results.{same}
use Rattle.value_types.specs.Types.{is_between}
use Rattle.smv_meaning.specs.declared.outcome.Evaluation.{Evaluation}
use Rattle.smv_meaning.specs.declared.outcome.Evaluation.TheVariants.{Fault, Nothing, Values}
use Rattle.smv_meaning.specs.Outcomes.{united}
use Rattle.bit_operators.specs.declared.symbolic.Symbolic.{Symbolic}
use Rattle.bit_operators.specs.Denoting.{denoted}
use Rattle.bit_outcomes.specs.declared.told.Told.{Told}
use Rattle.bit_outcomes.specs.declared.told.Member.{Member}
use Rattle.bit_outcomes.specs.declared.told.Which.{Which}
use Rattle.bit_outcomes.specs.declared.told.Which.TheVariants as which
use Rattle.bit_outcomes.specs.Telling.{IsDenoted, IsThere, Tells, TellsAll, TellsOne, TellsSet, both, is_member, is_this, is_which}

module _ (v : ℕ → Bool) where
  -- one value as a set

  abbrev of_value : Edge → Symbolic → Member
  of_value e s = record { present = e; which = which.Value s }

  there_one : (e : Edge) (s : Symbolic) (x : Value) → denoted v s ≡ Some x → All (IsThere v) (of_value e s ∷ [])
  there_one e s x h zero d lt = λ p. (x, h)
  there_one e s x h (suc k) d lt = absurd (let no : ⊥ = omega (arith, lt) in no)

  pub one_as_set : (f e : Edge) (s : Symbolic) (o : Evaluation) → edge_value v e ≡ true → TellsOne v f s o → TellsSet v f (of_value e s ∷ []) o
  one_as_set f e s Nothing h t = tt
  one_as_set f e s (Fault rule place) h t = t
  one_as_set f e s (Values vs) h t = (
    t.0,
    record {
      there = there_one e s t.1.value t.1.denotes;
      same = λ w. ap (list_any (same w)) t.1.only
          ∙ sym (ap (λ (b : Bool). (b && is_this w (denoted v s)) || false) h ∙ ap (λ (o : Option Value). is_this w o || false) t.1.denotes);
    },
  )

  -- a value that is a member, which is there

  here_by : (w : Value) (s : Symbolic) (b e : Bool) → (b ≡ true → (z : Value) × (denoted v s ≡ Some z)) → ((z : Value) → denoted v s ≡ Some z → e ≡ same w z) →
      (b && e) ≡ (b && is_this w (denoted v s))
  here_by w s true e there is =
      let d = there refl in
      is d.0 d.1 ∙ sym (ap (is_this w) d.1)
  here_by w s false e there is = refl

  pub here_value : (w : Value) (m : Member) (s : Symbolic) (r e : Edge) → m.which ≡ which.Value s → IsThere v m → ((z : Value) → denoted v s ≡ Some z → edge_value v e ≡ same w z) →
      edge_value v r ≡ (edge_value v m.present && edge_value v e) → edge_value v r ≡ is_member v w m
  here_value w m s r e k there is h =
      let at : IsDenoted v m.which → IsDenoted v (which.Value s) = subst (IsDenoted v) k in
      h ∙ here_by w s (edge_value v m.present) (edge_value v e) (λ p. at (there p)) is
      ∙ sym (ap (λ (x : Which). edge_value v m.present && is_which v w x) k)

  pub or_same : (a b c d : Bool) → a ≡ c → b ≡ d → (a || b) ≡ (c || d)
  or_same a b c d p q = ap (λ (x : Bool). x || b) p ∙ ap (λ (x : Bool). c || x) q

  pub or_right : (a b : Bool) → b ≡ true → (a || b) ≡ true
  or_right true b h = refl
  or_right false b h = h

  pub here_run : (w : Value) (m : Member) (low high : ℤ) (r e : Edge) → m.which ≡ which.Run low high → edge_value v e ≡ is_between low high w →
      edge_value v r ≡ (edge_value v m.present && edge_value v e) → edge_value v r ≡ is_member v w m
  here_run w m low high r e k is h =
      h ∙ ap (λ (b : Bool). edge_value v m.present && b) is ∙ sym (ap (λ (x : Which). edge_value v m.present && is_which v w x) k)

  pub there_at : (ms : List Member) (i : ℕ) (m : Member) → i < length ms → m ≡ get_or ms i m → All (IsThere v) ms → IsThere v m
  there_at ms i m lt is h = subst (IsThere v) (sym is) (h i m lt)

  -- members where a condition is true

  distribute : (a c b m : Bool) → ((a || (c && b)) || ((c && m) || false)) ≡ (a || (c && (b || m)))
  distribute true c b m = refl
  distribute false true true m = refl
  distribute false true false true = refl
  distribute false true false false = refl
  distribute false false b m = refl

  and_assoc : (c p q : Bool) → ((c && p) && q) ≡ (c && (p && q))
  and_assoc true p q = refl
  and_assoc false p q = refl

  guarded_is : (c : Edge) (m r : Member) (w : Value) → edge_value v r.present ≡ (edge_value v c && edge_value v m.present) → r.which ≡ m.which →
      is_member v w r ≡ (edge_value v c && is_member v w m)
  guarded_is c m r w p k =
      ap (λ (b : Bool). b && is_which v w r.which) p ∙ ap (λ (x : Which). (edge_value v c && edge_value v m.present) && is_which v w x) k
      ∙ and_assoc (edge_value v c) (edge_value v m.present) (is_which v w m.which)

  pub with_one : (c : Edge) (all made more : List Member) (i : ℕ) (m r : Member) (w : Value) → i < length more → m ≡ get_or more i m →
      edge_value v r.present ≡ (edge_value v c && edge_value v m.present) → r.which ≡ m.which →
      list_any (is_member v w) all ≡ (list_any (is_member v w) made || (edge_value v c && list_any (is_member v w) (take i more))) →
      list_any (is_member v w) (all ++ r ∷ []) ≡ (list_any (is_member v w) made || (edge_value v c && list_any (is_member v w) (take (i + 1) more)))
  with_one c all made more i m r w lt is p k h =
      list_any-append (is_member v w) all (r ∷ [])
      ∙ ap (λ (b : Bool). b || (is_member v w r || false)) h
      ∙ ap (λ (b : Bool). (list_any (is_member v w) made || (edge_value v c && list_any (is_member v w) (take i more))) || (b || false)) (guarded_is c m r w p k)
      ∙ distribute (list_any (is_member v w) made) (edge_value v c) (list_any (is_member v w) (take i more)) (is_member v w m)
      ∙ ap (λ (x : Member). list_any (is_member v w) made || (edge_value v c && (list_any (is_member v w) (take i more) || is_member v w x))) is
      ∙ ap (λ (b : Bool). list_any (is_member v w) made || (edge_value v c && b)) (sym (list_any_more (is_member v w) more i m lt))

  or_nothing : (a c : Bool) → a ≡ (a || (c && false))
  or_nothing true c = refl
  or_nothing false true = refl
  or_nothing false false = refl

  pub with_none : (c : Edge) (made more : List Member) (w : Value) → list_any (is_member v w) made ≡ (list_any (is_member v w) made || (edge_value v c && list_any (is_member v w) (take 0 more)))
  with_none c made [] w = or_nothing (list_any (is_member v w) made) (edge_value v c)
  with_none c made (m ∷ more) w = or_nothing (list_any (is_member v w) made) (edge_value v c)

  both_true : (a b : Bool) → (a && b) ≡ true → (a ≡ true) × (b ≡ true)
  both_true true b e = (refl, e)
  both_true false b e = absurd cc

  there_now : (c : Edge) (m r : Member) → edge_value v r.present ≡ (edge_value v c && edge_value v m.present) → r.which ≡ m.which → (edge_value v c ≡ true → IsThere v m) → IsThere v r
  there_now c m r p k h here =
      let two = both_true (edge_value v c) (edge_value v m.present) (sym p ∙ here) in
      subst (IsDenoted v) (sym k) (h two.0 two.1)

  pub there_more : (c : Edge) (all more : List Member) (i : ℕ) (m r : Member) → i < length more → m ≡ get_or more i m →
      edge_value v r.present ≡ (edge_value v c && edge_value v m.present) → r.which ≡ m.which →
      (edge_value v c ≡ true → All (IsThere v) more) → All (IsThere v) all → All (IsThere v) (all ++ r ∷ [])
  there_more c all more i m r lt is p k h so_far =
      All-push (IsThere v) all r so_far (there_now c m r p k (λ q. subst (IsThere v) (sym is) (h q i m lt)))

  -- a value among one member more
  pub among_more : (any here r : Edge) (w : Value) (ms : List Member) (i : ℕ) (m : Member) → i < length ms → m ≡ get_or ms i m →
      edge_value v any ≡ list_any (is_member v w) (take i ms) → edge_value v here ≡ is_member v w m → edge_value v r ≡ (edge_value v any || edge_value v here) →
      edge_value v r ≡ list_any (is_member v w) (take (i + 1) ms)
  among_more any here r w ms i m lt is p q h =
      h ∙ or_same (edge_value v any) (edge_value v here) (list_any (is_member v w) (take i ms)) (is_member v w (get_or ms i m)) p (q ∙ ap (is_member v w) is)
      ∙ sym (list_any_more (is_member v w) ms i m lt)

  -- two sets together

  pub sets_together : (f g r : Edge) (ms ns : List Member) (x o : Evaluation) → edge_value v r ≡ (edge_value v f || edge_value v g) → TellsSet v f ms x → TellsSet v g ns o →
      TellsSet v r (ms ++ ns) (both x o)
  sets_together f g r ms ns Nothing o h a b = tt
  sets_together f g r ms ns (Fault rule place) o h a b = h ∙ ap (λ (x : Bool). x || edge_value v g) a
  sets_together f g r ms ns (Values vs) Nothing h a b = tt
  sets_together f g r ms ns (Values vs) (Fault rule place) h a b = h ∙ or_right (edge_value v f) (edge_value v g) b
  sets_together f g r ms ns (Values vs) (Values ws) h a b = (
    h ∙ or_same (edge_value v f) (edge_value v g) false false a.0 b.0,
    record {
      there = All-append (IsThere v) ms ns a.1.there b.1.there;
      same = λ w. list_any-append (same w) vs ws
          ∙ or_same (list_any (same w) vs) (list_any (same w) ws) (list_any (is_member v w) ms) (list_any (is_member v w) ns) (a.1.same w) (b.1.same w)
          ∙ sym (list_any-append (is_member v w) ms ns);
    },
  )

  -- no operand so far
  pub none_united : (f : Edge) → edge_value v f ≡ false → TellsSet v f [] (Values [])
  none_united f h = (h, record { there = λ k d lt. absurd (let no : ⊥ = omega (arith, lt) in no); same = λ w. refl })

-- the outcomes of all operands

-- one operand more
pub united_push : (vs : List Value) (os : List Evaluation) (o : Evaluation) → united vs (os ++ o ∷ []) ≡ both (united vs os) o
united_push vs [] Nothing = refl
united_push vs [] (Fault rule place) = refl
united_push vs [] (Values ws) = refl
united_push vs (Nothing ∷ os) o = refl
united_push vs (Fault rule place ∷ os) o = refl
united_push vs (Values ws ∷ os) o = united_push (vs ++ ws) os o

pub united_more : (os : List Evaluation) (i : ℕ) → i < length os → united [] (take (i + 1) os) ≡ both (united [] (take i os)) (get_or os i Nothing)
united_more os i lt = ap (united []) (take_more os i Nothing lt) ∙ united_push [] (take i os) (get_or os i Nothing)

-- a set of one operand is that operand
pub united_single : (v : ℕ → Bool) (t : Told) (os : List Evaluation) → TellsAll v (t ∷ []) os → Tells v t (united [] os)
united_single v t [] h = absurd (let no : ⊥ = omega (arith, h.long) in no)
united_single v t (Nothing ∷ []) h = h.each 0
united_single v t (Fault rule place ∷ []) h = h.each 0
united_single v t (Values vs ∷ []) h = h.each 0
united_single v t (o ∷ p ∷ os) h = absurd (let no : ⊥ = omega (arith, h.long) in no)
