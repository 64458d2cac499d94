-- A set has each of its operands, and a choice each of its branches.
use Rattle.std.proofs.Common.{◌≡◌, ℕ, IsTrue, Bool, true, false, ◌||◌, Option, None, Some, Ok, List, [], ◌∷◌, ℤ, pos, negsuc, ◌≤ℤ◌, refl, sym, subst, arith}
use Rattle.std.specs.Prelude.{⊤}
use Rattle.std.specs.Int.{int_max, int_min}
use Rattle.std.specs.List.{fold}
use Rattle.std.proofs.lemmas.Bool.{and_parts, and_from, false≢true}
use Rattle.std.proofs.lemmas.Int.{ints, clamps}
use Rattle.smv_value.specs.declared.value.Value.{Value}
use Rattle.smv_value.specs.declared.value.Value.TheVariants as value
use Rattle.smv_value.specs.Results.{alike, is_int, is_value}
use Rattle.smv_kinds.specs.declared.kind.Interval.{Interval}
use Rattle.smv_kinds.specs.declared.kind.Discrete.{Discrete}
use Rattle.smv_kinds.specs.declared.kind.Kind.{Kind}
use Rattle.smv_kinds.specs.declared.kind.Kind.TheVariants as kind
use Rattle.smv_kinds.specs.declared.kind.Operand.{Operand}
use Rattle.smv_kinds.specs.Intervals.{hull, hull_of}
use Rattle.smv_kinds.specs.Kinds.{both, branch, chosen, chosen_after, given, integers_of, is_boolean, joined, kind_if, members, range_of, ranged, set_of, takes, two}
use Rattle.smv_kind_laws.specs.Values.{HasAll, branches, is_among, is_element, is_in, is_in_some, is_like, is_of_kind}
use Rattle.smv_kind_laws.proofs.Between.{between_from, between_test, within}
use Rattle.smv_kind_laws.proofs.Fitting.{among, given_is, integer_value, mismatched, same_type}

-- of this kind, if it is one
abbrev Holds : Kind → Value → Type 0
Holds kind.Nothing v = ⊤
Holds k v = IsTrue (is_among k v)

-- joining

in_hull_left : (i j : Interval) (z : ℤ) → is_in i z ≡ true → is_in (hull i j) z ≡ true
in_hull_left i j z h =
    let b = between_from i.low i.high z h in
    let p = b.0 in let q = b.1 in
    between_test (int_min i.low j.low) (int_max i.high j.high) z (omega (arith, ints, clamps, p), omega (arith, ints, clamps, q))

in_hull_right : (i j : Interval) (z : ℤ) → is_in j z ≡ true → is_in (hull i j) z ≡ true
in_hull_right i j z h =
    let b = between_from j.low j.high z h in
    let p = b.0 in let q = b.1 in
    between_test (int_min i.low j.low) (int_max i.high j.high) z (omega (arith, ints, clamps, p), omega (arith, ints, clamps, q))

in_some_left : (o p : Option Interval) (z : ℤ) → is_in_some o z ≡ true → is_in_some (hull_of o p) z ≡ true
in_some_left None p z h = absurd (false≢true h)
in_some_left (Some i) None z h = h
in_some_left (Some i) (Some j) z h = in_hull_left i j z h

in_some_right : (o p : Option Interval) (z : ℤ) → is_in_some p z ≡ true → is_in_some (hull_of o p) z ≡ true
in_some_right None p z h = h
in_some_right (Some i) None z h = absurd (false≢true h)
in_some_right (Some i) (Some j) z h = in_hull_right i j z h

or_left : (a b : Bool) → a ≡ true → (a || b) ≡ true
or_left true b h = refl
or_left false b h = absurd (false≢true h)

or_right : (a b : Bool) → b ≡ true → (a || b) ≡ true
or_right true b h = refl
or_right false b h = h

element_left : (d e : Discrete) (v : Value) → is_element d v ≡ true → is_element (both d e) v ≡ true
element_left d e (value.Bool b) h = h
element_left d e (value.Int z) h = in_some_left d.integers e.integers z h
element_left d e (value.Sym n) h = or_left d.symbols e.symbols h
element_left d e (value.Word s w a) h = h

element_right : (d e : Discrete) (v : Value) → is_element e v ≡ true → is_element (both d e) v ≡ true
element_right d e (value.Bool b) h = h
element_right d e (value.Int z) h = in_some_right d.integers e.integers z h
element_right d e (value.Sym n) h = or_right d.symbols e.symbols h
element_right d e (value.Word s w a) h = h

-- a boolean, or a set's
boolean_in_set : (v : Value) → is_among kind.Boolean v ≡ true → is_among kind.BooleanSet v ≡ true
boolean_in_set (value.Bool b) h = refl
boolean_in_set (value.Int z) h = h
boolean_in_set (value.Sym n) h = h
boolean_in_set (value.Word s w a) h = h

holds_if : (b : Bool) (k : Kind) (v : Value) → Holds k v → Holds (kind_if b k) v
holds_if true k v h = h
holds_if false k v h = tt

same_word : (s : Bool) (w : ℕ) (t : Bool) (u : ℕ) (v : Value) → is_among (kind.Word t u) v ≡ true → Holds (kind_if (alike s w t u) (kind.Word s w)) v
same_word s w t u v h = by (alike s w t u) refl
  where
    by : (b : Bool) → alike s w t u ≡ b → Holds (kind_if b (kind.Word s w)) v
    by true e = let P : Kind → Type 0 = λ k. is_among k v ≡ true in subst P (sym (same_type s w t u e)) h
    by false e = tt

holds_left : (x y : Kind) (v : Value) → Holds x v → Holds (joined x y) v
holds_left kind.Boolean kind.Boolean v h = h
holds_left kind.Boolean kind.BooleanSet v h = boolean_in_set v h
holds_left kind.BooleanSet kind.Boolean v h = h
holds_left kind.BooleanSet kind.BooleanSet v h = h
holds_left (kind.Word s w) (kind.Word t u) v h = holds_if (alike s w t u) (kind.Word s w) v h
holds_left (kind.Discrete d) (kind.Discrete e) v h = element_left d e v h
holds_left (kind.Discrete d) (kind.DiscreteSet e) v h = element_left d e v h
holds_left (kind.DiscreteSet d) (kind.Discrete e) v h = element_left d e v h
holds_left (kind.DiscreteSet d) (kind.DiscreteSet e) v h = element_left d e v h
holds_left x y v h = tt

holds_right : (x y : Kind) (v : Value) → Holds y v → Holds (joined x y) v
holds_right kind.Boolean kind.Boolean v h = h
holds_right kind.Boolean kind.BooleanSet v h = h
holds_right kind.BooleanSet kind.Boolean v h = boolean_in_set v h
holds_right kind.BooleanSet kind.BooleanSet v h = h
holds_right (kind.Word s w) (kind.Word t u) v h = same_word s w t u v h
holds_right (kind.Discrete d) (kind.Discrete e) v h = element_right d e v h
holds_right (kind.Discrete d) (kind.DiscreteSet e) v h = element_right d e v h
holds_right (kind.DiscreteSet d) (kind.Discrete e) v h = element_right d e v h
holds_right (kind.DiscreteSet d) (kind.DiscreteSet e) v h = element_right d e v h
holds_right x y v h = tt

holds_set : (x : Kind) (v : Value) → Holds x v → Holds (set_of x) v
holds_set kind.Boolean v h = boolean_in_set v h
holds_set kind.BooleanSet v h = h
holds_set (kind.Discrete d) v h = h
holds_set (kind.DiscreteSet d) v h = h
holds_set x v h = tt

holds_branch : (x : Kind) (v : Value) → Holds x v → Holds (branch x) v
holds_branch kind.Array v h = tt
holds_branch kind.Instance v h = tt
holds_branch x v h = h

to_holds : (x : Kind) (v : Value) → is_among x v ≡ true → Holds x v
to_holds kind.Nothing v h = tt
to_holds x v h = h

of_given : (j k : Kind) (v : Value) → given j ≡ Ok k → Holds j v → is_among k v ≡ true
of_given kind.Nothing k v e h = absurd (mismatched k e)
of_given j k v e h = let P : Kind → Type 0 = λ x. is_among x v ≡ true in subst P (given_is j k e) h

if_given : (b : Bool) (j k : Kind) → given (kind_if b j) ≡ Ok k → given j ≡ Ok k
if_given true j k e = e
if_given false j k e = absurd (mismatched k e)

-- what holds of types holds of values
carried : (x k : Kind) (v : Value) → (Holds x v → is_among k v ≡ true) → IsTrue (is_of_kind x v) → IsTrue (is_of_kind k v)
carried x k v f h =
    let p = and_parts (is_value v) (is_among x v) h in
    and_from (is_value v) (is_among k v) p.0 (f (to_holds x v p.1))

-- sets

abbrev with_member : Kind → Operand → Kind
with_member k y = joined k (set_of y.kind)

holds_fold : (xs : List Operand) (k : Kind) (v : Value) → Holds k v → Holds (fold with_member k xs) v
holds_fold [] k v h = h
holds_fold (x ∷ xs) k v h = holds_fold xs (with_member k x) v (holds_left k (set_of x.kind) v h)

all_folded : (xs : List Operand) (j k : Kind) → given (fold with_member j xs) ≡ Ok k → HasAll k xs
all_folded [] j k e = tt
all_folded (x ∷ xs) j k e = (
  λ v h. carried x.kind k v (λ m. of_given (fold with_member (with_member j x) xs) k v e (holds_fold xs (with_member j x) v (holds_right j (set_of x.kind) v (holds_set x.kind v m)))) h,
  all_folded xs (with_member j x) k e,
)

pub all_members : (xs : List Operand) (k : Kind) → given (members xs) ≡ Ok k → HasAll k xs
all_members [] k e = absurd (mismatched k e)
all_members (x ∷ xs) k e = (
  λ v h. carried x.kind k v (λ m. of_given (fold with_member (set_of x.kind) xs) k v e (holds_fold xs (set_of x.kind) v (holds_set x.kind v m))) h,
  all_folded xs (set_of x.kind) k e,
)

pub all_united : (xs : List Operand) (k : Kind) → two (λ a b. given (joined (set_of a) (set_of b))) xs ≡ Ok k → HasAll k xs
all_united [] k e = absurd (mismatched k e)
all_united (x ∷ []) k e = absurd (mismatched k e)
all_united (x ∷ y ∷ []) k e = all_members (x ∷ y ∷ []) k e
all_united (x ∷ y ∷ z ∷ xs) k e = absurd (mismatched k e)

-- branches

holds_chosen : (xs : List Operand) (j : Kind) (v : Value) → Holds j v → Holds (chosen_after j xs) v
holds_chosen [] j v h = h
holds_chosen (x ∷ []) j v h = holds_left j x.kind v h
holds_chosen (c ∷ x ∷ xs) j v h =
    holds_if (is_boolean c.kind) (chosen_after (joined j x.kind) xs) v (holds_chosen xs (joined j x.kind) v (holds_left j x.kind v h))

all_after : (xs : List Operand) (j k : Kind) → given (chosen_after j xs) ≡ Ok k → HasAll k (branches xs)
all_after [] j k e = tt
all_after (x ∷ []) j k e = (λ v h. carried x.kind k v (λ m. of_given (joined j x.kind) k v e (holds_right j x.kind v m)) h, tt)
all_after (c ∷ x ∷ xs) j k e =
    let d = if_given (is_boolean c.kind) (chosen_after (joined j x.kind) xs) k e in (
      λ v h. carried x.kind k v (λ m. of_given (chosen_after (joined j x.kind) xs) k v d (holds_chosen xs (joined j x.kind) v (holds_right j x.kind v m))) h,
      all_after xs (joined j x.kind) k d,
    )

pub all_branches : (xs : List Operand) (k : Kind) → given (chosen xs) ≡ Ok k → HasAll k (branches xs)
all_branches [] k e = absurd (mismatched k e)
all_branches (x ∷ []) k e = absurd (mismatched k e)
all_branches (c ∷ x ∷ xs) k e =
    let d = if_given (is_boolean c.kind) (chosen_after (branch x.kind) xs) k e in (
      λ v h. carried x.kind k v (λ m. of_given (chosen_after (branch x.kind) xs) k v d (holds_chosen xs (branch x.kind) v (holds_branch x.kind v m))) h,
      all_after xs (branch x.kind) k d,
    )

-- ranges

in_range : (i j : Interval) (a b z : ℤ) → is_in i a ≡ true → is_in j b ≡ true → a ≤ℤ z → z ≤ℤ b → is_in (hull i j) z ≡ true
in_range i j a b z h l low high =
    let x = between_from i.low i.high a h in
    let y = between_from j.low j.high b l in
    let p = x.0 in let q = y.1 in
    between_test (int_min i.low j.low) (int_max i.high j.high) z (omega (arith, ints, clamps, p, low), omega (arith, ints, clamps, q, high))

integer_is_in : (x : Kind) (i : Interval) (a : ℤ) → integers_of x ≡ Some i → is_among x (value.Int a) ≡ true → is_in i a ≡ true
integer_is_in x i a e h =
    let z = integer_value x i (value.Int a) e h in
    let same : z.0 ≡ a = cc (z.1) in
    let P : ℤ → Type 0 = λ y. is_in i y ≡ true in
    subst P same z.2

range_by : (o p : Option Interval) (x y k : Kind) (a b z : ℤ) → integers_of x ≡ o → integers_of y ≡ p → is_among x (value.Int a) ≡ true → is_among y (value.Int b) ≡ true →
    a ≤ℤ z → z ≤ℤ b → given (range_of o p) ≡ Ok k → is_among k (value.Int z) ≡ true
range_by None p x y k a b z i j h l low high e = absurd (mismatched k e)
range_by (Some m) None x y k a b z i j h l low high e = absurd (mismatched k e)
range_by (Some m) (Some n) x y k a b z i j h l low high e =
    of_given (range_of (Some m) (Some n)) k (value.Int z) e (in_range m n a b z (integer_is_in x m a i h) (integer_is_in y n b j l) low high)

pub range_has : (x y k : Kind) (a b z : ℤ) → IsTrue (is_of_kind x (value.Int a)) → IsTrue (is_of_kind y (value.Int b)) → a ≤ℤ z → z ≤ℤ b →
    given (ranged x y) ≡ Ok k → IsTrue (is_of_kind k (value.Int z))
range_has x y k a b z h l low high e =
    let p = and_parts (is_int a) (is_among x (value.Int a)) h in
    let q = and_parts (is_int b) (is_among y (value.Int b)) l in
    let least = between_from (negsuc 2147483647) (pos 2147483647) a p.0 in
    let most = between_from (negsuc 2147483647) (pos 2147483647) b q.0 in
    and_from (is_int z) (is_among k (value.Int z))
    (between_test (negsuc 2147483647) (pos 2147483647) z (within (negsuc 2147483647) (pos 2147483647) a b z least most (low, high)))
    (range_by (integers_of x) (integers_of y) x y k a b z refl refl p.1 q.1 low high e)

-- both sides of an assignment

like_boolean : (v : Value) → is_among kind.Boolean v ≡ true → is_like kind.Boolean v ≡ true
like_boolean (value.Bool b) h = refl
like_boolean (value.Int z) h = h
like_boolean (value.Sym n) h = h
like_boolean (value.Word s w a) h = h

like_set : (v : Value) → is_among kind.BooleanSet v ≡ true → is_like kind.Boolean v ≡ true
like_set (value.Bool b) h = refl
like_set (value.Int z) h = h
like_set (value.Sym n) h = h
like_set (value.Word s w a) h = h

like_word : (s : Bool) (w : ℕ) (v : Value) → is_among (kind.Word s w) v ≡ true → is_like (kind.Word s w) v ≡ true
like_word s w (value.Bool b) h = h
like_word s w (value.Int z) h = h
like_word s w (value.Sym n) h = h
like_word s w (value.Word t u a) h = h

like_element : (d e : Discrete) (v : Value) → is_element e v ≡ true → is_like (kind.Discrete d) v ≡ true
like_element d e (value.Bool b) h = h
like_element d e (value.Int z) h = refl
like_element d e (value.Sym n) h = refl
like_element d e (value.Word s w a) h = h

pub taken_like : (x y : Kind) (v : Value) → takes x y ≡ true → is_among y v ≡ true → is_like x v ≡ true
taken_like kind.Boolean kind.Boolean v e h = like_boolean v h
taken_like kind.Boolean kind.BooleanSet v e h = like_set v h
taken_like (kind.Word s w) (kind.Word t u) v e h =
    let P : Kind → Type 0 = λ k. is_among k v ≡ true in
    like_word s w v (subst P (sym (same_type s w t u e)) h)
taken_like (kind.Discrete d) (kind.Discrete c) v e h = like_element d c v h
taken_like (kind.Discrete d) (kind.DiscreteSet c) v e h = like_element d c v h
taken_like x y v e h = absurd (false≢true e)

pub taken : (x y : Kind) (v : Value) → IsTrue (takes x y) → IsTrue (is_of_kind y v) → IsTrue (is_like x v)
taken x y v e h = taken_like x y v e (among y v h)
