-- From what an operator gives of one, two or three values to what the table promises.
use Rattle.std.proofs.Common.{◌≡◌, ◌<◌, ◌≤◌, ℕ, Bool, true, false, not, ◌&&◌, cond, List, [], ◌∷◌, length, get_or, ℤ, pos, refl, sym, ap, subst, ◌∙◌, arith}
use Rattle.std.specs.Prelude.{Option, None, Some, Result, Ok, Err, IfOk, IfSome, count_by}
use Rattle.std.specs.List.{list_all}
use Rattle.smv_value.specs.declared.operator.Operator.{Operator}
use Rattle.smv_value.specs.declared.operator.Operator.TheVariants as operator
use Rattle.smv_value.specs.declared.value.Value.{Value}
use Rattle.smv_value.specs.declared.value.Value.TheVariants as value
use Rattle.smv_value.specs.declared.value.FaultRule.{FaultRule}
use Rattle.smv_value.specs.Results.{fault_if, fault_of, integer, is_int, is_true, is_value, of_integer, one, result_of, same, second_fault, three, two, unless, value_of}
use Rattle.value_types.proofs.Elements.{and_left, and_right}
use Rattle.bit_graph.specs.declared.edge.Edge.{Edge}
use Rattle.bit_graph.specs.declared.edge.GraphNode.{GraphNode}
use Rattle.bit_graph.specs.Meaning.{Consistent, Denotes, Stands, edge_value}
use Rattle.bit_operators.specs.declared.symbolic.Discrete.{Discrete}
use Rattle.bit_operators.specs.declared.symbolic.Symbolic.{Symbolic}
use Rattle.bit_operators.specs.declared.symbolic.Symbolic.TheVariants as symbolic
use Rattle.bit_operators.specs.Denoting.{ComputesOne, ComputesTwo, ComputesUnless, StandsIn, denoted, integer_of}
use Rattle.bit_numbers.specs.Counts.{AreDenoted}
use Rattle.bit_numbers.proofs.OfOperators.{discretes_one, of_one_integer}
use Rattle.bit_table.specs.Computing.{Computes, ComputesAlways, ComputesThree, is_fault}

-- of one value

one_at : (v : ℕ → Bool) (f : Value → Option Value) (a s : Symbolic) (xs : List Value) (z : Value) → ComputesOne v f a s → AreDenoted v (a ∷ []) xs → list_all is_value xs ≡ true → one f xs ≡ Some z →
    denoted v s ≡ Some z
one_at v f a s [] z h d i e = absurd d
one_at v f a s (x ∷ []) z h d i e = h.gives x z d.0 (and_left (is_value x) (list_all is_value []) i) e
one_at v f a s (x ∷ y ∷ xs) z h d i e = absurd d.1

pub always_one : (v : ℕ → Bool) (o : Operator) (f : Value → Option Value) (a s : Symbolic) → value_of o ≡ one f → fault_of o ≡ (λ (xs : List Value). None) → ComputesOne v f a s →
    ComputesAlways v o (a ∷ []) s
always_one v o f a s ev ef h = record {
  never = λ xs. ap (λ (g : List Value → Option FaultRule). g xs) ef;
  gives = λ xs z d i e. one_at v f a s xs z h d i (sym (ap (λ (g : List Value → Option Value). g xs) ev) ∙ e);
}

-- of two

two_at : (v : ℕ → Bool) (f : Value → Value → Option Value) (a b s : Symbolic) (xs : List Value) (z : Value) → ComputesTwo v f a b s → AreDenoted v (a ∷ b ∷ []) xs → list_all is_value xs ≡ true →
    two f xs ≡ Some z → denoted v s ≡ Some z
two_at v f a b s [] z h d i e = absurd d
two_at v f a b s (x ∷ []) z h d i e = absurd d.1
two_at v f a b s (x ∷ y ∷ []) z h d i e =
    let rest : (is_value y && true) ≡ true = and_right (is_value x) (is_value y && true) i in
    h.gives x y z d.0 d.1.0 (and_left (is_value x) (is_value y && true) i) (and_left (is_value y) true rest) e
two_at v f a b s (x ∷ y ∷ w ∷ xs) z h d i e = absurd d.1.1

pub always_two : (v : ℕ → Bool) (o : Operator) (f : Value → Value → Option Value) (a b s : Symbolic) → value_of o ≡ two f → fault_of o ≡ (λ (xs : List Value). None) → ComputesTwo v f a b s →
    ComputesAlways v o (a ∷ b ∷ []) s
always_two v o f a b s ev ef h = record {
  never = λ xs. ap (λ (g : List Value → Option FaultRule). g xs) ef;
  gives = λ xs z d i e. two_at v f a b s xs z h d i (sym (ap (λ (g : List Value → Option Value). g xs) ev) ∙ e);
}

-- of three

three_at : (v : ℕ → Bool) (f : Value → Value → Value → Option Value) (a b c s : Symbolic) (xs : List Value) (z : Value) → ComputesThree v f a b c s →
    AreDenoted v (a ∷ b ∷ c ∷ []) xs → list_all is_value xs ≡ true → three f xs ≡ Some z → denoted v s ≡ Some z
three_at v f a b c s [] z h d i e = absurd d
three_at v f a b c s (x ∷ []) z h d i e = absurd d.1
three_at v f a b c s (x ∷ y ∷ []) z h d i e = absurd d.1.1
three_at v f a b c s (x ∷ y ∷ w ∷ []) z h d i e =
    let rest : list_all is_value (y ∷ w ∷ []) ≡ true = and_right (is_value x) (list_all is_value (y ∷ w ∷ [])) i in
    let last : list_all is_value (w ∷ []) ≡ true = and_right (is_value y) (list_all is_value (w ∷ [])) rest in
    h.gives x y w z d.0 d.1.0 d.1.1.0 (and_left (is_value x) (list_all is_value (y ∷ w ∷ [])) i) (and_left (is_value y) (list_all is_value (w ∷ [])) rest) (and_left (is_value w) (list_all is_value []) last) e
three_at v f a b c s (x ∷ y ∷ w ∷ u ∷ xs) z h d i e = absurd d.1.1.1

pub always_three : (v : ℕ → Bool) (o : Operator) (f : Value → Value → Value → Option Value) (a b c s : Symbolic) → value_of o ≡ three f → fault_of o ≡ (λ (xs : List Value). None) →
    ComputesThree v f a b c s → ComputesAlways v o (a ∷ b ∷ c ∷ []) s
always_three v o f a b c s ev ef h = record {
  never = λ xs. ap (λ (g : List Value → Option FaultRule). g xs) ef;
  gives = λ xs z d i e. three_at v f a b c s xs z h d i (sym (ap (λ (g : List Value → Option Value). g xs) ev) ∙ e);
}

-- a count

given : {A : Type 0} (c : Bool) (q z : A) → cond c (Some q) None ≡ Some z → Some q ≡ Some z
given true q z h = h
given false q z h = absurd cc

pub always_count : (v : ℕ → Bool) (o : Operator) (ss : List Symbolic) (s : Symbolic) → o ≡ operator.Count →
    ((xs : List Value) → AreDenoted v ss xs → denoted v s ≡ Some (value.Int (pos (count_by is_true xs)))) → ComputesAlways v o ss s
always_count v o ss s eo h = record {
  never = λ xs. ap (λ p. fault_of p xs) eo;
  gives = λ xs z d i e.
      h xs d ∙ given (is_int (pos (count_by is_true xs))) (value.Int (pos (count_by is_true xs))) z (sym (ap (λ p. value_of p xs) eo) ∙ e);
}

-- an index

pub index_given : (v : ℕ → Bool) (a r : Symbolic) (d : Discrete) (l : List Edge) → a ≡ symbolic.Discrete d → l ≡ d.number → denoted v r ≡ Some (value.Int (integer_of v l)) →
    ComputesOne v (of_integer (λ n. n)) a r
index_given v a r d l ia ld er =
    discretes_one v (of_integer (λ n. n)) a r d ia (of_one_integer (λ n. n))
    (λ z i g. er ∙ ap (λ m. Some (value.Int (integer_of v m))) ld ∙ given (is_int (integer_of v d.number)) (value.Int (integer_of v d.number)) z g)

-- the table

record Given (b : Bool) (f : Option FaultRule) (r : Option Value) (z : Value) : Type 0 where
  are_values : b ≡ true
  no_fault : f ≡ None
  value : r ≡ Some z

abbrev ok_of : Option Value → Result (Option Value) FaultRule
ok_of x = Ok x

ok_same : (x y : Option Value) → ok_of x ≡ ok_of y → x ≡ y
ok_same x y e = cc

result_given : (b : Bool) (f : Option FaultRule) (r : Option Value) (z : Value) → cond b (unless f r) (Ok None) ≡ Ok (Some z) → Given b f r z
result_given true None r z h = record { are_values = refl; no_fault = refl; value = ok_same r (Some z) h }
result_given true (Some f) r z h = absurd cc
result_given false f r z h = absurd (let e : None ≡ Some z = ok_same None (Some z) h in cc)

pub computes_always : (v : ℕ → Bool) (o : Operator) (ss : List Symbolic) (s : Symbolic) (e : Edge) → edge_value v e ≡ false → ComputesAlways v o ss s → Computes v o ss s e
computes_always v o ss s e none h = record {
  faults = λ xs d i.
      none ∙ sym (ap (λ b. is_fault (cond b (unless (fault_of o xs) (value_of o xs)) (Ok None))) i ∙ ap (λ f. is_fault (unless f (value_of o xs))) (h.never xs));
  gives = λ xs z d g.
      (let is = result_given (list_all is_value xs) (fault_of o xs) (value_of o xs) z g in h.gives xs z d is.are_values is.value);
}

fault_is : (t : Bool) (rule : FaultRule) (r : Option Value) → t ≡ is_fault (unless (fault_if t rule) r)
fault_is true rule r = refl
fault_is false rule r = refl

none_if : (t : Bool) (rule : FaultRule) → fault_if t rule ≡ None → t ≡ false
none_if true rule h = absurd cc
none_if false rule h = refl

both_values : (x y : Value) → list_all is_value (x ∷ y ∷ []) ≡ true → (is_value x ≡ true) × (is_value y ≡ true)
both_values x y i =
    let rest : (is_value y && true) ≡ true = and_right (is_value x) (is_value y && true) i in
    (and_left (is_value x) (is_value y && true) i, and_left (is_value y) true rest)

unless_faults : (v : ℕ → Bool) (test : Value → Value → Bool) (rule : FaultRule) (f : Value → Value → Option Value) (a b s : Symbolic) (e : Edge) (xs : List Value) → ComputesUnless v test f a b s e →
    AreDenoted v (a ∷ b ∷ []) xs → list_all is_value xs ≡ true → edge_value v e ≡ is_fault (unless (second_fault test rule xs) (two f xs))
unless_faults v test rule f a b s e [] h d i = absurd d
unless_faults v test rule f a b s e (x ∷ []) h d i = absurd d.1
unless_faults v test rule f a b s e (x ∷ y ∷ []) h d i =
    let are = both_values x y i in
    h.faults x y d.0 d.1.0 are.0 are.1 ∙ fault_is (test x y) rule (f x y)
unless_faults v test rule f a b s e (x ∷ y ∷ w ∷ xs) h d i = absurd d.1.1

unless_gives : (v : ℕ → Bool) (test : Value → Value → Bool) (rule : FaultRule) (f : Value → Value → Option Value) (a b s : Symbolic) (e : Edge) (xs : List Value) (z : Value) → ComputesUnless v test f a b s e →
    AreDenoted v (a ∷ b ∷ []) xs → list_all is_value xs ≡ true → second_fault test rule xs ≡ None → two f xs ≡ Some z → denoted v s ≡ Some z
unless_gives v test rule f a b s e [] z h d i n g = absurd d
unless_gives v test rule f a b s e (x ∷ []) z h d i n g = absurd d.1
unless_gives v test rule f a b s e (x ∷ y ∷ []) z h d i n g =
    let are = both_values x y i in
    h.gives x y z d.0 d.1.0 are.0 are.1 (none_if (test x y) rule n) g
unless_gives v test rule f a b s e (x ∷ y ∷ w ∷ xs) z h d i n g = absurd d.1.1

pub computes_unless : (v : ℕ → Bool) (o : Operator) (test : Value → Value → Bool) (rule : FaultRule) (f : Value → Value → Option Value) (a b s : Symbolic) (e : Edge) → value_of o ≡ two f →
    fault_of o ≡ second_fault test rule → ComputesUnless v test f a b s e → Computes v o (a ∷ b ∷ []) s e
computes_unless v o test rule f a b s e ev ef h = record {
  faults = λ xs d i.
      unless_faults v test rule f a b s e xs h d i
      ∙ sym (ap (λ b. is_fault (cond b (unless (fault_of o xs) (value_of o xs)) (Ok None))) i ∙ (λ t. is_fault (unless (ef t xs) (ev t xs))));
  gives = λ xs z d g.
      (let is = result_given (list_all is_value xs) (fault_of o xs) (value_of o xs) z g in
      unless_gives v test rule f a b s e xs z h d is.are_values (sym (λ t. ef t xs) ∙ is.no_fault) (sym (λ t. ev t xs) ∙ is.value));
}

-- of a result that may be missing
pub some_map : {A : Type 0} (P Q : A → Type 0) (r : Option A) → ((s : A) → P s → Q s) → IfSome r P → IfSome r Q
some_map P Q None f h = h
some_map P Q (Some s) f h = f s h

-- operands that are constants

some_same : {A : Type 0} (x y : A) → Some x ≡ Some y → x ≡ y
some_same x y e = cc

pub second_known : (v : ℕ → Bool) (f : Value → Value → Option Value) (a b s : Symbolic) (n : Value) → denoted v b ≡ Some n → ComputesOne v (λ x. f x n) a s → ComputesTwo v f a b s
second_known v f a b s n d h = record {
  gives = λ x y z ea eb ia ib e. h.gives x z ea ia (ap (f x) (some_same n y (sym d ∙ eb)) ∙ e);
}

pub one_known : (v : ℕ → Bool) (f : Value → Option Value) (a s : Symbolic) (n : Value) → denoted v a ≡ Some n → ((z : Value) → f n ≡ Some z → denoted v s ≡ Some z) → ComputesOne v f a s
one_known v f a s n d h = record { gives = λ x z ea ia e. h z (ap f (some_same n x (sym d ∙ ea)) ∙ e) }

pub middle_known : (v : ℕ → Bool) (f : Value → Value → Value → Option Value) (a b c s : Symbolic) (n : Value) → denoted v b ≡ Some n → ComputesTwo v (λ x y. f x n y) a c s → ComputesThree v f a b c s
middle_known v f a b c s n d h = record {
  gives = λ x y w z ea eb ec ix iy iw e. h.gives x w z ea ec ix iw (ap (λ u. f x u w) (some_same n y (sym d ∙ eb)) ∙ e);
}

-- of results that may be missing, over all valuations

pub given_one : (g : List GraphNode) (o : Operator) (f : Value → Option Value) (a : Symbolic) (r : Option Symbolic) → value_of o ≡ one f → fault_of o ≡ (λ (xs : List Value). None) →
    IfSome r (λ s. (v : ℕ → Bool) → Consistent v g → ComputesOne v f a s) → IfSome r (λ s. (v : ℕ → Bool) → Consistent v g → ComputesAlways v o (a ∷ []) s)
given_one g o f a r ev ef h =
    some_map (λ s. (v : ℕ → Bool) → Consistent v g → ComputesOne v f a s) (λ s. (v : ℕ → Bool) → Consistent v g → ComputesAlways v o (a ∷ []) s) r
    (λ s k v q. always_one v o f a s ev ef (k v q)) h

pub plain_one : (g : List GraphNode) (o : Operator) (f : Value → Option Value) (a : Symbolic) (r : Option Symbolic) → value_of o ≡ one f → fault_of o ≡ (λ (xs : List Value). None) →
    IfSome r (λ s. (v : ℕ → Bool) → ComputesOne v f a s) → IfSome r (λ s. (v : ℕ → Bool) → Consistent v g → ComputesAlways v o (a ∷ []) s)
plain_one g o f a r ev ef h =
    some_map (λ s. (v : ℕ → Bool) → ComputesOne v f a s) (λ s. (v : ℕ → Bool) → Consistent v g → ComputesAlways v o (a ∷ []) s) r (λ s k v q. always_one v o f a s ev ef (k v)) h

pub given_two : (g : List GraphNode) (o : Operator) (f : Value → Value → Option Value) (a b : Symbolic) (r : Option Symbolic) → value_of o ≡ two f → fault_of o ≡ (λ (xs : List Value). None) →
    IfSome r (λ s. (v : ℕ → Bool) → Consistent v g → ComputesTwo v f a b s) → IfSome r (λ s. (v : ℕ → Bool) → Consistent v g → ComputesAlways v o (a ∷ b ∷ []) s)
given_two g o f a b r ev ef h =
    some_map (λ s. (v : ℕ → Bool) → Consistent v g → ComputesTwo v f a b s) (λ s. (v : ℕ → Bool) → Consistent v g → ComputesAlways v o (a ∷ b ∷ []) s) r
    (λ s k v q. always_two v o f a b s ev ef (k v q)) h

pub plain_two : (g : List GraphNode) (o : Operator) (f : Value → Value → Option Value) (a b : Symbolic) (r : Option Symbolic) → value_of o ≡ two f → fault_of o ≡ (λ (xs : List Value). None) →
    IfSome r (λ s. (v : ℕ → Bool) → ComputesTwo v f a b s) → IfSome r (λ s. (v : ℕ → Bool) → Consistent v g → ComputesAlways v o (a ∷ b ∷ []) s)
plain_two g o f a b r ev ef h =
    some_map (λ s. (v : ℕ → Bool) → ComputesTwo v f a b s) (λ s. (v : ℕ → Bool) → Consistent v g → ComputesAlways v o (a ∷ b ∷ []) s) r (λ s k v q. always_two v o f a b s ev ef (k v)) h

pub given_three : (g : List GraphNode) (o : Operator) (f : Value → Value → Value → Option Value) (a b c : Symbolic) (r : Option Symbolic) → value_of o ≡ three f → fault_of o ≡ (λ (xs : List Value). None) →
    IfSome r (λ s. (v : ℕ → Bool) → Consistent v g → ComputesThree v f a b c s) → IfSome r (λ s. (v : ℕ → Bool) → Consistent v g → ComputesAlways v o (a ∷ b ∷ c ∷ []) s)
given_three g o f a b c r ev ef h =
    some_map (λ s. (v : ℕ → Bool) → Consistent v g → ComputesThree v f a b c s) (λ s. (v : ℕ → Bool) → Consistent v g → ComputesAlways v o (a ∷ b ∷ c ∷ []) s) r
    (λ s k v q. always_three v o f a b c s ev ef (k v q)) h

pub given_count : (g : List GraphNode) (o : Operator) (ss : List Symbolic) (r : Option Symbolic) → o ≡ operator.Count →
    IfSome r (λ s. (v : ℕ → Bool) (xs : List Value) → Consistent v g → AreDenoted v ss xs → denoted v s ≡ Some (value.Int (pos (count_by is_true xs)))) →
    IfSome r (λ s. (v : ℕ → Bool) → Consistent v g → ComputesAlways v o ss s)
given_count g o ss r eo h =
    some_map (λ s. (v : ℕ → Bool) (xs : List Value) → Consistent v g → AreDenoted v ss xs → denoted v s ≡ Some (value.Int (pos (count_by is_true xs))))
    (λ s. (v : ℕ → Bool) → Consistent v g → ComputesAlways v o ss s) r (λ s k v q. always_count v o ss s eo (λ xs d. k v xs q d)) h

-- the second operand is a constant
pub by_constant : (g : List GraphNode) (f : Value → Value → Option Value) (a b : Symbolic) (r : Option Symbolic) (y n : ℤ) → y ≡ n → ((v : ℕ → Bool) → Consistent v g → denoted v b ≡ Some (value.Int n)) →
    IfSome r (λ s. (v : ℕ → Bool) → Consistent v g → ComputesOne v (λ x. f x (value.Int y)) a s) → IfSome r (λ s. (v : ℕ → Bool) → Consistent v g → ComputesTwo v f a b s)
by_constant g f a b r y n e d h =
    some_map (λ s. (v : ℕ → Bool) → Consistent v g → ComputesOne v (λ x. f x (value.Int y)) a s) (λ s. (v : ℕ → Bool) → Consistent v g → ComputesTwo v f a b s) r
    (λ s k v q. second_known v f a b s (value.Int y) (d v q ∙ ap (λ z. Some (value.Int z)) (sym e)) (k v q)) h

-- the bounds of a selection are constants
pub by_top : (g : List GraphNode) (f : Value → Value → Value → Option Value) (a b c : Symbolic) (r : Option Symbolic) (y n : ℤ) → y ≡ n → ((v : ℕ → Bool) → Consistent v g → denoted v b ≡ Some (value.Int n)) →
    IfSome r (λ s. (v : ℕ → Bool) → Consistent v g → ComputesTwo v (λ x w. f x (value.Int y) w) a c s) → IfSome r (λ s. (v : ℕ → Bool) → Consistent v g → ComputesThree v f a b c s)
by_top g f a b c r y n e d h =
    some_map (λ s. (v : ℕ → Bool) → Consistent v g → ComputesTwo v (λ x w. f x (value.Int y) w) a c s) (λ s. (v : ℕ → Bool) → Consistent v g → ComputesThree v f a b c s) r
    (λ s k v q. middle_known v f a b c s (value.Int y) (d v q ∙ ap (λ z. Some (value.Int z)) (sym e)) (k v q)) h

pub by_bottom : (g : List GraphNode) (f : Value → Value → Value → Option Value) (a b : Symbolic) (r : Option Symbolic) (m t y n : ℤ) → m ≡ t → y ≡ n →
    ((v : ℕ → Bool) → Consistent v g → denoted v b ≡ Some (value.Int n)) → IfSome r (λ s. (v : ℕ → Bool) → ComputesOne v (λ x. f x (value.Int m) (value.Int y)) a s) →
    IfSome r (λ s. (v : ℕ → Bool) → Consistent v g → ComputesTwo v (λ x w. f x (value.Int t) w) a b s)
by_bottom g f a b r m t y n em e d h =
    subst (λ u. IfSome r (λ s. (v : ℕ → Bool) → Consistent v g → ComputesTwo v (λ x w. f x (value.Int u) w) a b s)) em
    (some_map (λ s. (v : ℕ → Bool) → ComputesOne v (λ x. f x (value.Int m) (value.Int y)) a s) (λ s. (v : ℕ → Bool) → Consistent v g → ComputesTwo v (λ x w. f x (value.Int m) w) a b s) r
    (λ s k v q. second_known v (λ x w. f x (value.Int m) w) a b s (value.Int y) (d v q ∙ ap (λ z. Some (value.Int z)) (sym e)) (k v)) h)

pub of_constant : (g : List GraphNode) (f : Value → Value → Option Value) (a : Symbolic) (r : Option Symbolic) (m n w t : ℤ) → m ≡ n → w ≡ t → ((v : ℕ → Bool) → Consistent v g → denoted v a ≡ Some (value.Int n)) →
    IfSome r (λ s. (v : ℕ → Bool) (x : Value) → Consistent v g → f (value.Int m) (value.Int w) ≡ Some x → denoted v s ≡ Some x) →
    IfSome r (λ s. (v : ℕ → Bool) → Consistent v g → ComputesOne v (λ x. f x (value.Int t)) a s)
of_constant g f a r m n w t em ew d h =
    subst (λ u. IfSome r (λ s. (v : ℕ → Bool) → Consistent v g → ComputesOne v (λ x. f x (value.Int u)) a s)) ew
    (some_map (λ s. (v : ℕ → Bool) (x : Value) → Consistent v g → f (value.Int m) (value.Int w) ≡ Some x → denoted v s ≡ Some x)
    (λ s. (v : ℕ → Bool) → Consistent v g → ComputesOne v (λ x. f x (value.Int w)) a s) r
    (λ s k v q. one_known v (λ x. f x (value.Int w)) a s (value.Int m) (d v q ∙ ap (λ z. Some (value.Int z)) (sym em)) (λ z e. k v z q e)) h)

pub same_constant : (g : List GraphNode) (f : Value → Value → Option Value) (a : Symbolic) (r : Option Symbolic) (m n : ℤ) → m ≡ n →
    IfSome r (λ s. (v : ℕ → Bool) → Consistent v g → ComputesOne v (λ x. f x (value.Int m)) a s) → IfSome r (λ s. (v : ℕ → Bool) → Consistent v g → ComputesOne v (λ x. f x (value.Int n)) a s)
same_constant g f a r m n e h = subst (λ u. IfSome r (λ s. (v : ℕ → Bool) → Consistent v g → ComputesOne v (λ x. f x (value.Int u)) a s)) e h

-- comparisons

pub compared_is : (g : List GraphNode) (v : ℕ → Bool) (a b : Symbolic) (e : Edge) →
    ((x y : Value) → denoted v a ≡ Some x → denoted v b ≡ Some y → edge_value v e ≡ same x y) → ComputesTwo v (λ x y. Some (value.Bool (same x y))) a b (symbolic.Boolean e)
compared_is g v a b e h = record { gives = λ x y z ea eb ix iy q. ap (λ t. Some (value.Bool t)) (h x y ea eb) ∙ q }

pub differ_is : (g : List GraphNode) (v : ℕ → Bool) (a b : Symbolic) (e n : Edge) → edge_value v n ≡ not (edge_value v e) →
    ((x y : Value) → denoted v a ≡ Some x → denoted v b ≡ Some y → edge_value v e ≡ same x y) → ComputesTwo v (λ x y. Some (value.Bool (not (same x y)))) a b (symbolic.Boolean n)
differ_is g v a b e n en h = record { gives = λ x y z ea eb ix iy q. ap (λ t. Some (value.Bool t)) (en ∙ ap not (h x y ea eb)) ∙ q }

-- the table's two answers

pub pair_is : {A : Type 0} (xs : List A) (a b : A) → 2 ≤ length xs → length xs < 3 → a ≡ get_or xs 0 a → b ≡ get_or xs 1 b → xs ≡ a ∷ b ∷ []
pair_is [] a b l m h k = absurd (omega arith)
pair_is (x ∷ []) a b l m h k = absurd (omega arith)
pair_is (x ∷ y ∷ []) a b l m h k = λ i. sym h i ∷ sym k i ∷ []
pair_is (x ∷ y ∷ z ∷ xs) a b l m h k = absurd (omega arith)

pub given_unless : {E : Type 0} (g : List GraphNode) (o : Operator) (test : Value → Value → Bool) (rule : FaultRule) (f : Value → Value → Option Value) (ss : List Symbolic) (a b : Symbolic)
    (made : Option (Symbolic × Edge)) (r : Result (Symbolic × Edge) E) → ss ≡ a ∷ b ∷ [] → value_of o ≡ two f → fault_of o ≡ second_fault test rule → IfOk r (λ p. made ≡ Some p) →
    IfSome made (λ p. (v : ℕ → Bool) → Consistent v g → ComputesUnless v test f a b p.0 p.1) → IfOk r (λ p. (v : ℕ → Bool) → Consistent v g → Computes v o ss p.0 p.1)
given_unless g o test rule f ss a b made (Err e) es ev ef h k = h
given_unless g o test rule f ss a b made (Ok p) es ev ef h k =
    let fact = subst (λ m. IfSome m (λ q. (v : ℕ → Bool) → Consistent v g → ComputesUnless v test f a b q.0 q.1)) h k in
    λ v c. subst (λ l. Computes v o l p.0 p.1) (sym es) (computes_unless v o test rule f a b p.0 p.1 ev ef (fact v c))

pub always_stands : {E : Type 0} (g : List GraphNode) (made : Option Symbolic) (r : Result (Symbolic × Edge) E) → IfOk r (λ p. made ≡ Some p.0) → IfOk r (λ p. Stands g p.1) → IfSome made (λ s. StandsIn g s) →
    IfOk r (λ p. StandsIn g p.0 × Stands g p.1)
always_stands g made (Err e) h k s = h
always_stands g made (Ok p) h k s = (subst (λ m. IfSome m (λ q. StandsIn g q)) h s, k)

pub always_value : {E : Type 0} (g : List GraphNode) (o : Operator) (ss : List Symbolic) (made : Option Symbolic) (r : Result (Symbolic × Edge) E) → IfOk r (λ p. made ≡ Some p.0) →
    IfOk r (λ p. Denotes g p.1 (λ v. false)) → IfSome made (λ s. (v : ℕ → Bool) → Consistent v g → ComputesAlways v o ss s) → IfOk r (λ p. (v : ℕ → Bool) → Consistent v g → Computes v o ss p.0 p.1)
always_value g o ss made (Err e) h k s = h
always_value g o ss made (Ok p) h k s =
    let fact = subst (λ m. IfSome m (λ q. (v : ℕ → Bool) → Consistent v g → ComputesAlways v o ss q)) h s in
    λ v c. computes_always v o ss p.0 p.1 (k v c) (fact v c)
