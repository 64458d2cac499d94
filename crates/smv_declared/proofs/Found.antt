-- The constants of nodes are those of the expressions that they are.
use Rattle.std.proofs.Common.{◌≡◌, ℕ, zero, suc, ◌+◌, ◌-◌, ◌<◌, Bool, true, false, ◌||◌, ◌⊎◌, inl, inr, List, [], ◌∷◌, ◌++◌, map, length, drop, take, slice_index_or, IfOk, Result, refl, sym, ap, subst, ◌∙◌}
use Rattle.std.proofs.lemmas.List.{map-append}
use Rattle.smv_tree.specs.Places.{start}
use Rattle.smv_tree.specs.declared.place.Place.{Place}
use Rattle.smv_tree.specs.declared.tree.Program.{Program}
use Rattle.smv_tree.specs.declared.tree.Expr.TheVariants as expr
use Rattle.smv_value.specs.declared.value.Value.{Value}
use Rattle.smv_value.specs.declared.operator.Arithmetic.{Arithmetic}
use Rattle.smv_value.specs.declared.operator.Division.{Division}
use Rattle.smv_value.specs.declared.operator.Operator.{Operator}
use Rattle.smv_value.specs.declared.operator.Operator.TheVariants as operator
use Rattle.smv_resolve.specs.declared.node.ExprNode.{ExprNode}
use Rattle.smv_resolve.specs.Resolved.{Operands, Resolved, is_some_stuck, is_stuck, last_of, operands_of, part_at, all_levels, parts_of, resolved_by, wholly_resolved}
use Rattle.smv_resolve.proofs.NodesOf.{levelled-constant}
use Rattle.smv_resolve.proofs.Parts.{parts_of-next}
use Rattle.smv_declared.specs.declared.constant.Constant.{Constant}
use Rattle.smv_declared.specs.declared.constant.Constant.TheVariants.{NotConstant, Integer}
use Rattle.smv_declared.specs.Constants.{constant_of, constant_of_value, constants_of, operated, negated, summed, quotient}

-- what an answer is, told in another way
pub told_as : {E : Type 0} (r : Result Constant E) (x y : Constant) → IfOk r (λ c. c ≡ x) → x ≡ y → IfOk r (λ c. c ≡ y)
told_as r x y h e = subst (λ (z : Constant). IfOk r (λ c. c ≡ z)) e h

pub at_mapped : {A B : Type 0} (f : A → B) (xs : List A) (k : ℕ) (d : A) (e : B) → f d ≡ e → slice_index_or (map f xs) k e ≡ f (slice_index_or xs k d)
at_mapped f [] k d e same = sym same
at_mapped f (x ∷ xs) zero d e same = refl
at_mapped f (x ∷ xs) (suc k) d e same = at_mapped f xs k d e same

pub constants_same : (rs : List Resolved) → constants_of (operands_of rs) ≡ map constant_of rs
constants_same [] = refl
constants_same (r ∷ rs) = ap (λ cs. constant_of r ∷ cs) (constants_same rs)

drop-mapped : {A B : Type 0} (f : A → B) (k : ℕ) (xs : List A) → drop k (map f xs) ≡ map f (drop k xs)
drop-mapped f zero xs = refl
drop-mapped f (suc k) [] = refl
drop-mapped f (suc k) (x ∷ xs) = drop-mapped f k xs

length-mapped : {A B : Type 0} (f : A → B) (xs : List A) → length (map f xs) ≡ length xs
length-mapped f [] = refl
length-mapped f (x ∷ xs) = ap (λ n. suc n) (length-mapped f xs)

pub last_mapped : {A B : Type 0} (f : A → B) (count : ℕ) (xs : List A) → last_of count (map f xs) ≡ map f (last_of count xs)
last_mapped f count xs = ap (λ n. drop (n - count) (map f xs)) (length-mapped f xs) ∙ drop-mapped f (length xs - count) xs

pub found_at : (parts : List Resolved) (table : List Constant) (k : ℕ) → table ≡ map constant_of parts → slice_index_or table k NotConstant ≡ constant_of (part_at parts k)
found_at parts table k is = ap (λ cs. slice_index_or cs k NotConstant) is ∙ at_mapped constant_of parts k Resolved.Stuck NotConstant refl

pub operated_last : (o : Operator) (count : ℕ) (parts : List Resolved) (table : List Constant) → table ≡ map constant_of parts →
    operated o (last_of count table) ≡ constant_of (Resolved.Apply start o (operands_of (last_of count parts)))
operated_last o count parts table is = ap (operated o) (ap (last_of count) is ∙ last_mapped constant_of count parts ∙ sym (constants_same (last_of count parts)))

pub operated_two : (o : Operator) (parts : List Resolved) (a b : ℕ) (x y : Constant) → x ≡ constant_of (part_at parts a) → y ≡ constant_of (part_at parts b) →
    operated o (x ∷ y ∷ []) ≡ operated o (constant_of (part_at parts a) ∷ constant_of (part_at parts b) ∷ [])
operated_two o parts a b x y e f = ap (λ c. operated o (c ∷ y ∷ [])) e ∙ ap (λ c. operated o (constant_of (part_at parts a) ∷ c ∷ [])) f

-- a literal
pub literal : (p : Program) (at : ℕ) (place : Place) (v : Value) → constant_of (wholly_resolved p at (expr.Constant place v)) ≡ constant_of_value v
literal p at place v = ap constant_of (levelled-constant p at all_levels all_levels place v)

-- what has a part that is no constant is none

sum_first : (o : Arithmetic) (a b : Constant) → a ≡ NotConstant → summed o a b ≡ NotConstant
sum_first o a b e = ap (λ c. summed o c b) e

sum_second : (o : Arithmetic) (a b : Constant) → b ≡ NotConstant → summed o a b ≡ NotConstant
sum_second o NotConstant b e = refl
sum_second o (Integer z) b e = ap (λ c. summed o (Integer z) c) e

quotient_first : (o : Division) (a b : Constant) → a ≡ NotConstant → quotient o a b ≡ NotConstant
quotient_first o a b e = ap (λ c. quotient o c b) e

quotient_second : (o : Division) (a b : Constant) → b ≡ NotConstant → quotient o a b ≡ NotConstant
quotient_second o NotConstant b e = refl
quotient_second o (Integer z) b e = ap (λ c. quotient o (Integer z) c) e

either : (a b : Bool) → (a || b) ≡ true → (a ≡ true) ⊎ (b ≡ true)
either true b e = inl refl
either false b e = inr e

last_one : (a : Bool) → (a || false) ≡ true → a ≡ true
last_one true e = refl
last_one false e = e

-- what has a part that is stuck is no constant
mutual
  pub stuck_is_none : (r : Resolved) → is_stuck r ≡ true → constant_of r ≡ NotConstant
  stuck_is_none (Resolved.Constant place v) e = absurd (let no : ⊥ = cc in no)
  stuck_is_none (Resolved.Slot place n) e = refl
  stuck_is_none (Resolved.Whole place at) e = refl
  stuck_is_none (Resolved.Named place naming r) e = stuck_is_none r e
  stuck_is_none (Resolved.Next place r) e = refl
  stuck_is_none (Resolved.Apply place o rs) e = stuck_operated o rs e
  stuck_is_none Resolved.Stuck e = refl

  stuck_operated : (o : Operator) (rs : Operands) → is_some_stuck rs ≡ true → operated o (constants_of rs) ≡ NotConstant
  stuck_operated operator.Negate Operands.End e = refl
  stuck_operated operator.Negate (Operands.With a Operands.End) e = ap negated (stuck_is_none a (last_one (is_stuck a) e))
  stuck_operated operator.Negate (Operands.With a (Operands.With b Operands.End)) e = refl
  stuck_operated operator.Negate (Operands.With a (Operands.With b (Operands.With c rs))) e = refl
  stuck_operated (operator.Arithmetic o) Operands.End e = refl
  stuck_operated (operator.Arithmetic o) (Operands.With a Operands.End) e = refl
  stuck_operated (operator.Arithmetic o) (Operands.With a (Operands.With b Operands.End)) e = elim (either (is_stuck a) _ e) [
    | inl i ↦ sum_first o (constant_of a) (constant_of b) (stuck_is_none a i)
    | inr i ↦ sum_second o (constant_of a) (constant_of b) (stuck_is_none b (last_one (is_stuck b) i))
  ]
  stuck_operated (operator.Arithmetic o) (Operands.With a (Operands.With b (Operands.With c rs))) e = refl
  stuck_operated (operator.Division o) Operands.End e = refl
  stuck_operated (operator.Division o) (Operands.With a Operands.End) e = refl
  stuck_operated (operator.Division o) (Operands.With a (Operands.With b Operands.End)) e = elim (either (is_stuck a) _ e) [
    | inl i ↦ quotient_first o (constant_of a) (constant_of b) (stuck_is_none a i)
    | inr i ↦ quotient_second o (constant_of a) (constant_of b) (stuck_is_none b (last_one (is_stuck b) i))
  ]
  stuck_operated (operator.Division o) (Operands.With a (Operands.With b (Operands.With c rs))) e = refl
  stuck_operated other Operands.End e = refl
  stuck_operated other (Operands.With a Operands.End) e = refl
  stuck_operated other (Operands.With a (Operands.With b Operands.End)) e = refl
  stuck_operated other (Operands.With a (Operands.With b (Operands.With c rs))) e = refl

-- the constants of the nodes so far, and of one more
pub constants_next : (nodes : List ExprNode) (i : ℕ) (d : ExprNode) → i < length nodes →
    map constant_of (parts_of (take (i + 1) nodes)) ≡ map constant_of (parts_of (take i nodes)) ++ constant_of (resolved_by (parts_of (take i nodes)) (slice_index_or nodes i d)) ∷ []
constants_next nodes i d within =
    ap (map constant_of) (parts_of-next nodes i d within) ∙ map-append constant_of (parts_of (take i nodes)) (resolved_by (parts_of (take i nodes)) (slice_index_or nodes i d) ∷ [])

pub one_more : (nodes : List ExprNode) (i : ℕ) (d : ExprNode) (table new : List Constant) (x : Constant) → i < length nodes → table ≡ map constant_of (parts_of (take i nodes)) →
    ((parts : List Resolved) → table ≡ map constant_of parts → x ≡ constant_of (resolved_by parts (slice_index_or nodes i d))) → new ≡ table ++ x ∷ [] →
    new ≡ map constant_of (parts_of (take (i + 1) nodes))
one_more nodes i d table new x within told more is =
    let parts = parts_of (take i nodes) in
    is ∙ ap (λ y. table ++ y ∷ []) (more parts told) ∙ ap (λ xs. xs ++ constant_of (resolved_by parts (slice_index_or nodes i d)) ∷ []) told ∙ sym (constants_next nodes i d within)
