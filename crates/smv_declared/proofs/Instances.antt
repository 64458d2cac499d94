-- What names nothing is the same in each instance, and what is left says of each instance what all declarations do.
use Rattle.std.proofs.Common.{◌≡◌, ℕ, zero, suc, ◌+◌, ◌<◌, Bool, true, false, List, [], ◌∷◌, ◌++◌, map, length, get_or, take, Option, None, Some, refl, sym, ap, subst, ◌∙◌, ⊎_elim, Bor}
use Rattle.std.specs.Prelude.{Vec, nat_eq}
use Rattle.std.specs.Map.{update}
use Rattle.std.proofs.lemmas.Bool.{eqb-true, cases_Bool}
use Rattle.std.proofs.lemmas.Map.{update_same, update_other}
use Rattle.std.proofs.lemmas.Option.{same_Some}
use Rattle.std.specs.List.{flat_map}
use Rattle.std.proofs.lemmas.List.{map-append, take_more}
use Rattle.smv_value.specs.declared.operator.Operator.{Operator}
use Rattle.smv_value.specs.declared.value.Value.{Value}
use Rattle.smv_tree.specs.declared.place.Place.{Place}
use Rattle.smv_tree.specs.declared.refusal.Refusal.{Refusal}
use Rattle.smv_tree.specs.declared.tree.Program.{Program}
use Rattle.smv_tree.specs.declared.tree.Section.{Section}
use Rattle.smv_tree.specs.declared.tree.Dimension.{Dimension}
use Rattle.smv_tree.specs.declared.tree.Expr.{Expr}
use Rattle.smv_tree.specs.declared.tree.Expr.TheVariants as expr
use Rattle.smv_tree.specs.declared.tree.TypeExpr.TheVariants as written
use Rattle.smv_tree.specs.declared.tree.Variable.{Variable}
use Rattle.smv_tree.specs.declared.tree.VariableKind.{VariableKind}
use Rattle.smv_scope.specs.Instances.{module_at}
use Rattle.smv_scope.specs.Modules.{sections_of, variables_in}
use Rattle.smv_resolve.specs.Resolved.{Resolved, all_levels, followed, levelled, opened, operands_of, resolved_links}
use Rattle.smv_resolve.proofs.NodesOf.{levelled-constant, levelled-group, levelled-apply, levelled-chain}
use Rattle.smv_verdicts.specs.Verdicts.{first_of, or_else}
use Rattle.smv_declared.specs.declared.constant.Constant.{Constant}
use Rattle.smv_declared.specs.declared.limits.Limits.{Limits}
use Rattle.smv_declared.specs.declared.limits.ElementLimits.{ElementLimits}
use Rattle.smv_declared.specs.declared.limits.ElementLimits.TheVariants as limit
use Rattle.smv_declared.specs.Closed.{AreClosed, AreClosedDimensions, AreClosedLimits, AreClosedLinks, AreJudged, IsAlike, IsClosed, IsClosedType, IsClosedVariable, SayAll, SayInSections, read, refusal_of}
use Rattle.smv_declared.specs.Constants.{constant_of}
use Rattle.smv_declared.specs.Refusals.{dimension_limits, element_limits, instance_refusal, limits_refusal, place_of, types_refusal_in, written_elements}
use Rattle.smv_declared.specs.Types.{bound_of}
use Rattle.smv_declared.proofs.Adding.{first_of_both}
use Rattle.smv_declared.proofs.Kept.{first_none, second_none}

-- a literal is the same wherever it stands
pub alike-constant : (place : Place) (v : Value) → IsAlike (expr.Constant place v)
unfolding followed
alike-constant place v p zero at to d = refl
alike-constant place v p (suc n) at to d = levelled-constant p at n d place v ∙ sym (levelled-constant p to n d place v)

-- what is made of each, one more
pub taken : {A B : Type 0} (f : A → B) (xs : List A) (i : ℕ) (x : A) → i < length xs → x ≡ get_or xs i x → map f (take (i + 1) xs) ≡ map f (take i xs) ++ f x ∷ []
taken {A} f xs i x within is =
    ap (map f) (take_more xs i x within ∙ ap (λ (y : A). take i xs ++ y ∷ []) (sym is)) ∙ map-append f (take i xs) (x ∷ [])

links-last : (f : Expr → Resolved) (left : Resolved) (links : List (Place × Operator × Expr)) (x : Place × Operator × Expr) →
    resolved_links f left (links ++ x ∷ []) ≡ Resolved.Apply x.0 x.1 (operands_of (resolved_links f left links ∷ f x.2 ∷ []))
links-last f left [] x = refl
links-last f left (link ∷ links) x = links-last f (Resolved.Apply link.0 link.1 (operands_of (left ∷ f link.2 ∷ []))) links x

-- In the instances of the module of this one.
module _ (p : Program) (from : ℕ) where
  -- Expressions.

  pub closed-constant : (place : Place) (v : Value) → IsClosed p from (expr.Constant place v)
  closed-constant place v to same n d = levelled-constant p to n d place v ∙ sym (levelled-constant p from n d place v)

  opened_same : (e : Expr) → IsClosed p from e → (to : ℕ) → module_at p to ≡ module_at p from → (n d : ℕ) → opened (levelled p n to e) d ≡ opened (levelled p n from e) d
  opened_same e closed to same n zero = refl
  opened_same e closed to same n (suc d) = closed to same n d

  pub closed-group : (place : Place) (e : Expr) → IsClosed p from e → IsClosed p from (expr.Group place e)
  closed-group place e closed to same n d = levelled-group p to n d place e ∙ opened_same e closed to same n d ∙ sym (levelled-group p from n d place e)

  pub closed-apply : (place : Place) (o : Operator) (beside below : List Expr) → AreClosed p from beside → AreClosed p from below → IsClosed p from (expr.Apply place o beside below)
  closed-apply place o beside below near under to same n d =
      let there = λ (e : Expr). levelled p n to e d in
      let here = λ (e : Expr). levelled p n from e d in
      let there_below = λ (e : Expr). opened (levelled p n to e) d in
      let here_below = λ (e : Expr). opened (levelled p n from e) d in
      let first : map there beside ≡ map here beside = near there here (λ e closed. closed to same n d) in
      let second : map there_below below ≡ map here_below below = under there_below here_below (λ e closed. opened_same e closed to same n d) in
      levelled-apply p to n d place o beside below
      ∙ ap (λ (rs : List Resolved). Resolved.Apply place o (operands_of (rs ++ map there_below below))) first
      ∙ ap (λ (rs : List Resolved). Resolved.Apply place o (operands_of (map here beside ++ rs))) second
      ∙ sym (levelled-apply p from n d place o beside below)

  pub closed-chain : (first : Expr) (links : List (Place × Operator × Expr)) → IsClosed p from first → AreClosedLinks p from links → IsClosed p from (expr.Chain first links)
  closed-chain first links closed all to same n d =
      let there = λ (e : Expr). levelled p n to e d in
      let here = λ (e : Expr). levelled p n from e d in
      levelled-chain p to n d first links
      ∙ ap (λ (left : Resolved). resolved_links there left links) (closed to same n d)
      ∙ all there here (λ e known. known to same n d) (levelled p n from first d)
      ∙ sym (levelled-chain p from n d first links)

  pub closed_more : (es : List Expr) (i : ℕ) (e : Expr) → i < length es → e ≡ get_or es i e → AreClosed p from (take i es) → IsClosed p from e → AreClosed p from (take (i + 1) es)
  closed_more es i e within is before here f g same =
      taken f es i e within is
      ∙ ap (λ (rs : List Resolved). rs ++ f e ∷ []) (before f g same)
      ∙ ap (λ (r : Resolved). map g (take i es) ++ r ∷ []) (same e here)
      ∙ sym (taken g es i e within is)

  pub links_more : (links : List (Place × Operator × Expr)) (i : ℕ) (x : Place × Operator × Expr) → i < length links → x ≡ get_or links i x → AreClosedLinks p from (take i links) →
      IsClosed p from x.2 → AreClosedLinks p from (take (i + 1) links)
  links_more links i x within is before here f g same left =
      let one : take (i + 1) links ≡ take i links ++ x ∷ [] = take_more links i x within ∙ ap (λ (y : Place × Operator × Expr). take i links ++ y ∷ []) (sym is) in
      ap (resolved_links f left) one ∙ links-last f left (take i links) x
      ∙ ap (λ (r : Resolved). Resolved.Apply x.0 x.1 (operands_of (r ∷ f x.2 ∷ []))) (before f g same left)
      ∙ ap (λ (r : Resolved). Resolved.Apply x.0 x.1 (operands_of (resolved_links g left (take i links) ∷ r ∷ []))) (same x.2 here)
      ∙ sym (ap (resolved_links g left) one ∙ links-last g left (take i links) x)

  -- Types.

  closed_bound : (e : Expr) → IsClosed p from e → (to : ℕ) → module_at p to ≡ module_at p from → bound_of p to e ≡ bound_of p from e
  closed_bound e closed to same = ap constant_of (closed to same all_levels all_levels)

  pub closed_limits : (low high : Expr) → IsClosed p from low → IsClosed p from high → AreClosedLimits p from low high
  closed_limits low high first second to same =
      ap {B = Limits} (λ (c : Constant). record { low_place = place_of low; low = c; high_place = place_of high; high = bound_of p to high }) (closed_bound low first to same)
      ∙ ap {B = Limits} (λ (c : Constant). record { low_place = place_of low; low = bound_of p from low; high_place = place_of high; high = c }) (closed_bound high second to same)

  pub closed_word : (place : Place) (signed : Bool) (width : Expr) → IsClosed p from width → IsClosedType p from (written.Word place signed width)
  closed_word place signed width closed to same = ap (limit.Width (place_of width)) (closed_bound width closed to same)

  pub closed_range : (place : Place) (low high : Expr) → AreClosedLimits p from low high → IsClosedType p from (written.Range place low high)
  closed_range place low high closed to same = ap limit.Range (closed to same)

  pub dimensions_more : (ds : List Dimension) (i : ℕ) (d : Dimension) → i < length ds → d ≡ get_or ds i d → AreClosedDimensions p from (take i ds) → AreClosedLimits p from d.low d.high →
      AreClosedDimensions p from (take (i + 1) ds)
  dimensions_more ds i d within is before here to same =
      taken (dimension_limits p to) ds i d within is
      ∙ ap (λ (ls : List Limits). ls ++ dimension_limits p to d ∷ []) (before to same)
      ∙ ap (λ (l : Limits). map (dimension_limits p from) (take i ds) ++ l ∷ []) (here to same)
      ∙ sym (taken (dimension_limits p from) ds i d within is)

  pub closed_variable : (v : Variable) → AreClosedDimensions p from v.dimensions → IsClosedType p from v.declared → IsClosedVariable p from v
  closed_variable v outer inner to same kind =
      ap (λ (ls : List Limits). or_else (instance_refusal kind v.dimensions v.declared) (limits_refusal p ls (element_limits p to v.declared) (written_elements v.declared))) (outer to same)
      ∙ ap (λ (l : ElementLimits). or_else (instance_refusal kind v.dimensions v.declared) (limits_refusal p (map (dimension_limits p from) v.dimensions) l (written_elements v.declared)))
      (inner to same)

-- Declarations.

or_none : (r : Option Refusal) → or_else r None ≡ r
or_none None = refl
or_none (Some r) = refl

split : {A : Type 0} (rule : A → Option Refusal) (xs : List A) (x : A) → first_of rule (xs ++ x ∷ []) ≡ or_else (first_of rule xs) (rule x)
split rule xs x = first_of_both rule xs (x ∷ []) ∙ ap (or_else (first_of rule xs)) (or_none (rule x))

or_else_none : (a b : Option Refusal) → b ≡ None → or_else a b ≡ a
or_else_none None b e = e
or_else_none (Some r) b e = refl

-- one more, which is left out if it says the same in each instance
module _ (p : Program) (from : ℕ) (all again : List (VariableKind × Variable)) (x : VariableKind × Variable) where
  before_none : first_of (refusal_of p from) (all ++ x ∷ []) ≡ None → first_of (refusal_of p from) all ≡ None
  before_none e = first_none (first_of (refusal_of p from) all) (refusal_of p from x) (sym (split (refusal_of p from) all x) ∙ e)

  here_none : first_of (refusal_of p from) (all ++ x ∷ []) ≡ None → refusal_of p from x ≡ None
  here_none e = second_none (first_of (refusal_of p from) all) (refusal_of p from x) (sym (split (refusal_of p from) all x) ∙ e)

  pub say_more : SayAll p from all again → SayAll p from (all ++ x ∷ []) (again ++ x ∷ [])
  say_more before e to same =
      split (refusal_of p to) again x
      ∙ ap (λ (r : Option Refusal). or_else r (refusal_of p to x)) (before (before_none e) to same)
      ∙ sym (split (refusal_of p to) all x)

  pub say_less : IsClosedVariable p from x.1 → SayAll p from all again → SayAll p from (all ++ x ∷ []) again
  say_less closed before e to same =
      before (before_none e) to same
      ∙ sym (or_else_none (first_of (refusal_of p to) all) (refusal_of p to x) (closed to same x.0 ∙ here_none e))
      ∙ sym (split (refusal_of p to) all x)

-- the rules of sections are those of their variables
pub rules_in : (p : Program) (at : ℕ) (ss : List Section) → first_of (types_refusal_in p at) ss ≡ first_of (refusal_of p at) (flat_map variables_in ss)
rules_in p at [] = refl
rules_in p at (s ∷ ss) = ap (or_else (types_refusal_in p at s)) (rules_in p at ss) ∙ sym (first_of_both (refusal_of p at) (variables_in s) (flat_map variables_in ss))

pub say_in_sections : (p : Program) (from : ℕ) (ss : List Section) (all again : List (VariableKind × Variable)) → all ≡ flat_map variables_in ss → SayAll p from all again →
    first_of (types_refusal_in p from) ss ≡ None → SayInSections p (module_at p from) ss again
say_in_sections p from ss all again is say none to same =
    rules_in p to ss ∙ sym (ap (first_of (refusal_of p to)) is)
    ∙ sym (say (ap (first_of (refusal_of p from)) is ∙ sym (rules_in p from ss) ∙ none) to same)

-- one module more is noted, if what is noted is right
pub judged_more : {Z : Type 0} (p : Program) (old new : ℕ → Option (Vec (VariableKind × Bor Variable) Z)) (m : ℕ) (again : Vec (VariableKind × Bor Variable) Z) →
    ((q : ℕ) → new q ≡ update nat_eq old m (Some again) q) → SayInSections p (Some m) (sections_of p m) (read again.items) → AreJudged p old → AreJudged p new
judged_more {Z} p old new m again e here before q r is =
    ⊎_elim
    (λ (h : nat_eq m q ≡ true).
    let same : m ≡ q = eqb-true m q h in
    let one : Some again ≡ Some r = sym (update_same nat_eq old m (Some again) q h) ∙ sym (e q) ∙ is in
    let this : again ≡ r = same_Some again r one in
    let P : ℕ → Type 0 = λ k. SayInSections p (Some k) (sections_of p k) (read again.items) in
    let Q : Vec (VariableKind × Bor Variable) Z → Type 0 = λ v. SayInSections p (Some q) (sections_of p q) (read v.items) in
    subst Q this (subst P same here))
    (λ (h : nat_eq m q ≡ false). before q r (sym (update_other nat_eq old m (Some again) q h) ∙ sym (e q) ∙ is))
    (cases_Bool (nat_eq m q))
