-- What is told of stuck parts follows from what is told of their parts.
use Rattle.std.proofs.Common.{◌≡◌, ℕ, zero, suc, ◌+◌, ◌-◌, ◌<◌, ◌≤◌, true, false, nat_lt, List, [], ◌∷◌, ◌++◌, length, get_or, map, take, drop, Option, Some, None, Result, Ok, Err, refl, sym, ap, ◌∙◌, arith}
use Rattle.std.specs.Option.{option_or}
use Rattle.std.proofs.lemmas.Bool.Decides.{nat_tests}
use Rattle.std.proofs.lemmas.Bool.{cond-true, cond-false}
use Rattle.std.proofs.lemmas.List.{map-append, take_more, take_all, take-append-drop}
use Rattle.std.proofs.lemmas.Simd.{map-map}
use Rattle.smv_tree.specs.declared.place.Place.{Place}
use Rattle.smv_value.specs.declared.operator.Operator.{Operator}
use Rattle.smv_value.specs.declared.value.Value.{Value}
use Rattle.smv_tree.specs.declared.tree.Name.{Name}
use Rattle.smv_tree.specs.declared.tree.Program.{Program}
use Rattle.smv_tree.specs.declared.tree.Expr.{Expr}
use Rattle.smv_tree.specs.declared.tree.Expr.TheOpen.{Expr-F}
use Rattle.smv_tree.specs.declared.tree.Expr.TheFolds.{fold-roll-Expr}
use Rattle.smv_tree.specs.declared.tree.Expr.TheVariants as expr
use Rattle.smv_scope.proofs.Indexing.{drop_next}
use Rattle.smv_resolve.specs.declared.node.ExprNode.{ExprNode}
use Rattle.smv_resolve.specs.declared.memo.FoundNode.{FoundNode}
use Rattle.smv_resolve.specs.declared.memo.ResolveError.{ResolveError}
use Rattle.smv_resolve.specs.declared.memo.ResolveError.TheVariants as error
use Rattle.smv_resolve.specs.declared.memo.Memo.{Memo}
use Rattle.smv_resolve.specs.Resolved.{Resolved, Levelled, followed, is_stuck}
use Rattle.smv_resolve.specs.Finding.{AllKnown, Grows, IsFound, Finds, UnlessMemory, error_at}
use Rattle.smv_resolve.specs.StuckParts.{first_told, stuck_below, stuck_at, stuck_name, stuck_operands, stuck_links, stuck_node, stuck_over, stuck_part, TellsPart, FindsOrTells}
use Rattle.smv_resolve.specs.declared.resolve.ResolveStop.{ResolveStop}
use Rattle.smv_resolve.specs.declared.resolve.ResolveStop.TheVariants as stop
use Rattle.smv_resolve.specs.Listing.{FindsRoot, told_at}

-- where a node is stuck, over its parts

operands-map : {A : Type 0} (place : Place) (g : A → ℕ → Option Place) (beside below : List A) (d : ℕ) →
    stuck_operands place (λ (e : ℕ → Option Place). e) (map g beside) (map g below) d ≡ stuck_operands place g beside below d
operands-map place g beside below d =
    ap (λ (xs : List (Option Place)). first_told (xs ++ map (λ e. stuck_below place e d) (map g below))) (map-map (λ (e : ℕ → Option Place). e d) g beside)
    ∙ ap (λ (xs : List (Option Place)). first_told (map (λ x. g x d) beside ++ xs)) (map-map (λ (e : ℕ → Option Place). stuck_below place e d) g below)

links-map : {A : Type 0} (g : A → ℕ → Option Place) (first : A) (links : List (Place × Operator × A)) (d : ℕ) →
    stuck_links (λ (e : ℕ → Option Place). e) (g first) (map (λ (link : Place × Operator × A). (link.0, link.1, g link.2)) links) d ≡ stuck_links g first links d
links-map {A} g first links d =
    ap (λ (xs : List (Option Place)). option_or (g first d) (first_told xs))
    (map-map (λ (link : Place × Operator × (ℕ → Option Place)). link.2 d) (λ (link : Place × Operator × A). (link.0, link.1, g link.2)) links)

module _ (p : Program) (at n d : ℕ) where
  pub part-constant : (place : Place) (v : Value) → stuck_part p n at (expr.Constant place v) d ≡ None
  unfolding stuck_over
  part-constant place v =
      ap (λ e. stuck_part p n at e d) (sym (expr.rolls-Constant place v)) ∙ ap (λ f. f d) (fold-roll-Expr (ℕ → Option Place) (stuck_node p (followed p n) at) (Expr-F.Constant place v))

  pub part-name : (name : Name) → stuck_part p n at (expr.Name name) d ≡ stuck_name p (followed p n) at name d
  unfolding stuck_over
  part-name name =
      ap (λ e. stuck_part p n at e d) (sym (expr.rolls-Name name)) ∙ ap (λ f. f d) (fold-roll-Expr (ℕ → Option Place) (stuck_node p (followed p n) at) (Expr-F.Name name))

  pub part-group : (place : Place) (e : Expr) → stuck_part p n at (expr.Group place e) d ≡ stuck_below place (stuck_part p n at e) d
  unfolding stuck_over
  part-group place e =
      ap (λ e. stuck_part p n at e d) (sym (expr.rolls-Group place e)) ∙ ap (λ f. f d) (fold-roll-Expr (ℕ → Option Place) (stuck_node p (followed p n) at) (Expr-F.Group place e))

  pub part-next : (place : Place) (e : Expr) → stuck_part p n at (expr.Next place e) d ≡ stuck_below place (stuck_part p n at e) d
  unfolding stuck_over
  part-next place e =
      ap (λ e. stuck_part p n at e d) (sym (expr.rolls-Next place e)) ∙ ap (λ f. f d) (fold-roll-Expr (ℕ → Option Place) (stuck_node p (followed p n) at) (Expr-F.Next place e))

  pub part-apply : (place : Place) (o : Operator) (beside below : List Expr) → stuck_part p n at (expr.Apply place o beside below) d ≡ stuck_operands place (stuck_part p n at) beside below d
  unfolding stuck_over
  part-apply place o beside below =
      ap (λ e. stuck_part p n at e d) (sym (expr.rolls-Apply place o beside below))
      ∙ ap (λ f. f d) (fold-roll-Expr (ℕ → Option Place) (stuck_node p (followed p n) at) (Expr-F.Apply place o beside below))
      ∙ operands-map place (stuck_part p n at) beside below d

  pub part-chain : (first : Expr) (links : List (Place × Operator × Expr)) → stuck_part p n at (expr.Chain first links) d ≡ stuck_links (stuck_part p n at) first links d
  unfolding stuck_over
  part-chain first links =
      ap (λ e. stuck_part p n at e d) (sym (expr.rolls-Chain first links))
      ∙ ap (λ f. f d) (fold-roll-Expr (ℕ → Option Place) (stuck_node p (followed p n) at) (Expr-F.Chain first links))
      ∙ links-map (stuck_part p n at) first links d

-- what is everywhere what another is
pub tells_along : (most : ℕ) (f g : ℕ → ℕ → Option Place) (r : Result FoundNode ResolveError) → ((n d : ℕ) → g n d ≡ f n d) → TellsPart most f r → TellsPart most g r
tells_along most f g (Ok x) e told = λ n w. e n most ∙ told n w
tells_along most f g (Err (error.Stuck place)) e told = λ n w. e n most ∙ told n w
tells_along most f g (Err error.NoMemory) e told = tt

-- what is told of an error is told whichever nodes there are: a level down

pub none_below : (most : ℕ) (place : Place) (part : ℕ → ℕ → Option Place) → most ≡ 0 → TellsPart most (λ n. stuck_below place (part n)) (Err (error.Stuck place))
none_below most place part is = rw is (λ n w. refl)

pub tells_below : (most : ℕ) (place : Place) (part : ℕ → ℕ → Option Place) (x : FoundNode) → 0 < most → TellsPart (most - 1) part (Ok x) → (n : ℕ) → most ≤ n → stuck_below place (part n) most ≡ None
tells_below zero place part x some told = absurd (omega (arith, some))
tells_below (suc d) place part x some told = λ n w. let less : suc d - 1 ≡ d = omega arith in (rw less at told) n (omega (arith, w))

pub halts_below : (most : ℕ) (place : Place) (part : ℕ → ℕ → Option Place) (h : ResolveError) → 0 < most → TellsPart (most - 1) part (Err h) → TellsPart most (λ n. stuck_below place (part n)) (Err h)
halts_below zero place part h some told = absurd (omega (arith, some))
halts_below (suc d) place part error.NoMemory some told = tt
halts_below (suc d) place part (error.Stuck at) some told = λ n w. let less : suc d - 1 ≡ d = omega arith in (rw less at told) n (omega (arith, w))

-- a name

not_below : (d h : ℕ) → h ≤ d → nat_lt d h ≡ false
not_below d h l = grind (arith, nat_tests)

pub name_found : (nodes : List ExprNode) (most : ℕ) (place : Place) (f : ℕ → Levelled) (x : FoundNode) → IsFound nodes most f x → (n : ℕ) → most ≤ n → stuck_at place (f n most) ≡ None
name_found nodes most place f x i = λ n w. cond-false (is_stuck (f n most)) (Some place) None (i.settles.stuck n most w ∙ not_below most x.height i.within)

pub name_stuck : (nodes : List ExprNode) (most : ℕ) (place here told : Place) (f : ℕ → Levelled) → here ≡ place → Finds nodes most f (Err (error.Stuck told)) →
    TellsPart most (λ n d. stuck_at place (f n d)) (Err (error.Stuck here))
name_stuck nodes most place here told f same stuck = λ n w. cond-true (is_stuck (f n most)) (Some place) None (stuck n w) ∙ ap (λ (q : Place). Some q) (sym same)

pub name_halts : (nodes : List ExprNode) (most : ℕ) (place here : Place) (f : ℕ → Levelled) (h : ResolveError) → here ≡ place → Finds nodes most f (Err h) →
    TellsPart most (λ n d. stuck_at place (f n d)) (Err (error_at h here))
name_halts nodes most place here f (error.Stuck told) same stuck = name_stuck nodes most place here told f same stuck
name_halts nodes most place here f error.NoMemory same stuck = tt

-- an error that is told elsewhere

pub halts_elsewhere : (nodes : List ExprNode) (most : ℕ) (here : Place) (f : ℕ → Levelled) (h : ResolveError) → Finds nodes most f (Err h) → Finds nodes most f (Err (error_at h here))
halts_elsewhere nodes most here f (error.Stuck told) stuck = stuck
halts_elsewhere nodes most here f error.NoMemory stuck = tt

pub known_elsewhere : (p : Program) (w : Memo) (here : Place) (h : ResolveError) → UnlessMemory {A = FoundNode} (Err h) (AllKnown p w) → UnlessMemory {A = FoundNode} (Err (error_at h here)) (AllKnown p w)
known_elsewhere p w here (error.Stuck told) known = known
known_elsewhere p w here error.NoMemory known = tt

pub grows_elsewhere : (old new : List ExprNode) (here : Place) (h : ResolveError) → UnlessMemory {A = FoundNode} (Err h) (Grows old new) → UnlessMemory {A = FoundNode} (Err (error_at h here)) (Grows old new)
grows_elsewhere old new here (error.Stuck told) grows = grows
grows_elsewhere old new here error.NoMemory grows = tt

-- a constant is never stuck
pub constant_free : (nodes : List ExprNode) (most : ℕ) (place : Place) (v : Value) (part : ℕ → ℕ → Option Place) (r : Result FoundNode ResolveError) → ((n d : ℕ) → part n d ≡ None) →
    Finds nodes most (λ n d. Resolved.Constant place v) r → TellsPart most part r
constant_free nodes most place v part (Ok x) none finds = λ n w. none n most
constant_free nodes most place v part (Err (error.Stuck told)) none finds = absurd (let no : false ≡ true = finds most (omega arith) in cc)
constant_free nodes most place v part (Err error.NoMemory) none finds = tt

-- the first of several

first_told-append : (xs ys : List (Option Place)) → first_told (xs ++ ys) ≡ option_or (first_told xs) (first_told ys)
first_told-append [] ys = refl
first_told-append (None ∷ xs) ys = first_told-append xs ys
first_told-append (Some x ∷ xs) ys = refl

or_none : (a b : Option Place) → a ≡ None → b ≡ None → option_or a b ≡ None
or_none a b p q = ap (λ o. option_or o b) p ∙ q

or_first : (a b : Option Place) (place : Place) → a ≡ Some place → option_or a b ≡ Some place
or_first a b place p = ap (λ o. option_or o b) p

or_second : (a b : Option Place) (place : Place) → a ≡ None → b ≡ Some place → option_or a b ≡ Some place
or_second a b place p q = ap (λ o. option_or o b) p ∙ q

module _ {A : Type 0} (f : A → Option Place) (xs : List A) (i : ℕ) (x : A) (within : i < length xs) (here : x ≡ get_or xs i x) (before : first_told (map f (take i xs)) ≡ None) where
  none_more : f x ≡ None → first_told (map f (take (i + 1) xs)) ≡ None
  none_more none =
      ap (λ ys. first_told (map f ys)) (take_more xs i x within)
      ∙ ap first_told (map-append f (take i xs) (get_or xs i x ∷ []))
      ∙ first_told-append (map f (take i xs)) (f (get_or xs i x) ∷ [])
      ∙ or_none (first_told (map f (take i xs))) (first_told (f (get_or xs i x) ∷ [])) before (or_none (f (get_or xs i x)) None (ap f (sym here) ∙ none) refl)

  first_here : (place : Place) → f x ≡ Some place → first_told (map f xs) ≡ Some place
  first_here place told =
      ap (λ ys. first_told (map f ys)) (sym (take-append-drop i xs))
      ∙ ap first_told (map-append f (take i xs) (drop i xs))
      ∙ first_told-append (map f (take i xs)) (map f (drop i xs))
      ∙ or_second (first_told (map f (take i xs))) (first_told (map f (drop i xs))) place before
      (ap (λ ys. first_told (map f ys)) (drop_next xs i x within here) ∙ or_first (f x) (first_told (map f (drop (i + 1) xs))) place told)

none_all : {A : Type 0} (f : A → Option Place) (xs : List A) (i : ℕ) → length xs ≤ i → first_told (map f (take i xs)) ≡ None → first_told (map f xs) ≡ None
none_all f xs i past none = ap (λ ys. first_told (map f ys)) (sym (take_all i xs past)) ∙ none

-- operands beside an operator at this place, and others below it

-- where expressions of an instance are stuck
abbrev pub part_at : Program → ℕ → ℕ → Expr → ℕ → Option Place
part_at p at n e = stuck_part p n at e

-- and so a level down
abbrev pub below_part : Place → (ℕ → Expr → ℕ → Option Place) → ℕ → Expr → ℕ → Option Place
below_part place part n e = stuck_below place (part n e)

-- none of these is stuck
abbrev pub NoneOf : {A : Type 0} → ℕ → (ℕ → A → ℕ → Option Place) → List A → Type 0
NoneOf most part xs = (n : ℕ) → most ≤ n → first_told (map (λ e. part n e most) xs) ≡ None

pub none_of_none : {A : Type 0} (most : ℕ) (part : ℕ → A → ℕ → Option Place) → NoneOf most part []
none_of_none most part = λ n w. refl

pub none_of_more : {A : Type 0} (most : ℕ) (part : ℕ → A → ℕ → Option Place) (xs : List A) (i : ℕ) (x : A) → i < length xs → x ≡ get_or xs i x →
    ((n : ℕ) → most ≤ n → part n x most ≡ None) → NoneOf most part (take i xs) → NoneOf most part (take (i + 1) xs)
none_of_more most part xs i x within here none before = λ n w. none_more (λ e. part n e most) xs i x within here (before n w) (none n w)

pub none_of_all : {A : Type 0} (most : ℕ) (part : ℕ → A → ℕ → Option Place) (xs : List A) (i : ℕ) → length xs ≤ i → NoneOf most part (take i xs) → NoneOf most part xs
none_of_all most part xs i past none = λ n w. none_all (λ e. part n e most) xs i past (none n w)

module _ (place : Place) (part : ℕ → Expr → ℕ → Option Place) (beside below : List Expr) (most : ℕ) where
  pub beside_halts : (i : ℕ) (e : Expr) (h : ResolveError) → i < length beside → e ≡ get_or beside i e → NoneOf most part (take i beside) → TellsPart most (λ n. part n e) (Err h) →
      TellsPart most (λ n. stuck_operands place (part n) beside below) (Err h)
  beside_halts i e error.NoMemory within here none told = tt
  beside_halts i e (error.Stuck q) within here none told = λ n w.
      first_told-append (map (λ x. part n x most) beside) (map (λ x. stuck_below place (part n x) most) below)
      ∙ or_first (first_told (map (λ x. part n x most) beside)) (first_told (map (λ x. stuck_below place (part n x) most) below)) q
      (first_here (λ x. part n x most) beside i e within here (none n w) q (told n w))

  pub below_halts : (i : ℕ) (e : Expr) (h : ResolveError) → i < length below → e ≡ get_or below i e → NoneOf most part beside →
      NoneOf most (below_part place part) (take i below) → TellsPart most (λ n. stuck_below place (part n e)) (Err h) →
      TellsPart most (λ n. stuck_operands place (part n) beside below) (Err h)
  below_halts i e error.NoMemory within here first none told = tt
  below_halts i e (error.Stuck q) within here first none told = λ n w.
      first_told-append (map (λ x. part n x most) beside) (map (λ x. stuck_below place (part n x) most) below)
      ∙ or_second (first_told (map (λ x. part n x most) beside)) (first_told (map (λ x. stuck_below place (part n x) most) below)) q (first n w)
      (first_here (λ x. stuck_below place (part n x) most) below i e within here (none n w) q (told n w))

  pub operands_free : (i : ℕ) → length below ≤ i → NoneOf most part beside → NoneOf most (below_part place part) (take i below) →
      (n : ℕ) → most ≤ n → stuck_operands place (part n) beside below most ≡ None
  operands_free i past first none = λ n w.
      first_told-append (map (λ x. part n x most) beside) (map (λ x. stuck_below place (part n x) most) below)
      ∙ or_none (first_told (map (λ x. part n x most) beside)) (first_told (map (λ x. stuck_below place (part n x) most) below)) (first n w)
      (none_all (λ x. stuck_below place (part n x) most) below i past (none n w))

-- a chain

-- what a link adds
abbrev pub link_part : (ℕ → Expr → ℕ → Option Place) → ℕ → Place × Operator × Expr → ℕ → Option Place
link_part part n link levels = part n link.2 levels

module _ (part : ℕ → Expr → ℕ → Option Place) (first : Expr) (links : List (Place × Operator × Expr)) (most : ℕ) where
  pub first_halts : (h : ResolveError) → TellsPart most (λ n. part n first) (Err h) → TellsPart most (λ n. stuck_links (part n) first links) (Err h)
  first_halts error.NoMemory told = tt
  first_halts (error.Stuck q) told = λ n w. or_first (part n first most) (first_told (map (λ link. link_part part n link most) links)) q (told n w)

  pub link_halts : (i : ℕ) (link : Place × Operator × Expr) (h : ResolveError) → i < length links → link ≡ get_or links i link → ((n : ℕ) → most ≤ n → part n first most ≡ None) →
      NoneOf most (link_part part) (take i links) → TellsPart most (λ n. part n link.2) (Err h) → TellsPart most (λ n. stuck_links (part n) first links) (Err h)
  link_halts i link error.NoMemory within here start none told = tt
  link_halts i link (error.Stuck q) within here start none told = λ n w.
      or_second (part n first most) (first_told (map (λ link. link_part part n link most) links)) q (start n w)
      (first_here (λ link. link_part part n link most) links i link within here (none n w) q (told n w))

  pub links_free : (i : ℕ) → length links ≤ i → ((n : ℕ) → most ≤ n → part n first most ≡ None) → NoneOf most (link_part part) (take i links) →
      (n : ℕ) → most ≤ n → stuck_links (part n) first links most ≡ None
  links_free i past start none = λ n w.
      or_none (part n first most) (first_told (map (λ link. link_part part n link most) links)) (start n w)
      (none_all (λ link. link_part part n link most) links i past (none n w))

-- what is told at another place
pub root_told : (nodes : List ExprNode) (r : Resolved) (part : Option Place) (place : Place) (h : ResolveStop) → FindsOrTells nodes r part (Err h) → FindsRoot nodes r place (Err (told_at h place))
root_told nodes r part place (stop.Stuck told) stuck = (refl, stuck.1)
root_told nodes r part place stop.NoMemory stuck = tt
