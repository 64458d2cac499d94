-- What is found of expressions follows from what is found of their parts.
use Rattle.std.proofs.Common.{◌≡◌, inl, inr, ℕ, zero, suc, ◌+◌, ◌-◌, ◌<◌, ◌≤◌, max, Bool, true, false, ◌||◌, nat_lt, List, [], ◌∷◌, ◌++◌, length, get_or, map, take, Result, Ok, Err, refl, sym, ap, subst, ◌∙◌, arith, append_assoc, append-nil}
use Rattle.std.specs.List.{All}
use Rattle.std.proofs.lemmas.List.Elements.{All-append, All-cons, All-nil}
use Rattle.std.proofs.Math.Nat.{le-max_left, le-max_right}
use Rattle.std.proofs.lemmas.Bool.Decides.{nat_tests}
use Rattle.std.proofs.lemmas.Bool.{cases_lt, or_left, or_right, lt-ltb}
use Rattle.std.proofs.lemmas.List.{map-append, take_more, take_all}
use Rattle.smv_tree.specs.declared.place.Place.{Place}
use Rattle.smv_tree.specs.declared.tree.Program.{Program}
use Rattle.smv_value.specs.declared.operator.Operator.{Operator}
use Rattle.smv_tree.specs.declared.tree.Expr.{Expr}
use Rattle.smv_resolve.specs.declared.node.ExprNode.{ExprNode}
use Rattle.smv_scope.specs.declared.target.Shared.{Shared}
use Rattle.smv_resolve.specs.declared.memo.FoundNode.{FoundNode}
use Rattle.smv_resolve.specs.declared.memo.ResolveError.{ResolveError}
use Rattle.smv_resolve.specs.declared.memo.ResolveError.TheVariants as error
use Rattle.smv_resolve.specs.Resolved.{Resolved, Levelled, operands_of, opened, lowered, resolved_links, resolved_operands, followed, levelled, is_stuck, is_some_stuck, part_of}
use Rattle.smv_resolve.specs.Finding.{Settles, IsFound, Finds, Grows, shared_target, below_target, Known}

settles_along : {f g : ℕ → Levelled} {h : ℕ} {r : Resolved} → ((n d : ℕ) → g n d ≡ f n d) → Settles f h r → Settles g h r
settles_along e s = record { value = λ n d w l. e n d ∙ s.value n d w l; stuck = λ n d w. ap is_stuck (e n d) ∙ s.stuck n d w }

-- what is everywhere what another is
pub found_along : {nodes : List ExprNode} {most : ℕ} {f : ℕ → Levelled} {x : FoundNode} (g : ℕ → Levelled) → ((n d : ℕ) → g n d ≡ f n d) → IsFound nodes most f x → IsFound nodes most g x
found_along g e i = record { stands = i.stands; within = i.within; settles = settles_along e i.settles }

pub finds_along : (nodes : List ExprNode) (most : ℕ) (f g : ℕ → Levelled) (r : Result FoundNode ResolveError) → ((n d : ℕ) → g n d ≡ f n d) → Finds nodes most f r → Finds nodes most g r
finds_along nodes most f g (Ok x) e found = found_along g e found
finds_along nodes most f g (Err (error.Stuck place)) e stuck = λ n w. ap is_stuck (e n most) ∙ stuck n w
finds_along nodes most f g (Err error.NoMemory) e stuck = tt

either_below : (h k d : ℕ) → (nat_lt d h || nat_lt d k) ≡ nat_lt d (max h k)
either_below h k d = grind (arith, nat_tests)

-- a node with two parts
module _ (g : Resolved → Resolved → Resolved) (same : (r s : Resolved) → is_stuck (g r s) ≡ (is_stuck r || is_stuck s)) where
  pub found_two : {one two new : List ExprNode} {most : ℕ} {f e : ℕ → Levelled} {x y : FoundNode} {n : ℕ} → IsFound one most f x → Grows one two → IsFound two most e y →
      n < length new → part_of new n ≡ g (part_of two x.node) (part_of two y.node) →
      IsFound new most (λ names d. g (f names d) (e names d)) (record { node = n; height = max x.height y.height })
  found_two {two = two} {f = f} {e = e} {x = x} {y = y} i grows j stands is = record {
    stands = stands;
    within = omega (arith, i.within, j.within);
    settles = record {
      value = λ n d w l.
          let low : x.height ≤ d = omega (arith, l, le-max_left x.height y.height) in
          let high : y.height ≤ d = omega (arith, l, le-max_right x.height y.height) in
          ap (λ r. g r (e n d)) (i.settles.value n d w low ∙ sym (grows.kept x.node i.stands)) ∙ ap (g (part_of two x.node)) (j.settles.value n d w high) ∙ sym is;
      stuck = λ n d w.
          same (f n d) (e n d) ∙ ap (λ b. b || is_stuck (e n d)) (i.settles.stuck n d w) ∙ ap (λ b. nat_lt d x.height || b) (j.settles.stuck n d w) ∙ either_below x.height y.height d;
    };
  }

-- one level down

below_none : (h : ℕ) → true ≡ nat_lt 0 (h + 1)
below_none h = grind (arith, nat_tests)

below_one : (h d : ℕ) → nat_lt d h ≡ nat_lt (suc d) (h + 1)
below_one h d = grind (arith, nat_tests)

less_both : (k h x : ℕ) → h ≤ k → nat_lt (k - h) x ≡ nat_lt k (x + h)
less_both k h x l = grind (arith, nat_tests)

-- f is g a level down, where a name more may be followed in f
module _ (f g : ℕ → Levelled) (none : (n : ℕ) → is_stuck (g n 0) ≡ true) (m : ℕ → ℕ) (within : (n d : ℕ) → suc d ≤ n → d ≤ m n) (down : (n d : ℕ) → suc d ≤ n → g n (suc d) ≡ f (m n) d) where
  found_down : (nodes : List ExprNode) (d : ℕ) (x : FoundNode) → 0 < d → IsFound nodes (d - 1) f x → IsFound nodes d g (record { node = x.node; height = x.height + 1 })
  found_down nodes d x some i = record {
    stands = i.stands;
    within = omega (arith, i.within, some);
    settles = record { value = value; stuck = stuck };
  } where
    value : (n k : ℕ) → k ≤ n → x.height + 1 ≤ k → g n k ≡ part_of nodes x.node
    value n zero w l = absurd (omega (arith, l))
    value n (suc k) w l = down n k w ∙ i.settles.value (m n) k (within n k w) (omega (arith, l))

    stuck : (n k : ℕ) → k ≤ n → is_stuck (g n k) ≡ nat_lt k (x.height + 1)
    stuck n zero w = none n ∙ below_none x.height
    stuck n (suc k) w = ap is_stuck (down n k w) ∙ i.settles.stuck (m n) k (within n k w) ∙ below_one x.height k

  halts_down : (one two : List ExprNode) (d : ℕ) (h : ResolveError) → 0 < d → Finds one (d - 1) f (Err h) → Finds two d g (Err h)
  halts_down one two zero h some stuck = absurd (omega (arith, some))
  halts_down one two (suc d) error.NoMemory some stuck = tt
  halts_down one two (suc d) (error.Stuck place) some stuck = λ n w.
      let one_less : suc d - 1 ≡ d = omega arith in
      ap is_stuck (down n d w) ∙ (rw one_less at stuck) (m n) (within n d w)

-- where no level may be opened
pub none_opened : (nodes : List ExprNode) (f : ℕ → Levelled) (d : ℕ) (place : Place) → d ≡ 0 → Finds nodes d (λ n. opened (f n)) (Err (error.Stuck place))
none_opened nodes f d place is = rw is (λ n w. refl)

-- an expression a level down
pub found_opened : (nodes : List ExprNode) (d : ℕ) (f : ℕ → Levelled) (x : FoundNode) → 0 < d → IsFound nodes (d - 1) f x → IsFound nodes d (λ n. opened (f n)) (record { node = x.node; height = x.height + 1 })
found_opened nodes d f x = found_down f (λ n. opened (f n)) (λ n. refl) (λ n. n) (λ n d w. omega (arith, w)) (λ n d w. refl) nodes d x

pub halts_opened : (one two : List ExprNode) (d : ℕ) (f : ℕ → Levelled) (h : ResolveError) → 0 < d → Finds one (d - 1) f (Err h) → Finds two d (λ n. opened (f n)) (Err h)
halts_opened one two d f = halts_down f (λ n. opened (f n)) (λ n. refl) (λ n. n) (λ n d w. omega (arith, w)) (λ n d w. refl) one two d

-- so many levels down
module _ (f : ℕ → Levelled) where
  stuck_above : (h d n : ℕ) → d < h → is_stuck (lowered h (f n) d) ≡ true
  stuck_above zero d n l = absurd (omega (arith, l))
  stuck_above (suc h) zero n l = refl
  stuck_above (suc h) (suc d) n l = stuck_above h d n (omega (arith, l))

  lowered-at : (h d n : ℕ) → h ≤ d → lowered h (f n) d ≡ f n (d - h)
  lowered-at zero d n l = let all : d ≡ d - 0 = omega arith in ap (f n) all
  lowered-at (suc h) zero n l = absurd (omega (arith, l))
  lowered-at (suc h) (suc d) n l = let less : d - h ≡ suc d - suc h = omega arith in lowered-at h d n (omega (arith, l)) ∙ ap (f n) less

  -- where fewer may be opened
  pub none_lowered : (nodes : List ExprNode) (h d : ℕ) (place : Place) → d < h → Finds nodes d (λ n. lowered h (f n)) (Err (error.Stuck place))
  none_lowered nodes h d place l = λ n w. stuck_above h d n l

  halts_at : (one two : List ExprNode) (h d : ℕ) (e : ResolveError) → h ≤ d → Finds one (d - h) f (Err e) → Finds two d (λ n. lowered h (f n)) (Err e)
  halts_at one two h d (error.Stuck place) l stuck = λ n w. ap is_stuck (lowered-at h d n l) ∙ stuck n (omega (arith, w))
  halts_at one two h d error.NoMemory l stuck = tt

  pub halts_lowered : (one two : List ExprNode) (h k d : ℕ) (e : ResolveError) → h ≡ k → h ≤ d → Finds one (d - h) f (Err e) → Finds two d (λ n. lowered k (f n)) (Err e)
  halts_lowered one two h k d e same l stuck = let P : ℕ → Type 0 = λ j. Finds two d (λ n. lowered j (f n)) (Err e) in subst P same (halts_at one two h d e l stuck)

  pub found_lowered : (nodes : List ExprNode) (h d : ℕ) (x : FoundNode) → h ≤ d → IsFound nodes (d - h) f x →
      IsFound nodes d (λ n. lowered h (f n)) (record { node = x.node; height = x.height + h })
  found_lowered nodes h d x l i = record {
    stands = i.stands;
    within = omega (arith, i.within, l);
    settles = record { value = value; stuck = stuck };
  } where
    value : (n k : ℕ) → k ≤ n → x.height + h ≤ k → lowered h (f n) k ≡ part_of nodes x.node
    value n k w m = lowered-at h k n (omega (arith, m)) ∙ i.settles.value n (k - h) (omega (arith, w)) (omega (arith, m))

    stuck_at : (n k : ℕ) → k ≤ n → h ≤ k → is_stuck (lowered h (f n) k) ≡ nat_lt k (x.height + h)
    stuck_at n k w m = ap is_stuck (lowered-at h k n m) ∙ i.settles.stuck n (k - h) (omega (arith, w)) ∙ less_both k h x.height m

    stuck : (n k : ℕ) → k ≤ n → is_stuck (lowered h (f n) k) ≡ nat_lt k (x.height + h)
    stuck n k w =
        elim (cases_lt k h) [
          | inl above ↦ stuck_above h k n above ∙ sym (lt-ltb k (x.height + h) (omega (arith, above)))
          | inr m ↦ stuck_at n k w m
        ]

-- what a name stands for
followed-more : (p : Program) (at : ℕ) (e : Expr) (n d : ℕ) → suc d ≤ n → followed p n at e d ≡ levelled p (n - 1) at e d
unfolding followed
followed-more p at e zero d w = absurd (omega (arith, w))
followed-more p at e (suc n) d w = let one : suc n - 1 ≡ n = omega arith in rw one refl

pub found_followed : (p : Program) (nodes : List ExprNode) (d at : ℕ) (e : Expr) (x : FoundNode) → 0 < d → IsFound nodes (d - 1) (λ n. levelled p n at e) x →
    IsFound nodes d (λ n. opened (followed p n at e)) (record { node = x.node; height = x.height + 1 })
found_followed p nodes d at e x = found_down (λ n. levelled p n at e) (λ n. opened (followed p n at e)) (λ n. refl) (λ n. n - 1) (λ n d w. omega (arith, w)) (followed-more p at e) nodes d x

pub halts_followed : (p : Program) (one two : List ExprNode) (d at : ℕ) (e : Expr) (h : ResolveError) → 0 < d → Finds one (d - 1) (λ n. levelled p n at e) (Err h) →
    Finds two d (λ n. opened (followed p n at e)) (Err h)
halts_followed p one two d at e = halts_down (λ n. levelled p n at e) (λ n. opened (followed p n at e)) (λ n. refl) (λ n. n - 1) (λ n d w. omega (arith, w)) (followed-more p at e) one two d

-- operands

or_none : (b : Bool) → (b || false) ≡ b
or_none true = refl
or_none false = refl

or_more : (a b c : Bool) → (a || (b || c)) ≡ ((a || b) || c)
or_more true b c = refl
or_more false b c = refl

some-append : (xs ys : List Resolved) → is_some_stuck (operands_of (xs ++ ys)) ≡ (is_some_stuck (operands_of xs) || is_some_stuck (operands_of ys))
some-append [] ys = refl
some-append (x ∷ xs) ys = ap (λ b. is_stuck x || b) (some-append xs ys) ∙ or_more (is_stuck x) (is_some_stuck (operands_of xs)) (is_some_stuck (operands_of ys))

some_left : (xs ys : List Resolved) → is_some_stuck (operands_of xs) ≡ true → is_some_stuck (operands_of (xs ++ ys)) ≡ true
some_left xs ys h = some-append xs ys ∙ or_left (is_some_stuck (operands_of xs)) (is_some_stuck (operands_of ys)) h

some_right : (xs ys : List Resolved) → is_some_stuck (operands_of ys) ≡ true → is_some_stuck (operands_of (xs ++ ys)) ≡ true
some_right xs ys h = some-append xs ys ∙ or_right (is_some_stuck (operands_of xs)) (is_some_stuck (operands_of ys)) h

some_at : (f : Expr → Resolved) (xs : List Expr) (i : ℕ) (d : Expr) → i < length xs → is_stuck (f (get_or xs i d)) ≡ true → is_some_stuck (operands_of (map f xs)) ≡ true
some_at f [] i d l h = absurd (omega (arith, l))
some_at f (x ∷ xs) zero d l h = or_left (is_stuck (f x)) (is_some_stuck (operands_of (map f xs))) h
some_at f (x ∷ xs) (suc i) d l h = or_right (is_stuck (f x)) (is_some_stuck (operands_of (map f xs))) (some_at f xs i d (omega (arith, l)) h)

-- the operands so far, of which f says what they are, are these nodes
pub record AreFound (nodes : List ExprNode) (most : ℕ) (f : ℕ → ℕ → List Resolved) (ks : List ℕ) (h : ℕ) : Type 0 where
  pub stand : All (λ k. k < length nodes) ks
  pub within : h ≤ most
  pub value : (n d : ℕ) → d ≤ n → h ≤ d → f n d ≡ map (part_of nodes) ks
  pub stuck : (n d : ℕ) → d ≤ n → is_some_stuck (operands_of (f n d)) ≡ nat_lt d h

none_stuck : (d : ℕ) → false ≡ nat_lt d 0
none_stuck d = grind (arith, nat_tests)

pub found_none : (nodes : List ExprNode) (most : ℕ) → AreFound nodes most (λ n d. []) [] 0
found_none nodes most = record { stand = All-nil (λ k. k < length nodes); within = omega arith; value = λ n d w l. refl; stuck = λ n d w. none_stuck d }

are_along : {nodes : List ExprNode} {most h : ℕ} {f : ℕ → ℕ → List Resolved} {ks : List ℕ} (g : ℕ → ℕ → List Resolved) → ((n d : ℕ) → g n d ≡ f n d) →
    AreFound nodes most f ks h → AreFound nodes most g ks h
are_along g e a = record {
  stand = a.stand;
  within = a.within;
  value = λ n d w l. e n d ∙ a.value n d w l;
  stuck = λ n d w. ap (λ rs. is_some_stuck (operands_of rs)) (e n d) ∙ a.stuck n d w;
}

-- parts that stay
kept_parts : (old new : List ExprNode) → Grows old new → (ks : List ℕ) → All (λ k. k < length old) ks → map (part_of old) ks ≡ map (part_of new) ks
kept_parts old new g [] s = refl
kept_parts old new g (k ∷ ks) s =
    ap (λ r. r ∷ map (part_of old) ks) (sym (g.kept k (s 0 0 (omega arith))))
    ∙ ap (λ rs. part_of new k ∷ rs) (kept_parts old new g ks (λ i d l. s (suc i) d (omega (arith, l))))

-- one operand more
found_more : {old new : List ExprNode} {most h : ℕ} {f : ℕ → ℕ → List Resolved} {g : ℕ → Levelled} {ks : List ℕ} {x : FoundNode} → AreFound old most f ks h → Grows old new → IsFound new most g x →
    AreFound new most (λ n d. f n d ++ g n d ∷ []) (ks ++ x.node ∷ []) (max x.height h)
found_more {old = old} {new = new} {h = h} {f = f} {g = g} {ks = ks} {x = x} a grows i = record {
  stand =
      All-append (λ k. k < length new) ks (x.node ∷ []) (λ k d l. let w = a.stand k d l in omega (arith, w, grows.longer))
      (All-cons (λ k. k < length new) x.node [] i.stands (All-nil (λ k. k < length new)));
  within = omega (arith, a.within, i.within);
  value = λ n d w l.
      let low : h ≤ d = omega (arith, l, le-max_right x.height h) in
      let high : x.height ≤ d = omega (arith, l, le-max_left x.height h) in
      ap (λ rs. rs ++ g n d ∷ []) (a.value n d w low ∙ kept_parts old new grows ks a.stand)
      ∙ ap (λ r. map (part_of new) ks ++ r ∷ []) (i.settles.value n d w high)
      ∙ sym (map-append (part_of new) ks (x.node ∷ []));
  stuck = λ n d w.
      some-append (f n d) (g n d ∷ [])
      ∙ ap (λ b. is_some_stuck (operands_of (f n d)) || b) (or_none (is_stuck (g n d)))
      ∙ ap (λ b. b || is_stuck (g n d)) (a.stuck n d w) ∙ ap (λ b. nat_lt d h || b) (i.settles.stuck n d w) ∙ either_of h x.height d;
} where
  either_of : (h k d : ℕ) → (nat_lt d h || nat_lt d k) ≡ nat_lt d (max k h)
  either_of h k d = grind (arith, nat_tests)

-- an operator over operands that are found
found_over : {old new : List ExprNode} {most h n : ℕ} {f : ℕ → ℕ → List Resolved} {ks : List ℕ} (place : Place) (o : Operator) → AreFound old most f ks h →
    n < length new → part_of new n ≡ Resolved.Apply place o (operands_of (map (part_of old) ks)) →
    IsFound new most (λ names d. Resolved.Apply place o (operands_of (f names d))) (record { node = n; height = h })
found_over place o a stands is = record {
  stands = stands;
  within = a.within;
  settles = record {
    value = λ n d w l. ap (λ rs. Resolved.Apply place o (operands_of rs)) (a.value n d w l) ∙ sym is;
    stuck = a.stuck;
  };
}

-- what expressions of an instance are
abbrev pub levelled_at : Program → ℕ → ℕ → Expr → Levelled
levelled_at p at n e = levelled p n at e

-- operands beside an operator, and others below it
module _ (operand : ℕ → Expr → Levelled) (beside below : List Expr) where
  abbrev pub beside_to : ℕ → ℕ → ℕ → List Resolved
  beside_to i n d = map (λ e. operand n e d) (take i beside)

  abbrev pub below_to : ℕ → ℕ → ℕ → List Resolved
  below_to i n d = map (λ e. operand n e d) beside ++ map (λ e. opened (operand n e) d) (take i below)

  one_more : (f : Expr → Resolved) (xs : List Expr) (i : ℕ) (e : Expr) → i < length xs → e ≡ get_or xs i e → map f (take (i + 1) xs) ≡ map f (take i xs) ++ f e ∷ []
  one_more f xs i e l here = ap (map f) (take_more xs i e l ∙ ap (λ x. take i xs ++ x ∷ []) (sym here)) ∙ map-append f (take i xs) (e ∷ [])

  pub found_beside : {old new : List ExprNode} {most h : ℕ} {ks : List ℕ} {x : FoundNode} (i : ℕ) (e : Expr) → i < length beside → e ≡ get_or beside i e →
      AreFound old most (beside_to i) ks h → Grows old new → IsFound new most (λ n. operand n e) x → AreFound new most (beside_to (i + 1)) (ks ++ x.node ∷ []) (max x.height h)
  found_beside i e l here a grows found = are_along (beside_to (i + 1)) (λ n d. one_more (λ x. operand n x d) beside i e l here) (found_more a grows found)

  pub found_between : {nodes : List ExprNode} {most h : ℕ} {ks : List ℕ} (i : ℕ) → length beside ≤ i → AreFound nodes most (beside_to i) ks h → AreFound nodes most (below_to 0) ks h
  found_between i past a = are_along (below_to 0) (λ n d. append-nil (map (λ e. operand n e d) beside) ∙ ap (map (λ e. operand n e d)) (sym (take_all i beside past))) a

  pub found_lower : {old new : List ExprNode} {most h : ℕ} {ks : List ℕ} {x : FoundNode} (i : ℕ) (e : Expr) → i < length below → e ≡ get_or below i e →
      AreFound old most (below_to i) ks h → Grows old new → IsFound new most (λ n. opened (operand n e)) x → AreFound new most (below_to (i + 1)) (ks ++ x.node ∷ []) (max x.height h)
  found_lower i e l here a grows found =
      are_along (below_to (i + 1))
      (λ n d. ap (λ rs. map (λ x. operand n x d) beside ++ rs) (one_more (λ x. opened (operand n x) d) below i e l here)
      ∙ sym (append_assoc (map (λ x. operand n x d) beside) (map (λ x. opened (operand n x) d) (take i below)) (opened (operand n e) d ∷ [])))
      (found_more a grows found)

  module _ (place : Place) (o : Operator) where
    abbrev pub applied_to : ℕ → Levelled
    applied_to n d = Resolved.Apply place o (operands_of (resolved_operands (operand n) beside below d))

    pub found_apply : {old new : List ExprNode} {most h n : ℕ} {ks : List ℕ} (i : ℕ) → length below ≤ i → AreFound old most (below_to i) ks h →
        n < length new → part_of new n ≡ Resolved.Apply place o (operands_of (map (part_of old) ks)) → IsFound new most applied_to (record { node = n; height = h })
    found_apply i past a stands is =
        found_over place o
        (are_along (λ n d. resolved_operands (operand n) beside below d)
        (λ n d. ap (λ es. map (λ e. operand n e d) beside ++ map (λ e. opened (operand n e) d) es) (sym (take_all i below past))) a) stands is

    pub halts_beside : (one two : List ExprNode) (most i : ℕ) (e : Expr) (h : ResolveError) → i < length beside → e ≡ get_or beside i e →
        Finds one most (λ n. operand n e) (Err h) → Finds two most applied_to (Err h)
    halts_beside one two most i e error.NoMemory l here stuck = tt
    halts_beside one two most i e (error.Stuck told) l here stuck = λ n w.
        some_left (map (λ x. operand n x most) beside) (map (λ x. opened (operand n x) most) below)
        (some_at (λ x. operand n x most) beside i e l (ap (λ x. is_stuck (operand n x most)) (sym here) ∙ stuck n w))

    pub halts_lower : (one two : List ExprNode) (most i : ℕ) (e : Expr) (h : ResolveError) → i < length below → e ≡ get_or below i e →
        Finds one most (λ n. opened (operand n e)) (Err h) → Finds two most applied_to (Err h)
    halts_lower one two most i e error.NoMemory l here stuck = tt
    halts_lower one two most i e (error.Stuck told) l here stuck = λ n w.
        some_right (map (λ x. operand n x most) beside) (map (λ x. opened (operand n x) most) below)
        (some_at (λ x. opened (operand n x) most) below i e l (ap (λ x. is_stuck (opened (operand n x) most)) (sym here) ∙ stuck n w))

-- chains

abbrev pub pair : Place → Operator → Resolved → Resolved → Resolved
pair place o r s = Resolved.Apply place o (operands_of (r ∷ s ∷ []))

links_more : (operand : Expr → Resolved) (left : Resolved) (links : List (Place × Operator × Expr)) (link : Place × Operator × Expr) →
    resolved_links operand left (links ++ link ∷ []) ≡ pair link.0 link.1 (resolved_links operand left links) (operand link.2)
links_more operand left [] link = refl
links_more operand left (l ∷ links) link = links_more operand (pair l.0 l.1 left (operand l.2)) links link

stuck_left : (operand : Expr → Resolved) (left : Resolved) (links : List (Place × Operator × Expr)) → is_stuck left ≡ true → is_stuck (resolved_links operand left links) ≡ true
stuck_left operand left [] h = h
stuck_left operand left (l ∷ links) h = stuck_left operand (pair l.0 l.1 left (operand l.2)) links (or_left (is_stuck left) (is_stuck (operand l.2) || false) h)

stuck_link : (operand : Expr → Resolved) (left : Resolved) (links : List (Place × Operator × Expr)) (i : ℕ) (d : Place × Operator × Expr) → i < length links →
    is_stuck (operand (get_or links i d).2) ≡ true → is_stuck (resolved_links operand left links) ≡ true
stuck_link operand left [] i d l h = absurd (omega (arith, l))
stuck_link operand left (x ∷ links) zero d l h = stuck_left operand (pair x.0 x.1 left (operand x.2)) links (or_right (is_stuck left) (is_stuck (operand x.2) || false) (or_none (is_stuck (operand x.2)) ∙ h))
stuck_link operand left (x ∷ links) (suc i) d l h = stuck_link operand (pair x.0 x.1 left (operand x.2)) links i d (omega (arith, l)) h

-- a chain whose first operand is `first`, and in which `operand` gives what the others are
module _ (operand : ℕ → ℕ → Expr → Resolved) (first : ℕ → Levelled) (links : List (Place × Operator × Expr)) where
  abbrev pub chain_to : List (Place × Operator × Expr) → ℕ → Levelled
  chain_to links n d = resolved_links (operand n d) (first n d) links

  -- the chain up to this link
  pub found_link : {old mid new : List ExprNode} {most : ℕ} (i : ℕ)
      (link : Place × Operator × Expr) {x y : FoundNode} {n m : ℕ} → i < length links → link ≡ get_or links i link →
      IsFound old most (chain_to (take i links)) x → Grows old mid → IsFound mid most (λ n d. operand n d link.2) y →
      n < length new → part_of new n ≡ pair link.0 link.1 (part_of mid x.node) (part_of mid y.node) → m ≡ max x.height y.height →
      IsFound new most (chain_to (take (i + 1) links)) (record { node = n; height = m })
  found_link i link {n = n} within here found grows right stands is e =
      rw e (found_along (chain_to (take (i + 1) links))
      (λ n d. ap (resolved_links (operand n d) (first n d)) (take_more links i link within ∙ ap (λ l. take i links ++ l ∷ []) (sym here)) ∙ links_more (operand n d) (first n d) (take i links) link)
      (found_two (pair link.0 link.1) (λ r s. ap (λ b. is_stuck r || b) (or_none (is_stuck s))) found grows right stands is))

  -- the whole chain
  pub found_links : {nodes : List ExprNode} {most : ℕ} (i : ℕ) {x : FoundNode} → length links ≤ i → IsFound nodes most (chain_to (take i links)) x → IsFound nodes most (chain_to links) x
  found_links i past found = found_along (chain_to links) (λ n d. ap (resolved_links (operand n d) (first n d)) (sym (take_all i links past))) found

  pub halts_first : (one two : List ExprNode) (most : ℕ) (h : ResolveError) → Finds one most first (Err h) → Finds two most (chain_to links) (Err h)
  halts_first one two most (error.Stuck told) stuck = λ n w. stuck_left (operand n most) (first n most) links (stuck n w)
  halts_first one two most error.NoMemory stuck = tt

  pub halts_link : (one two : List ExprNode) (most i : ℕ) (link : Place × Operator × Expr) (h : ResolveError) → i < length links → link ≡ get_or links i link →
      Finds one most (λ n d. operand n d link.2) (Err h) → Finds two most (chain_to links) (Err h)
  halts_link one two most i link (error.Stuck told) within here stuck = λ n w.
      stuck_link (operand n most) (first n most) links i link within (ap (λ (l : Place × Operator × Expr). is_stuck (operand n most l.2)) (sym here) ∙ stuck n w)
  halts_link one two most i link error.NoMemory within here stuck = tt

-- what is known

-- what names stand for, a level down
abbrev pub below_names : Program → ℕ → ℕ → ℕ → Expr → Resolved
below_names p n d owner e = opened (followed p n owner e) d

module _ (p : Program) (at : ℕ) (e : Expr) (shared : Shared) (leads : (below : ℕ → Expr → Resolved) → below_target below (shared_target p shared) ≡ below at e) where
  pub found_known : (nodes : List ExprNode) (most : ℕ) (x : FoundNode) → x.height ≤ most → Known p nodes shared x → IsFound nodes most (λ n. opened (followed p n at e)) x
  found_known nodes most x low k =
      found_along (λ n. opened (followed p n at e)) (λ n d. sym (leads (below_names p n d))) (record { stands = k.0; within = low; settles = k.1 })

  pub stuck_known : (nodes : List ExprNode) (most : ℕ) (place : Place) (x : FoundNode) → most < x.height → Known p nodes shared x → Finds nodes most (λ n. opened (followed p n at e)) (Err (error.Stuck place))
  stuck_known nodes most place x high k = λ n w. ap is_stuck (sym (leads (below_names p n most))) ∙ k.1.stuck n most w ∙ lt-ltb most x.height high

  pub known_found : (nodes : List ExprNode) (most : ℕ) (x : FoundNode) → IsFound nodes most (λ n. opened (followed p n at e)) x → Known p nodes shared x
  known_found nodes most x i = (i.stands, (found_along (λ n d. below_target (below_names p n d) (shared_target p shared)) (λ n d. leads (below_names p n d)) i).settles)
