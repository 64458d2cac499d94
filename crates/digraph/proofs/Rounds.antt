-- What a search has found, or ruled out.
use Rattle.std.proofs.Common.{◌≡◌, ◌≢◌, ◌⊎◌, inl, inr, ℕ, suc, ◌<◌, ◌≤◌, ◌+◌, List, [], ◌∷◌, ◌++◌, length, get_or, drop, subst, sym, refl, ap, ◌∙◌, Contains, arith, add-one, length-drop, length-append, drop-cons}
use Rattle.std.proofs.lemmas.List.{get_or-drop, get_or_push}
use Rattle.std.proofs.Math.ListN.{get_or-eq_default}
use Rattle.std.proofs.lemmas.Bool.{cases_lt}
use Rattle.digraph.specs.Cycles.{Edge, Walk, Acyclic, successors, Distinct, IsCycle}
use Rattle.digraph.specs.Search.{Searched, Falling, IsDone, mark, IsEndAt}
use Rattle.digraph.specs.declared.mark.Mark.{Mark}
use Rattle.digraph.specs.declared.mark.Mark.TheVariants as M

-- a finished node leads to nodes alone that were finished before it
pub walk_falls : (g : List (List ℕ)) (marks : List Mark) → Falling g marks → (xs : List ℕ) (a b r : ℕ) → mark marks a ≡ M.Done r → Walk g a xs b → (q : ℕ) × (q < r) × (mark marks b ≡ M.Done q)
walk_falls g marks falling [] a b r at e = falling a r at b e
walk_falls g marks falling (x ∷ xs) a b r at w =
    let f = falling a r at x w.0 in
    let h = walk_falls g marks falling xs x b f.0 f.2 w.1 in
    let less : f.0 < r = f.1 in
    let more : h.0 < f.0 = h.1 in
    (h.0, omega (arith, less, more), h.2)

pub done_same : (q r : ℕ) → M.Done q ≡ M.Done r → q ≡ r
done_same q r e = cc

pub edge_from : (g : List (List ℕ)) (a b : ℕ) → Edge g a b → a < length g
edge_from g a b e = elim (cases_lt a (length g)) [
  | inl lt ↦ lt
  | inr le ↦
      let none : successors g a ≡ [] = get_or-eq_default g [] le in
      let P : List ℕ → Type 0 = λ s. Contains s b in
      let c = subst P none e in
      let lt : c.0 < 0 = c.1 in
      absurd (omega (arith, lt))
]

pub walk_from : (g : List (List ℕ)) (xs : List ℕ) (a b : ℕ) → Walk g a xs b → a < length g
walk_from g [] a b e = edge_from g a b e
walk_from g (x ∷ xs) a b w = edge_from g a x w.0

mark_cases : (m : Mark) → (m ≡ M.New) ⊎ (m ≡ M.Open) ⊎ IsDone m
mark_cases M.New = inl refl
mark_cases M.Open = inr (inl refl)
mark_cases (M.Done r) = inr (inr (r, refl))

-- with no path, what has begun is finished
pub settled : (g : List (List ℕ)) (marks : List Mark) (done u : ℕ) → Searched g marks [] done → mark marks u ≢ M.New → IsDone (mark marks u)
settled g marks done u at begun = elim (mark_cases (mark marks u)) [
  | inl e ↦ absurd (begun e)
  | inr (inl e) ↦ let f = at.found u e in let lt : f.0 < 0 = f.1 in absurd (omega (arith, lt))
  | inr (inr d) ↦ d
]

pub no_cycle : (g : List (List ℕ)) (marks : List Mark) (done n : ℕ) → Searched g marks [] done → length g ≤ n → ((k : ℕ) → k < n → mark marks k ≢ M.New) → Acyclic g
no_cycle g marks done n at long all a leads =
    let within : a < length g = walk_from g leads.0 a a leads.1 in
    let d : IsDone (mark marks a) = settled g marks done a at (all a (omega (arith, within))) in
    let f = walk_falls g marks at.falling leads.0 a a d.0 d.1 leads.1 in
    let less : f.0 < d.0 = f.1 in
    let same : f.0 ≡ d.0 = done_same f.0 d.0 (sym f.2 ∙ d.1) in
    absurd (omega (arith, less, same))

shift : (x : ℕ) (ys : List ℕ) (i : ℕ) → get_or (x ∷ ys) (i + 1) 0 ≡ get_or ys i 0
shift x ys i = rw add-one refl

walk_along : (g : List (List ℕ)) (xs : List ℕ) (x v : ℕ) → ((i : ℕ) → i + 1 < length (x ∷ xs) → Edge g (get_or (x ∷ xs) i 0) (get_or (x ∷ xs) (i + 1) 0)) → Edge g (get_or (x ∷ xs) (length xs) 0) v → Walk g x xs v
walk_along g [] x v chain e = e
walk_along g (y ∷ ys) x v chain e =
    let tail : (i : ℕ) → i + 1 < length (y ∷ ys) → Edge g (get_or (y ∷ ys) i 0) (get_or (y ∷ ys) (i + 1) 0) = λ i lt.
    let P : ℕ → Type 0 = λ a. Edge g a (get_or (y ∷ ys) (i + 1) 0) in
    let Q : ℕ → Type 0 = λ b. Edge g (get_or (x ∷ y ∷ ys) (i + 1) 0) b in
    subst P (shift x (y ∷ ys) i) (subst Q (shift x (y ∷ ys) (i + 1)) (chain (i + 1) (omega arith))) in
    (chain 0 (omega arith), walk_along g ys y v tail e)

-- the end of a path from v on, where its last leads to v
module _ (g : List (List ℕ)) (marks : List Mark) (path front : List ℕ) (u v done : ℕ) (at : Searched g marks path done)
    (made : path ≡ front ++ u ∷ []) (edge : Edge g u v) (i : ℕ) (within : i < length path) (here : get_or path i 0 ≡ v) where
  size : length path ≡ length front + 1
  size = ap length made ∙ length-append front (u ∷ [])

  long : length (drop i path) + i ≡ length path
  long = omega (arith, length-drop i path)

  read : (k : ℕ) → get_or (drop i path) k 0 ≡ get_or path (i + k) 0
  read k = get_or-drop i path k 0

  chain : (k : ℕ) → k + 1 < length (drop i path) → Edge g (get_or (drop i path) k 0) (get_or (drop i path) (k + 1) 0)
  chain k lt =
      let P : ℕ → Type 0 = λ a. Edge g a (get_or (drop i path) (k + 1) 0) in
      let Q : ℕ → Type 0 = λ b. Edge g (get_or path (i + k) 0) b in
      let next : get_or path (i + k + 1) 0 ≡ get_or path (i + (k + 1)) 0 = let same : i + k + 1 ≡ i + (k + 1) = omega arith in ap (λ n. get_or path n 0) same in
      subst P (sym (read k)) (subst Q (next ∙ sym (read (k + 1))) (at.chain (i + k) (omega (arith, long))))

  back : (n : ℕ) → length (drop i path) ≡ suc n → Edge g (get_or (drop i path) n 0) v
  back n is =
      let P : ℕ → Type 0 = λ a. Edge g a v in
      let same : i + n ≡ length front = omega (arith, long, is, size) in
      let last : get_or (drop i path) n 0 ≡ u = read n ∙ ap (λ m. get_or path m 0) same ∙ ap (λ p. get_or p (length front) 0) made ∙ get_or_push front u 0 (length front) refl in
      subst P (sym last) edge

  goes_round : (ys : List ℕ) → drop i path ≡ v ∷ ys → Walk g v ys v
  goes_round ys is =
      let P : List ℕ → Type 0 = λ d. (k : ℕ) → k + 1 < length d → Edge g (get_or d k 0) (get_or d (k + 1) 0) in
      let Q : List ℕ → Type 0 = λ d. Edge g (get_or d (length ys) 0) v in
      walk_along g ys v v (subst P is chain) (subst Q is (back (length ys) (ap length is)))

  pub cycle_at : IsCycle g (drop i path) × Distinct (drop i path)
  cycle_at =
      let is : drop i path ≡ v ∷ drop (suc i) path = drop-cons path i 0 within ∙ ap (λ x. x ∷ drop (suc i) path) here in
      let P : List ℕ → Type 0 = λ d. IsCycle g d in (
        subst P (sym is) (goes_round (drop (suc i) path) is),
        λ j k less lt e. at.distinct (i + j) (i + k) (omega arith) (omega (arith, long)) (sym (read j) ∙ e ∙ read k),
      )

pub cycle_of : (g : List (List ℕ)) (marks : List Mark) (path front cycle : List ℕ) (u v done : ℕ) → Searched g marks path done → path ≡ front ++ u ∷ [] → Edge g u v →
    mark marks v ≡ M.Open → ((i : ℕ) → i < length path → get_or path i 0 ≡ v → IsEndAt path v cycle) → IsCycle g cycle × Distinct cycle
cycle_of g marks path front cycle u v done at made edge on end =
    let f = at.found v on in
    let e = end f.0 f.1 f.2 in
    let P : List ℕ → Type 0 = λ r. IsCycle g r × Distinct r in
    subst P (sym e.3) (cycle_at g marks path front u v done at made edge e.0 e.1 e.2)
