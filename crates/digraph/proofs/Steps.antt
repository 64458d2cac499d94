-- How a search goes on.
use Rattle.std.proofs.Common.{◌≡◌, ◌≢◌, inl, inr, ℕ, ◌<◌, ◌≤◌, ◌+◌, ◌-◌, ◌*◌, sum_by, List, [], ◌∷◌, ◌++◌, length, get_or, set, take, subst, sym, refl, ap, ◌∙◌, All, Contains, arith, get_or-set_other, length-set, length-append}
use Rattle.std.proofs.lemmas.Bool.{cases_eq, cases_lt}
use Rattle.std.proofs.Math.ListN.{get_or-eq_default}
use Rattle.std.proofs.lemmas.List.{get_or_default, get_or-set_same, get_or_append_left, get_or_push}
use Rattle.std.proofs.lemmas.List.Elements.{All-weaker, All-contains, Contains-get_or}
use Rattle.std.proofs.lemmas.List.Sums.{sum_by-set}
use Rattle.digraph.specs.Cycles.{Edge, successors, Closed}
use Rattle.digraph.specs.Search.{Scanned, Searched, IsDone, mark, weight, Begun, Stepped}
use Rattle.digraph.specs.declared.mark.Mark.{Mark}
use Rattle.digraph.specs.declared.mark.Mark.TheVariants as M

-- the mark that was written, and the others
pub marked : (marks : List Mark) (v : ℕ) (m : Mark) → v < length marks → mark (set marks v m) v ≡ m
marked marks v m lt = get_or-set_same marks v m M.New lt

pub unmarked : (marks : List Mark) (v : ℕ) (m : Mark) (u : ℕ) → u ≢ v → mark (set marks v m) u ≡ mark marks u
unmarked marks v m u ne = get_or-set_other marks v u m M.New ne

-- a node that is marked otherwise is another
pub other : (marks : List Mark) (u v : ℕ) (a b : Mark) → mark marks u ≡ a → mark marks v ≡ b → a ≢ b → u ≢ v
other marks u v a b x y ne e = ne (sym x ∙ ap (mark marks) e ∙ y)

new_open : M.New ≢ M.Open
new_open e = cc

pub open_new : M.Open ≢ M.New
open_new e = cc

done_new : (r : ℕ) → M.Done r ≢ M.New
done_new r e = cc

done_open : (r : ℕ) → M.Done r ≢ M.Open
done_open r e = cc

done_same : (q r : ℕ) → M.Done q ≡ M.Done r → q ≡ r
done_same q r e = cc

pub weighed : (marks : List Mark) (v : ℕ) (m a : Mark) → v < length marks → mark marks v ≡ a → sum_by weight (set marks v m) + weight a ≡ sum_by weight marks + weight m
weighed marks v m a lt is =
    let P : Mark → Type 0 = λ x. sum_by weight (set marks v m) + weight x ≡ sum_by weight marks + weight m in
    subst P is (sum_by-set weight marks v m M.New lt)

pub begun : (marks : List Mark) (v : ℕ) (m : Mark) → v < length marks → m ≢ M.New → Begun marks (set marks v m)
begun marks v m lt ne u old e = elim (cases_eq u v) [
  | inl same ↦ ne (sym (marked marks v m lt) ∙ sym (ap (mark (set marks v m)) same) ∙ e)
  | inr apart ↦ old (sym (unmarked marks v m u apart) ∙ e)
]

-- an unfinished node is opened and put on the path
module _ (g : List (List ℕ)) (marks : List Mark) (path : List ℕ) (done : ℕ) (v : ℕ) (at : Searched g marks path done)
    (here : v < length marks) (new : mark marks v ≡ M.New)
    (next : 0 < length path → Edge g (get_or path (length path - 1) 0) v) where
  after : List Mark
  after = set marks v M.Open

  left : (i : ℕ) → i < length path → get_or (path ++ v ∷ []) i 0 ≡ get_or path i 0
  left i lt = get_or_append_left path (v ∷ []) 0 i lt

  last : get_or (path ++ v ∷ []) (length path) 0 ≡ v
  last = get_or_push path v 0 (length path) refl

  long : length (path ++ v ∷ []) ≡ length path + 1
  long = length-append path (v ∷ [])

  apart : (i : ℕ) → i < length path → get_or path i 0 ≢ v
  apart i lt = other marks (get_or path i 0) v M.Open M.New (at.standing i lt) new open_new

  was_done : (u r : ℕ) → mark (set marks v M.Open) u ≡ M.Done r → mark marks u ≡ M.Done r
  was_done u r h = elim (cases_eq u v) [
    | inl e ↦ absurd (done_open r (sym h ∙ ap (mark (set marks v M.Open)) e ∙ marked marks v M.Open here))
    | inr ne ↦ sym (unmarked marks v M.Open u ne) ∙ h
  ]

  stays_done : (u r : ℕ) → mark marks u ≡ M.Done r → mark (set marks v M.Open) u ≡ M.Done r
  stays_done u r h = unmarked marks v M.Open u (other marks u v (M.Done r) M.New h new (done_new r)) ∙ h

  pub opened : Searched g (set marks v M.Open) (path ++ v ∷ []) done
  opened = record {
    long = length-set marks v M.Open ∙ at.long;
    falling = λ u r h w e.
        let f = at.falling u r (was_done u r h) w e in
        (f.0, f.1, stays_done w f.0 f.2);
    below = λ u r h. at.below u r (was_done u r h);
    standing = λ i lt. elim (cases_lt i (length path)) [
      | inl a ↦ ap (mark (set marks v M.Open)) (left i a) ∙ unmarked marks v M.Open (get_or path i 0) (apart i a) ∙ at.standing i a
      | inr a ↦
          let e : i ≡ length path = omega (arith, long) in
          ap (mark (set marks v M.Open)) (ap (λ k. get_or (path ++ v ∷ []) k 0) e ∙ last) ∙ marked marks v M.Open here
    ];
    found = λ u h. elim (cases_eq u v) [
      | inl e ↦ (length path, omega (arith, long), last ∙ sym e)
      | inr ne ↦
          let f = at.found u (sym (unmarked marks v M.Open u ne) ∙ h) in
          let lt : f.0 < length path = f.1 in
          (f.0, omega (arith, long, lt), left f.0 lt ∙ f.2)
    ];
    distinct = λ i j less lt e. elim (cases_lt j (length path)) [
      | inl a ↦ at.distinct i j less a (sym (left i (omega arith)) ∙ e ∙ left j a)
      | inr a ↦
          let same : j ≡ length path = omega (arith, long) in
          let b : i < length path = omega (arith, same) in
          apart i b (sym (left i b) ∙ e ∙ ap (λ k. get_or (path ++ v ∷ []) k 0) same ∙ last)
    ];
    room = let w = weighed marks v M.Open M.New here new in let r : done + sum_by weight marks ≤ 2 * length g = at.room in omega (arith, w, r);
    chain = λ i lt. elim (cases_lt (i + 1) (length path)) [
      | inl a ↦
          let P : ℕ → Type 0 = λ x. Edge g x (get_or (path ++ v ∷ []) (i + 1) 0) in
          let Q : ℕ → Type 0 = λ y. Edge g (get_or path i 0) y in
          subst P (sym (left i (omega arith))) (subst Q (sym (left (i + 1) a)) (at.chain i a))
      | inr a ↦
          let same : i + 1 ≡ length path = omega (arith, long) in
          let b : i < length path = omega (arith, same) in
          let up : i ≡ length path - 1 = omega (arith, same) in
          let P : ℕ → Type 0 = λ x. Edge g x (get_or (path ++ v ∷ []) (i + 1) 0) in
          let Q : ℕ → Type 0 = λ y. Edge g (get_or path i 0) y in
          let R : ℕ → Type 0 = λ k. Edge g (get_or path k 0) v in
          let to : get_or (path ++ v ∷ []) (i + 1) 0 ≡ v = ap (λ k. get_or (path ++ v ∷ []) k 0) same ∙ last in
          let some : 0 < length path = omega arith in
          subst P (sym (left i b)) (subst Q (sym to) (subst R (sym up) (next some)))
    ];
  }

-- a node whose successors are all finished is finished, and taken from the path
module _ (g : List (List ℕ)) (marks : List Mark) (front : List ℕ) (u : ℕ) (done : ℕ) (at : Searched g marks (front ++ u ∷ []) done)
    (all : All (λ v. IsDone (mark marks v)) (successors g u)) where
  size : length (front ++ u ∷ []) ≡ length front + 1
  size = length-append front (u ∷ [])

  kept : (i : ℕ) → i < length front → get_or (front ++ u ∷ []) i 0 ≡ get_or front i 0
  kept i lt = get_or_append_left front (u ∷ []) 0 i lt

  top : get_or (front ++ u ∷ []) (length front) 0 ≡ u
  top = get_or_push front u 0 (length front) refl

  pub u_open : mark marks u ≡ M.Open
  u_open = sym (ap (mark marks) top) ∙ at.standing (length front) (omega (arith, size))

  pub u_within : u < length marks
  u_within = elim (cases_lt u (length marks)) [
    | inl a ↦ a
    | inr a ↦ absurd (new_open (sym (get_or-eq_default marks M.New a) ∙ u_open))
  ]

  others : (w r : ℕ) → mark marks w ≡ M.Done r → mark (set marks u (M.Done done)) w ≡ M.Done r
  others w r h = unmarked marks u (M.Done done) w (other marks w u (M.Done r) M.Open h u_open (done_open r)) ∙ h

  pub finished : Searched g (set marks u (M.Done done)) front (done + 1)
  finished = record {
    long = length-set marks u (M.Done done) ∙ at.long;
    falling = λ x r h w e. elim (cases_eq x u) [
      | inl same ↦
          let is : r ≡ done = done_same r done (sym h ∙ ap (mark (set marks u (M.Done done))) same ∙ marked marks u (M.Done done) u_within) in
          let P : ℕ → Type 0 = λ y. Edge g y w in
          let d : IsDone (mark marks w) = All-contains (λ v. IsDone (mark marks v)) (successors g u) w all (subst P same e) in
          let less : d.0 < done = at.below w d.0 d.1 in
          (d.0, omega (arith, less, is), others w d.0 d.1)
      | inr ne ↦
          let f = at.falling x r (sym (unmarked marks u (M.Done done) x ne) ∙ h) w e in
          (f.0, f.1, others w f.0 f.2)
    ];
    below = λ x r h. elim (cases_eq x u) [
      | inl same ↦
          let is : r ≡ done = done_same r done (sym h ∙ ap (mark (set marks u (M.Done done))) same ∙ marked marks u (M.Done done) u_within) in
          omega (arith, is)
      | inr ne ↦
          let less : r < done = at.below x r (sym (unmarked marks u (M.Done done) x ne) ∙ h) in
          omega (arith, less)
    ];
    standing = λ i lt.
        let ne : get_or front i 0 ≢ u = λ e. at.distinct i (length front) lt (omega (arith, size)) (kept i lt ∙ e ∙ sym top) in
        unmarked marks u (M.Done done) (get_or front i 0) ne ∙ ap (mark marks) (sym (kept i lt)) ∙ at.standing i (omega (arith, size));
    found = λ x h. elim (cases_eq x u) [
      | inl same ↦ absurd (done_open done (sym (marked marks u (M.Done done) u_within) ∙ ap (mark (set marks u (M.Done done))) (sym same) ∙ h))
      | inr ne ↦
          let f = at.found x (sym (unmarked marks u (M.Done done) x ne) ∙ h) in
          elim (cases_lt f.0 (length front)) [
            | inl a ↦ (f.0, a, sym (kept f.0 a) ∙ f.2)
            | inr a ↦
                let lt : f.0 < length (front ++ u ∷ []) = f.1 in
                let same : f.0 ≡ length front = omega (arith, size, lt) in
                absurd (ne (sym f.2 ∙ ap (λ k. get_or (front ++ u ∷ []) k 0) same ∙ top))
          ]
    ];
    distinct = λ i j less lt e.
        at.distinct i j less (omega (arith, size)) (kept i (omega arith) ∙ e ∙ sym (kept j lt));
    room = let w = weighed marks u (M.Done done) M.Open u_within u_open in let r : done + sum_by weight marks ≤ 2 * length g = at.room in omega (arith, w, r);
    chain = λ i lt.
        let P : ℕ → Type 0 = λ x. Edge g x (get_or front (i + 1) 0) in
        let Q : ℕ → Type 0 = λ y. Edge g (get_or (front ++ u ∷ []) i 0) y in
        subst P (kept i (omega arith)) (subst Q (kept (i + 1) lt) (at.chain i (omega (arith, size))));
  }

pub top_within : (g : List (List ℕ)) (marks : List Mark) (front : List ℕ) (u : ℕ) (done : ℕ) → Searched g marks (front ++ u ∷ []) done → u < length marks
top_within g marks front u done at =
    let on : mark marks u ≡ M.Open = sym (ap (mark marks) (get_or_push front u 0 (length front) refl)) ∙ at.standing (length front) (omega (arith, length-append front (u ∷ []))) in
    elim (cases_lt u (length marks)) [
      | inl a ↦ a
      | inr a ↦ absurd (new_open (sym (get_or-eq_default marks M.New a) ∙ on))
    ]

pub all_within : (g : List (List ℕ)) (u n : ℕ) (vs : List ℕ) → Closed g → n ≡ length g → vs ≡ successors g u → All (λ v. v < n) vs
all_within g u n vs closed is same =
    let P : List ℕ → Type 0 = λ ys. All (λ v. v < n) ys in
    subst P (sym same) (λ k d lt.
    let h : get_or (successors g u) k d < length g = closed u (get_or (successors g u) k d) (Contains-get_or (successors g u) k d lt) in
    omega (arith, h, is))

-- the step to an unfinished successor
pub step_in : (g : List (List ℕ)) (marks : List Mark) (front : List ℕ) (u v : ℕ) (done : ℕ) (path vs : List ℕ) → Searched g marks (front ++ u ∷ []) done → Closed g →
    vs ≡ successors g u → Contains vs v → mark marks v ≡ M.New → path ≡ (front ++ u ∷ []) ++ v ∷ [] → Stepped g marks (set marks v M.Open) path done
step_in g marks front u v done path vs at closed is has new made =
    let P : List ℕ → Type 0 = λ ys. Contains ys v in
    let e : Edge g u v = subst P is has in
    let within : v < length g = closed u v e in
    let long : length marks ≡ length g = at.long in
    let lt : v < length marks = omega (arith, within, long) in
    let size : length (front ++ u ∷ []) ≡ length front + 1 = length-append front (u ∷ []) in
    let last : get_or (front ++ u ∷ []) (length (front ++ u ∷ []) - 1) 0 ≡ u = get_or_push front u 0 (length (front ++ u ∷ []) - 1) (omega (arith, size)) in
    let Q : ℕ → Type 0 = λ x. Edge g x v in
    let R : List ℕ → Type 0 = λ p. Searched g (set marks v M.Open) p done in
    let w = weighed marks v M.Open M.New lt new in
    record {
      at = subst R (sym made) (opened g marks (front ++ u ∷ []) done v at lt new (λ some. subst Q (sym last) e));
      begun = begun marks v M.Open lt open_new;
      lighter = omega (arith, w);
    }

pub step_out : (g : List (List ℕ)) (marks : List Mark) (front : List ℕ) (u : ℕ) (done : ℕ) (vs : List ℕ) → Searched g marks (front ++ u ∷ []) done →
    vs ≡ successors g u → All (λ v. IsDone (mark marks v)) vs → Stepped g marks (set marks u (M.Done done)) front (done + 1)
step_out g marks front u done vs at is all =
    let P : List ℕ → Type 0 = λ ys. All (λ v. IsDone (mark marks v)) ys in
    let lt = u_within g marks front u done at (subst P is all) in
    let w = weighed marks u (M.Done done) M.Open lt (u_open g marks front u done at (subst P is all)) in
    record {
      at = finished g marks front u done at (subst P is all);
      begun = begun marks u (M.Done done) lt (done_new done);
      lighter = omega (arith, w);
    }

pub within_from : (g : List (List ℕ)) (u v : ℕ) (vs : List ℕ) → Closed g → vs ≡ successors g u → Contains vs v → v < length g
within_from g u v vs closed is has =
    let P : List ℕ → Type 0 = λ ys. Contains ys v in
    closed u v (subst P is has)

-- a search begins at a new node
pub started : (g : List (List ℕ)) (marks : List Mark) (v done : ℕ) (path : List ℕ) → Searched g marks [] done → v < length marks → mark marks v ≡ M.New → path ≡ v ∷ [] → Searched g (set marks v M.Open) path done
started g marks v done path at lt new is =
    let P : List ℕ → Type 0 = λ p. Searched g (set marks v M.Open) p done in
    subst P (sym is) (opened g marks [] done v at lt new (λ some. absurd (omega (arith, some))))

-- what is finished stays so where a new node is opened
done_opened : (marks : List Mark) (v x : ℕ) → mark marks v ≡ M.New → IsDone (mark marks x) → IsDone (mark (set marks v M.Open) x)
done_opened marks v x new d = (d.0, unmarked marks v M.Open x (other marks x v (M.Done d.0) M.New d.1 new (done_new d.0)) ∙ d.1)

-- and where another node is finished
done_finished : (marks : List Mark) (u r x : ℕ) → u < length marks → IsDone (mark marks x) → IsDone (mark (set marks u (M.Done r)) x)
done_finished marks u r x lt d = elim (cases_eq x u) [
  | inl e ↦ (r, ap (mark (set marks u (M.Done r))) e ∙ marked marks u (M.Done r) lt)
  | inr ne ↦ (d.0, unmarked marks u (M.Done r) x ne ∙ d.1)
]

-- the successors before the one that is opened are finished
pub scanned_in : (g : List (List ℕ)) (marks : List Mark) (scanned vs : List ℕ) (u v i : ℕ) → Scanned g marks scanned → vs ≡ successors g u → mark marks v ≡ M.New
    → u < length scanned → All (λ w. IsDone (mark marks w)) (take i vs) → Scanned g (set marks v M.Open) (set scanned u i)
scanned_in g marks scanned vs u v i at is new lt all = record {
  long = length-set scanned u i ∙ at.long;
  passed = λ w.
      let Q : ℕ → Type 0 = λ y. All (λ x. IsDone (mark marks x)) (take (get_or (set scanned u i) y 0) (successors g y)) in
      let before : Q w = elim (cases_eq w u) [
        | inl e ↦
            let R : ℕ → Type 0 = λ k. All (λ x. IsDone (mark marks x)) (take k (successors g u)) in
            let S : List ℕ → Type 0 = λ ys. All (λ x. IsDone (mark marks x)) (take i ys) in
            subst Q (sym e) (subst R (sym (get_or-set_same scanned u i 0 lt)) (subst S is all))
        | inr ne ↦
            let R : ℕ → Type 0 = λ k. All (λ x. IsDone (mark marks x)) (take k (successors g w)) in
            subst R (sym (get_or-set_other scanned u w i 0 ne)) (at.passed w)
      ] in
      All-weaker (λ x. IsDone (mark marks x)) (λ x. IsDone (mark (set marks v M.Open) x)) (λ x d. done_opened marks v x new d)
      (take (get_or (set scanned u i) w 0) (successors g w)) before;
}

-- they stay so where a search begins
pub scanned_start : (g : List (List ℕ)) (marks : List Mark) (scanned : List ℕ) (v : ℕ) → Scanned g marks scanned → mark marks v ≡ M.New → Scanned g (set marks v M.Open) scanned
scanned_start g marks scanned v at new = record {
  long = at.long;
  passed = λ w. All-weaker (λ x. IsDone (mark marks x)) (λ x. IsDone (mark (set marks v M.Open) x)) (λ x d. done_opened marks v x new d)
      (take (get_or scanned w 0) (successors g w)) (at.passed w);
}

-- and where a node is finished
pub scanned_out : (g : List (List ℕ)) (marks : List Mark) (scanned : List ℕ) (u r : ℕ) → Scanned g marks scanned → u < length marks → Scanned g (set marks u (M.Done r)) scanned
scanned_out g marks scanned u r at lt = record {
  long = at.long;
  passed = λ w. All-weaker (λ x. IsDone (mark marks x)) (λ x. IsDone (mark (set marks u (M.Done r)) x)) (λ x d. done_finished marks u r x lt d)
      (take (get_or scanned w 0) (successors g w)) (at.passed w);
}

-- the successors that were scanned are finished, by whatever default the count was read
pub passed_by : (g : List (List ℕ)) (marks : List Mark) (scanned vs : List ℕ) (u k : ℕ) → Scanned g marks scanned → vs ≡ successors g u → u < length scanned
    → k ≡ get_or scanned u k → All (λ w. IsDone (mark marks w)) (take k vs)
passed_by g marks scanned vs u k at is lt read =
    let P : ℕ → Type 0 = λ n. All (λ w. IsDone (mark marks w)) (take n (successors g u)) in
    let Q : List ℕ → Type 0 = λ ys. All (λ w. IsDone (mark marks w)) (take k ys) in
    subst Q (sym is) (subst P (sym (read ∙ get_or_default scanned u k 0 lt)) (at.passed u))
