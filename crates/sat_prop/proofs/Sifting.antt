-- Lists from which entries are taken out while they are read.
use Rattle.std.proofs.Common.{◌≡◌, ℕ, ◌<◌, ◌≤◌, ◌+◌, Bool, true, false, ◌||◌, eqb, List, [], ◌∷◌, ◌++◌, length, take, drop, get_or, set, refl, sym, subst, ap, ◌∙◌, inl, inr, arith, append_assoc, eqb-true, get_or-set_other, get_or-set_same, length-set}
use Rattle.std.specs.List.{All, list_any}
use Rattle.std.proofs.lemmas.Bool.{cases_Bool, cases_eq}
use Rattle.std.proofs.lemmas.List.{append-nil, drop-set-lt, drop_at, drop_more, length-map, map-append, map-set, set-get_or, set-set, set_comm, take_at, take_more_set}
use Rattle.std.proofs.lemmas.List.Elements.{All-append, All-drop, All-get_or, All-push, All-take}
use Rattle.std.proofs.lemmas.List.Folds.{list_any-append}
use Rattle.clause_core.specs.declared.literal.Lit.{Lit}
use Rattle.sat_prop.specs.declared.lists.Watcher.{Watcher}
use Rattle.sat_prop.specs.declared.watch.Watches.{Watches}
use Rattle.sat_prop.specs.Entries.{AllEntries, fits, none_entry, numbers, numbers_of}
use Rattle.sat_prop.specs.Sifted.{Sifted, put_back, whole}
use Rattle.sat_prop.specs.Watches.{watches_at, HasTwo, Listed, AllListed, cell, DoneWith}
use Rattle.sat_prop.proofs.Listing.{entries_set, fits_below, number_at, numbers_at}
use Rattle.sat_prop.proofs.Watching.{list_where}

-- an element moves down, over what was taken out
pub moved_down : {X : Type 0} (xs : List X) (kept read : ℕ) (x : X) → kept ≤ read → read < length xs → x ≡ get_or xs read x →
    take (kept + 1) (set xs kept x) ++ drop (read + 1) (set xs kept x) ≡ take kept xs ++ drop read xs
moved_down xs kept read x le lt e =
    let a : take (kept + 1) (set xs kept x) ≡ take kept xs ++ x ∷ [] = take_more_set xs kept x (omega arith) in
    let b : drop (read + 1) (set xs kept x) ≡ drop (read + 1) xs = drop-set-lt (read + 1) xs kept x (omega arith) in
    let d : drop read xs ≡ x ∷ drop (read + 1) xs = drop_more xs read x lt ∙ ap (λ y. y ∷ drop (read + 1) xs) (sym e) in
    ap (λ v. v ++ drop (read + 1) (set xs kept x)) a
    ∙ ap (λ v. (take kept xs ++ x ∷ []) ++ v) b
    ∙ append_assoc (take kept xs) (x ∷ []) (drop (read + 1) xs)
    ∙ ap (λ v. take kept xs ++ v) (sym d)

-- an entry stays: the clauses of the list are the same
pub same_numbers : (s t : Sifted) (e x : Watcher) → s.rest ≡ e ∷ drop 1 s.rest → x.clause ≡ e.clause → t.kept ≡ s.kept ++ x ∷ [] → t.rest ≡ drop 1 s.rest →
    numbers (whole t) ≡ numbers (whole s)
same_numbers s t e x front same kept rest =
    let f : Watcher → ℕ = λ y. y.clause in
    let a : whole t ≡ s.kept ++ (x ∷ drop 1 s.rest) =
    ap (λ v. v ++ t.rest) kept ∙ ap (λ v. (s.kept ++ x ∷ []) ++ v) rest ∙ append_assoc s.kept (x ∷ []) (drop 1 s.rest) in
    ap numbers a
    ∙ map-append f s.kept (x ∷ drop 1 s.rest)
    ∙ ap (λ k. numbers s.kept ++ (k ∷ numbers (drop 1 s.rest))) same
    ∙ ap (λ v. numbers s.kept ++ numbers v) (sym front)
    ∙ sym (map-append f s.kept s.rest)

pub listed_keep : (lists : List (List Watcher)) (f : Lit) (s t : Sifted) (e x : Watcher) → s.rest ≡ e ∷ drop 1 s.rest → x.clause ≡ e.clause → t.kept ≡ s.kept ++ x ∷ [] →
    t.rest ≡ drop 1 s.rest → numbers_of (put_back lists f t) ≡ numbers_of (put_back lists f s)
listed_keep lists f s t e x front same kept rest =
    map-set numbers lists (cell f) (whole t)
    ∙ ap (set (numbers_of lists) (cell f)) (same_numbers s t e x front same kept rest)
    ∙ sym (map-set numbers lists (cell f) (whole s))

-- what all entries pass, as the list is read on
fit_on : (p : Watcher → Bool) (lists : List (List Watcher)) (f : Lit) (s t : Sifted) → cell f < length lists → AllEntries p (put_back lists f s) →
    (All (λ e. p e ≡ true) s.kept → All (λ e. p e ≡ true) s.rest → All (λ e. p e ≡ true) (whole t)) → AllEntries p (put_back lists f t)
fit_on p lists f s t lt all step =
    let P : Watcher → Type 0 = λ e. p e ≡ true in
    let n = cell f in
    let Q : List Watcher → Type 0 = All P in
    let here : Q (whole s) = subst Q (get_or-set_same lists n (whole s) [] lt) (all n) in
    let kept : Q s.kept = subst Q (take_at s.kept s.rest (length s.kept) refl) (All-take P (length s.kept) (whole s) here) in
    let rest : Q s.rest = subst Q (drop_at s.kept s.rest (length s.kept) refl) (All-drop P (length s.kept) (whole s) here) in
    entries_set p (put_back lists f s) (put_back lists f t) n (whole t) (omega (arith, lt, length-set lists n (whole s))) (sym (set-set lists n (whole s) (whole t))) all (step kept rest)

pub fit_keep : (p : Watcher → Bool) (lists : List (List Watcher)) (f : Lit) (s t : Sifted) (x : Watcher) → cell f < length lists → t.kept ≡ s.kept ++ x ∷ [] → t.rest ≡ drop 1 s.rest →
    p x ≡ true → AllEntries p (put_back lists f s) → AllEntries p (put_back lists f t)
fit_keep p lists f s t x lt kept rest on all =
    let P : Watcher → Type 0 = λ e. p e ≡ true in
    let Q : List Watcher → Type 0 = All P in
    fit_on p lists f s t lt all (λ a b.
    All-append P t.kept t.rest (subst Q (sym kept) (All-push P s.kept x a on)) (subst Q (sym rest) (All-drop P 1 s.rest b)))

pub fit_skip : (p : Watcher → Bool) (lists : List (List Watcher)) (f : Lit) (s t : Sifted) → cell f < length lists → t.kept ≡ s.kept → t.rest ≡ drop 1 s.rest →
    AllEntries p (put_back lists f s) → AllEntries p (put_back lists f t)
fit_skip p lists f s t lt kept rest all =
    let P : Watcher → Type 0 = λ e. p e ≡ true in
    let Q : List Watcher → Type 0 = All P in
    fit_on p lists f s t lt all (λ a b. All-append P t.kept t.rest (subst Q (sym kept) a) (subst Q (sym rest) (All-drop P 1 s.rest b)))

-- the entry that is read next passes too
pub fit_front : (p : Watcher → Bool) (lists : List (List Watcher)) (f : Lit) (s : Sifted) (e : Watcher) → cell f < length lists → s.rest ≡ e ∷ drop 1 s.rest →
    AllEntries p (put_back lists f s) → p e ≡ true
fit_front p lists f s e lt front all =
    let P : Watcher → Type 0 = λ x. p x ≡ true in
    let n = cell f in
    let Q : List Watcher → Type 0 = All P in
    let here : Q (whole s) = subst Q (get_or-set_same lists n (whole s) [] lt) (all n) in
    let rest : Q s.rest = subst Q (drop_at s.kept s.rest (length s.kept) refl) (All-drop P (length s.kept) (whole s) here) in
    let first : P (get_or (e ∷ drop 1 s.rest) 0 none_entry) = All-get_or P (e ∷ drop 1 s.rest) 0 none_entry (omega arith) (subst Q front rest) in
    first

-- the clause of the entry that is read next has a row
pub row_in : (cs rows : List (List Lit)) (lists : List (List Watcher)) (f : Lit) (s : Sifted) (e : Watcher) → cell f < length lists → length rows ≡ length cs → s.rest ≡ e ∷ drop 1 s.rest →
    AllEntries (fits cs) (put_back lists f s) → e.clause < length rows
row_in cs rows lists f s e lt len front fit = omega (arith, len, fits_below cs e (fit_front (fits cs) lists f s e lt front fit))

-- an entry is taken out
without : (xs ys : List ℕ) (k j : ℕ) → (j ≡ k → ⊥) → list_any (λ x. eqb x j) (xs ++ k ∷ ys) ≡ list_any (λ x. eqb x j) (xs ++ ys)
without xs ys k j ne =
    let p : ℕ → Bool = λ x. eqb x j in
    let off : eqb k j ≡ false = elim (cases_Bool (eqb k j)) [
      | inl on ↦ absurd (ne (sym (eqb-true k j on)))
      | inr off ↦ off
    ] in
    list_any-append p xs (k ∷ ys) ∙ ap (λ b. list_any p xs || (b || list_any p ys)) off ∙ sym (list_any-append p xs ys)

listed_without : (lists : List (List ℕ)) (n m k j : ℕ) (xs ys : List ℕ) → n < length lists → (j ≡ k → m ≡ n → ⊥) →
    Listed (set lists n (xs ++ k ∷ ys)) m j → Listed (set lists n (xs ++ ys)) m j
listed_without lists n m k j xs ys ln apart listed =
    let Q : List ℕ → Type 0 = λ v. list_any (λ x. eqb x j) v ≡ true in
    elim (cases_eq m n) [
      | inl same ↦
          let P : ℕ → Type 0 = λ x. Listed (set lists n (xs ++ k ∷ ys)) x j in
          let R : ℕ → Type 0 = λ x. Listed (set lists n (xs ++ ys)) x j in
          let here : Q (xs ++ k ∷ ys) = subst Q (get_or-set_same lists n (xs ++ k ∷ ys) [] ln) (subst P same listed) in
          let there : Q (xs ++ ys) = sym (without xs ys k j (λ e. apart e same)) ∙ here in
          subst R (sym same) (subst Q (sym (get_or-set_same lists n (xs ++ ys) [] ln)) there)
      | inr ne ↦
          let a : get_or (set lists n (xs ++ k ∷ ys)) m [] ≡ get_or lists m [] = rw get_or-set_other refl in
          let b : get_or (set lists n (xs ++ ys)) m [] ≡ get_or lists m [] = rw get_or-set_other refl in
          subst Q (a ∙ sym b) listed
    ]

pub listed_skip : (watches : List Watches) (lists : List (List Watcher)) (f : Lit) (s t : Sifted) (e : Watcher) → cell f < length lists → s.rest ≡ e ∷ drop 1 s.rest → t.kept ≡ s.kept →
    t.rest ≡ drop 1 s.rest → (HasTwo (watches_at watches e.clause) → (cell (watches_at watches e.clause).a ≡ cell f → ⊥) × (cell (watches_at watches e.clause).b ≡ cell f → ⊥)) →
    AllListed watches (numbers_of (put_back lists f s)) → AllListed watches (numbers_of (put_back lists f t))
listed_skip watches lists f s t e lt front kept rest apart ok j lj big =
    let g : Watcher → ℕ = λ y. y.clause in
    let n = cell f in
    let ns = numbers_of lists in
    let xs = numbers s.kept in
    let ys = numbers (drop 1 s.rest) in
    let before : numbers_of (put_back lists f s) ≡ set ns n (xs ++ e.clause ∷ ys) =
    map-set numbers lists n (whole s) ∙ ap (set ns n) (map-append g s.kept s.rest ∙ ap (λ v. xs ++ numbers v) front) in
    let after : numbers_of (put_back lists f t) ≡ set ns n (xs ++ ys) =
    map-set numbers lists n (whole t) ∙ ap (set ns n) (map-append g t.kept t.rest ∙ ap (λ v. numbers v ++ numbers t.rest) kept ∙ ap (λ v. xs ++ numbers v) rest) in
    let ln : n < length ns = omega (arith, lt, length-map lists numbers) in
    let L : List (List ℕ) → Type 0 = λ v. Listed v (cell (watches_at watches j).a) j × Listed v (cell (watches_at watches j).b) j in
    let old : L (set ns n (xs ++ e.clause ∷ ys)) = subst L before (ok j lj big) in
    let A : ℕ → Type 0 = λ k. HasTwo (watches_at watches k) → (cell (watches_at watches k).a ≡ n → ⊥) × (cell (watches_at watches k).b ≡ n → ⊥) in
    let far : j ≡ e.clause → (cell (watches_at watches j).a ≡ n → ⊥) × (cell (watches_at watches j).b ≡ n → ⊥) = λ same. let h : A j = subst A (sym same) apart in h big in
    let now : L (set ns n (xs ++ ys)) = (
      listed_without ns n (cell (watches_at watches j).a) e.clause j xs ys ln (λ q. (far q).0) old.0,
      listed_without ns n (cell (watches_at watches j).b) e.clause j xs ys ln (λ q. (far q).1) old.1,
    ) in
    subst L (sym after) now

-- an entry is added to another list
pub pushed_back : (lists new : List (List Watcher)) (f : Lit) (s : Sifted) (m : ℕ) (e : Watcher) → (m ≡ cell f → ⊥) → new ≡ set lists m (get_or lists m [] ++ e ∷ []) →
    put_back new f s ≡ set (put_back lists f s) m (get_or (put_back lists f s) m [] ++ e ∷ [])
pushed_back lists new f s m e ne same =
    let n = cell f in
    let here : get_or (put_back lists f s) m [] ≡ get_or lists m [] = rw get_or-set_other refl in
    ap (λ v. set v n (whole s)) same
    ∙ set_comm lists m n (get_or lists m [] ++ e ∷ []) (whole s) ne
    ∙ ap (λ v. set (put_back lists f s) m (v ++ e ∷ [])) (sym here)

-- the end: each clause that watches f was visited
pub done_all : (cs : List (List Lit)) (watches : List Watches) (lists : List (List Watcher)) (literals : List Lit) (f : Lit) (s : Sifted) → length watches ≡ length cs → cell f < length lists →
    AllListed watches (numbers_of (put_back lists f s)) → s.rest ≡ [] → All (λ e. DoneWith cs watches literals f e.clause) s.kept → (k : ℕ) → DoneWith cs watches literals f k
done_all cs watches lists literals f s len lt ok none all k lk big =
    let h = ok k (omega arith) big in
    let P : Lit → Type 0 = λ x. Listed (numbers_of (put_back lists f s)) (cell x) k in
    let Q : List Watcher → Type 0 = λ v. list_any (λ x. eqb x k) (numbers v) ≡ true in
    let here : get_or (put_back lists f s) (cell f) [] ≡ s.kept = get_or-set_same lists (cell f) (whole s) [] lt ∙ ap (λ v. s.kept ++ v) none ∙ append-nil s.kept in
    let D : ℕ → Type 0 = DoneWith cs watches literals f in
    let from : (l : Lit) → Listed (numbers_of (put_back lists f s)) (cell l) k → l ≡ f → D k = λ l listed e.
    let R : List ℕ → Type 0 = λ v. list_any (λ x. eqb x k) v ≡ true in
    let there : Q s.kept = subst Q here (subst R (numbers_at (put_back lists f s) (cell f)) (subst P e listed)) in
    let w = list_where (numbers s.kept) k there in
    let lw : w.0 < length s.kept = omega (arith, w.1, length-map s.kept (λ (x : Watcher). x.clause)) in
    let there' : D (get_or s.kept w.0 none_entry).clause = All-get_or (λ (x : Watcher). D x.clause) s.kept w.0 none_entry lw all in
    subst D (sym (number_at s.kept w.0) ∙ w.2) there' in
    (λ e. (from (watches_at watches k).a h.0 e lk big).0 e, λ e. (from (watches_at watches k).b h.1 e lk big).1 e)

-- the start: a list that was taken out is put back as it was
pub taken_out : (lists new : List (List Watcher)) (c : ℕ) (f : Lit) (s : Sifted) → c ≡ cell f → new ≡ set lists c [] → s.kept ≡ [] → s.rest ≡ get_or lists c [] → put_back new f s ≡ lists
taken_out lists new c f s e same kept rest =
    let all : whole s ≡ get_or lists c [] = ap (λ v. v ++ s.rest) kept ∙ rest in
    ap (λ n. set new n (whole s)) (sym e)
    ∙ ap (λ v. set v c (whole s)) same
    ∙ set-set lists c [] (whole s)
    ∙ ap (set lists c) all
    ∙ set-get_or lists c []
