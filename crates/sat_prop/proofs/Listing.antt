-- What the lists' entries keep as the lists change, and what the numbers in them are.
use Rattle.std.proofs.Common.{◌≡◌, ℕ, ◌<◌, ◌-◌, Bool, true, false, List, [], ◌∷◌, ◌++◌, length, take, get_or, set, refl, sym, subst, ap, ◌∙◌, inl, inr, arith, get_or-set_other, get_or-set_same, length-append, length-set}
use Rattle.std.specs.List.{All}
use Rattle.std.proofs.Math.ListN.{get_or-map}
use Rattle.std.proofs.Math.Seq.{get_or-append_seam}
use Rattle.std.proofs.lemmas.Bool.{cases_eq, cases_lt, both_ways}
use Rattle.std.proofs.lemmas.List.{map-append, map-set, set-set, set-get_or, take-append-le, take_all, get_or_append_left, get_or_past}
use Rattle.std.proofs.lemmas.List.Elements.{All-push, All-weaker}
use Rattle.clause_core.specs.declared.literal.Lit.{Lit}
use Rattle.sat_prop.specs.declared.lists.Watcher.{Watcher}
use Rattle.sat_prop.specs.declared.watch.Watches.{Watches}
use Rattle.sat_prop.specs.Entries.{AllEntries, fits, listed_with, none_entry, numbers, numbers_of}
use Rattle.sat_prop.specs.Trails.{among}
use Rattle.sat_prop.specs.Watches.{cell}

pub numbers_at : (lists : List (List Watcher)) (n : ℕ) → get_or (numbers_of lists) n [] ≡ numbers (get_or lists n [])
numbers_at lists n = get_or-map numbers lists n []

pub number_at : (xs : List Watcher) (i : ℕ) → get_or (numbers xs) i 0 ≡ (get_or xs i none_entry).clause
number_at xs i = get_or-map (λ e. e.clause) xs i none_entry

-- an entry more
pub numbers_push : (lists new : List (List Watcher)) (c : ℕ) (e : Watcher) → new ≡ set lists c (get_or lists c [] ++ e ∷ []) →
    numbers_of new ≡ set (numbers_of lists) c (get_or (numbers_of lists) c [] ++ e.clause ∷ [])
numbers_push lists new c e same =
    ap numbers_of same
    ∙ map-set numbers lists c (get_or lists c [] ++ e ∷ [])
    ∙ ap (set (numbers_of lists) c) (map-append (λ (x : Watcher). x.clause) (get_or lists c []) (e ∷ []) ∙ ap (λ v. v ++ e.clause ∷ []) (sym (numbers_at lists c)))

-- what all entries pass
pub entries_set : (p : Watcher → Bool) (lists new : List (List Watcher)) (c : ℕ) (xs : List Watcher) → c < length lists → new ≡ set lists c xs →
    AllEntries p lists → All (λ e. p e ≡ true) xs → AllEntries p new
entries_set p lists new c xs lt same all here n =
    let P : List Watcher → Type 0 = All (λ e. p e ≡ true) in
    let Q : List (List Watcher) → Type 0 = λ v. P (get_or v n []) in
    let now : Q (set lists c xs) = elim (cases_eq n c) [
      | inl e ↦
          let R : ℕ → Type 0 = λ m. P (get_or (set lists c xs) m []) in
          subst R (sym e) (subst P (sym (get_or-set_same lists c xs [] lt)) here)
      | inr ne ↦
          let e : get_or (set lists c xs) n [] ≡ get_or lists n [] = rw get_or-set_other refl in
          subst P (sym e) (all n)
    ] in
    subst Q (sym same) now

pub entries_push : (p : Watcher → Bool) (lists new : List (List Watcher)) (c : ℕ) (e : Watcher) → c < length lists → new ≡ set lists c (get_or lists c [] ++ e ∷ []) →
    AllEntries p lists → p e ≡ true → AllEntries p new
entries_push p lists new c e lt same all here =
    entries_set p lists new c (get_or lists c [] ++ e ∷ []) lt same all (All-push (λ x. p x ≡ true) (get_or lists c []) e (all c) here)

-- what was put at the end is taken out again
pub undone : (lists mid last : List (List Watcher)) (c : ℕ) (e : Watcher) → c < length lists → mid ≡ set lists c (get_or lists c [] ++ e ∷ []) →
    last ≡ set mid c (take (length (get_or mid c []) - 1) (get_or mid c [])) → last ≡ lists
undone lists mid last c e lt emid elast =
    let xs = get_or lists c [] in
    let ys = xs ++ e ∷ [] in
    let here : get_or mid c [] ≡ ys = ap (λ v. get_or v c []) emid ∙ get_or-set_same lists c ys [] lt in
    let ln : length ys - 1 ≡ length xs = omega (arith, length-append xs (e ∷ [])) in
    let short : take (length ys - 1) ys ≡ xs = ap (λ n. take n ys) ln ∙ take-append-le (length xs) xs (e ∷ []) (omega arith) ∙ take_all (length xs) xs (omega arith) in
    elast
    ∙ ap (λ v. set mid c (take (length v - 1) v)) here
    ∙ ap (set mid c) short
    ∙ ap (λ v. set v c xs) emid
    ∙ set-set lists c ys xs
    ∙ set-get_or lists c []

pub undone_both : (lists mid last now : List (List Watcher)) (h : Watches) (k : ℕ) → cell h.a < length lists → cell h.b < length lists → now ≡ listed_with lists h k →
    mid ≡ set now (cell h.b) (take (length (get_or now (cell h.b) []) - 1) (get_or now (cell h.b) [])) →
    last ≡ set mid (cell h.a) (take (length (get_or mid (cell h.a) []) - 1) (get_or mid (cell h.a) [])) → last ≡ lists
undone_both lists mid last now h k la lb enow emid elast =
    let first = set lists (cell h.a) (get_or lists (cell h.a) [] ++ record { clause = k; blocker = h.b } ∷ []) in
    let lf : cell h.b < length first = omega (arith, lb, length-set lists (cell h.a) (get_or lists (cell h.a) [] ++ record { clause = k; blocker = h.b } ∷ [])) in
    let back : mid ≡ first = undone first now mid (cell h.b) (record { clause = k; blocker = h.a }) lf enow emid in
    undone lists mid last (cell h.a) (record { clause = k; blocker = h.b }) la back elast

-- the clauses grow
pub fits_more : (cs bs : List (List Lit)) (e : Watcher) → fits cs e ≡ true → fits (cs ++ bs) e ≡ true
fits_more cs bs e on =
    let P : List Lit → Type 0 = λ c. among c e.blocker ≡ true in
    elim (cases_lt e.clause (length cs)) [
      | inl lt ↦ subst P (sym (get_or_append_left cs bs [] e.clause lt)) on
      | inr ge ↦
          let none : P [] = subst P (get_or_past cs e.clause [] ge) on in
          absurd (both_ways false refl none)
    ]

pub fits_below : (cs : List (List Lit)) (e : Watcher) → fits cs e ≡ true → e.clause < length cs
fits_below cs e on =
    let P : List Lit → Type 0 = λ c. among c e.blocker ≡ true in
    elim (cases_lt e.clause (length cs)) [
      | inl lt ↦ lt
      | inr ge ↦
          let none : P [] = subst P (get_or_past cs e.clause [] ge) on in
          absurd (both_ways false refl none)
    ]

pub fits_new : (cs : List (List Lit)) (c : List Lit) (l : Lit) → among c l ≡ true → fits (cs ++ c ∷ []) (record { clause = length cs; blocker = l }) ≡ true
fits_new cs c l on =
    let P : List Lit → Type 0 = λ x. among x l ≡ true in
    subst P (sym (get_or-append_seam cs c [] [])) on

pub entries_more : (cs bs : List (List Lit)) (lists : List (List Watcher)) → AllEntries (fits cs) lists → AllEntries (fits (cs ++ bs)) lists
entries_more cs bs lists all n =
    All-weaker (λ e. fits cs e ≡ true) (λ e. fits (cs ++ bs) e ≡ true) (λ e on. fits_more cs bs e on) (get_or lists n []) (all n)

-- a clause in the lists of its two watches
pub entries_both : (p : Watcher → Bool) (lists new : List (List Watcher)) (h : Watches) (k : ℕ) → cell h.a < length lists → cell h.b < length lists → new ≡ listed_with lists h k →
    AllEntries p lists → p (record { clause = k; blocker = h.b }) ≡ true → p (record { clause = k; blocker = h.a }) ≡ true → AllEntries p new
entries_both p lists new h k la lb same all pb pa =
    let xs = get_or lists (cell h.a) [] ++ record { clause = k; blocker = h.b } ∷ [] in
    let first = set lists (cell h.a) xs in
    let lf : cell h.b < length first = omega (arith, lb, length-set lists (cell h.a) xs) in
    entries_push p first new (cell h.b) (record { clause = k; blocker = h.a }) lf same
    (entries_push p lists first (cell h.a) (record { clause = k; blocker = h.b }) la refl all pb) pa

pub length_both : (lists new : List (List Watcher)) (h : Watches) (k : ℕ) → new ≡ listed_with lists h k → length new ≡ length lists
length_both lists new h k same =
    let xs = get_or lists (cell h.a) [] ++ record { clause = k; blocker = h.b } ∷ [] in
    let first = set lists (cell h.a) xs in
    ap length same ∙ length-set first (cell h.b) (get_or first (cell h.b) [] ++ record { clause = k; blocker = h.a } ∷ []) ∙ length-set lists (cell h.a) xs
