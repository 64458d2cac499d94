use Rattle.std.proofs.Common.{◌≡◌, ℕ, ◌<◌, ◌≤◌, ◌*◌, ◌^◌, eqb, true, false, List, [], ◌∷◌, ◌++◌, length, take, get_or, set, refl, sym, subst, ap, ◌∙◌, inl, inr, arith, length-append, length-set}
use Rattle.std.specs.List.{All, list_any}
use Rattle.std.proofs.Math.Seq.{get_or-append_seam}
use Rattle.std.proofs.lemmas.Bool.{cases_Bool, cases_lt, both_ways}
use Rattle.std.proofs.lemmas.List.{take-take, take_all, take-append-le, get_or_append_left, length-take, length-map, get_or-take}
use Rattle.clause_core.specs.declared.literal.Lit.{Lit}
use Rattle.std.proofs.lemmas.List.Elements.{All-contains, All-weaker}
use Rattle.clause_core.specs.Literals.{negate, none_lit, at, Within}
use Rattle.sat_prop.proofs.Sweeps.{contains_among}
use Rattle.sat_prop.specs.declared.trail.Trail.{Trail}
use Rattle.sat_prop.specs.declared.watch.Watches.{Watches}
use Rattle.sat_prop.specs.Trails.{is_literal, among}
use Rattle.sat_prop.specs.Watches.{none_watches, watches_at, TrueIn, Guarded, HasTwo, AllGuarded, HasOneLiteral, ShortListed, ShortTrue, LevelsGuarded, WatchesIn, AllWatchesIn, InShort, Listed, AllListed, ListsMore, ShortMore, Enlisted, Watchable, WatchesSay, cell}
use Rattle.sat_prop.proofs.Ways.{among_take_where, among_take_here, among_where, among_here}
use Rattle.sat_prop.specs.Covers.{is_covered}
use Rattle.sat_prop.proofs.Covering.{uncovered_before}
use Rattle.sat_prop.proofs.Queues.{take_in}
use Rattle.sat_prop.proofs.Watching.{watch_grows, list_at}
use Rattle.sat_prop.proofs.Visits.{cell_in, cell_now, listed_push}
use Rattle.sat_prop.specs.declared.lists.Watcher.{Watcher}
use Rattle.sat_prop.specs.Entries.{AllEntries, fits, listed_with, numbers, numbers_of}
use Rattle.sat_prop.proofs.Listing.{entries_both, entries_more, fits_new, length_both, numbers_push}

-- a fact of each clause and its watches, with one clause more
pub per_new : (R : ℕ → Watches → List Lit → Type 0) (cs : List (List Lit)) (watches : List Watches) (c : List Lit) (h : Watches) → length watches ≡ length cs →
    ((k : ℕ) → k < length cs → R k (watches_at watches k) (get_or cs k [])) → R (length cs) h c →
    (k : ℕ) → k < length (cs ++ c ∷ []) → R k (watches_at (watches ++ h ∷ []) k) (get_or (cs ++ c ∷ []) k [])
per_new R cs watches c h len old new k lk =
    elim (cases_lt k (length cs)) [
      | inl lt ↦
          let lh : k < length watches = omega (arith, lt, len) in
          let e : watches_at (watches ++ h ∷ []) k ≡ watches_at watches k = get_or_append_left watches (h ∷ []) none_watches k lh in
          let f : get_or (cs ++ c ∷ []) k [] ≡ get_or cs k [] = get_or_append_left cs (c ∷ []) [] k lt in
          let P : Watches → Type 0 = λ x. R k x (get_or (cs ++ c ∷ []) k []) in
          let Q : List Lit → Type 0 = λ x. R k (watches_at watches k) x in
          subst P (sym e) (subst Q (sym f) (old k lt))
      | inr ge ↦
          let last : k ≡ length cs = omega (arith, lk, ge, length-append cs (c ∷ [])) in
          let se : length cs ≡ length watches = sym len in
          let e : watches_at (watches ++ h ∷ []) (length cs) ≡ h = rw se (get_or-append_seam watches h [] none_watches) in
          let f : get_or (cs ++ c ∷ []) (length cs) [] ≡ c = get_or-append_seam cs c [] [] in
          let P : Watches → Type 0 = λ x. R (length cs) x (get_or (cs ++ c ∷ []) (length cs) []) in
          let Q : List Lit → Type 0 = λ x. R (length cs) h x in
          let here : P (watches_at (watches ++ h ∷ []) (length cs)) = subst P (sym e) (subst Q (sym f) new) in
          let S : ℕ → Type 0 = λ n. R n (watches_at (watches ++ h ∷ []) n) (get_or (cs ++ c ∷ []) n []) in
          subst S (sym last) here
    ]

pub heads_new : (cs : List (List Lit)) (watches : List Watches) (c : List Lit) (h : Watches) → length watches ≡ length cs → AllWatchesIn cs watches → (HasTwo h → WatchesIn h c) →
    AllWatchesIn (cs ++ c ∷ []) (watches ++ h ∷ [])
heads_new cs watches c h len ok two = per_new (λ k x y. HasTwo x → WatchesIn x y) cs watches c h len ok two

pub lists_new : (cs : List (List Lit)) (watches : List Watches) (lists lists' : List (List ℕ)) (short : List ℕ) (c : List Lit) (h : Watches) → length watches ≡ length cs → AllListed watches lists →
    ListsMore lists lists' → Enlisted lists' short h (length cs) → AllListed (watches ++ h ∷ []) lists'
lists_new cs watches lists lists' short c h len ok more new k lk =
    per_new (λ k x _. HasTwo x → Listed lists' (cell x.a) k × Listed lists' (cell x.b) k) cs watches c h len
    (λ j lj big. let o = ok j (omega (arith, lj, len)) big in (more (cell (watches_at watches j).a) j o.0, more (cell (watches_at watches j).b) j o.1))
    new.0 k (omega (arith, lk, len, length-append cs (c ∷ []), length-append watches (h ∷ [])))

-- a clause at the end of the lists of its two watches
pub listed_new : (lists : List (List ℕ)) (n k : ℕ) → n < length lists → Listed (set lists n (get_or lists n [] ++ k ∷ [])) n k
listed_new lists n k lt =
    let xs = get_or lists n [] in
    let Q : List ℕ → Type 0 = λ v. list_any (λ y. eqb y k) v ≡ true in
    subst Q (sym (cell_now lists n (xs ++ k ∷ []) lt)) (list_at (xs ++ k ∷ []) k (length xs) (omega (arith, length-append xs (k ∷ []))) (get_or-append_seam xs k [] 0))

pub listed_both : (lists new : List (List Watcher)) (h : Watches) (k : ℕ) → cell h.a < length lists → cell h.b < length lists → new ≡ listed_with lists h k →
    ListsMore (numbers_of lists) (numbers_of new) × (Listed (numbers_of new) (cell h.a) k × Listed (numbers_of new) (cell h.b) k)
listed_both lists new h k la lb same =
    let a = cell h.a in
    let b = cell h.b in
    let one : Watcher = record { clause = k; blocker = h.b } in
    let two : Watcher = record { clause = k; blocker = h.a } in
    let first = set lists a (get_or lists a [] ++ one ∷ []) in
    let N = numbers_of lists in
    let M = numbers_of first in
    let em : M ≡ set N a (get_or N a [] ++ k ∷ []) = numbers_push lists first a one refl in
    let en : numbers_of new ≡ set M b (get_or M b [] ++ k ∷ []) = numbers_push first new b two same in
    let na : a < length N = omega (arith, la, length-map lists numbers) in
    let mb : b < length M = omega (arith, lb, length-map first numbers, length-set lists a (get_or lists a [] ++ one ∷ [])) in
    let up : (n j : ℕ) → Listed N n j → Listed M n j = λ n j l. let P : List (List ℕ) → Type 0 = λ v. Listed v n j in subst P (sym em) (listed_push N a k n j na l) in
    let on : (n j : ℕ) → Listed M n j → Listed (numbers_of new) n j = λ n j l. let P : List (List ℕ) → Type 0 = λ v. Listed v n j in subst P (sym en) (listed_push M b k n j mb l) in
    let P : List (List ℕ) → Type 0 = λ v. Listed v a k in
    let Q : List (List ℕ) → Type 0 = λ v. Listed v b k in
    (λ n j l. on n j (up n j l), (on a k (subst P (sym em) (listed_new N a k na)), subst Q (sym en) (listed_new M b k mb)))

-- the lists after a clause was put where it is to be found
pub enlisted : (lists new : List (List Watcher)) (short : List ℕ) (h : Watches) (k : ℕ) → (is_literal h.a h.b ≡ false → cell h.a < length lists) → (is_literal h.a h.b ≡ false → cell h.b < length lists) →
    (is_literal h.a h.b ≡ true → new ≡ lists) → (HasTwo h → new ≡ listed_with lists h k) → (is_literal h.a h.b ≡ true → InShort short k) →
    ListsMore (numbers_of lists) (numbers_of new) × Enlisted (numbers_of new) short h k
enlisted lists new short h k la lb same both in_short = (
  elim (cases_Bool (is_literal h.a h.b)) [
    | inl on ↦ λ n j l. let P : List (List Watcher) → Type 0 = λ v. Listed (numbers_of v) n j in subst P (sym (same on)) l
    | inr off ↦ (listed_both lists new h k (la off) (lb off) (both off)).0
  ],
  (λ off. (listed_both lists new h k (la off) (lb off) (both off)).1, in_short),
)

-- the entries after a clause was put where it is to be found
pub entries_new : (cs : List (List Lit)) (c : List Lit) (lists new : List (List Watcher)) (h : Watches) → (is_literal h.a h.b ≡ false → cell h.a < length lists) → (is_literal h.a h.b ≡ false → cell h.b < length lists) →
    (is_literal h.a h.b ≡ true → new ≡ lists) → (HasTwo h → new ≡ listed_with lists h (length cs)) → (HasTwo h → WatchesIn h c) → AllEntries (fits cs) lists →
    AllEntries (fits (cs ++ c ∷ [])) new
entries_new cs c lists new h la lb same both two fit =
    let more : AllEntries (fits (cs ++ c ∷ [])) lists = entries_more cs (c ∷ []) lists fit in
    let P : List (List Watcher) → Type 0 = AllEntries (fits (cs ++ c ∷ [])) in
    elim (cases_Bool (is_literal h.a h.b)) [
      | inl on ↦ subst P (sym (same on)) more
      | inr off ↦ entries_both (fits (cs ++ c ∷ [])) lists new h (length cs) (la off) (lb off) (both off) more (fits_new cs c h.b (two off).1) (fits_new cs c h.a (two off).0)
    ]

pub enlisted_length : (lists new : List (List Watcher)) (h : Watches) (k : ℕ) → (is_literal h.a h.b ≡ true → new ≡ lists) → (HasTwo h → new ≡ listed_with lists h k) → length new ≡ length lists
enlisted_length lists new h k same both =
    elim (cases_Bool (is_literal h.a h.b)) [
      | inl on ↦ ap length (same on)
      | inr off ↦ length_both lists new h k (both off)
    ]

-- what was put into the lists is taken out again
pub delisted : (lists mid last : List (List Watcher)) (h : Watches) (k : ℕ) → (is_literal h.a h.b ≡ true → mid ≡ lists) → (HasTwo h → mid ≡ listed_with lists h k) →
    (is_literal h.a h.b ≡ true → last ≡ mid) → (HasTwo h → (before : List (List Watcher)) (j : ℕ) → length before ≡ length mid → mid ≡ listed_with before h j → last ≡ before) → last ≡ lists
delisted lists mid last h k same both kept back =
    elim (cases_Bool (is_literal h.a h.b)) [
      | inl on ↦ kept on ∙ same on
      | inr off ↦ back off lists k (sym (length_both lists mid h k (both off))) (both off)
    ]

-- a longer list of short clauses
pub small_more : (cs : List (List Lit)) (watches : List Watches) (short short' : List ℕ) → ShortMore short short' → ShortListed cs watches short → ShortListed cs watches short'
small_more cs watches short short' more ok k lk same off = let f = ok k lk same off in (f.0, more k f.1)

pub small_new : (cs : List (List Lit)) (watches : List Watches) (lists' : List (List ℕ)) (short short' : List ℕ) (c : List Lit) (h : Watches) → length watches ≡ length cs → ShortListed cs watches short →
    ShortMore short short' → Enlisted lists' short' h (length cs) → (is_literal h.a h.b ≡ true → HasOneLiteral c) → ShortListed (cs ++ c ∷ []) (watches ++ h ∷ []) short'
small_new cs watches lists' short short' c h len ok more new one =
    per_new (λ k x y. is_literal x.a x.b ≡ true → is_covered (cs ++ c ∷ []) k ≡ false → HasOneLiteral y × InShort short' k) cs watches c h len
    (λ j lj e off. let o = ok j lj e (uncovered_before cs (c ∷ []) j off) in (o.0, more j o.1)) (λ e _. (one e, new.1 e))

-- the levels with a clause more
pub watch_new : (cs : List (List Lit)) (watches : List Watches) (c : List Lit) (h : Watches) (s u : List Lit) → length watches ≡ length cs →
    (HasTwo h → among s (negate h.a) ≡ false) → (HasTwo h → among s (negate h.b) ≡ false) →
    AllGuarded cs watches s u → AllGuarded (cs ++ c ∷ []) (watches ++ h ∷ []) s u
watch_new cs watches c h s u len fa fb old =
    per_new (λ k x y. HasTwo x → Guarded s u x y) cs watches c h len old (λ two. (λ on. absurd (both_ways _ (fa two) on), λ on. absurd (both_ways _ (fb two) on)))

pub levels_new : (cs : List (List Lit)) (watches : List Watches) (c : List Lit) (w : ℕ) (h : Watches) (literals : List Lit) (level_starts : List ℕ) → length watches ≡ length cs → WatchesSay c w h →
    Watchable literals level_starts c w → LevelsGuarded cs watches literals level_starts → LevelsGuarded (cs ++ c ∷ []) (watches ++ h ∷ []) literals level_starts
levels_new cs watches c w h literals level_starts len said can old i li =
    let s = take (get_or level_starts i 0) literals in
    let f = can i li in
    let o = old i li in
    let e = said.2 f.0 f.1 in
    let A : Lit → Type 0 = λ x. among s (negate x) ≡ false in
    let D : Lit → Lit → Type 0 = λ x y. is_literal x y ≡ false in
    let E : Lit → Type 0 = λ x. is_literal x (at c w) ≡ false in
    let F : Lit → Type 0 = λ x. is_literal h.a x ≡ false in
    let apart : is_literal h.a h.b ≡ false = subst F (sym e.1) (subst E (sym e.0) f.1) in (
      watch_new cs watches c h s s len (λ _. subst A (sym e.0) f.2) (λ _. subst A (sym e.1) f.3) o.0,
      per_new (λ k x y. is_literal x.a x.b ≡ true → is_covered (cs ++ c ∷ []) k ≡ false → TrueIn s y) cs watches c h len
          (λ j lj e off. o.1 j lj e (uncovered_before cs (c ∷ []) j off)) (λ on _. absurd (both_ways _ apart on)),
    )

-- a literal that stands negated at its place is not false before it
pub not_before : (t : Trail) (l : Lit) (n : ℕ) → n ≤ length t.literals.items → n ≤ get_or t.positions.items l.var 0 → among (take n t.literals.items) (negate l) ≡ false
not_before t l n le below =
    elim (cases_Bool (among (take n t.literals.items) (negate l))) [
      | inl on ↦
          let h = among_take_where t.literals.items n (negate l) le on in
          let here : get_or t.positions.items l.var 0 ≡ h.0 = ap (λ (m : Lit). get_or t.positions.items m.var 0) (sym h.2) ∙ t.placed h.0 (omega (arith, h.1, le)) in
          absurd (omega (arith, h.1, here, below))
      | inr off ↦ off
    ]

-- a literal that is not set is not set before any place
pub not_in_take : (tr : List Lit) (m : Lit) (n : ℕ) → n ≤ length tr → among tr m ≡ false → among (take n tr) m ≡ false
not_in_take tr m n le off =
    elim (cases_Bool (among (take n tr) m)) [
      | inl on ↦ absurd (both_ways _ off (take_in tr n m le on))
      | inr no_more ↦ no_more
    ]

pub take_more : (tr : List Lit) (m n : ℕ) (l : Lit) → m ≤ n → n ≤ length tr → among (take m tr) l ≡ true → among (take n tr) l ≡ true
take_more tr m n l le ln on =
    let h = among_take_where tr m l (omega arith) on in among_take_here tr n h.0 l ln (omega (arith, h.1)) h.2

pub not_in_less : (tr : List Lit) (m n : ℕ) (l : Lit) → m ≤ n → n ≤ length tr → among (take n tr) l ≡ false → among (take m tr) l ≡ false
not_in_less tr m n l le ln off =
    elim (cases_Bool (among (take m tr) l)) [
      | inl on ↦ absurd (both_ways _ off (take_more tr m n l le ln on))
      | inr no_more ↦ no_more
    ]

-- what is guarded up to a place is guarded up to an earlier one
pub queue_less : (cs : List (List Lit)) (watches : List Watches) (tr : List Lit) (m n : ℕ) → m ≤ n → n ≤ length tr → AllGuarded cs watches (take n tr) tr →
    AllGuarded cs watches (take m tr) tr
queue_less cs watches tr m n le ln ok k lk two =
    let old = ok k lk two in
    (λ on. old.0 (take_more tr m n _ le ln on), λ on. old.1 (take_more tr m n _ le ln on))

-- a decision: what was at rest is a boundary
pub levels_decide : (cs : List (List Lit)) (watches : List Watches) (t : Trail) (l : Lit) → AllGuarded cs watches t.literals.items t.literals.items → ShortTrue cs watches t.literals.items →
    LevelsGuarded cs watches t.literals.items t.level_starts.items → LevelsGuarded cs watches (t.literals.items ++ l ∷ []) (t.level_starts.items ++ length t.literals.items ∷ [])
levels_decide cs watches t l watch short levels i li =
    let literals = t.literals.items in
    let level_starts = t.level_starts.items in
    let n = length literals in
    let Q : List Lit → Type 0 = λ x. AllGuarded cs watches x x × ShortTrue cs watches x in
    let R : ℕ → Type 0 = λ s. Q (take s (literals ++ l ∷ [])) in
    elim (cases_lt i (length level_starts)) [
      | inl lt ↦
          let s = get_or level_starts i 0 in
          let le : s ≤ length literals = omega (arith, t.in_trail i lt) in
          let e : get_or (level_starts ++ n ∷ []) i 0 ≡ s = get_or_append_left level_starts (n ∷ []) 0 i lt in
          let f : take s (literals ++ l ∷ []) ≡ take s literals = take-append-le s literals (l ∷ []) le in
          let here : R s = subst Q (sym f) (levels i lt) in
          subst R (sym e) here
      | inr ge ↦
          let last : i ≡ length level_starts = omega (arith, li, ge, length-append level_starts (n ∷ [])) in
          let e : get_or (level_starts ++ n ∷ []) i 0 ≡ n = rw last (get_or-append_seam level_starts n [] 0) in
          let f : take n (literals ++ l ∷ []) ≡ literals = take-append-le n literals (l ∷ []) (omega arith) ∙ take_all n literals (omega arith) in
          let now : Q literals = (watch, short) in
          let here : R n = subst Q (sym f) now in
          subst R (sym e) here
    ]

-- going back to before the decision of a level
pub levels_back : (cs : List (List Lit)) (watches : List Watches) (t : Trail) (k : ℕ) → k < length t.level_starts.items → LevelsGuarded cs watches t.literals.items t.level_starts.items →
    LevelsGuarded cs watches (take (get_or t.level_starts.items k 0) t.literals.items) (take k t.level_starts.items)
levels_back cs watches t k lk levels i li =
    let literals = t.literals.items in
    let level_starts = t.level_starts.items in
    let b = get_or level_starts k 0 in
    let lik : i < k = omega (arith, li, length-take k level_starts) in
    let s = get_or level_starts i 0 in
    let e : get_or (take k level_starts) i 0 ≡ s = get_or-take k level_starts i 0 lik in
    let lt : s < b = t.rising i k lik lk in
    let f : take s (take b literals) ≡ take s literals = take-take s b literals (omega (arith, lt)) in
    let Q : List Lit → Type 0 = λ x. AllGuarded cs watches x x × ShortTrue cs watches x in
    let R : ℕ → Type 0 = λ m. Q (take m (take b literals)) in
    let here : R s = subst Q (sym f) (levels i (omega (arith, lik, lk))) in
    subst R (sym e) here

pub queue_back : (cs : List (List Lit)) (watches : List Watches) (t : Trail) (k : ℕ) → k < length t.level_starts.items → LevelsGuarded cs watches t.literals.items t.level_starts.items →
    (literals' : List Lit) → literals' ≡ take (get_or t.level_starts.items k 0) t.literals.items → (n : ℕ) → n ≡ length literals' → AllGuarded cs watches (take n literals') literals'
queue_back cs watches t k lk levels literals' e n en =
    let Q : List Lit → Type 0 = λ x. AllGuarded cs watches x x in
    let here : Q literals' = subst Q (sym e) (levels k lk).0 in
    let P : List Lit → Type 0 = λ x. AllGuarded cs watches x literals' in
    subst P (sym (take_all n literals' (omega (arith, en)))) here

pub head_cell : (vars : ℕ) (c : List Lit) (l : Lit) → Within vars c → among c l ≡ true → l.var < vars
head_cell vars c l w on = All-contains (λ m. m.var < vars) c l w (contains_among c l on)

pub queue_decide : (cs : List (List Lit)) (watches : List Watches) (literals : List Lit) (l : Lit) (n : ℕ) → n ≤ length literals → AllGuarded cs watches (take n literals) literals →
    AllGuarded cs watches (take n (literals ++ l ∷ [])) (literals ++ l ∷ [])
queue_decide cs watches literals l n le ok =
    let P : List Lit → Type 0 = λ x. AllGuarded cs watches x (literals ++ l ∷ []) in
    let grown : P (take n literals) = watch_grows cs watches (take n literals) literals (literals ++ l ∷ []) (λ m on.
    let h = among_where literals m on in
    among_here (literals ++ l ∷ []) h.0 m (omega (arith, h.1, length-append literals (l ∷ []))) (get_or_append_left literals (l ∷ []) none_lit h.0 h.1 ∙ h.2)) ok in
    subst P (sym (take-append-le n literals (l ∷ []) le)) grown

-- the numbers of a clause's literals, and of its watches, fit a word
pub clause_low : (vars : ℕ) (c : List Lit) → Within vars c → 2 * vars < 2 ^ 32 → All (λ l. cell l < 2 ^ 32) c
clause_low vars c within room = All-weaker (λ (l : Lit). l.var < vars) (λ l. cell l < 2 ^ 32) (λ l lt. omega (arith, cell_in l vars lt, room)) c within

pub words_low : (vars : ℕ) (c : List Lit) (w : ℕ) (h : Watches) → Within vars c → 2 * vars < 2 ^ 32 → WatchesSay c w h → (cell h.a < 2 ^ 32) × (cell h.b < 2 ^ 32)
words_low vars c w h within room said =
    elim (cases_Bool (is_literal h.a h.b)) [
      | inl on ↦ (omega (arith, (said.3 on).0), omega (arith, (said.3 on).1))
      | inr off ↦
          let both = said.0 off in (
            omega (arith, cell_in h.a vars (head_cell vars c h.a within both.0), room),
            omega (arith, cell_in h.b vars (head_cell vars c h.b within both.1), room),
          )
    ]
