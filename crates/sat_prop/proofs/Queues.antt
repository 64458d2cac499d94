use Rattle.std.proofs.Common.{◌≡◌, ℕ, ◌<◌, ◌≤◌, true, List, [], ◌∷◌, Option, None, Some, MatchOption, length, take, get_or, refl, sym, subst, ap, ◌∙◌, inl, inr, arith}
use Rattle.std.specs.List.{Contains}
use Rattle.std.proofs.lemmas.Bool.{cases_Bool, both_ways}
use Rattle.std.proofs.lemmas.List.{take-take, length-take, take_all, get_or_default}
use Rattle.clause_core.specs.declared.literal.Lit.{Lit}
use Rattle.clause_core.specs.Literals.{negate, none_lit, at}
use Rattle.clause_core.specs.Propagation.{Settled}
use Rattle.sat_prop.specs.declared.trail.Trail.{Trail}
use Rattle.sat_prop.specs.declared.watch.Watches.{Watches}
use Rattle.sat_prop.specs.Trails.{is_literal, among, AtRest}
use Rattle.sat_prop.specs.Moves.{Extends}
use Rattle.sat_prop.specs.Watches.{watches_at, TrueIn, AllGuarded, Kept, KeepsTwo, HasOneLiteral, ShortDone, ShortListed, ShortTrue, LevelsGuarded, AllWatchesIn}
use Rattle.sat_prop.proofs.Ways.{lit_is_same, among_here, among_take_where, among_one_side, at_take}
use Rattle.sat_prop.proofs.Visits.{went_grows}
use Rattle.sat_prop.proofs.Covering.{uncovered_rest}
use Rattle.sat_prop.proofs.Watching.{watch_grows, true_from, true_grows, true_settled, watched_settled, list_where}

pub take_in : (tr : List Lit) (n : ℕ) (l : Lit) → n ≤ length tr → among (take n tr) l ≡ true → among tr l ≡ true
take_in tr n l le on =
    let h = among_take_where tr n l le on in
    among_here tr h.0 l (omega (arith, h.1, le)) h.2

-- a prefix of an earlier trail is one of the later trail
pub prefix_take : (old new : Trail) (n : ℕ) → Extends old new → n ≤ length old.literals.items → take n new.literals.items ≡ take n old.literals.items
prefix_take old new n w le =
    sym (take-take n (length old.literals.items) new.literals.items le) ∙ ap (take n) w.prefix

pub went_longer : (old new : Trail) → Extends old new → length old.literals.items ≤ length new.literals.items
went_longer old new w = omega (arith, ap length w.prefix, length-take (length old.literals.items) new.literals.items)

-- the queue after a visit, whatever it found
pub queue_kept : (cs : List (List Lit)) (h h' : List Watches) (t t' : Trail) (n : ℕ) → n ≤ length t.literals.items → Extends t t' → Kept cs h h' t.literals.items →
    AllGuarded cs h (take n t.literals.items) t.literals.items → AllGuarded cs h' (take n t'.literals.items) t'.literals.items
queue_kept cs h h' t t' n le w kept ok =
    let a = kept (take n t.literals.items) t.literals.items (λ l on. take_in t.literals.items n l le on) ok in
    let b : AllGuarded cs h' (take n t.literals.items) t'.literals.items = watch_grows cs h' (take n t.literals.items) t.literals.items t'.literals.items (λ l on. went_grows t t' w l on) a in
    let P : List Lit → Type 0 = λ x. AllGuarded cs h' x t'.literals.items in
    subst P (sym (prefix_take t t' n w le)) b

pub kept_on : (cs : List (List Lit)) (a b c : List Watches) (t t' : Trail) → Extends t t' → Kept cs a b t.literals.items → Kept cs b c t'.literals.items → Kept cs a c t.literals.items
kept_on cs a b c t t' w f g s u part old = g s u (λ l on. went_grows t t' w l (part l on)) (f s u part old)

pub small_grows : (cs : List (List Lit)) (h : List Watches) (u w : List Lit) → ((l : Lit) → among u l ≡ true → among w l ≡ true) → ShortTrue cs h u → ShortTrue cs h w
small_grows cs h u w g s k lk e off = true_grows u w (get_or cs k []) g (s k lk e off)

-- a clause that was of one literal still is
pub small_back : (h h' : List Watches) (k : ℕ) → KeepsTwo h h' → is_literal (watches_at h' k).a (watches_at h' k).b ≡ true → is_literal (watches_at h k).a (watches_at h k).b ≡ true
small_back h h' k two_kept e =
    elim (cases_Bool (is_literal (watches_at h k).a (watches_at h k).b)) [
      | inl on ↦ on
      | inr off ↦ absurd (both_ways _ (two_kept k off) e)
    ]

pub small_true_heads : (cs : List (List Lit)) (h h' : List Watches) (u : List Lit) → KeepsTwo h h' → ShortTrue cs h u → ShortTrue cs h' u
small_true_heads cs h h' u two_kept s k lk e off = s k lk (small_back h h' k two_kept e) off

pub small_ok_heads : (cs : List (List Lit)) (h h' : List Watches) (short : List ℕ) → KeepsTwo h h' → ShortListed cs h short → ShortListed cs h' short
small_ok_heads cs h h' short two_kept s k lk e off = s k lk (small_back h h' k two_kept e) off

-- the clauses stay guarded before each decision
pub levels_kept : (cs : List (List Lit)) (h h' : List Watches) (t t' : Trail) → Extends t t' → Kept cs h h' t.literals.items → KeepsTwo h h' →
    LevelsGuarded cs h t.literals.items t.level_starts.items → LevelsGuarded cs h' t'.literals.items t'.level_starts.items
levels_kept cs h h' t t' w kept two_kept levels =
    let P : List ℕ → Type 0 = λ xs. LevelsGuarded cs h' t'.literals.items xs in
    let here : P t.level_starts.items = λ i li.
    let s = get_or t.level_starts.items i 0 in
    let le : s ≤ length t.literals.items = omega (arith, t.in_trail i li) in
    let low = take s t.literals.items in
    let old = levels i li in
    let Q : List Lit → Type 0 = λ x. AllGuarded cs h' x x × ShortTrue cs h' x in
    let now : Q low = (kept low low (λ l on. take_in t.literals.items s l le on) old.0, small_true_heads cs h h' low two_kept old.1) in
    subst Q (sym (prefix_take t t' s w le)) now in
    subst P (sym w.level_starts) here

-- a clause of one literal that is settled has it
pub one_at : (c : List Lit) (j : ℕ) → HasOneLiteral c → j < length c → at c j ≡ at c 0
one_at c j one lj = lit_is_same (at c j) (at c 0) (one j none_lit lj)

pub one_settled : (u c : List Lit) → HasOneLiteral c → Settled (among u) c → TrueIn u c
one_settled u [] one s = absurd (s.0 (λ j d lt. absurd (omega (arith, lt))))
one_settled u (x ∷ xs) one s =
    let c = x ∷ xs in
    let l = at c 0 in
    let lt : 0 < length c = omega arith in
    let here : Contains c l = (0, lt, refl) in
    true_from u c l here (s.1 l (here, λ j d lj ne. absurd (ne (get_or_default c j d none_lit lj ∙ one_at c j one lj))))

pub went_at : (old new : Trail) (q : ℕ) → Extends old new → q < length old.literals.items → at new.literals.items q ≡ at old.literals.items q
went_at old new q w lt = sym (at_take new.literals.items (length old.literals.items) q lt) ∙ ap (λ xs. at xs q) w.prefix

pub all_apart : (t : Trail) → (l : Lit) → among t.literals.items l ≡ true → among t.literals.items (negate l) ≡ true → ⊥
all_apart t l a b =
    let P : List Lit → Type 0 = λ x. among x l ≡ true → among x (negate l) ≡ true → ⊥ in
    subst P (take_all (length t.literals.items) t.literals.items (omega arith)) (λ x y. among_one_side t.literals.items t.positions.items (length t.literals.items) l t.placed (omega arith) x y) a b

pub small_done : (cs : List (List Lit)) (watches : List Watches) (short : List ℕ) (u : List Lit) → ShortListed cs watches short →
    ((j : ℕ) → j < length short → ShortDone cs u (get_or short j 0)) → ShortTrue cs watches u
small_done cs watches short u ok done k lk e off =
    let f = ok k lk e off in
    let w = list_where short k f.1 in
    let P : ℕ → Type 0 = ShortDone cs u in
    subst P w.2 (done w.0 w.1) lk f.0

pub small_level : (cs : List (List Lit)) (watches : List Watches) (t : Trail) → (length t.level_starts.items ≡ 0 → ⊥) → LevelsGuarded cs watches t.literals.items t.level_starts.items → ShortTrue cs watches t.literals.items
small_level cs watches t some levels =
    let l0 : 0 < length t.level_starts.items = omega (arith, some) in
    let s = get_or t.level_starts.items 0 0 in
    let le : s ≤ length t.literals.items = omega (arith, t.in_trail 0 l0) in
    small_grows cs watches (take s t.literals.items) t.literals.items (λ l on. take_in t.literals.items s l le on) (levels 0 l0).1

pub levels_went : (cs : List (List Lit)) (h : List Watches) (t t' : Trail) → Extends t t' →
    LevelsGuarded cs h t.literals.items t.level_starts.items → LevelsGuarded cs h t'.literals.items t'.level_starts.items
levels_went cs h t t' w levels = levels_kept cs h h t t' w (λ s u part old. old) (λ k big. big) levels

-- all is at rest
pub queue_rest : (cs : List (List Lit)) (h : List Watches) (t : Trail) (n : ℕ) → n ≡ length t.literals.items → AllWatchesIn cs h →
    AllGuarded cs h (take n t.literals.items) t.literals.items → ShortTrue cs h t.literals.items → AtRest cs t.literals.items
queue_rest cs h t n e ok queue short =
    let tr = t.literals.items in
    let P : List Lit → Type 0 = λ x. AllGuarded cs h x tr in
    let whole : P tr = subst P (take_all n tr (omega (arith, e))) queue in
    uncovered_rest cs tr (λ k lk off. watched_settled cs h tr (all_apart t) ok whole k lk (λ s. true_settled tr (get_or cs k []) (all_apart t) (short k lk s off)))

-- where more is known of what has no conflict
pub rest_more : (o : Option ℕ) (P Q : Type 0) (R : ℕ → Type 0) → (P → Q) → MatchOption o P R → MatchOption o Q R
rest_more None P Q R f h = f h
rest_more (Some k) P Q R f h = h
