use Rattle.std.proofs.Common.{◌≡◌, ℕ, ◌<◌, ◌≤◌, ◌+◌, ◌-◌, Bool, true, false, List, [], ◌∷◌, ◌++◌, length, take, get_or, refl, sym, subst, ap, ◌∙◌, arith, set, length-append, length-set}
use Rattle.std.specs.List.{All, Contains}
use Rattle.std.proofs.lemmas.List.{take_all, take-append-le, length-take, get_or_default, take-take}
use Rattle.std.proofs.lemmas.List.Elements.{All-more, Contains-get_or}
use Rattle.clause_core.specs.declared.literal.Lit.{Lit}
use Rattle.clause_core.specs.Literals.{negate, none_lit, at}
use Rattle.clause_core.specs.Values.{code, holds, unset, unset_one}
use Rattle.clause_core.specs.Propagation.{Settled, AllFalse, UnitIn}
use Rattle.clause_core.proofs.Setting.{unset_less, unset_one_code, unset_one_free}
use Rattle.std.proofs.lemmas.List.Sums.{sum_by-set}
use Rattle.sat_prop.specs.declared.trail.Trail.{Trail}
use Rattle.sat_prop.specs.Trails.{among, ValuesMatch, Reasoned, Based, reason_at, FalseOn, AtRest}
use Rattle.sat_prop.specs.Moves.{Extends, StillSo}
use Rattle.sat_prop.proofs.Ways.{among_where, among_here, among_take_where, among_take_here, reasoned_push, reasoned_decide}

pub settled_same : (t s : Lit → Bool) (c : List Lit) → ((l : Lit) → t l ≡ s l) → Settled t c → Settled s c
settled_same t s c e h = (
  λ all. h.0 (λ j d lt. e (negate (get_or c j d)) ∙ all j d lt),
  λ l u. sym (e l) ∙ h.1 l (u.0, λ j d lt ne. e (negate (get_or c j d)) ∙ u.1 j d lt ne),
)

pub false_on : (v : List ℕ) (tr c : List Lit) → ValuesMatch v tr → AllFalse (holds v) c → FalseOn tr c
false_on v tr c ok all j d lt = among_where tr (negate (get_or c j d)) (ok (negate (get_or c j d)) ∙ all j d lt)

pub contains_among : (c : List Lit) (l : Lit) → among c l ≡ true → Contains c l
contains_among c l e =
    let h = among_where c l e in
    let P : Lit → Type 0 = Contains c in
    subst P h.2 (Contains-get_or c h.0 _ h.1)

pub get_or_default' : (c : List Lit) (l : Lit) → (h : Contains c l) → at c h.0 ≡ l
get_or_default' c l h = get_or_default c h.0 none_lit l h.1 ∙ h.2

pub among_contains : (c : List Lit) (l : Lit) → Contains c l → among c l ≡ true
among_contains c l h = among_here c h.0 l h.1 (get_or_default' c l h)

pub reasoned_from : (tr : List Lit) (reasons : List ℕ) (cs : List (List Lit)) → Based tr reasons cs → Reasoned tr reasons cs
reasoned_from tr reasons cs b p lp pos =
    let h = b p lp pos in
    let c = get_or cs (reason_at tr reasons p - 1) [] in (
      h.0,
      (
        contains_among c (at tr p) h.1.0,
        λ j d lt ne. among_take_where tr p (negate (get_or c j d)) (omega arith) (h.1.1 j d lt ne),
      ),
    )

pub based_from : (tr : List Lit) (reasons : List ℕ) (cs : List (List Lit)) → Reasoned tr reasons cs → Based tr reasons cs
based_from tr reasons cs r p lp pos =
    let h = r p lp pos in
    let c = get_or cs (reason_at tr reasons p - 1) [] in (
      h.0,
      (
        among_contains c (at tr p) h.1.0,
        λ j d lt ne. let u = h.1.1 j d lt ne in among_take_here tr p u.0 (negate (get_or c j d)) (omega arith) u.1 u.2,
      ),
    )

pub based_push : (v reasons : List ℕ) (tr : List Lit) (cs : List (List Lit)) (l : Lit) (k : ℕ) → l.var < length reasons → ValuesMatch v tr →
    holds v l ≡ false → holds v (negate l) ≡ false → k < length cs → UnitIn (holds v) (get_or cs k []) l →
    Based tr reasons cs → Based (tr ++ l ∷ []) (set reasons l.var (k + 1)) cs
based_push v reasons tr cs l k lw vals a b lk u ok =
    based_from (tr ++ l ∷ []) (set reasons l.var (k + 1)) cs (reasoned_push v reasons tr cs l k lw vals a b lk u (reasoned_from tr reasons cs ok))

pub based_decide : (v reasons : List ℕ) (tr : List Lit) (l : Lit) → l.var < length reasons → ValuesMatch v tr →
    holds v l ≡ false → holds v (negate l) ≡ false → (cs : List (List Lit)) → Based tr reasons cs → Based (tr ++ l ∷ []) (set reasons l.var 0) cs
based_decide v reasons tr l lw vals a b cs ok = based_from (tr ++ l ∷ []) (set reasons l.var 0) cs (reasoned_decide v reasons tr cs l lw vals a b (reasoned_from tr reasons cs ok))

pub prefix_push : (old tr : List Lit) (l : Lit) → take (length old) tr ≡ old → take (length old) (tr ++ l ∷ []) ≡ old
prefix_push old tr l e =
    let le : length old ≤ length tr = omega (arith, ap length e, length-take (length old) tr) in
    take-append-le (length old) tr (l ∷ []) le ∙ e

pub went_none : (t : Trail) → Extends t t
went_none t = record { prefix = take_all (length t.literals.items) t.literals.items (omega arith); level_starts = refl; vars = refl; fewer = omega arith; count = refl }

-- a trail with the same literals, values and levels
pub went_same : (old t new : Trail) → Extends old t → new.literals.items ≡ t.literals.items → new.values.items ≡ t.values.items → new.level_starts.items ≡ t.level_starts.items →
    Extends old new
went_same old t new w literals values level_starts =
    let P : List Lit → Type 0 = λ x. take (length old.literals.items) x ≡ old.literals.items in
    let R : List ℕ → Type 0 = λ v. unset v ≤ unset old.values.items in
    let S : List Lit → Type 0 = λ x. length x + unset t.values.items ≡ length old.literals.items + unset old.values.items in
    let T : List ℕ → Type 0 = λ v. length new.literals.items + unset v ≡ length old.literals.items + unset old.values.items in
    record {
      prefix = subst P (sym literals) w.prefix;
      level_starts = level_starts ∙ w.level_starts;
      vars = ap length values ∙ w.vars;
      fewer = subst R (sym values) w.fewer;
      count = subst T (sym values) (subst S (sym literals) w.count);
    }

pub unset_drop : (v : List ℕ) (l : Lit) → l.var < length v → holds v l ≡ false → holds v (negate l) ≡ false →
    unset (set v l.var (code l.positive)) + 1 ≡ unset v
unset_drop v l lt e f =
    omega (
      arith,
      sum_by-set unset_one v l.var (code l.positive) 0 lt,
      unset_one_code l.positive,
      unset_one_free (get_or v l.var 0) l.positive e f,
    )

pub went_push : (old t new : Trail) (l : Lit) → Extends old t → l.var < length t.values.items → holds t.values.items l ≡ false → holds t.values.items (negate l) ≡ false →
    new.literals.items ≡ t.literals.items ++ l ∷ [] → new.values.items ≡ set t.values.items l.var (code l.positive) →
    new.level_starts.items ≡ t.level_starts.items → Extends old new × (unset new.values.items < unset old.values.items)
went_push old t new l w lt a b literals values level_starts =
    let less : unset (set t.values.items l.var (code l.positive)) < unset t.values.items = unset_less t.values.items l lt a b in
    let P : List ℕ → Type 0 = λ v. unset v < unset t.values.items in
    let less' : unset new.values.items < unset t.values.items = subst P (sym values) less in
    let Q : List Lit → Type 0 = λ x. take (length old.literals.items) x ≡ old.literals.items in
    let drop : unset (set t.values.items l.var (code l.positive)) + 1 ≡ unset t.values.items = unset_drop t.values.items l lt a b in
    let R : List Lit → Type 0 = λ x. length x + unset new.values.items ≡ length old.literals.items + unset old.values.items in
    let S : List ℕ → Type 0 = λ v. length (t.literals.items ++ l ∷ []) + unset v ≡ length old.literals.items + unset old.values.items in (
      record {
        prefix = subst Q (sym literals) (prefix_push old.literals.items t.literals.items l w.prefix);
        level_starts = level_starts ∙ w.level_starts;
        vars = ap length values ∙ length-set _ _ _ ∙ w.vars;
        fewer = omega (arith, less', w.fewer);
        count = subst R (sym literals) (subst S (sym values) (omega (arith, w.count, drop, length-append t.literals.items (l ∷ []))));
      },
      omega (arith, less', w.fewer),
    )

pub prefix_on : (a b c : List Lit) → take (length a) b ≡ a → take (length b) c ≡ b → take (length a) c ≡ a
prefix_on a b c f g =
    let le : length a ≤ length b = omega (arith, ap length f, length-take (length a) b) in
    let e : take (length a) (take (length b) c) ≡ take (length a) c = take-take (length a) (length b) c le in
    let P : List Lit → Type 0 = λ x. take (length a) x ≡ take (length a) c in
    sym (subst P g e) ∙ f

pub went_on : (a b c : Trail) → Extends a b → Extends b c → Extends a c
went_on a b c f g =
    let le : length a.literals.items ≤ length b.literals.items = omega (arith, ap length f.prefix, length-take (length a.literals.items) b.literals.items) in
    record {
      prefix = prefix_on a.literals.items b.literals.items c.literals.items f.prefix g.prefix;
      level_starts = g.level_starts ∙ f.level_starts;
      vars = g.vars ∙ f.vars;
      fewer = omega (arith, f.fewer, g.fewer);
      count = g.count ∙ f.count;
    }

pub still_rest : (old new : Trail) (cs : List (List Lit)) (i : ℕ) (d : List Lit) (b : Bool) → i < length cs →
    Settled (holds new.values.items) (get_or cs i d) → StillSo cs old new i b → StillSo cs old new (i + 1) b
still_rest old new cs i d true lt s p = p
still_rest old new cs i d false lt s p = (
  p.0,
  All-more (Settled (among new.literals.items)) cs i d lt p.1
      (settled_same (holds new.values.items) (among new.literals.items) (get_or cs i d) (λ l. sym (new.values_ok l)) s),
)

pub still_end : (old new : Trail) (cs : List (List Lit)) (i : ℕ) → length cs ≤ i → StillSo cs old new i false → AtRest cs new.literals.items
still_end old new cs i le p =
    let e : take i cs ≡ cs = take_all i cs le in
    let P : List (List Lit) → Type 0 = All (Settled (among new.literals.items)) in
    subst P e p.1
