-- Chains of hinted clauses, over values and over lists of literals.
use Rattle.std.proofs.Common.{◌≡◌, ℕ, ◌<◌, ◌≤◌, ◌⊎◌, ◌+◌, ◌-◌, Bool, true, false, not, List, [], ◌∷◌, ◌++◌, length, take, drop, map, get_or, refl, sym, subst, ◌∙◌, ap, inl, inr, arith, set, eqb-true, eq-eqb, get_or-set_same, get_or-set_other, length-set, length-append, MatchBool}
use Rattle.std.specs.List.{All, Contains}
use Rattle.std.proofs.lemmas.Bool.{cases_eq, cases_Bool, both_ways}
use Rattle.std.proofs.lemmas.List.{length-map, get_or-map, get_or-append_right, get_or_append_left, drop_more, take-append-drop}
use Rattle.std.proofs.lemmas.List.Elements.{All-contains, All-weaker, All-map, All-cons, All-nil, All-append, Contains-get_or, Contains-push_cases, Contains-append_left, Contains-append_right, Contains-append_cases, Contains-push}
use Rattle.clause_core.specs.declared.literal.Lit.{Lit}
use Rattle.clause_core.specs.Literals.{negate, Within}
use Rattle.clause_core.specs.Propagation.{AllFalse, UnitIn, Settled}
use Rattle.clause_core.proofs.Lists.{lit_same, negate_negate}
use Rattle.clause_core.specs.Values.{holds, code}
use Rattle.clause_core.proofs.Setting.{code_same, holds_not_both, Grows-set}
use Rattle.hinted_log.specs.Hints.{FalseIn, UnitOn, Chained, IsOpen, FollowsBy}
use Rattle.rup_check.specs.Chains.{units_of, before, Matches, AssumedFalse, Forces, Walks, Touched}

-- two signs are equal or not
pub same_or_not : (x y : Bool) → (x ≡ y) ⊎ (x ≡ y → ⊥)
same_or_not true true = inl refl
same_or_not true false = inr (λ e. cc)
same_or_not false true = inr (λ e. cc)
same_or_not false false = inl refl

pub lit_same_or_not : (l m : Lit) → (l ≡ m) ⊎ (l ≡ m → ⊥)
lit_same_or_not l m =
    elim (cases_eq l.var m.var) [
      | inl e ↦
          elim (same_or_not l.positive m.positive) [
            | inl f ↦ inl (lit_same l m e f)
            | inr ne ↦ inr (λ s. ne (ap (λ (x : Lit). x.positive) s))
          ]
      | inr ne ↦ inr (λ s. ne (ap (λ (x : Lit). x.var) s))
    ]

pub holds_dec : (v : List ℕ) (l : Lit) → (holds v l ≡ false → ⊥) → holds v l ≡ true
holds_dec v l f = elim (cases_Bool (holds v l)) [ inl e ↦ e | inr e ↦ absurd (f e) ]

pub holds_none : (v : List ℕ) (l : Lit) → (holds v l ≡ true → ⊥) → holds v l ≡ false
holds_none v l f = elim (cases_Bool (holds v l)) [ inl e ↦ absurd (f e) | inr e ↦ e ]

-- what a literal set true changes
pub holds_set_cases : (v : List ℕ) (l m : Lit) → l.var < length v → holds (set v l.var (code l.positive)) m ≡ true →
    (m ≡ l) ⊎ (holds v m ≡ true)
holds_set_cases v l m lt e =
    elim (cases_eq m.var l.var) [
      | inl same ↦
          let x : get_or (set v l.var (code l.positive)) m.var 0 ≡ code m.positive = eqb-true _ _ e in
          let y : get_or (set v l.var (code l.positive)) l.var 0 ≡ code l.positive = get_or-set_same v l.var (code l.positive) 0 lt in
          let z : code m.positive ≡ code l.positive = sym x ∙ (rw same y) in
          inl (lit_same m l same (code_same m.positive l.positive z))
      | inr ne ↦ inr (rw get_or-set_other at e)
    ]

pub holds_set_same : (v : List ℕ) (l : Lit) → l.var < length v → holds (set v l.var (code l.positive)) l ≡ true
holds_set_same v l lt = eq-eqb _ _ (get_or-set_same v l.var (code l.positive) 0 lt)

pub Matches-set : (v : List ℕ) (s w : List Lit) (l : Lit) → l.var < length v → holds v (negate l) ≡ false → Matches v s →
    ((m : Lit) → Contains w m → (m ≡ l) ⊎ Contains s m) → ((m : Lit) → Contains s m → Contains w m) → Contains w l →
    Matches (set v l.var (code l.positive)) w
Matches-set v s w l lt off p cases more here =
    record {
      listed = λ m e. elim (holds_set_cases v l m lt e) [
        | inl same ↦ let P : Lit → Type 0 = Contains w in subst P (sym same) here
        | inr old ↦ more m (p.listed m old)
      ];
      held = λ m h. elim (cases m h) [
        | inl same ↦ let P : Lit → Type 0 = λ x. holds (set v l.var (code l.positive)) x ≡ true in subst P (sym same) (holds_set_same v l lt)
        | inr old ↦ Grows-set v l lt off m (p.held m old)
      ];
    }

pub Matches-cons : (v : List ℕ) (s : List Lit) (l : Lit) → l.var < length v → holds v (negate l) ≡ false → Matches v s →
    Matches (set v l.var (code l.positive)) (l ∷ s)
Matches-cons v s l lt off p =
    Matches-set v s (l ∷ s) l lt off p
    (λ m h. elim (Contains-append_cases (l ∷ []) s m h) [
      | inl a ↦ inl (elim (Contains-push_cases [] l m a) [ inl b ↦ absurd (omega (arith, b.1)) | inr e ↦ sym e ])
      | inr b ↦ inr b
    ])
    (λ m h. Contains-append_right (l ∷ []) s m h)
    (Contains-get_or (l ∷ s) 0 l (omega arith))

pub Matches-push : (v : List ℕ) (s : List Lit) (l : Lit) → l.var < length v → holds v (negate l) ≡ false → Matches v s →
    Matches (set v l.var (code l.positive)) (s ++ l ∷ [])
Matches-push v s l lt off p =
    Matches-set v s (s ++ l ∷ []) l lt off p
    (λ m h. elim (Contains-push_cases s l m h) [ inl a ↦ inr a | inr e ↦ inl (sym e) ])
    (λ m h. Contains-append_left s (l ∷ []) m h)
    (Contains-push s l)

-- the steps of a walk
pub Walks-past : (cs : List (List Lit)) (v : List ℕ) (h : ℕ) (hs : List ℕ) → length cs ≤ h → Walks cs v (h ∷ hs) → ⊥
Walks-past cs v h hs le w = omega (arith, w.0)

pub Walks-false : (cs : List (List Lit)) (v : List ℕ) (h : ℕ) (hs : List ℕ) → AllFalse (holds v) (get_or cs h []) →
    Walks cs v (h ∷ hs) → hs ≡ []
Walks-false cs v h hs all w =
    elim w.1 [
      | inl e ↦ e.0
      | inr u ↦
          absurd (both_ways (holds v (negate u.0)) u.1.not_false
          (All-contains (λ m. holds v (negate m) ≡ true) (get_or cs h []) u.0 all u.1.unit.0))
    ]

pub Walks-rest : (cs : List (List Lit)) (v : List ℕ) (h : ℕ) (hs : List ℕ) → Settled (holds v) (get_or cs h []) →
    Walks cs v (h ∷ hs) → ⊥
Walks-rest cs v h hs s w =
    elim w.1 [
      | inl e ↦ s.0 e.1
      | inr u ↦ both_ways (holds v u.0) u.1.not_true (s.1 u.0 u.1.unit)
    ]

-- a clause forces one literal alone
pub Forces-one : (v : List ℕ) (c : List Lit) (l m : Lit) → Forces v c l → Forces v c m → m ≡ l
Forces-one v c l m a b =
    elim (lit_same_or_not m l) [
      | inl e ↦ e
      | inr ne ↦
          absurd (both_ways (holds v (negate m)) b.not_false
          (All-contains (λ x. (x ≡ l → ⊥) → holds v (negate x) ≡ true) c m a.unit.1 b.unit.0 ne))
    ]

pub Walks-unit : (cs : List (List Lit)) (v : List ℕ) (h : ℕ) (hs : List ℕ) (l : Lit) → Forces v (get_or cs h []) l →
    Walks cs v (h ∷ hs) → Walks cs (set v l.var (code l.positive)) hs
Walks-unit cs v h hs l f w =
    elim w.1 [
      | inl e ↦
          absurd (both_ways (holds v (negate l)) f.not_false
          (All-contains (λ m. holds v (negate m) ≡ true) (get_or cs h []) l e.1 f.unit.0))
      | inr u ↦
          let P : Lit → Type 0 = λ x. Walks cs (set v x.var (code x.positive)) hs in
          subst P (Forces-one v (get_or cs h []) l u.0 f u.1) u.2
    ]

-- the walk over values is the chain over lists
pub Chained-from_walks : (n : ℕ) (cs : List (List Lit)) (v : List ℕ) (s : List Lit) (hs : List ℕ) → length v ≡ n → All (Within n) cs →
    Matches v s → Walks cs v hs → Chained cs s hs
Chained-from_walks n cs v s [] same within p w = w
Chained-from_walks n cs v s (h ∷ hs) same within p w =
    let c = get_or cs h [] in
    elim w.1 [
      | inl e ↦ (w.0, inl (e.0, λ k d lt. p.listed (negate (get_or c k d)) (e.1 k d lt)))
      | inr u ↦
          let l = u.0 in
          let f : Forces v c l = u.1 in
          let lt : l.var < n = All-contains (λ m. m.var < n) c l (within h [] w.0) f.unit.0 in
          let in_v : l.var < length v = omega arith in
          let again : length (set v l.var (code l.positive)) ≡ n = length-set v l.var (code l.positive) ∙ same in (
            w.0,
            inr (
              l,
              record {
                in_clause = f.unit.0;
                not_true = λ h. both_ways (holds v l) f.not_true (p.held l h);
                not_false = λ h. both_ways (holds v (negate l)) f.not_false (p.held (negate l) h);
                others = λ k d lt ne. p.listed (negate (get_or c k d)) (f.unit.1 k d lt ne);
              },
              Chained-from_walks n cs (set v l.var (code l.positive)) (l ∷ s) hs again within (Matches-cons v s l in_v f.not_false p) u.2,
            ),
          )
    ]

pub Walks-from_chained : (n : ℕ) (cs : List (List Lit)) (v : List ℕ) (s : List Lit) (hs : List ℕ) → length v ≡ n → All (Within n) cs →
    Matches v s → Chained cs s hs → Walks cs v hs
Walks-from_chained n cs v s [] same within p w = w
Walks-from_chained n cs v s (h ∷ hs) same within p w =
    let c = get_or cs h [] in
    elim w.1 [
      | inl e ↦ (w.0, inl (e.0, λ k d lt. p.held (negate (get_or c k d)) (e.1 k d lt)))
      | inr u ↦
          let l = u.0 in
          let f : UnitOn s c l = u.1 in
          let lt : l.var < n = All-contains (λ m. m.var < n) c l (within h [] w.0) f.in_clause in
          let in_v : l.var < length v = omega arith in
          let off : holds v (negate l) ≡ false = holds_none v (negate l) (λ e. f.not_false (p.listed (negate l) e)) in
          let again : length (set v l.var (code l.positive)) ≡ n = length-set v l.var (code l.positive) ∙ same in (
            w.0,
            inr (
              l,
              record {
                unit = (f.in_clause, λ k d lt ne. p.held (negate (get_or c k d)) (f.others k d lt ne));
                not_true = holds_none v l (λ e. f.not_true (p.listed l e));
                not_false = off;
              },
              Walks-from_chained n cs (set v l.var (code l.positive)) (l ∷ s) hs again within (Matches-cons v s l in_v off p) u.2,
            ),
          )
    ]

-- what is listed negated
pub Contains-negated : (c : List Lit) (l : Lit) → Contains (map negate c) l → Contains c (negate l)
Contains-negated c l h =
    let lt : h.0 < length c = simp length-map at h.1 in
    let e : negate (get_or c h.0 (negate l)) ≡ l = sym (get_or-map negate c h.0 (negate l) l lt) ∙ h.2 in
    (h.0, lt, sym (negate_negate _) ∙ ap negate e)

pub Contains-negate : (c : List Lit) (l : Lit) → Contains c l → Contains (map negate c) (negate l)
Contains-negate c l h =
    let lt : h.0 < length (map negate c) = simp length-map h.1 in
    (h.0, lt, get_or-map negate c h.0 l (negate l) h.1 ∙ ap negate h.2)

pub Contains-taken : {X : Type 0} (n : ℕ) (xs : List X) (x : X) → Contains (take n xs) x → Contains xs x
Contains-taken {X} n xs x h =
    let P : List X → Type 0 = λ w. Contains w x in
    subst P (take-append-drop n xs) (Contains-append_left (take n xs) (drop n xs) x h)

pub open_from_matches : (v : List ℕ) (c : List Lit) → Matches v (map negate c) → IsOpen c
open_from_matches v c p k d lt h =
    let m = get_or c k d in
    let there : Contains (map negate c) (negate m) = Contains-negate c m (Contains-get_or c k d lt) in
    let again : Contains (map negate c) (negate (negate m)) = Contains-negate c (negate m) h in
    let P : Lit → Type 0 = Contains (map negate c) in
    holds_not_both v m (p.held m (subst P (negate_negate m) again)) (p.held (negate m) there)

-- the step of a walk over what is left of the hints
pub walk_at : (cs : List (List Lit)) (v hints : List ℕ) (j : ℕ) → j < length hints → Walks cs v (drop j hints) →
    Walks cs v (get_or hints j 0 ∷ drop (j + 1) hints)
walk_at cs v hints j lt w = let P : List ℕ → Type 0 = Walks cs v in subst P (drop_more hints j 0 lt) w

pub walk_back : (cs : List (List Lit)) (v hints : List ℕ) (j : ℕ) → j < length hints → Walks cs v (get_or hints j 0 ∷ drop (j + 1) hints) →
    Walks cs v (drop j hints)
walk_back cs v hints j lt w = let P : List ℕ → Type 0 = Walks cs v in subst P (sym (drop_more hints j 0 lt)) w

pub Forces-from_scan : (v : List ℕ) (c e : List Lit) (l : Lit) → c ≡ e → UnitIn (holds v) c l × (holds v l ≡ false) × (holds v (negate l) ≡ false) →
    Forces v e l
Forces-from_scan v c e l same u =
    let P : List Lit → Type 0 = λ x. UnitIn (holds v) x l in
    record { unit = subst P same u.0; not_true = u.1; not_false = u.2 }

pub Touched-set : (cs : List (List Lit)) (old hints v : List ℕ) (j : ℕ) (l : Lit) → j < length hints → get_or hints j 0 < length cs →
    Forces v (get_or cs (get_or hints j 0) []) l → Touched cs old hints v → Touched cs old hints (set v l.var (code l.positive))
Touched-set cs old hints v j l lt below f t k =
    elim (cases_eq k l.var) [
      | inl same ↦ inr (get_or hints j 0, Contains-get_or hints j 0 lt, below, (l, f.unit.0, sym same))
      | inr ne ↦ elim (t k) [
        | inl e ↦ inl (get_or-set_other v l.var k (code l.positive) 0 ne ∙ e)
        | inr h ↦ inr h
      ]
    ]

-- whether the walk goes through is whether the step follows by its hints
pub follows_by_walk : (n : ℕ) (cs : List (List Lit)) (v : List ℕ) (c : List Lit) (hints : List ℕ) (b : Bool) → length v ≡ n →
    All (Within n) cs → IsOpen c × Matches v (map negate c) → MatchBool b (Walks cs v hints) (Walks cs v hints → ⊥) →
    MatchBool b (FollowsBy cs c hints) (FollowsBy cs c hints → ⊥)
follows_by_walk n cs v c hints true same within p w = (p.0, Chained-from_walks n cs v (map negate c) hints same within p.1 w)
follows_by_walk n cs v c hints false same within p w = λ f. w (Walks-from_chained n cs v (map negate c) hints same within p.1 f.1)

pub follows_by_none : (cs : List (List Lit)) (v : List ℕ) (c : List Lit) (hints : List ℕ) (b : Bool) → b ≡ false → AssumedFalse c v b →
    FollowsBy cs c hints → ⊥
follows_by_none cs v c hints true e p f = cc
follows_by_none cs v c hints false e p f = All-contains (λ m. Contains c (negate m) → ⊥) c p.0 f.0 p.1 p.2

-- the clauses that a step is judged by
pub units_within : (n : ℕ) (units : List Lit) → Within n units → All (Within n) (units_of units)
units_within n units h =
    All-map (Within n) (λ l. l ∷ []) units
    (All-weaker (λ l. l.var < n) (λ l. Within n (l ∷ [])) (λ l lt. All-cons (λ l. l.var < n) l [] lt (All-nil (λ l. l.var < n))) units h)

pub before_within : (n : ℕ) (cs : List (List Lit)) (units : List Lit) (steps : List (List Lit)) (count : ℕ) → All (Within n) cs → Within n units →
    All (Within n) (take count steps) → All (Within n) (before cs units steps count)
before_within n cs units steps count a b c =
    All-append (Within n) (cs ++ units_of units) (take count steps) (All-append (Within n) cs (units_of units) a (units_within n units b)) c

pub before_unit : (cs : List (List Lit)) (units : List Lit) (steps : List (List Lit)) (count number i : ℕ) → length cs ≤ number → i ≡ number - length cs →
    i < length units → take (i + 1 - i) (drop i units) ≡ get_or (before cs units steps count) number []
before_unit cs units steps count number i le at lt =
    let d : Lit = record { var = 0; positive = false } in
    let x = get_or units i d in
    let one : i + 1 - i ≡ 1 = omega arith in
    let left : take (i + 1 - i) (drop i units) ≡ x ∷ [] = rw (one, drop_more units i d lt) refl in
    let us = units_of units in
    let lu : length us ≡ length units = length-map units (λ l. l ∷ []) in
    let in_both : number < length (cs ++ us) = omega (arith, length-append cs us) in
    let a : get_or (before cs units steps count) number [] ≡ get_or (cs ++ us) number [] = get_or_append_left (cs ++ us) (take count steps) [] number in_both in
    let b : get_or (cs ++ us) number [] ≡ get_or us (number - length cs) [] = get_or-append_right cs us (length cs) number [] refl le in
    let e : get_or us (number - length cs) [] ≡ x ∷ [] = rw (← at) (get_or-map (λ l. l ∷ []) units i d [] lt) in
    left ∙ sym (a ∙ b ∙ e)

pub follows_same : (cs : List (List Lit)) (units : List Lit) (s t : List (List Lit)) (k : ℕ) (c e : List Lit) (g h : List ℕ) → s ≡ t → c ≡ e → g ≡ h →
    FollowsBy (before cs units s k) c g → FollowsBy (before cs units t k) e h
follows_same cs units s t k c e g h p q r f =
    let P : List (List Lit) → Type 0 = λ w. FollowsBy (before cs units w k) c g in
    let Q : List Lit → Type 0 = λ w. FollowsBy (before cs units t k) w g in
    let R : List ℕ → Type 0 = λ w. FollowsBy (before cs units t k) e w in
    subst R r (subst Q q (subst P p f))
