-- Passes over clauses, and rounds of passes.
use Rattle.std.proofs.Common.{◌≡◌, ℕ, ◌<◌, ◌≤◌, ◌+◌, ◌++◌, Bool, true, false, not, List, length, take, get_or, sym, subst, inl, inr, set, eq-eqb, get_or-set_same}
use Rattle.std.specs.List.{All, Any}
use Rattle.std.proofs.lemmas.List.{take_all}
use Rattle.std.proofs.lemmas.List.Elements.{All-more, All-contains, Contains-append_left, Contains-append_right}
use Rattle.clause_core.specs.declared.literal.Lit.{Lit}
use Rattle.clause_core.specs.Literals.{negate}
use Rattle.clause_core.specs.Propagation.{AllFalse, Settled, HasConflict, Follows}
use Rattle.clause_core.proofs.Lists.{not_not}
use Rattle.clause_core.specs.Values.{code, holds, Includes, Grows}
use Rattle.clause_core.proofs.Setting.{holds_not_both, Grows-set, Includes-set, AllFalse-grows}
use Rattle.rup_check.specs.Passes.{PassSoFar}

pub pass_rest : (old v : List ℕ) (cs : List (List Lit)) (i : ℕ) (d : List Lit) (b : Bool) → i < length cs →
    Settled (holds v) (get_or cs i d) → PassSoFar old cs v i b → PassSoFar old cs v (i + 1) b
pass_rest old v cs i d true lt s p = p
pass_rest old v cs i d false lt s p =
    let P : List ℕ → Type 0 = λ w. Settled (holds w) (get_or cs i d) in
    (p.0, All-more (Settled (holds old)) cs i d lt p.1 (subst P p.0 s))

pub pass_still : (old v : List ℕ) (cs : List (List Lit)) (i : ℕ) → length cs ≤ i → PassSoFar old cs v i false →
    (v ≡ old) × All (Settled (holds v)) cs
pass_still old v cs i le p =
    let P : List ℕ → Type 0 = λ w. All (Settled (holds w)) cs in
    let Q : List (List Lit) → Type 0 = λ w. All (Settled (holds old)) w in
    let e : take i cs ≡ cs = take_all i cs le in
    (p.0, subst P (sym p.0) (subst Q e p.1))

pub conflict_left : (v : List ℕ) (t : Lit → Bool) (cs bs : List (List Lit)) → Includes v t → Any (AllFalse (holds v)) cs →
    HasConflict t (cs ++ bs)
conflict_left v t cs bs inc h =
    let q = Contains-append_left cs bs h.1 (h.0, h.2, h.3) in
    inl (q.0, h.1, q.1, q.2, λ j d lt. inc (negate (get_or h.1 j d)) (h.4 j d lt))

pub conflict_right : (v : List ℕ) (t : Lit → Bool) (cs bs : List (List Lit)) → Includes v t → Any (AllFalse (holds v)) bs →
    HasConflict t (cs ++ bs)
conflict_right v t cs bs inc h =
    let q = Contains-append_right cs bs h.1 (h.0, h.2, h.3) in
    inl (q.0, h.1, q.1, q.2, λ j d lt. inc (negate (get_or h.1 j d)) (h.4 j d lt))

-- values at rest on every clause show that the clause that they make false does not follow
pub not_follows : (v : List ℕ) (cs : List (List Lit)) (c : List Lit) → AllFalse (holds v) c → All (Settled (holds v)) cs →
    Follows cs c → ⊥
not_follows v cs c done all f =
    elim (f (holds v) done (λ k d lt. (all k d lt).1)) [
      | inl h ↦ (All-contains (Settled (holds v)) cs h.1 all (h.0, h.2, h.3)).0 h.4
      | inr h ↦ holds_not_both v h.0 h.1 h.2
    ]

pub assume_step : (v : List ℕ) (c : List Lit) (i : ℕ) (d : Lit) → i < length c → (get_or c i d).var < length v →
    holds v (get_or c i d) ≡ false → AllFalse (holds v) (take i c) →
    AllFalse (holds (set v (get_or c i d).var (code (not (get_or c i d).positive)))) (take (i + 1) c)
assume_step v c i d lt in_v off before =
    let l = get_or c i d in
    let n : Lit = negate l in
    let w = set v l.var (code (not l.positive)) in
    let off' : holds v (negate n) ≡ false = rw not_not off in
    let g : Grows v w = Grows-set v n in_v off' in
    All-more (λ m. holds w (negate m) ≡ true) c i d lt
    (AllFalse-grows v w (take i c) g before)
    (eq-eqb _ _ (get_or-set_same v l.var (code (not l.positive)) 0 in_v))

pub assume_kept : (v : List ℕ) (c : List Lit) (i : ℕ) (d : Lit) → i < length c → (get_or c i d).var < length v →
    ((t : Lit → Bool) → AllFalse t c → Includes v t) →
    (t : Lit → Bool) → AllFalse t c → Includes (set v (get_or c i d).var (code (not (get_or c i d).positive))) t
assume_kept v c i d lt in_v kept t all = Includes-set v t (negate (get_or c i d)) in_v (kept t all) (all i d lt)
