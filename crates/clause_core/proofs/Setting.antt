-- Setting a literal.
use Rattle.std.proofs.Common.{◌≡◌, ℕ, ◌<◌, Bool, true, false, not, eqb, List, length, get_or, refl, sym, ◌∙◌, inl, inr, arith, get_or-set_other, get_or-set_same, eqb-true, eq-eqb, set}
use Rattle.std.proofs.lemmas.Bool.{cases_eq, both_ways}
use Rattle.std.proofs.lemmas.List.Sums.{sum_by-set}
use Rattle.clause_core.specs.declared.literal.Lit.{Lit}
use Rattle.clause_core.specs.Literals.{negate}
use Rattle.clause_core.specs.Propagation.{AllFalse, UnitIn, Closed}
use Rattle.clause_core.proofs.Lists.{lit_same}
use Rattle.clause_core.specs.Values.{code, holds, Includes, Grows, unset, unset_one}

pub code_same : (x y : Bool) → code x ≡ code y → x ≡ y
code_same true true e = refl
code_same true false e = absurd (omega (arith, e))
code_same false true e = absurd (omega (arith, e))
code_same false false e = refl

pub code_flip : (x y : Bool) → code x ≡ code (not y) → x ≡ y → ⊥
code_flip true true e f = omega (arith, e)
code_flip true false e f = cc
code_flip false true e f = cc
code_flip false false e f = omega (arith, e)

pub positive_same : (x y : Bool) (n : ℕ) → n ≡ code x → eqb n (code (not y)) ≡ false → x ≡ y
positive_same true true n e f = refl
positive_same true false n e f = absurd (both_ways _ f (eq-eqb _ _ e))
positive_same false true n e f = absurd (both_ways _ f (eq-eqb _ _ e))
positive_same false false n e f = refl

pub holds_not_both : (v : List ℕ) (l : Lit) → holds v l ≡ true → holds v (negate l) ≡ true → ⊥
holds_not_both v l e f =
    let x : get_or v l.var 0 ≡ code l.positive = eqb-true _ _ e in
    let y : get_or v l.var 0 ≡ code (not l.positive) = eqb-true _ _ f in
    code_flip l.positive l.positive (sym x ∙ y) refl

pub Includes-set : (v : List ℕ) (t : Lit → Bool) (l : Lit) → l.var < length v → Includes v t → t l ≡ true →
    Includes (set v l.var (code l.positive)) t
Includes-set v t l lt inc on m e =
    elim (cases_eq m.var l.var) [
      | inl same ↦
          let x : get_or (set v l.var (code l.positive)) m.var 0 ≡ code m.positive = eqb-true _ _ e in
          let y : get_or (set v l.var (code l.positive)) l.var 0 ≡ code l.positive = get_or-set_same v l.var (code l.positive) 0 lt in
          let z : code m.positive ≡ code l.positive = sym x ∙ (rw same y) in
          rw (lit_same m l same (code_same m.positive l.positive z)) on
      | inr ne ↦ inc m (rw get_or-set_other at e)
    ]

pub unset_one_code : (x : Bool) → unset_one (code x) ≡ 0
unset_one_code true = refl
unset_one_code false = refl

pub unset_one_free : (n : ℕ) (x : Bool) → eqb n (code x) ≡ false → eqb n (code (not x)) ≡ false → unset_one n ≡ 1
unset_one_free n true e f = rw (e, f) refl
unset_one_free n false e f = rw (f, e) refl

pub unset_less : (v : List ℕ) (l : Lit) → l.var < length v → holds v l ≡ false → holds v (negate l) ≡ false →
    unset (set v l.var (code l.positive)) < unset v
unset_less v l lt e f =
    omega (
      arith,
      sum_by-set unset_one v l.var (code l.positive) 0 lt,
      unset_one_code l.positive,
      unset_one_free (get_or v l.var 0) l.positive e f,
    )

pub unit_forced : (v : List ℕ) (t : Lit → Bool) (cs : List (List Lit)) (k : ℕ) (d : List Lit) (l : Lit) → k < length cs →
    Includes v t → Closed t cs → UnitIn (holds v) (get_or cs k d) l → t l ≡ true
unit_forced v t cs k d l lt inc closed u =
    closed k d lt l (u.0, λ j x h ne. inc (negate (get_or (get_or cs k d) j x)) (u.1 j x h ne))

-- a literal that is not false may be set
pub Grows-set : (v : List ℕ) (l : Lit) → l.var < length v → holds v (negate l) ≡ false → Grows v (set v l.var (code l.positive))
Grows-set v l lt off m e =
    elim (cases_eq m.var l.var) [
      | inl same ↦
          let here : get_or v l.var 0 ≡ code m.positive = rw same at (eqb-true _ _ e) in
          let p : m.positive ≡ l.positive = positive_same m.positive l.positive (get_or v l.var 0) here off in
          eq-eqb _ _ (rw (same, p) (get_or-set_same v l.var (code l.positive) 0 lt))
      | inr ne ↦ rw get_or-set_other e
    ]

pub AllFalse-grows : (v w : List ℕ) (c : List Lit) → Grows v w → AllFalse (holds v) c → AllFalse (holds w) c
AllFalse-grows v w c g all k d lt = g (negate (get_or c k d)) (all k d lt)
