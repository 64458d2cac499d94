-- Unit propagation is sound.
use Rattle.std.proofs.Common.{◌≡◌, ℕ, ◌<◌, ◌⊎◌, Bool, true, false, not, List, [], ◌++◌, length, take, get_or, zero, suc, ◌≤◌, add-one, refl, sym, subst, ◌∙◌, ap, inl, inr, arith}
use Rattle.std.specs.List.{All, list_any}
use Rattle.std.proofs.lemmas.Bool.{cases_Bool, both_ways}
use Rattle.std.proofs.lemmas.List.Folds.{Any-from_list_any, list_any_at}
use Rattle.std.proofs.lemmas.List.Elements.{All-contains, All-append, All-more}
use Rattle.clause_core.specs.declared.literal.Lit.{Lit}
use Rattle.clause_core.specs.Literals.{negate}
use Rattle.clause_core.specs.Assignments.{ClauseTrue, Implies}
use Rattle.clause_core.specs.Propagation.{AllFalse, Closed, Follows}
use Rattle.clause_core.specs.Derivations.{Derives}

abbrev pub agrees : Bool → Bool → Bool
agrees true y = y
agrees false y = not y

pub agrees_true : (x y : Bool) → agrees x y ≡ true → x ≡ y
agrees_true true true e = refl
agrees_true true false e = cc
agrees_true false true e = cc
agrees_true false false e = refl

pub agrees_from : (x y : Bool) → x ≡ y → agrees x y ≡ true
agrees_from true true e = refl
agrees_from true false e = cc
agrees_from false true e = cc
agrees_from false false e = refl

pub agrees_flip : (x y : Bool) → agrees x y ≡ false → agrees x (not y) ≡ true
agrees_flip true true e = cc
agrees_flip true false e = refl
agrees_flip false true e = refl
agrees_flip false false e = cc

pub agrees_not_both : (x y : Bool) → agrees x y ≡ true → agrees x (not y) ≡ true → ⊥
agrees_not_both true true e f = cc
agrees_not_both true false e f = cc
agrees_not_both false true e f = cc
agrees_not_both false false e f = cc

-- the literals that an assignment makes true
abbrev pub truths : (ℕ → Bool) → Lit → Bool
truths a l = agrees (a l.var) l.positive

pub clause_cases : (a : ℕ → Bool) (c : List Lit) → ClauseTrue a c ⊎ AllFalse (truths a) c
clause_cases a c =
    elim (cases_Bool (list_any (truths a) c)) [
      | inl e ↦
          let h = Any-from_list_any (truths a) c e in
          inl (h.0, h.1, h.2, h.3, agrees_true (a h.1.var) h.1.positive h.4)
      | inr e ↦
          inr (λ k d lt.
          elim (cases_Bool (truths a (get_or c k d))) [
            | inl hit ↦ absurd (both_ways (list_any (truths a) c) e (list_any_at (truths a) c k d lt hit))
            | inr miss ↦ agrees_flip (a (get_or c k d).var) (get_or c k d).positive miss
          ])
    ]

pub not_both : (a : ℕ → Bool) (c : List Lit) → ClauseTrue a c → AllFalse (truths a) c → ⊥
not_both a c h all =
    let e : truths a (negate h.1) ≡ true = All-contains (λ m. truths a (negate m) ≡ true) c h.1 all (h.0, h.2, h.3) in
    agrees_not_both (a h.1.var) h.1.positive (agrees_from (a h.1.var) h.1.positive h.4) e

pub closed_truths : (a : ℕ → Bool) (cs : List (List Lit)) → All (ClauseTrue a) cs → Closed (truths a) cs
closed_truths a cs all k d lt l unit =
    elim (cases_Bool (truths a l)) [
      | inl hit ↦ hit
      | inr miss ↦
          let h = all k d lt in
          let ne : h.1 ≡ l → ⊥ = λ same. both_ways (truths a l) miss (ap (truths a) (sym same) ∙ agrees_from (a h.1.var) h.1.positive h.4) in
          let e : truths a (negate h.1) ≡ true =
          All-contains (λ m. (m ≡ l → ⊥) → truths a (negate m) ≡ true) (get_or cs k d) h.1 unit.1 (h.0, h.2, h.3) ne in
          absurd (agrees_not_both (a h.1.var) h.1.positive (agrees_from (a h.1.var) h.1.positive h.4) e)
    ]

-- what follows by unit propagation is implied
pub Implies-from_follows : (cs : List (List Lit)) (c : List Lit) → Follows cs c → Implies cs c
Implies-from_follows cs c f a all =
    elim (clause_cases a c) [
      | inl hit ↦ hit
      | inr miss ↦
          elim (f (truths a) miss (closed_truths a cs all)) [
            | inl false_one ↦
                absurd (not_both a false_one.1
                (All-contains (ClauseTrue a) cs false_one.1 all (false_one.0, false_one.2, false_one.3))
                false_one.4)
            | inr both ↦ absurd (agrees_not_both (a both.0.var) both.0.positive both.1 both.2)
          ]
    ]

-- each logged clause is implied: the assignment meets longer and longer prefixes
pub prefix_true : (vars : ℕ) (cs log : List (List Lit)) (a : ℕ → Bool) → Derives vars cs log → All (ClauseTrue a) cs →
    (n : ℕ) → n ≤ length log → All (ClauseTrue a) (take n log)
prefix_true vars cs log a d all zero h = λ k x lt. absurd (omega (arith, lt))
prefix_true vars cs log a d all (suc n) h =
    let before : All (ClauseTrue a) (take n log) = prefix_true vars cs log a d all n (omega arith) in
    let lt : n < length log = omega arith in
    let now : ClauseTrue a (get_or log n []) =
    Implies-from_follows (cs ++ take n log) (get_or log n []) (d.0 n lt).1 a (All-append (ClauseTrue a) cs (take n log) all before) in
    rw (← add-one) (All-more (ClauseTrue a) log n [] lt before now)

-- a derivation that ends in the empty clause refutes
pub refutes : (vars : ℕ) (cs log : List (List Lit)) → Derives vars cs log → (a : ℕ → Bool) → All (ClauseTrue a) cs → ⊥
refutes vars cs log d a all =
    let h = d.1 in
    let n = h.0 in
    let lt : n < length log = omega (arith, h.1) in
    let before : All (ClauseTrue a) (take n log) = prefix_true vars cs log a d all n (omega arith) in
    let last : ClauseTrue a (get_or log n []) =
    Implies-from_follows (cs ++ take n log) (get_or log n []) (d.0 n lt).1 a (All-append (ClauseTrue a) cs (take n log) all before) in
    let P : List Lit → Type 0 = ClauseTrue a in
    let none : ClauseTrue a [] = subst P h.2 last in
    absurd (omega (arith, none.2))
