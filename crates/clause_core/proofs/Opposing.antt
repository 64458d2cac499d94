-- Clauses of bad states and of good ones.
use Rattle.std.proofs.Common.{◌≡◌, ℕ, ◌<◌, ◌≤◌, Bool, true, List, [], ◌∷◌, length, get_or, map, refl, sym, subst, ◌∙◌, inl, inr, arith}
use Rattle.std.specs.List.{All}
use Rattle.std.proofs.lemmas.List.{get_or-map, length-map}
use Rattle.std.proofs.lemmas.List.Elements.{All-cons, All-nil, All-map, All-head}
use Rattle.clause_core.specs.declared.literal.Lit.{Lit}
use Rattle.clause_core.specs.Literals.{Within, negate, units}
use Rattle.clause_core.specs.Assignments.{ClauseTrue, Agrees}
use Rattle.clause_core.specs.Propagation.{AllFalse}
use Rattle.clause_core.specs.Systems.{Opposed}
use Rattle.clause_core.proofs.Lists.{negate_negate}
use Rattle.clause_core.proofs.Sound.{agrees_true, agrees_from, truths, clause_cases, not_both}

-- a clause over the first variables is as true by another assignment that agrees on these
pub ClauseTrue-agrees : (vars : ℕ) (a b : ℕ → Bool) (c : List Lit) → Within vars c → Agrees vars a b → ClauseTrue a c → ClauseTrue b c
ClauseTrue-agrees vars a b c within same h =
    let P : Lit → Type 0 = λ l. l.var < vars in
    let low : h.1.var < vars = subst P h.3 (within h.0 h.1 h.2) in
    (h.0, h.1, h.2, h.3, sym (same h.1.var low) ∙ h.4)

pub Within-negated : (vars : ℕ) (ls : List Lit) → Within vars ls → Within vars (map negate ls)
Within-negated vars ls within = All-map (λ l. l.var < vars) negate ls within

-- a clause of one literal that is true
true_unit : (a : ℕ → Bool) (l : Lit) → a l.var ≡ l.positive → ClauseTrue a (l ∷ [])
true_unit a l e = (0, l, omega arith, refl, e)

unit_is_true : (a : ℕ → Bool) (l : Lit) → ClauseTrue a (l ∷ []) → a l.var ≡ l.positive
unit_is_true a l h =
    let first : h.0 ≡ 0 = omega (arith, h.2) in
    let alone : get_or (l ∷ []) h.0 h.1 ≡ l = rw first refl in
    let P : Lit → Type 0 = λ m. a m.var ≡ m.positive in
    subst P (sym h.3 ∙ alone) h.4

-- each literal is true where each negation is false
units_true : (a : ℕ → Bool) (ls : List Lit) → AllFalse (truths a) (map negate ls) → All (ClauseTrue a) (units ls)
units_true a ls miss = All-map (ClauseTrue a) (λ l. l ∷ []) ls (λ k d lt.
    let l : Lit = get_or ls k d in
    let below : k < length (map negate ls) = rw length-map lt in
    let P : Lit → Type 0 = λ m. truths a (negate m) ≡ true in
    let e : truths a (negate (negate l)) ≡ true = subst P (get_or-map negate ls k d (negate d) lt) (miss k (negate d) below) in
    let Q : Lit → Type 0 = λ m. truths a m ≡ true in
    true_unit a l (agrees_true (a l.var) l.positive (subst Q (negate_negate l) e)))

negations_false : (a : ℕ → Bool) (ls : List Lit) → All (ClauseTrue a) (units ls) → AllFalse (truths a) (map negate ls)
negations_false a ls all = All-map (λ m. truths a (negate m) ≡ true) negate ls (λ k d lt.
    let l : Lit = get_or ls k d in
    let below : k < length (units ls) = rw length-map lt in
    let P : List Lit → Type 0 = ClauseTrue a in
    let one : ClauseTrue a (l ∷ []) = subst P (get_or-map (λ l. l ∷ []) ls k d (d ∷ []) lt) (all k (d ∷ []) below) in
    let Q : Lit → Type 0 = λ m. truths a m ≡ true in
    subst Q (sym (negate_negate l)) (agrees_from (a l.var) l.positive (unit_is_true a l one)))

-- a state in which each literal is true, or one in which some literal is false
pub Opposed-cube : (state_bits : ℕ) (ls : List Lit) → Within state_bits ls → Opposed state_bits (map negate ls ∷ []) (units ls)
Opposed-cube state_bits ls within = record {
  either = λ x. elim (clause_cases x (map negate ls)) [
    | inl hit ↦ inl (x, λ v lt. refl, All-cons (ClauseTrue x) (map negate ls) [] hit (All-nil (ClauseTrue x)))
    | inr miss ↦ inr (x, λ v lt. refl, units_true x ls miss)
  ];
  never_both = λ x good bad.
      let one : ClauseTrue good.0 (map negate ls) = All-head (ClauseTrue good.0) (map negate ls) [] good.2 in
      let low : Within state_bits (map negate ls) = Within-negated state_bits ls within in
      let here : ClauseTrue bad.0 (map negate ls) =
      ClauseTrue-agrees state_bits good.0 bad.0 (map negate ls) low (λ v lt. good.1 v lt ∙ sym (bad.1 v lt)) one in
      not_both bad.0 (map negate ls) here (negations_false bad.0 ls bad.2);
}

-- literals over the first variables, each alone or all negated, are over more variables, too
pub units_in : (few vars : ℕ) (ls : List Lit) → few ≤ vars → Within few ls → All (Within vars) (units ls)
units_in few vars ls le within = All-map (Within vars) (λ l. l ∷ []) ls (λ k d lt.
    All-cons (λ l. l.var < vars) (get_or ls k d) [] (omega (arith, le, within k d lt)) (All-nil (λ l. l.var < vars)))

pub negation_in : (few vars : ℕ) (ls : List Lit) → few ≤ vars → Within few ls → All (Within vars) (map negate ls ∷ [])
negation_in few vars ls le within =
    let one : Within vars (map negate ls) = All-map (λ l. l.var < vars) negate ls (λ k d lt. omega (arith, le, within k d lt)) in
    All-cons (Within vars) (map negate ls) [] one (All-nil (Within vars))
