-- Conditions and branches, from a place of their list on.
use Rattle.std.proofs.Common.{Bool, true, false, Option, None, Some, ◌≡◌, ◌∙◌, ℕ, zero, suc, ◌+◌, ◌<◌, ◌≤◌, List, [], ◌∷◌, length, get_or, drop, refl, ap, arith}
use Rattle.std.proofs.lemmas.List.{drop_more, get_or_default}
use Rattle.smv_tree.specs.declared.place.Place.{Place}
use Rattle.smv_value.specs.declared.value.FaultRule.{FaultRule}
use Rattle.smv_meaning.specs.declared.outcome.Evaluation.{Evaluation}
use Rattle.smv_meaning.specs.declared.outcome.Evaluation.TheVariants.{Fault}
use Rattle.smv_meaning.specs.Outcomes.{choice, failed, taken, truth}

two_more : (xs : List Evaluation) (i : ℕ) (d : Evaluation) → i + 1 < length xs → drop i xs ≡ get_or xs i d ∷ get_or xs (i + 1) d ∷ drop (i + 2) xs
two_more xs i d l =
    let two : i + 1 + 1 ≡ i + 2 = omega arith in
    drop_more xs i d (omega (arith, l)) ∙ ap (λ (ys : List Evaluation). get_or xs i d ∷ ys) (drop_more xs (i + 1) d l ∙ ap (λ (n : ℕ). get_or xs (i + 1) d ∷ drop n xs) two)

-- a condition and its branch
choice_at : (rule : FaultRule) (p : Place) (xs : List Evaluation) (i : ℕ) (d : Evaluation) → i + 1 < length xs →
    choice rule p (drop i xs) ≡ taken (truth (get_or xs i d)) (get_or xs i d) (get_or xs (i + 1) d) (choice rule p (drop (i + 2) xs))
choice_at rule p xs i d l = ap (choice rule p) (two_more xs i d l)

-- no condition with a branch is left
pub choice_end : (rule : FaultRule) (p : Place) (xs : List Evaluation) (i : ℕ) → length xs ≤ i + 1 → choice rule p (drop i xs) ≡ get_or xs i (Fault rule p)
choice_end rule p [] zero l = refl
choice_end rule p [] (suc i) l = refl
choice_end rule p (x ∷ []) zero l = refl
choice_end rule p (x ∷ y ∷ xs) zero l = absurd (omega (arith, l))
choice_end rule p (x ∷ xs) (suc i) l = choice_end rule p xs i (omega (arith, l))

by_truth : (rule : FaultRule) (p : Place) (xs : List Evaluation) (i : ℕ) (d : Evaluation) (b : Option Bool) → i + 1 < length xs → truth (get_or xs i d) ≡ b →
    choice rule p (drop i xs) ≡ taken b (get_or xs i d) (get_or xs (i + 1) d) (choice rule p (drop (i + 2) xs))
by_truth rule p xs i d b l is =
    choice_at rule p xs i d l ∙ ap (λ (b : Option Bool). taken b (get_or xs i d) (get_or xs (i + 1) d) (choice rule p (drop (i + 2) xs))) is

-- a condition that is FALSE is passed over
pub choice_false : (rule : FaultRule) (p : Place) (xs : List Evaluation) (i : ℕ) (d : Evaluation) → i + 1 < length xs → truth (get_or xs i d) ≡ Some false → choice rule p (drop i xs) ≡ choice rule p (drop (i + 2) xs)
choice_false rule p xs i d l is = by_truth rule p xs i d (Some false) l is

-- one without a truth ends the search
pub choice_failed : (rule : FaultRule) (p : Place) (xs : List Evaluation) (i : ℕ) (d : Evaluation) → i + 1 < length xs → truth (get_or xs i d) ≡ None → choice rule p (drop i xs) ≡ failed (get_or xs i d)
choice_failed rule p xs i d l is = by_truth rule p xs i d None l is

-- one that is TRUE takes its branch
pub choice_true : (rule : FaultRule) (p : Place) (xs : List Evaluation) (i : ℕ) (d e : Evaluation) → i + 1 < length xs → truth (get_or xs i d) ≡ Some true → choice rule p (drop i xs) ≡ get_or xs (i + 1) e
choice_true rule p xs i d e l is = by_truth rule p xs i d (Some true) l is ∙ get_or_default xs (i + 1) d e l
