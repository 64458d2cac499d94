-- What a book keeps as it is made, as answers are recorded, and as it takes over those of another.
use Rattle.std.proofs.Common.{inl, inr, ◌≡◌, ◌≢◌, ◌⊎◌, ℕ, ◌+◌, ◌-◌, ◌<◌, length, get_or, get_or-set_same, get_or-set_other, set, length-set, Option, Some, None, replicate, refl, sym, ap, ◌∙◌, subst, arith}
use Rattle.std.proofs.lemmas.Bool.{cases_eq, cases_lt}
use Rattle.std.proofs.lemmas.List.{length-replicate, get_or-replicate, get_or_default, get_or_past}
use Rattle.clause_core.specs.Systems.{TransitionSystem}
use Rattle.lasso_search.specs.Lassos.{Lasso}
use Rattle.lasso_search.specs.Books.{Book, IsAnswer, IsLength, entry, KeepsAnswers, either}

-- a book of which nothing is recorded
pub keeps_none : (m : TransitionSystem) (bound : ℕ) → KeepsAnswers m (replicate bound None)
keeps_none m bound n answer is said =
    let none : Option (Option Lasso) = None in
    let long : length (replicate bound none) ≡ bound = length-replicate bound None in
    let e : get_or (replicate bound none) (n - 1) None ≡ None = get_or-replicate bound (n - 1) None None (omega (arith, is.0, is.1)) in
    absurd cc

-- a book of which one answer more is recorded
pub keeps_more : (m : TransitionSystem) (b : Book) (n : ℕ) (answer : Option Lasso) → IsLength b n → KeepsAnswers m b → IsAnswer m n answer →
    KeepsAnswers m (set b (n - 1) (Some answer))
keeps_more m b n answer is keeps right k other in_book said =
    let long : length (set b (n - 1) (Some answer)) ≡ length b = length-set b (n - 1) (Some answer) in
    let lt : n - 1 < length b = omega (arith, is.0, is.1) in
    elim (cases_eq k n) [
      | inl same ↦
          (let here : get_or (set b (n - 1) (Some answer)) (n - 1) None ≡ Some answer = get_or-set_same b (n - 1) (Some answer) None lt in
          let there : get_or (set b (n - 1) (Some answer)) (k - 1) None ≡ Some answer = subst (λ i. get_or (set b (n - 1) (Some answer)) (i - 1) None ≡ Some answer) (sym same) here in
          let e : answer ≡ other = cc in
          subst (IsAnswer m k) e (subst (λ i. IsAnswer m i answer) (sym same) right))
      | inr ne ↦
          (let apart : k - 1 ≢ n - 1 = omega (arith, in_book.0, is.0, ne) in
          let e : get_or (set b (n - 1) (Some answer)) (k - 1) None ≡ get_or b (k - 1) None = get_or-set_other b (n - 1) (k - 1) (Some answer) None apart in
          keeps k other (in_book.0, omega (arith, in_book.1, long)) (sym e ∙ said))
    ]

pub either_none : {X : Type 0} (x : Option X) → either x None ≡ x
either_none (Some x) = refl
either_none None = refl

either_is : {X : Type 0} (x y : Option X) (a : X) → either x y ≡ Some a → (x ≡ Some a) ⊎ (y ≡ Some a)
either_is (Some x) y a h = inl h
either_is None y a h = inr h

-- a book that took over the answers of another
pub keeps_both : (m : TransitionSystem) (old other new : Book) → length new ≡ length old → ((i : ℕ) → get_or new i None ≡ either (get_or old i None) (get_or other i None)) →
    KeepsAnswers m old → KeepsAnswers m other → KeepsAnswers m new
keeps_both m old other new long each here there n answer is said =
    elim (either_is (get_or old (n - 1) None) (get_or other (n - 1) None) answer (sym (each (n - 1)) ∙ said)) [
      | inl own ↦ here n answer (is.0, omega (arith, is.1, long)) own
      | inr others ↦ elim (cases_lt (n - 1) (length other)) [
        | inl lt ↦ there n answer (is.0, omega (arith, lt)) others
        | inr ge ↦ let none : get_or other (n - 1) None ≡ None = get_or_past other (n - 1) None ge in absurd cc
      ]
    ]

-- an entry that is a lasso
pub lasso_at : (b xs : Book) (i : ℕ) (e : Option (Option Lasso)) (r : Lasso) →
    xs ≡ b → i < length xs → e ≡ get_or xs i e → e ≡ Some (Some r) → (n : ℕ) × IsLength b n × (entry b n ≡ Some (Some r))
lasso_at b xs i e r same lt at_i is =
    let long : length xs ≡ length b = ap length same in
    let k : i + 1 - 1 ≡ i = omega arith in
    let none : Option (Option Lasso) = None in
    let read : get_or xs i e ≡ get_or xs i none = get_or_default xs i e none lt in
    let here : get_or b i none ≡ Some (Some r) = ap (λ ys. get_or ys i none) (sym same) ∙ sym read ∙ sym at_i ∙ is in
    (i + 1, (omega arith, omega (arith, long)), ap (λ j. get_or b j none) k ∙ here)
