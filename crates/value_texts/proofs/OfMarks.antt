-- Texts of as many `$`.
use Rattle.std.proofs.Common.{◌≡◌, ℕ, zero, suc, Bool, true, List, [], ◌∷◌, length, bytes_eq, replicate, refl, sym, ap, subst, ◌∙◌}
use lib.Dec.{eqb}
use Rattle.std.specs.List.{list_all}
use Rattle.std.proofs.lemmas.Bool.{and_from, and_parts, eq-eqb, eqb-true}
use Rattle.std.proofs.lemmas.Bool.Decides.{same_from_decides}
use Rattle.std.proofs.lemmas.Slice.Eq.{bytes_eq-Decides}

abbrev pub all_marks : List ℕ → Bool
all_marks text = list_all (λ b. eqb b 36) text

abbrev pub marks : ℕ → List ℕ
marks n = replicate n 36

are_marks : (text : List ℕ) → all_marks text ≡ true → marks (length text) ≡ text
are_marks [] h = refl
are_marks (b ∷ text) h =
    let both = and_parts (eqb b 36) (all_marks text) h in
    let first : b ≡ 36 = eqb-true b 36 both.0 in
    ap (λ (l : List ℕ). 36 ∷ l) (are_marks text both.1) ∙ ap (λ (x : ℕ). x ∷ text) (sym first)

marks_are : (n : ℕ) → all_marks (marks n) ≡ true
marks_are zero = refl
marks_are (suc n) = and_from (eqb 36 36) (all_marks (marks n)) (eq-eqb 36 36 refl) (marks_are n)

-- as many marks, all of them
pub marks_told : (n : ℕ) (text : List ℕ) → length text ≡ n → all_marks text ≡ bytes_eq (marks n) text
marks_told n text long = same_from_decides (all_marks text) (bytes_eq (marks n) text)
    (λ h. ap marks (sym long) ∙ are_marks text h, λ e. subst (λ (l : List ℕ). all_marks l ≡ true) e (marks_are n))
    (bytes_eq-Decides (marks n) text)
