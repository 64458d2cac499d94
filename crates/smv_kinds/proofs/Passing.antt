-- Signed numbers that are passed, and what calls give of them.
use Rattle.std.proofs.Common.{◌≡◌, ◌∙◌, ℤ, SFits, to_z, of_z, ap}
use Rattle.std.proofs.lemmas.Int.{to_z-of_z}
use mir.Syntax.{Width}

-- what a call gives of two numbers that fit
pub of_passed : (w : Width) (f : ℤ → ℤ → ℤ) (x y z : ℤ) → SFits w x → SFits w y → z ≡ f (to_z w (of_z w x)) (to_z w (of_z w y)) → z ≡ f x y
of_passed w f x y z i j e = e ∙ (ap (λ (n : ℤ). f n (to_z w (of_z w y))) (to_z-of_z w x i) ∙ ap (λ (n : ℤ). f x n) (to_z-of_z w y j))

-- the same, passed on
pub passed_on : (v w : Width) (f : ℤ → ℤ → ℤ) (x y z : ℤ) → SFits w x → SFits w y → SFits v z → z ≡ f (to_z w (of_z w x)) (to_z w (of_z w y)) → to_z v (of_z v z) ≡ f x y
passed_on v w f x y z i j k e = to_z-of_z v z k ∙ of_passed w f x y z i j e

-- an operator on what two calls gave
pub nested : (w : Width) (f : ℤ → ℤ → ℤ) (x y z p q : ℤ) → SFits w x → SFits w y → SFits w z → z ≡ f (to_z w (of_z w x)) (to_z w (of_z w y)) → x ≡ p → y ≡ q →
    to_z w (of_z w z) ≡ f p q
nested w f x y z p q i j k e g h = passed_on w w f x y z i j k e ∙ (ap (λ (n : ℤ). f n y) g ∙ ap (λ (n : ℤ). f p n) h)
