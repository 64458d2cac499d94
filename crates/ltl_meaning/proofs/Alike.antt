-- Operators over what holds at the same times.
use Rattle.std.proofs.Common.{ℕ, zero, suc, ◌+◌, inl, inr}
use Rattle.std.specs.Prelude.{◌↔◌}
use Rattle.ltl_meaning.specs.declared.node.UnaryOperator.{UnaryOperator}
use Rattle.ltl_meaning.specs.declared.node.BoundedOperator.{BoundedOperator}
use Rattle.ltl_meaning.specs.declared.node.BinaryOperator.{BinaryOperator}
use Rattle.ltl_meaning.specs.declared.node.Window.{Window}
use Rattle.ltl_meaning.specs.Truth.{Moment, Yesterday, WeakYesterday, unary_truth, bounded_truth, binary_truth}

-- what holds at the same times
abbrev pub AreAlike : Moment → Moment → Type 0
AreAlike P Q = (t : ℕ) → P t ↔ Q t

pub flipped : (P Q : Moment) → AreAlike P Q → AreAlike Q P
flipped P Q e t = ((e t).1, (e t).0)

module _ (P Q : Moment) (e : AreAlike P Q) where
  yesterday_goes : (t : ℕ) → Yesterday P t → Yesterday Q t
  yesterday_goes zero x = x
  yesterday_goes (suc t) x = (e t).0 x

  weak_yesterday_goes : (t : ℕ) → WeakYesterday P t → WeakYesterday Q t
  weak_yesterday_goes zero x = tt
  weak_yesterday_goes (suc t) x = (e t).0 x

  unary_goes : (o : UnaryOperator) (t : ℕ) → unary_truth o P t → unary_truth o Q t
  unary_goes UnaryOperator.Not t x = λ y. x ((e t).1 y)
  unary_goes UnaryOperator.Next t x = (e (t + 1)).0 x
  unary_goes UnaryOperator.Finally t x = (x.0, x.1, (e x.0).0 x.2)
  unary_goes UnaryOperator.Globally t x = λ u h. (e u).0 (x u h)
  unary_goes UnaryOperator.Yesterday t x = yesterday_goes t x
  unary_goes UnaryOperator.WeakYesterday t x = weak_yesterday_goes t x
  unary_goes UnaryOperator.Once t x = (x.0, x.1, (e x.0).0 x.2)
  unary_goes UnaryOperator.Historically t x = λ u h. (e u).0 (x u h)
  unary_goes UnaryOperator.NowOrNext t x = elim x [ inl y ↦ inl ((e t).0 y) | inr y ↦ inr ((e (t + 1)).0 y) ]
  unary_goes UnaryOperator.NowAndNext t x = ((e t).0 x.0, (e (t + 1)).0 x.1)
  unary_goes UnaryOperator.NowOrBefore t x = elim x [ inl y ↦ inl ((e t).0 y) | inr y ↦ inr (yesterday_goes t y) ]
  unary_goes UnaryOperator.NowAndBefore t x = ((e t).0 x.0, weak_yesterday_goes t x.1)

  bounded_goes : (o : BoundedOperator) (w : Window) (t : ℕ) → bounded_truth o w P t → bounded_truth o w Q t
  bounded_goes BoundedOperator.Finally w t x = (x.0, x.1, x.2, (e x.0).0 x.3)
  bounded_goes BoundedOperator.Globally w t x = λ u h k. (e u).0 (x u h k)
  bounded_goes BoundedOperator.Once w t x = (x.0, x.1, x.2, (e x.0).0 x.3)
  bounded_goes BoundedOperator.Historically w t x = λ u h k. (e u).0 (x u h k)

  module _ (R S : Moment) (f : AreAlike R S) where
    binary_goes : (o : BinaryOperator) (t : ℕ) → binary_truth o P R t → binary_truth o Q S t
    binary_goes BinaryOperator.And t x = ((e t).0 x.0, (f t).0 x.1)
    binary_goes BinaryOperator.Or t x = elim x [ inl y ↦ inl ((e t).0 y) | inr y ↦ inr ((f t).0 y) ]
    binary_goes BinaryOperator.Xor t x = elim x [
      | inl y ↦ inl ((e t).0 y.0, λ z. y.1 ((f t).1 z))
      | inr y ↦ inr (λ z. y.0 ((e t).1 z), (f t).0 y.1)
    ]
    binary_goes BinaryOperator.Xnor t x = (λ y. (f t).0 (x.0 ((e t).1 y)), λ y. (e t).0 (x.1 ((f t).1 y)))
    binary_goes BinaryOperator.Implies t x = λ y. (f t).0 (x ((e t).1 y))
    binary_goes BinaryOperator.Iff t x = (λ y. (f t).0 (x.0 ((e t).1 y)), λ y. (e t).0 (x.1 ((f t).1 y)))
    binary_goes BinaryOperator.Until t x = (x.0, x.1, (f x.0).0 x.2, λ k lo hi. (e k).0 (x.3 k lo hi))
    binary_goes BinaryOperator.Releases t x = λ u h. elim (x u h) [ inl y ↦ inl ((f u).0 y) | inr y ↦ inr (y.0, y.1, y.2, (e y.0).0 y.3) ]
    binary_goes BinaryOperator.Since t x = (x.0, x.1, (f x.0).0 x.2, λ k lo hi. (e k).0 (x.3 k lo hi))
    binary_goes BinaryOperator.Triggered t x = λ u h. elim (x u h) [ inl y ↦ inl ((f u).0 y) | inr y ↦ inr (y.0, y.1, y.2, (e y.0).0 y.3) ]

module _ (P Q : Moment) (e : AreAlike P Q) where
  pub unary_alike : (o : UnaryOperator) → AreAlike (unary_truth o P) (unary_truth o Q)
  unary_alike o t = (unary_goes P Q e o t, unary_goes Q P (flipped P Q e) o t)

  pub bounded_alike : (o : BoundedOperator) (w : Window) → AreAlike (bounded_truth o w P) (bounded_truth o w Q)
  bounded_alike o w t = (bounded_goes P Q e o w t, bounded_goes Q P (flipped P Q e) o w t)

  pub binary_alike : (R S : Moment) → AreAlike R S → (o : BinaryOperator) → AreAlike (binary_truth o P R) (binary_truth o Q S)
  binary_alike R S f o t = (binary_goes P Q e R S f o t, binary_goes Q P (flipped P Q e) S R (flipped R S f) o t)
