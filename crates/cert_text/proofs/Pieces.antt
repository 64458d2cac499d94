-- Pieces of text written one after another.
use Rattle.std.proofs.Common.{◌≡◌, ℕ, List, ◌++◌, ◌∙◌, ap, append_assoc}

one_more : (b done a x y : List ℕ) → x ≡ b ++ done → y ≡ x ++ a → y ≡ b ++ (done ++ a)
one_more b done a x y e f = f ∙ (ap (λ w. w ++ a) e ∙ append_assoc b done a)

pub all_written : (b a₁ a₂ a₃ a₄ a₅ a₆ a₇ x₁ x₂ x₃ x₄ x₅ x₆ x₇ : List ℕ) →
    x₁ ≡ b ++ a₁ → x₂ ≡ x₁ ++ a₂ → x₃ ≡ x₂ ++ a₃ → x₄ ≡ x₃ ++ a₄ → x₅ ≡ x₄ ++ a₅ → x₆ ≡ x₅ ++ a₆ → x₇ ≡ x₆ ++ a₇ →
    x₇ ≡ b ++ (a₁ ++ a₂ ++ a₃ ++ a₄ ++ a₅ ++ a₆ ++ a₇)
all_written b a₁ a₂ a₃ a₄ a₅ a₆ a₇ x₁ x₂ x₃ x₄ x₅ x₆ x₇ e₁ e₂ e₃ e₄ e₅ e₆ e₇ =
    let f₂ = one_more b a₁ a₂ x₁ x₂ e₁ e₂ in
    let f₃ = one_more b (a₁ ++ a₂) a₃ x₂ x₃ f₂ e₃ in
    let f₄ = one_more b (a₁ ++ a₂ ++ a₃) a₄ x₃ x₄ f₃ e₄ in
    let f₅ = one_more b (a₁ ++ a₂ ++ a₃ ++ a₄) a₅ x₄ x₅ f₄ e₅ in
    let f₆ = one_more b (a₁ ++ a₂ ++ a₃ ++ a₄ ++ a₅) a₆ x₅ x₆ f₅ e₆ in
    one_more b (a₁ ++ a₂ ++ a₃ ++ a₄ ++ a₅ ++ a₆) a₇ x₆ x₇ f₆ e₇
