-- The text that is written is that of the bounds.
use Rattle.std.proofs.Common.{◌≡◌, ◌∙◌, ℤ, ◌∷◌, ◌++◌, subst, sym, append_assoc}
use Rattle.std.specs.Prelude.{IfOk, List, codes, ℕ}
use Rattle.whole_numbers.specs.Decimals.{decimal_text}
use Rattle.smv_types.specs.Kinds.{bounds_text}
use Rattle.smv_types.proofs.items.bounds_text.Goals as goal

told : (a b : List ℕ) (low high : ℤ) → a ≡ decimal_text low → b ≡ decimal_text high → a ++ 44 ∷ b ≡ bounds_text low high
told a b low high e f = rw (e, f) (sym (append_assoc (decimal_text low) (codes ",") (decimal_text high)))

pub returns : goal.returns
returns c =
    subst (λ x. IfOk c.from_str.result (λ t. t ≡ x))
    (c.as_str.ensures.value ∙ c.in_ok-text.ensures.ok ∙ told c.in_ok-first.first c.in_ok-last.last c.args.low.now c.args.high.now c.in_ok-first.ensures c.in_ok-last.ensures)
    c.from_str.ensures
