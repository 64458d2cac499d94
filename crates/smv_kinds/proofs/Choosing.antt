-- A condition and its branch, from the front of a list.
use Rattle.std.proofs.Common.{◌≡◌, ℕ, ◌-◌, ◌≤◌, Bool, true, false, cond, List, [], ◌∷◌, length, take, drop, get_or, refl, sym, ap, ◌∙◌, arith}
use Rattle.std.proofs.lemmas.Bool.{false≢true}
use Rattle.std.proofs.lemmas.List.{take_all}
use Rattle.smv_kinds.specs.declared.kind.Kind.{Kind}
use Rattle.smv_kinds.specs.declared.kind.Kind.TheVariants as kind
use Rattle.smv_kinds.specs.declared.kind.Operand.{Operand}
use Rattle.smv_kinds.specs.Kinds.{chosen_after, is_boolean, joined}

where_true : (b : Bool) (k : Kind) → b ≡ true → cond b k kind.Nothing ≡ k
where_true true k e = refl
where_true false k e = absurd (false≢true e)

pub chosen_step : (k j : Kind) (xs : List Operand) (n : ℕ) (d e : Operand) → 2 ≤ length xs → n ≡ length xs - 2 → is_boolean (get_or xs 0 d).kind ≡ true →
    j ≡ joined k (get_or xs 1 e).kind → chosen_after j (take n (drop 2 xs)) ≡ chosen_after k xs
chosen_step k j [] n d e l i b q = absurd (omega (arith, l))
chosen_step k j (c ∷ []) n d e l i b q = absurd (omega (arith, l))
chosen_step k j (c ∷ x ∷ xs) n d e l i b q =
    ap (chosen_after j) (take_all n xs (omega (arith, i))) ∙ (ap (λ (p : Kind). chosen_after p xs) q ∙
    sym (where_true (is_boolean c.kind) (chosen_after (joined k x.kind) xs) b))
