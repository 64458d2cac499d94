-- Where variables go, and assignments by kind and time.
use Rattle.std.proofs.Common.{◌≡◌, ℕ, ◌+◌, ◌-◌, ◌*◌, ◌<◌, ◌≤◌, ◌/◌, ◌%◌, Bool, ap, ◌∙◌, arith}
use Rattle.std.proofs.Math.Nat.{mul-le-mul_right}
use Rattle.std.proofs.lemmas.Nat.{div-mul-add, mod-mul-add}
use Rattle.std.specs.Prelude.{nat_lt, if◌then◌else◌}
use Rattle.std.proofs.lemmas.Bool.Decides.{nat_tests}
use Rattle.lasso_search.specs.declared.plan.Plan.{Plan}
use Rattle.lasso_search.specs.declared.plan.Turn.{Turn}
use Rattle.lasso_search.specs.Unrolling.{stride, spot, place, vars_at}

pub yes : {X : Type 0} (a b : ℕ) (x y : X) → a < b → (if nat_lt a b then x else y) ≡ x
yes a b x y h = grind (arith, nat_tests)

pub no_ : {X : Type 0} (a b : ℕ) (x y : X) → b ≤ a → (if nat_lt a b then x else y) ≡ y
no_ a b x y h = grind (arith, nat_tests)

module _ (p : Plan) where
  pub first_low : (v : ℕ) → v < p.bits → place p Turn.First v ≡ spot p v 0
  first_low v h = yes v p.bits _ _ h

  pub first_high : (v : ℕ) → p.bits ≤ v → place p Turn.First v ≡ v
  first_high v h = no_ v p.bits _ _ h

  pub step_low : (i v : ℕ) → v < p.bits → place p (Turn.Step i) v ≡ spot p v i
  step_low i v h = yes v p.bits _ _ h

  pub step_next : (i v : ℕ) → p.bits ≤ v → v - p.bits < p.bits → place p (Turn.Step i) v ≡ spot p (v - p.bits) (i + 1)
  step_next i v h k = no_ v p.bits _ _ h ∙ yes (v - p.bits) p.bits _ _ k

  pub step_inner : (i v : ℕ) → p.bits ≤ v → p.bits ≤ v - p.bits → place p (Turn.Step i) v ≡ spot p (v - p.bits - p.bits + p.all) i
  step_inner i v h k = no_ v p.bits _ _ h ∙ no_ (v - p.bits) p.bits _ _ k

  -- the assignment that gives the first variables and each kind at each time their values
  abbrev pub by_kind : (ℕ → Bool) → (ℕ → ℕ → Bool) → ℕ → Bool
  by_kind low told v = if nat_lt v p.all then low v else told ((v - p.all) % stride p) ((v - p.all) / stride p)

  pub at_spot : (low : ℕ → Bool) (told : ℕ → ℕ → Bool) (kind i : ℕ) → kind < stride p → by_kind low told (spot p kind i) ≡ told kind i
  at_spot low told kind i h =
      let x : ℕ = i * stride p + kind in
      let e : p.all + x - p.all ≡ x = omega arith in
      no_ (p.all + x) p.all _ _ (omega arith)
      ∙ ap (λ k. told (k % stride p) (k / stride p)) e
      ∙ ap (λ k. told k (x / stride p)) (mod-mul-add i (stride p) kind h)
      ∙ ap (told kind) (div-mul-add i (stride p) kind h)

  pub at_low : (low : ℕ → Bool) (told : ℕ → ℕ → Bool) (v : ℕ) → v < p.all → by_kind low told v ≡ low v
  at_low low told v h = yes v p.all _ _ h

  -- a spot is below those of later times
  pub spot_below : (kind i steps : ℕ) → kind < stride p → i ≤ steps → spot p kind i < vars_at p steps
  spot_below kind i steps h lt =
      let more : (i + 1) * stride p ≤ (steps + 1) * stride p = mul-le-mul_right (stride p) (omega arith) in
      omega (arith, more)

  pub vars_more : (few many : ℕ) → few ≤ many → vars_at p few ≤ vars_at p many
  vars_more few many lt =
      let more : (few + 1) * stride p ≤ (many + 1) * stride p = mul-le-mul_right (stride p) (omega arith) in
      omega (arith, more)

  pub low_below : (v steps : ℕ) → v < p.all → v < vars_at p steps
  low_below v steps h = omega (arith, h)
