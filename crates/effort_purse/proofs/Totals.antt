-- Totals over the views, where one view changes or one more comes.
use Rattle.std.proofs.Common.{◌≡◌, ℕ, zero, suc, ◌+◌, ◌<◌, ◌≤◌, List, [], ◌∷◌, ◌++◌, length, set, refl, sym, ap, arith}
use mathlib.Core.Option.{some, some-injective, some-ne-none}
use lib.ListN.{get_elem?}
use Rattle.effort_purse.specs.Rule.{total}

module _ {A : Type 0} where
  -- one view changes
  pub total_set : (f : A → ℕ) (views : List A) (id : ℕ) (v w : A) → get_elem? views id ≡ some v → total f (set views id w) + f v ≡ total f views + f w
  total_set f [] id v w e = absurd (some-ne-none v (sym e))
  total_set f (x ∷ xs) zero v w e = omega (arith, ap f (some-injective x v e))
  total_set f (x ∷ xs) (suc id) v w e = omega (arith, total_set f xs id v w e)

  pub total_snoc : (f : A → ℕ) (views : List A) (w : A) → total f (views ++ w ∷ []) ≡ total f views + f w
  total_snoc f [] w = omega arith
  total_snoc f (x ∷ xs) w = omega (arith, total_snoc f xs w)

  pub total_at : (f : A → ℕ) (views : List A) (id : ℕ) (v : A) → get_elem? views id ≡ some v → f v ≤ total f views
  total_at f [] id v e = absurd (some-ne-none v (sym e))
  total_at f (x ∷ xs) zero v e = omega (arith, ap f (some-injective x v e))
  total_at f (x ∷ xs) (suc id) v e = omega (arith, total_at f xs id v e)

  -- one total is no more than another
  pub total_le : (f g : A → ℕ) (views : List A) → ((v : A) → f v ≤ g v) → total f views ≤ total g views
  total_le f g [] h = omega arith
  total_le f g (x ∷ xs) h = omega (arith, h x, total_le f g xs h)

  -- where f is no more than g, the totals are as far apart as at one view
  pub total_gap : (f g : A → ℕ) (views : List A) (id : ℕ) (v : A) → ((u : A) → f u ≤ g u) → get_elem? views id ≡ some v → total f views + g v ≤ total g views + f v
  total_gap f g [] id v h e = absurd (some-ne-none v (sym e))
  total_gap f g (x ∷ xs) zero v h e = omega (arith, total_le f g xs h, ap f (some-injective x v e), ap g (some-injective x v e))
  total_gap f g (x ∷ xs) (suc id) v h e = omega (arith, h x, total_gap f g xs id v h e)

  pub total_split : (f : A → ℕ) (views : List A) (id : ℕ) (v l r : A) → get_elem? views id ≡ some v → f l + f r ≡ f v → total f (set views id l ++ r ∷ []) ≡ total f views
  total_split f views id v l r at e = omega (arith, total_set f views id v l at, total_snoc f (set views id l) r)

  pub total_join : (f : A → ℕ) (views : List A) (id other : ℕ) (v w both spent : A) → get_elem? views id ≡ some v → get_elem? (set views id both) other ≡ some w
      → total f (set (set views id both) other spent) + f v + f w ≡ total f views + f both + f spent
  total_join f views id other v w both spent at there = omega (arith, total_set f views id v both at, total_set f (set views id both) other w spent there)

  -- two views of the list count both
  pub total_pair : (f : A → ℕ) (views : List A) (id other : ℕ) (v w : A) → (other ≡ id → ⊥) → get_elem? views id ≡ some v → get_elem? views other ≡ some w → f v + f w ≤ total f views
  total_pair f [] id other v w apart at there = absurd (some-ne-none v (sym at))
  total_pair f (x ∷ xs) zero zero v w apart at there = absurd (apart refl)
  total_pair f (x ∷ xs) zero (suc other) v w apart at there = omega (arith, ap f (some-injective x v at), total_at f xs other w there)
  total_pair f (x ∷ xs) (suc id) zero v w apart at there = omega (arith, ap f (some-injective x w there), total_at f xs id v at)
  total_pair f (x ∷ xs) (suc id) (suc other) v w apart at there = omega (arith, total_pair f xs id other v w (λ e. apart (ap suc e)) at there)

  pub in_list : (views : List A) (id : ℕ) (v : A) → get_elem? views id ≡ some v → id < length views
  in_list [] id v e = absurd (some-ne-none v (sym e))
  in_list (x ∷ xs) zero v e = omega arith
  in_list (x ∷ xs) (suc id) v e = omega (arith, in_list xs id v e)

  none : (f g : A → ℕ) (views : List A) → total g views ≡ 0 → ((i : ℕ) (u : A) → get_elem? views i ≡ some u → g u ≡ 0 → f u ≡ 0) → total f views ≡ 0
  none f g [] e h = refl
  none f g (x ∷ xs) e h = omega (arith, h 0 x refl (omega arith), none f g xs (omega arith) (λ i u at. h (suc i) u at))

  -- the others have nothing
  pub alone : (f g : A → ℕ) (views : List A) (id : ℕ) (v : A) → get_elem? views id ≡ some v → total g views ≡ g v → ((i : ℕ) (u : A) → get_elem? views i ≡ some u → g u ≡ 0 → f u ≡ 0) → total f views ≡ f v
  alone f g [] id v at e h = absurd (some-ne-none v (sym at))
  alone f g (x ∷ xs) zero v at e h =
      let p = ap f (some-injective x v at) in let q = ap g (some-injective x v at) in
      omega (arith, none f g xs (omega arith) (λ i u there. h (suc i) u there))
  alone f g (x ∷ xs) (suc id) v at e h =
      let some_left = total_at g xs id v at in
      omega (arith, h 0 x refl (omega arith), alone f g xs id v at (omega arith) (λ i u there. h (suc i) u there))
