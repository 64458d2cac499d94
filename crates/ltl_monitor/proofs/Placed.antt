-- Where variables go, and an assignment of the monitored system put together from its parts.
use Rattle.std.proofs.Common.{inl, inr, ◌≡◌, ℕ, ◌+◌, ◌-◌, ◌*◌, ◌<◌, ◌≤◌, ◌/◌, ◌%◌, Bool, ap, ◌∙◌, arith}
use Rattle.std.specs.Prelude.{nat_lt, if◌then◌else◌}
use Rattle.std.proofs.lemmas.Bool.{cases_lt}
use Rattle.std.proofs.lemmas.Bool.Decides.{nat_tests}
use Rattle.ltl_monitor.specs.declared.layout.Layout.{Layout}
use Rattle.ltl_monitor.specs.declared.layout.Space.{Space}
use Rattle.ltl_monitor.specs.Drafting.{place}

pub yes : (a b : ℕ) (x y : Bool) → a < b → (if nat_lt a b then x else y) ≡ x
yes a b x y h = grind (arith, nat_tests)

pub no_ : (a b : ℕ) (x y : Bool) → b ≤ a → (if nat_lt a b then x else y) ≡ y
no_ a b x y h = grind (arith, nat_tests)

yes_n : (a b : ℕ) (x y : ℕ) → a < b → (if nat_lt a b then x else y) ≡ x
yes_n a b x y h = grind (arith, nat_tests)

no_n : (a b : ℕ) (x y : ℕ) → b ≤ a → (if nat_lt a b then x else y) ≡ y
no_n a b x y h = grind (arith, nat_tests)

module _ (p : Layout) where
  abbrev pub width : ℕ
  width = p.given + p.nodes

  pub local_low : (v : ℕ) → v < p.given → place p Space.Local v ≡ v
  local_low v h = yes_n v p.given v (v + p.nodes) h

  pub local_high : (v : ℕ) → p.given ≤ v → place p Space.Local v ≡ v + p.nodes
  local_high v h = no_n v p.given v (v + p.nodes) h

  pub local_in : (n v : ℕ) → v < n → place p Space.Local v < n + p.nodes
  local_in n v h = grind (arith, nat_tests)

  pub system_low : (v : ℕ) → v < p.given → place p Space.System v ≡ v
  system_low v h = yes_n v p.given v _ h

  pub system_next : (v : ℕ) → p.given ≤ v → v < p.given + p.given → place p Space.System v ≡ v + p.nodes
  system_next v h k = no_n v p.given v _ h ∙ yes_n v (p.given + p.given) (v + p.nodes) (v + 2 * p.nodes) k

  pub system_high : (v : ℕ) → p.given + p.given ≤ v → place p Space.System v ≡ v + 2 * p.nodes
  system_high v h = no_n v p.given v _ (omega arith) ∙ no_n v (p.given + p.given) (v + p.nodes) (v + 2 * p.nodes) h

  pub now_low : (v : ℕ) → v < width → place p Space.Now v ≡ v
  now_low v h = yes_n v width v _ h

  pub now_high : (v : ℕ) → width ≤ v → place p Space.Now v ≡ p.inner + 2 * (v - width)
  now_high v h = no_n v width v _ h

  pub next_low : (v : ℕ) → v < width → place p Space.Next v ≡ width + v
  next_low v h = yes_n v width (width + v) _ h

  pub next_high : (v : ℕ) → width ≤ v → place p Space.Next v ≡ p.inner + 2 * (v - width) + 1
  next_high v h = no_n v width (width + v) _ h

  pub system_in : (n v : ℕ) → v < n → p.inner ≡ n + 2 * p.nodes → place p Space.System v < p.inner
  system_in n v h e = grind (arith, nat_tests)

  -- x in the state, y in the next one, b where the system's others are, and then e and e' in turns
  abbrev pub glue : (ℕ → Bool) → (ℕ → Bool) → (ℕ → Bool) → (ℕ → Bool) → (ℕ → Bool) → ℕ → Bool
  glue x y b e e' t =
      if nat_lt t width then x t
      else (if nat_lt t (2 * width) then y (t - width)
      else (if nat_lt t p.inner then b (t - 2 * p.nodes)
      else (if nat_lt ((t - p.inner) % 2) 1 then e (width + (t - p.inner) / 2) else e' (width + (t - p.inner) / 2))))

  module _ (x y b e e' : ℕ → Bool) (wide : 2 * width ≤ p.inner) where
    pub glue_x : (t : ℕ) → t < width → glue x y b e e' t ≡ x t
    glue_x t h = yes t width (x t) _ h

    pub glue_y : (t : ℕ) → t < width → glue x y b e e' (width + t) ≡ y t
    glue_y t h =
        no_ (width + t) width _ _ (omega arith) ∙ yes (width + t) (2 * width) (y (width + t - width)) _ (omega arith)
        ∙ (let k : width + t - width ≡ t = omega arith in ap y k)

    pub glue_b : (t : ℕ) → 2 * width ≤ t + 2 * p.nodes → t + 2 * p.nodes < p.inner → glue x y b e e' (t + 2 * p.nodes) ≡ b t
    glue_b t h k =
        no_ (t + 2 * p.nodes) width _ _ (omega arith) ∙ no_ (t + 2 * p.nodes) (2 * width) _ _ h
        ∙ yes (t + 2 * p.nodes) p.inner (b (t + 2 * p.nodes - 2 * p.nodes)) _ k ∙ (let i : t + 2 * p.nodes - 2 * p.nodes ≡ t = omega arith in ap b i)

    beyond : (t : ℕ) → p.inner ≤ t → glue x y b e e' t ≡ (if nat_lt ((t - p.inner) % 2) 1 then e (width + (t - p.inner) / 2) else e' (width + (t - p.inner) / 2))
    beyond t h = no_ t width _ _ (omega arith) ∙ no_ t (2 * width) _ _ (omega arith) ∙ no_ t p.inner _ _ h

    pub glue_e : (k : ℕ) → glue x y b e e' (p.inner + 2 * k) ≡ e (width + k)
    glue_e k =
        let even : (p.inner + 2 * k - p.inner) % 2 ≡ 0 = omega arith in
        let half : width + (p.inner + 2 * k - p.inner) / 2 ≡ width + k = omega arith in
        beyond (p.inner + 2 * k) (omega arith) ∙ yes ((p.inner + 2 * k - p.inner) % 2) 1 _ _ (omega arith) ∙ ap e half

    pub glue_e' : (k : ℕ) → glue x y b e e' (p.inner + 2 * k + 1) ≡ e' (width + k)
    glue_e' k =
        let odd : (p.inner + 2 * k + 1 - p.inner) % 2 ≡ 1 = omega arith in
        let half : width + (p.inner + 2 * k + 1 - p.inner) / 2 ≡ width + k = omega arith in
        beyond (p.inner + 2 * k + 1) (omega arith) ∙ no_ ((p.inner + 2 * k + 1 - p.inner) % 2) 1 _ _ (omega arith) ∙ ap e' half

    -- seen from one state: before the step, after it, and from the system
    pub glue_now : ((v : ℕ) → v < width → x v ≡ e v) → (v : ℕ) → glue x y b e e' (place p Space.Now v) ≡ e v
    glue_now same v = elim (cases_lt v width) [
      | inl h ↦ ap (glue x y b e e') (now_low v h) ∙ glue_x v h ∙ same v h
      | inr h ↦ ap (glue x y b e e') (now_high v h) ∙ glue_e (v - width) ∙ (let k : width + (v - width) ≡ v = omega arith in ap e k)
    ]

    pub glue_next : ((v : ℕ) → v < width → y v ≡ e' v) → (v : ℕ) → glue x y b e e' (place p Space.Next v) ≡ e' v
    glue_next same v = elim (cases_lt v width) [
      | inl h ↦ ap (glue x y b e e') (next_low v h) ∙ glue_y v h ∙ same v h
      | inr h ↦ ap (glue x y b e e') (next_high v h) ∙ glue_e' (v - width) ∙ (let k : width + (v - width) ≡ v = omega arith in ap e' k)
    ]

    pub glue_system : (n : ℕ) → p.inner ≡ n + 2 * p.nodes → ((v : ℕ) → v < p.given → x v ≡ b v) → ((v : ℕ) → v < p.given → y v ≡ b (p.given + v)) →
        (v : ℕ) → v < n → glue x y b e e' (place p Space.System v) ≡ b v
    glue_system n en xb yb v h = elim (cases_lt v p.given) [
      | inl low ↦ ap (glue x y b e e') (system_low v low) ∙ glue_x v (omega arith) ∙ xb v low
      | inr k ↦ elim (cases_lt v (p.given + p.given)) [
        | inl mid ↦
            let i : v + p.nodes ≡ width + (v - p.given) = omega arith in
            let j : p.given + (v - p.given) ≡ v = omega arith in
            ap (glue x y b e e') (system_next v k mid ∙ i) ∙ glue_y (v - p.given) (omega arith) ∙ yb (v - p.given) (omega arith) ∙ ap b j
        | inr high ↦ ap (glue x y b e e') (system_high v high) ∙ glue_b v (omega arith) (omega (arith, en))
      ]
    ]
