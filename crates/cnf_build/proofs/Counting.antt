use Rattle.std.proofs.Common.{◌≡◌, ℕ, ◌<◌, ◌≤◌, ◌⊎◌, Bool, true, false, ◌&&◌, ◌||◌, cond, List, length, get_or, refl, sym, ◌∙◌, ap, subst, arith, zero, suc, inl, inr, ⊎_elim, eqb}
use Rattle.std.proofs.lemmas.Bool.{cases_Bool, cases_lt, cases_order, and_parts, eqb-true, eq-eqb}
use Rattle.bit_graph.specs.declared.edge.Edge.{Edge}
use Rattle.bit_graph.specs.declared.edge.GraphNode.{GraphNode}
use Rattle.bit_graph.specs.declared.edge.GraphNode.TheVariants.{False, Input, And, Xor, Choice}
use Rattle.clause_core.specs.declared.literal.Lit.{Lit}
use Rattle.cnf_build.specs.Numbering.{HasVariable, Numbering, is_input, is_named, count_below}
use Rattle.cnf_build.specs.CnfMeaning.{IsCnf}

module _ (test : ℕ → Bool) where
  step_on : (k : ℕ) → test k ≡ true → count_below test (suc k) ≡ suc (count_below test k)
  step_on k h = ap (λ b. cond b (suc (count_below test k)) (count_below test k)) h

  step_off : (k : ℕ) → test k ≡ false → count_below test (suc k) ≡ count_below test k
  step_off k h = ap (λ b. cond b (suc (count_below test k)) (count_below test k)) h

  step_up : (k : ℕ) → count_below test k ≤ count_below test (suc k)
  step_up k = elim (cases_Bool (test k)) [
    | inl on ↦ omega (arith, step_on k on)
    | inr off ↦ omega (arith, step_off k off)
  ]

  at_same : (j k : ℕ) → j ≡ k → count_below test j ≤ count_below test k
  at_same j k e = let P : ℕ → Type 0 = λ m. count_below test j ≤ count_below test m in subst P e (omega arith)

  never_falls : (j k : ℕ) → j ≤ k → count_below test j ≤ count_below test k
  never_falls j zero h = at_same j zero (omega arith)
  never_falls j (suc k) h =
      ⊎_elim
      (λ (m : j < suc k). omega (arith, never_falls j k (omega arith), step_up k))
      (λ (m : suc k ≤ j). at_same j (suc k) (omega arith))
      (cases_lt j (suc k))

  -- more pass below a later number
  pub rises : (j k : ℕ) → test j ≡ true → j < k → count_below test j < count_below test k
  rises j k on lt = omega (arith, never_falls (suc j) k (omega arith), step_on j on)

  -- of the numbers that pass no two have equally many before them
  pub no_two : (j k : ℕ) → test j ≡ true → test k ≡ true → count_below test j ≡ count_below test k → j ≡ k
  no_two j k on_j on_k e =
      ⊎_elim
      (λ (s : j ≡ k). s)
      (λ (o : (j < k) ⊎ (k < j)).
      ⊎_elim
      (λ (m : j < k). absurd (omega (arith, rises j k on_j m)))
      (λ (m : k < j). absurd (omega (arith, rises k j on_k m)))
      o)
      (cases_order j k)

  -- the number below n that passes and has i of those that pass before it
  pub pick : ℕ → ℕ → ℕ
  pick i zero = 0
  pick i (suc n) = cond (test n && eqb (count_below test n) i) n (pick i n)

  among_earlier : (n i : ℕ) → i < count_below test (suc n) → (test n && eqb (count_below test n) i) ≡ false → i < count_below test n
  among_earlier n i h off =
      elim (cases_Bool (test n)) [
        | inl on ↦ (let other : eqb (count_below test n) i ≡ false = rw on at off in
            ⊎_elim
            (λ (s : count_below test n ≡ i). let no : true ≡ false = sym (eq-eqb (count_below test n) i s) ∙ other in cc)
            (λ (o : (count_below test n < i) ⊎ (i < count_below test n)).
            ⊎_elim
            (λ (m : count_below test n < i). absurd (omega (arith, step_on n on)))
            (λ (m : i < count_below test n). m)
            o)
            (cases_order (count_below test n) i))
        | inr out ↦ omega (arith, step_off n out)
      ]

  abbrev pub Picks : ℕ → ℕ → ℕ → Type 0
  Picks n i k = (k < n) × (test k ≡ true) × (count_below test k ≡ i)

  picked : (n i : ℕ) → i < count_below test n → Picks n i (pick i n)
  unfolding pick
  picked zero i h = absurd (omega arith)
  picked (suc n) i h =
      elim (cases_Bool (test n && eqb (count_below test n) i)) [
        | inl on ↦ (let p = and_parts (test n) (eqb (count_below test n) i) on in
            let e : n ≡ cond (test n && eqb (count_below test n) i) n (pick i n) = sym (ap (λ b. cond b n (pick i n)) on) in
            let P : ℕ → Type 0 = Picks (suc n) i in
            subst P e (omega arith, p.0, eqb-true (count_below test n) i p.1))
        | inr off ↦ (let e : pick i n ≡ cond (test n && eqb (count_below test n) i) n (pick i n) = sym (ap (λ b. cond b n (pick i n)) off) in
            let P : ℕ → Type 0 = Picks (suc n) i in
            let r = picked n i (among_earlier n i h off) in
            subst P e (omega (arith, r.0), r.1, r.2))
      ]

  pub all_pass : (n : ℕ) → ((k : ℕ) → k < n → test k ≡ true) → (k : ℕ) → k ≤ n → count_below test k ≡ k
  all_pass n h zero l = refl
  all_pass n h (suc k) l = omega (arith, step_on k (h k (omega arith)), all_pass n h k (omega arith))

input_is : (n : GraphNode) → is_input n ≡ true → n ≡ Input
input_is False h = cc
input_is Input h = refl
input_is (And a b) h = cc
input_is (Xor a b) h = cc
input_is (Choice c a b) h = cc

or_left : (x y : Bool) → x ≡ true → (x || y) ≡ true
or_left x y h = ap (λ b. b || y) h

pub or_right : (x y : Bool) → y ≡ true → (x || y) ≡ true
or_right true y h = refl
or_right false y h = h

or_parts : (x y : Bool) → (x || y) ≡ true → (x ≡ true) ⊎ (y ≡ true)
or_parts true y h = inl refl
or_parts false y h = inr h

module _ (g : List GraphNode) (roots : List Edge) (vars : ℕ) (cs : List (List Lit)) (lits : List Lit) (h : IsCnf g roots vars cs lits) where
  pub live_has : (k : ℕ) → k < length g → h.live k ≡ true → HasVariable g roots k
  live_has k l on = (l, inr (h.reached k on))

  pub has_named : (k : ℕ) → HasVariable g roots k → is_named h.live g k ≡ true
  has_named k v = elim (v.1) [
    | inl input ↦ or_right (h.live k) (is_input (get_or g k Input)) (ap is_input input)
    | inr reached ↦ or_left (h.live k) (is_input (get_or g k Input)) (reached h.live h.cone h.roots_live)
  ]

  pub named_has : (k : ℕ) → k < length g → is_named h.live g k ≡ true → HasVariable g roots k
  named_has k l on = (
    l,
    elim (or_parts (h.live k) (is_input (get_or g k Input)) on) [
      | inl on_k ↦ inr (h.reached k on_k)
      | inr input ↦ inl (input_is (get_or g k Input) input)
    ],
  )

  pub found : (i : ℕ) → i < vars → Picks (is_named h.live g) (length g) i (pick (is_named h.live g) i (length g))
  found i l = picked (is_named h.live g) (length g) i (omega (arith, h.count))

  pub name_below : (k : ℕ) → HasVariable g roots k → h.name k < vars
  name_below k v = omega (arith, h.count, h.numbers k v.0, rises (is_named h.live g) k (length g) (has_named k v) v.0)

  unfoldable pub numbering_of : Numbering g roots vars
  numbering_of = record {
    variable = h.name;
    node = λ i. pick (is_named h.live g) i (length g);
    of_node = λ k v. (
      name_below k v,
      (let f = found (h.name k) (name_below k v) in
          no_two (is_named h.live g) (pick (is_named h.live g) (h.name k) (length g)) k f.1 (has_named k v) (f.2 ∙ h.numbers k v.0)),
    );
    of_variable = λ i l. (
      (let f = found i l in named_has (pick (is_named h.live g) i (length g)) f.0 f.1),
      (let f = found i l in h.numbers (pick (is_named h.live g) i (length g)) f.0 ∙ f.2),
    );
    in_order = λ j k v w l. omega (arith, h.numbers j v.0, h.numbers k w.0, rises (is_named h.live g) j k (has_named j v) l);
    inputs = λ n i k l.
        h.numbers k (i.at k l).0
        ∙ all_pass (is_named h.live g) n (λ j m. or_right (h.live j) (is_input (get_or g j Input)) (ap is_input (i.at j m).1)) k (omega arith);
  }
