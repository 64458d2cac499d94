-- No literal of an unrolling is past its variables.
use Rattle.std.proofs.Common.{inl, inr, ℕ, ◌+◌, ◌-◌, ◌<◌, ◌≤◌, List, [], ◌∷◌, length, subst, sym, arith}
use Rattle.std.specs.Prelude.{All}
use Rattle.std.proofs.lemmas.Bool.{cases_lt}
use Rattle.std.proofs.lemmas.List.Elements.{All-cons}
use Rattle.clause_core.specs.declared.literal.Lit.{Lit}
use Rattle.clause_core.specs.Literals.{at, none_lit, Within}
use Rattle.clause_core.specs.Systems.{TransitionSystem, IsSystem}
use Rattle.ltl_monitor.specs.Monitor.{Each}
use Rattle.ltl_monitor.proofs.Clauses.{Lits, Below, lits_all, all_lits, lits_more, lits_renamed}
use Rattle.lasso_search.specs.declared.plan.Plan.{Plan}
use Rattle.lasso_search.specs.declared.plan.Turn.{Turn}
use Rattle.lasso_search.specs.Unrolling.{each, plan_of, loop_kind, stride, spot, place, plain, begun_literal, ends, seen, beginning, ending, seeing, unseen, opening, moment, closing_at, vars_at}
use Rattle.lasso_search.proofs.Each.{Each-each, All-each, join}
use Rattle.lasso_search.proofs.Places.{first_low, first_high, step_low, step_next, step_inner, spot_below, low_below}

-- there are variables for so many steps
module _ (m : TransitionSystem) (keeps : IsSystem m) (steps vars : ℕ) (fits : vars_at (plan_of m) steps ≤ vars) where
  abbrev pub p : Plan
  p = plan_of m

  abbrev pub In : Lit → Type 0
  In = Below vars

  below : (kind i : ℕ) → kind < stride p → i ≤ steps → spot p kind i < vars
  below kind i lt h = (let k = spot_below p kind i steps lt h in omega (arith, k, fits))

  low_in : (v : ℕ) → v < m.all_bits → v < vars
  low_in v lt = (let k = low_below p v steps lt in omega (arith, k, fits))

  -- the variables of the system, where they go
  first_in : (v : ℕ) → v < m.all_bits → place p Turn.First v < vars
  first_in v lt = elim (cases_lt v m.state_bits) [
    | inl low ↦ subst (λ k. k < vars) (sym (first_low p v low)) (below v 0 (omega arith) (omega arith))
    | inr high ↦ subst (λ k. k < vars) (sym (first_high p v high)) (low_in v lt)
  ]

  step_in : (i v : ℕ) → i < steps → v < m.all_bits → place p (Turn.Step i) v < vars
  step_in i v h lt = elim (cases_lt v m.state_bits) [
    | inl low ↦ subst (λ k. k < vars) (sym (step_low p i v low)) (below v i (omega arith) (omega arith))
    | inr high ↦ elim (cases_lt (v - m.state_bits) m.state_bits) [
      | inl b ↦ subst (λ k. k < vars) (sym (step_next p i v high b)) (below (v - m.state_bits) (i + 1) (omega arith) (omega arith))
      | inr inner ↦
          subst (λ k. k < vars) (sym (step_inner p i v high inner))
          (below (v - m.state_bits - m.state_bits + m.all_bits) i (omega arith) (omega arith))
    ]
  ]

  placed_in : (f : ℕ → ℕ) (cs : List (List Lit)) → ((v : ℕ) → v < m.all_bits → f v < vars) → All (Within m.all_bits) cs → Lits (λ q. f q.var < vars) cs
  placed_in f cs h within = lits_more (Below m.all_bits) (λ q. f q.var < vars) (λ q b. h q.var b) cs (all_lits (Below m.all_bits) cs within)

  begun_in : (i : ℕ) → i ≤ steps → In (begun_literal p i)
  begun_in i h = below (loop_kind p) i (omega arith) h

  ends_in : (i : ℕ) → i ≤ steps → In (ends p i)
  ends_in i h = below (loop_kind p + 1) i (omega arith) h

  seen_in : (j i : ℕ) → j < length m.fair → i ≤ steps → In (seen p j i)
  seen_in j i lt h = below (loop_kind p + 2 + j) i (omega (arith, lt)) h

  bit_in : (b i : ℕ) → b < m.state_bits → i ≤ steps → In (plain (spot p b i))
  bit_in b i lt h = (let room = keeps.room in below b i (omega (arith, lt, room)) h)

  start_in : (b : ℕ) → b < m.state_bits → In (plain b)
  start_in b lt = (let room = keeps.room in low_in b (omega (arith, lt, room)))

  beginning_in : (i b : ℕ) → i < steps → b < m.state_bits → Lits In (beginning p i b)
  beginning_in i b h lt =
      let s = begun_in i (omega arith) in
      let t = begun_in (i + 1) (omega arith) in
      let x = start_in b lt in
      let y = bit_in b i lt (omega arith) in
      ((s, (t, (x, (y, tt)))), ((s, (t, (x, (y, tt)))), tt))

  ending_in : (i b : ℕ) → i ≤ steps → b < m.state_bits → Lits In (ending p i b)
  ending_in i b h lt =
      let s = ends_in i h in
      let x = start_in b lt in
      let y = bit_in b i lt h in
      ((s, (x, (y, tt))), ((s, (x, (y, tt))), tt))

  seeing_in : (i j : ℕ) → i < steps → j < length m.fair → Lits In (seeing p (at m.fair j) i j)
  seeing_in i j h lt =
      let s = seen_in j (i + 1) lt (omega arith) in
      let u = seen_in j i lt (omega arith) in
      let t = begun_in (i + 1) (omega arith) in
      let x = below (at m.fair j).var i (let k = keeps.fair_in j none_lit lt in omega (arith, k)) (omega arith) in
      ((s, (u, (t, tt))), ((s, (u, (x, tt))), tt))

  pub opening_in : All (Within vars) (opening p m)
  opening_in =
      lits_all In (opening p m)
      (join (Each In) _ _
      (join (Each In) _ _
      (lits_renamed In (place p Turn.First) m.init (placed_in (place p Turn.First) m.init first_in keeps.init_in))
      ((begun_in 0 (omega arith), tt), tt))
      (Each-each (Each In) (unseen p) (length m.fair) (λ j lt. ((seen_in j 0 lt (omega arith), tt), tt))))

  pub moment_in : (i : ℕ) → i < steps → All (Within vars) (moment p m i)
  moment_in i h =
      lits_all In (moment p m i)
      (join (Each In) _ _
      (join (Each In) _ _
      (join (Each In) _ _
      (join (Each In) _ _
      (lits_renamed In (place p (Turn.Step i)) m.step (placed_in (place p (Turn.Step i)) m.step (λ v lt. step_in i v h lt) keeps.step_in))
      (lits_renamed In (λ v. spot p v i) m.defs (placed_in (λ v. spot p v i) m.defs (λ v lt. below v i (omega (arith, lt)) (omega arith)) keeps.defs_in)))
      (Each-each (Each In) (beginning p i) m.state_bits (λ b lt. beginning_in i b h lt)))
      (Each-each (Each In) (ending p (i + 1)) m.state_bits (λ b lt. ending_in (i + 1) b (omega arith) lt)))
      (Each-each (Each In) (λ j. seeing p (at m.fair j) i j) (length m.fair) (λ j lt. seeing_in i j h lt)))

  pub closing_in : (n : ℕ) → n ≤ steps → Within vars (closing_at p n)
  closing_in n lt =
      let sets : List Lit = each (λ j. seen p j n ∷ []) (length m.fair) in
      All-cons In (begun_literal p n) (ends p n ∷ sets) (begun_in n lt)
      (All-cons In (ends p n) sets (ends_in n lt) (All-each In (λ j. seen p j n) (length m.fair) none_lit (λ j h. seen_in j n h lt)))
