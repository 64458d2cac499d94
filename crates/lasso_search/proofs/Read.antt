-- The lasso that is read from an assignment.
use Rattle.std.proofs.Common.{inl, inr, ◌≡◌, ℕ, zero, suc, ◌+◌, ◌-◌, ◌<◌, ◌≤◌, Bool, true, false, List, [], length, get_or, sym, ap, ◌∙◌, subst, arith}
use Rattle.std.specs.Prelude.{All}
use Rattle.std.proofs.lemmas.Bool.{cases_lt, both_ways}
use Rattle.clause_core.specs.Assignments.{ClauseTrue, Agrees}
use Rattle.clause_core.specs.Systems.{TransitionSystem, IsSystem, NextIs}
use Rattle.ltl_monitor.proofs.Clauses.{met_from, all_from, all_like, all_lits, lits_more, Below, Alike}
use Rattle.lasso_search.specs.declared.plan.Plan.{Plan}
use Rattle.lasso_search.specs.declared.plan.Turn.{Turn}
use Rattle.lasso_search.specs.Unrolling.{plan_of, place}
use Rattle.lasso_search.specs.Unrolled.{Course, IsCourse, Closes, course_of}
use Rattle.lasso_search.specs.Lassos.{Lasso, state, after, IsFairLasso}
use Rattle.lasso_search.specs.Searches.{IsStart, row_of, rows_of}
use Rattle.lasso_search.proofs.Each.{each-length, get_or-each}
use Rattle.lasso_search.proofs.Places.{yes, no_}
use Rattle.lasso_search.proofs.Closed.{BeginsAt, next_is, back_is, is_lasso, is_fair}

module _ (m : TransitionSystem) (keeps : IsSystem m) (steps n : ℕ) (enough : n ≤ steps) (a : ℕ → Bool) (course : IsCourse m steps (course_of (plan_of m) a))
    (closes : Closes m n (course_of (plan_of m) a)) (r : Lasso) (rows : r.rows ≡ rows_of (plan_of m) a n) (start : IsStart (plan_of m) a n r.start) where
  abbrev pub p : Plan
  p = plan_of m

  abbrev pub c : Course
  c = course_of p a

  inside : r.start < n
  inside = elim (cases_lt r.start n) [
    | inl low ↦ low
    | inr high ↦ elim (cases_lt 0 n) [
      | inl some ↦
          (let e : n ≡ n - 1 + 1 = omega arith in
          absurd (both_ways (c.begun (n - 1 + 1)) (start.before (n - 1) (omega arith)) (subst (λ k. c.begun k ≡ true) e closes.begun)))
      | inr none ↦ (let e : n ≡ 0 = omega arith in absurd (both_ways (c.begun 0) course.not_begun (subst (λ k. c.begun k ≡ true) e closes.begun)))
    ]
  ]

  not_begun : (k : ℕ) → k ≤ r.start → c.begun k ≡ false
  not_begun zero lt = course.not_begun
  not_begun (suc k) lt = (let e : k + 1 ≡ suc k = omega arith in subst (λ i. c.begun i ≡ false) e (start.before k (omega arith)))

  begins : BeginsAt c n r.start
  begins = record { inside = inside; before = not_begun; here = start.here inside }

  size : length r.rows ≡ n
  size = ap length rows ∙ each-length (λ i. row_of p a i) n

  row_is : (i : ℕ) (d : List Bool) → i < n → get_or r.rows i d ≡ row_of p a i
  row_is i d lt = ap (λ rs. get_or rs i d) rows ∙ get_or-each (λ i. row_of p a i) n i d lt

  state_is : (i v : ℕ) → i < n → v < m.all_bits → state r i v ≡ c.step i v
  state_is i v lt in_all =
      ap (λ row. get_or row v false) (row_is i [] lt) ∙ get_or-each (λ v. a (place p (Turn.Step i) v)) m.all_bits v false in_all

  same : (i : ℕ) → i < n → Agrees m.state_bits (state r i) (c.state i)
  same i lt v b = (let room = keeps.room in state_is i v lt (omega (arith, b, room)) ∙ course.from i (omega (arith, lt, enough)) v b)

  next : (i : ℕ) → i < n → (y : ℕ → Bool) → NextIs m.state_bits (c.step i) y → NextIs m.state_bits (state r i) y
  next i lt y h b in_bits = (let room = keeps.room in state_is i (m.state_bits + b) lt (omega (arith, in_bits, room)) ∙ h b in_bits)

  met_here : (i : ℕ) → i < n → All (ClauseTrue (state r i)) m.step
  met_here i lt =
      let alike = all_like (state r i) (c.step i) m.step
      (lits_more (Below m.all_bits) (Alike (state r i) (c.step i)) (λ l b. state_is i l.var lt b) m.step (all_lits (Below m.all_bits) m.step keeps.step_in)) in
      all_from (state r i) m.step (alike ∙ met_from (c.step i) m.step (course.step i (omega (arith, lt, enough))))

  link_after : (i : ℕ) → i < n → NextIs m.state_bits (state r i) (state r (after r i))
  link_after i lt = elim (cases_lt (i + 1) n) [
    | inl low ↦
        (let e : after r i ≡ i + 1 = yes (i + 1) (length r.rows) (i + 1) r.start (omega (arith, size)) in
        subst (λ k. NextIs m.state_bits (state r i) (state r k)) (sym e)
        (next i lt (state r (i + 1)) (next_is m steps n enough c course closes r.start begins (state r) same i low)))
    | inr high ↦
        (let e : after r i ≡ r.start = no_ (i + 1) (length r.rows) (i + 1) r.start (omega (arith, size)) in
        subst (λ k. NextIs m.state_bits (state r i) (state r k)) (sym e)
        (next i lt (state r r.start) (back_is m steps n enough c course closes r.start begins (state r) same i (omega arith))))
  ]

  pub is_fair_lasso : IsFairLasso m n r
  is_fair_lasso = record {
    size = size;
    steps = record {
      full = λ k d lt. (let in_rows : k < n = omega (arith, lt, size) in ap length (row_is k d in_rows) ∙ each-length (λ v. a (place p (Turn.Step k) v)) m.all_bits);
      steps = λ i lt. met_here i (omega (arith, lt, size));
      next = λ i lt. link_after i (omega (arith, lt, size));
    };
    lasso = is_lasso m steps n enough c course closes r.start begins (state r) same;
    fair = is_fair m steps n enough c course closes r.start begins (state r) same;
  }
