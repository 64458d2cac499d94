-- An assignment that tells a course.
use Rattle.std.proofs.Common.{inl, inr, ◌≡◌, ℕ, ◌+◌, ◌-◌, ◌<◌, Bool, List, length, sym, ap, ◌∙◌, arith}
use Rattle.std.specs.Prelude.{nat_lt, if◌then◌else◌, All}
use Rattle.std.proofs.lemmas.Bool.{cases_lt}
use Rattle.clause_core.specs.declared.literal.Lit.{Lit}
use Rattle.clause_core.specs.Literals.{at, none_lit, Within}
use Rattle.clause_core.specs.Assignments.{ClauseTrue}
use Rattle.clause_core.specs.Systems.{TransitionSystem, IsSystem}
use Rattle.ltl_monitor.proofs.Clauses.{met_from, all_from, all_like, all_lits, lits_more, Below, Alike}
use Rattle.lasso_search.specs.declared.plan.Plan.{Plan}
use Rattle.lasso_search.specs.declared.plan.Turn.{Turn}
use Rattle.lasso_search.specs.Unrolling.{plan_of, loop_kind, stride, spot, place}
use Rattle.lasso_search.specs.Unrolled.{Course, IsCourse, Closes, course_of}
use Rattle.lasso_search.proofs.Places.{yes, no_, first_low, first_high, step_low, step_next, step_inner, by_kind, at_spot, at_low}

-- both courses tell the same of so many steps
pub record Alikes (m : TransitionSystem) (steps : ℕ) (c d : Course) : Type 0 where
  pub first : (v : ℕ) → v < m.all_bits → c.first v ≡ d.first v
  pub state : (i v : ℕ) → v < m.all_bits → c.state i v ≡ d.state i v
  pub step : (i v : ℕ) → i < steps → v < m.all_bits → c.step i v ≡ d.step i v
  pub start : (v : ℕ) → v < m.state_bits → c.start v ≡ d.start v
  pub begun : (i : ℕ) → c.begun i ≡ d.begun i
  pub ends : (i : ℕ) → c.ends i ≡ d.ends i
  pub seen : (j i : ℕ) → j < length m.fair → c.seen j i ≡ d.seen j i

module _ (m : TransitionSystem) (keeps : IsSystem m) (steps : ℕ) (c d : Course) (alike : Alikes m steps c d) where
  clauses_like : (u v : ℕ → Bool) (cs : List (List Lit)) → ((x : ℕ) → x < m.all_bits → u x ≡ v x) → All (Within m.all_bits) cs →
      All (ClauseTrue v) cs → All (ClauseTrue u) cs
  clauses_like u v cs same within h =
      all_from u cs (all_like u v cs (lits_more (Below m.all_bits) (Alike u v) (λ q b. same q.var b) cs (all_lits (Below m.all_bits) cs within)) ∙ met_from v cs h)

  in_all : (v : ℕ) → v < m.state_bits → v < m.all_bits
  in_all v lt = (let room = keeps.room in omega (arith, lt, room))

  next_in : (v : ℕ) → v < m.state_bits → m.state_bits + v < m.all_bits
  next_in v lt = (let room = keeps.room in omega (arith, lt, room))

  pub course_like : IsCourse m steps d → IsCourse m steps c
  course_like h = record {
    init = clauses_like c.first d.first m.init alike.first keeps.init_in h.init;
    first = λ v b. alike.first v (in_all v b) ∙ h.first v b ∙ sym (alike.state 0 v (in_all v b));
    step = λ i lt. clauses_like (c.step i) (d.step i) m.step (λ v b. alike.step i v lt b) keeps.step_in (h.step i lt);
    from = λ i lt v b. alike.step i v lt (in_all v b) ∙ h.from i lt v b ∙ sym (alike.state i v (in_all v b));
    to = λ i lt v b. alike.step i (m.state_bits + v) lt (next_in v b) ∙ h.to i lt v b ∙ sym (alike.state (i + 1) v (in_all v b));
    defined = λ i lt. clauses_like (c.state i) (d.state i) m.defs (alike.state i) keeps.defs_in (h.defined i lt);
    not_begun = alike.begun 0 ∙ h.not_begun;
    begins = λ i lt before after v b.
        alike.start v b ∙ h.begins i lt (sym (alike.begun i) ∙ before) (sym (alike.begun (i + 1)) ∙ after) v b ∙ sym (alike.state i v (in_all v b));
    ends = λ i lt t v b. alike.start v b ∙ h.ends i lt (sym (alike.ends (i + 1)) ∙ t) v b ∙ sym (alike.state (i + 1) v (in_all v b));
    unseen = λ j lt. alike.seen j 0 lt ∙ h.unseen j lt;
    sees = λ i j lt in_sets t.
        elim (h.sees i j lt in_sets (sym (alike.seen j (i + 1) in_sets) ∙ t)) [
          | inl before ↦ inl (alike.seen j i in_sets ∙ before)
          | inr here ↦ inr (alike.begun (i + 1) ∙ here.0, alike.state i (at m.fair j).var (keeps.fair_in j none_lit in_sets) ∙ here.1)
        ];
  }

  pub closes_like : (n : ℕ) → Closes m n d → Closes m n c
  closes_like n h = record { begun = alike.begun n ∙ h.begun; ends = alike.ends n ∙ h.ends; seen = λ j lt. alike.seen j n lt ∙ h.seen j lt }

module _ (m : TransitionSystem) (keeps : IsSystem m) (c : Course) where
  abbrev pub p : Plan
  p = plan_of m

  -- the value of each of the first variables, and of each kind at each time
  abbrev pub low : ℕ → Bool
  low v = if nat_lt v m.state_bits then c.start v else c.first v

  abbrev pub told : ℕ → ℕ → Bool
  told k i =
      if nat_lt k m.all_bits then c.state i k
      else (if nat_lt k (loop_kind p) then c.step i (k - m.all_bits + m.state_bits + m.state_bits)
      else (if nat_lt k (loop_kind p + 1) then c.begun i
      else (if nat_lt k (loop_kind p + 2) then c.ends i else c.seen (k - (loop_kind p + 2)) i)))

  pub telling : ℕ → Bool
  telling = by_kind p low told

  at_time : (k i : ℕ) → k < stride p → telling (spot p k i) ≡ told k i
  unfolding telling
  at_time k i lt = at_spot p low told k i lt

  at_first : (v : ℕ) → v < m.all_bits → telling v ≡ low v
  unfolding telling
  at_first v lt = at_low p low told v lt

  state_told : (i v : ℕ) → v < m.all_bits → telling (spot p v i) ≡ c.state i v
  state_told i v lt = at_time v i (omega arith) ∙ yes v m.all_bits _ _ lt

  module _ (steps : ℕ) (course : IsCourse m steps c) where
    first_told : (v : ℕ) → v < m.all_bits → telling (place p Turn.First v) ≡ c.first v
    first_told v lt = elim (cases_lt v m.state_bits) [
      | inl b ↦ ap telling (first_low p v b) ∙ state_told 0 v lt ∙ sym (course.first v b)
      | inr high ↦ ap telling (first_high p v high) ∙ at_first v lt ∙ no_ v m.state_bits _ _ high
    ]

    step_told : (i v : ℕ) → i < steps → v < m.all_bits → telling (place p (Turn.Step i) v) ≡ c.step i v
    step_told i v lt inside = elim (cases_lt v m.state_bits) [
      | inl b ↦ ap telling (step_low p i v b) ∙ state_told i v inside ∙ sym (course.from i lt v b)
      | inr high ↦ elim (cases_lt (v - m.state_bits) m.state_bits) [
        | inl b ↦
            (let e : m.state_bits + (v - m.state_bits) ≡ v = omega arith in
            ap telling (step_next p i v high b) ∙ state_told (i + 1) (v - m.state_bits) (omega (arith, inside)) ∙ sym (course.to i lt (v - m.state_bits) b)
            ∙ ap (c.step i) e)
        | inr inner ↦
            (let k : ℕ = v - m.state_bits - m.state_bits + m.all_bits in
            let e : v - m.state_bits - m.state_bits + m.all_bits - m.all_bits + m.state_bits + m.state_bits ≡ v = omega arith in
            ap telling (step_inner p i v high inner) ∙ at_time k i (omega arith) ∙ no_ k m.all_bits _ _ (omega arith)
            ∙ yes k (loop_kind p) _ _ (omega arith) ∙ ap (c.step i) e)
      ]
    ]

    pub tells : Alikes m steps (course_of p telling) c
    tells =
        let room = keeps.room in record {
          first = first_told;
          state = state_told;
          step = step_told;
          start = λ v b. at_first v (omega (arith, b, room)) ∙ yes v m.state_bits _ _ b;
          begun = λ i.
              at_time (loop_kind p) i (omega arith) ∙ no_ (loop_kind p) m.all_bits _ _ (omega arith) ∙ no_ (loop_kind p) (loop_kind p) _ _ (omega arith)
              ∙ yes (loop_kind p) (loop_kind p + 1) _ _ (omega arith);
          ends = λ i.
              (let k : ℕ = loop_kind p + 1 in
              at_time k i (omega arith) ∙ no_ k m.all_bits _ _ (omega arith) ∙ no_ k (loop_kind p) _ _ (omega arith) ∙ no_ k (loop_kind p + 1) _ _ (omega arith)
              ∙ yes k (loop_kind p + 2) _ _ (omega arith));
          seen = λ j i lt.
              (let k : ℕ = loop_kind p + 2 + j in
              let e : loop_kind p + 2 + j - (loop_kind p + 2) ≡ j = omega arith in
              at_time k i (omega (arith, lt)) ∙ no_ k m.all_bits _ _ (omega arith) ∙ no_ k (loop_kind p) _ _ (omega arith) ∙ no_ k (loop_kind p + 1) _ _ (omega arith)
              ∙ no_ k (loop_kind p + 2) _ _ (omega arith) ∙ ap (λ q. c.seen q i) e);
        }
