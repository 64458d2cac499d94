-- Values of a system's own bits, read off values of all bits of its monitored system.
use Rattle.std.proofs.Common.{◌≡◌, ℕ, ◌+◌, ◌-◌, ◌<◌, inl, inr, Bool, false, List, [], ◌∷◌, ◌++◌, length, sym, ap, ◌∙◌, arith}
use Rattle.std.proofs.Math.ListN.{get_or-append}
use Rattle.std.proofs.Math.Seq.{get_or-append_seam}
use Rattle.std.proofs.lemmas.Bool.{cases_eq}
use Rattle.ltl_meaning.specs.Ltl.{Ltl}
use Rattle.clause_core.specs.declared.literal.Lit.{Lit}
use Rattle.clause_core.specs.Assignments.{assignment_of}
use Rattle.clause_core.specs.Systems.{TransitionSystem, IsSystem}
use Rattle.clause_core.proofs.Opposing.{ClauseTrue-agrees}
use Rattle.ltl_monitor.specs.declared.layout.Layout.{Layout}
use Rattle.ltl_monitor.specs.declared.layout.Space.{Space}
use Rattle.ltl_monitor.specs.Drafting.{place}
use Rattle.ltl_monitor.specs.States.{own_values, IsMonitor, IsOwnRow}
use Rattle.ltl_monitor.proofs.Placed.{system_low, system_next}

pub is_own_row : (sys m : TransitionSystem) (f : Ltl) (atoms : List Lit) (row own : List Bool) → IsSystem sys → IsMonitor sys f atoms m →
    length own ≡ sys.all_bits → ((v : ℕ) → v < sys.all_bits → assignment_of own v ≡ own_values sys m (assignment_of row) v) → IsOwnRow sys m row own
is_own_row sys m f atoms row own ok ism full each =
    let p : Layout = record { given = sys.state_bits; nodes = m.state_bits - sys.state_bits; inner = 0 } in
    let room = ok.room in record {
      full = full;
      state = λ v lt. each v (omega (arith, lt, room)) ∙ ap (assignment_of row) (system_low p v lt);
      next = λ b lt.
          (let e : sys.state_bits + b + (m.state_bits - sys.state_bits) ≡ m.state_bits + b = omega (arith, ism.bits) in
          each (sys.state_bits + b) (omega (arith, lt, room)) ∙ ap (assignment_of row) (system_next p (sys.state_bits + b) (omega arith) (omega (arith, lt)) ∙ e));
      step = λ h k d lt.
          ClauseTrue-agrees sys.all_bits (own_values sys m (assignment_of row)) (assignment_of own) _ (ok.step_in k d lt) (λ v below. sym (each v below))
          (ism.own_step (assignment_of row) h k d lt);
    }

-- the same of values that were read where a layout says
pub own_row_read : (sys m : TransitionSystem) (f : Ltl) (atoms : List Lit) (row own values : List Bool) (p : Layout) (count : ℕ) → IsSystem sys → IsMonitor sys f atoms m →
    p.given ≡ sys.state_bits → p.nodes ≡ m.state_bits - sys.state_bits → count ≡ sys.all_bits → own ≡ values → length values ≡ count →
    ((v : ℕ) → v < count → assignment_of values v ≡ assignment_of row (place p Space.System v)) → IsOwnRow sys m row own
own_row_read sys m f atoms row own values p count ok ism eg en ec eo full each =
    is_own_row sys m f atoms row own ok ism (ap length eo ∙ full ∙ ec)
    (λ v lt.
    ap (λ (bs : List Bool). assignment_of bs v) eo ∙ each v (omega (arith, lt, ec))
    ∙ ap (λ (q : Layout). assignment_of row (place q Space.System v)) (λ i. record { given = eg i; nodes = en i; inner = p.inner }))

-- one value more
pub values_more : (xs ys : List Bool) (B : ℕ → Bool) (i : ℕ) (v : Bool) → length xs ≡ i → ys ≡ xs ++ v ∷ [] → v ≡ B i →
    ((k : ℕ) → k < i → assignment_of xs k ≡ B k) → (k : ℕ) → k < i + 1 → assignment_of ys k ≡ B k
values_more xs ys B i v len made here before k h = elim (cases_eq k i) [
  | inl e ↦ ap (λ zs. assignment_of zs k) made ∙ ap (assignment_of (xs ++ v ∷ [])) (e ∙ sym len) ∙ get_or-append_seam xs v [] false ∙ here ∙ ap B (sym e)
  | inr ne ↦
      let lt : k < length xs = omega arith in
      ap (λ zs. assignment_of zs k) made ∙ get_or-append xs (v ∷ []) false k lt ∙ before k (omega arith)
]
