-- What the plays of books need of the states of three bits, and of their system.
use Rattle.std.proofs.Common.{◌≡◌, ℕ, ◌+◌, Bool, true, false, List, [], ◌∷◌, sym, ap, ◌∙◌, subst, arith, zero, suc}
use Rattle.std.specs.Prelude.{slice_index_or}
use Rattle.clause_core.specs.declared.literal.Lit.{Lit}
use Rattle.clause_core.specs.Assignments.{ClauseTrue, assignment_of}
use Rattle.clause_core.specs.Systems.{TransitionSystem, NextIs}
use Rattle.frame_core.specs.Differences.{IsSameSystem}
use Rattle.frame_tests.specs.ThreeBits.{no}
use Rattle.frame_tests.proofs.OfThreeBits.{one_true}

three_bits_next : (values next : List Bool) → slice_index_or values 3 false ≡ slice_index_or next 0 false →
    slice_index_or values 4 false ≡ slice_index_or next 1 false → slice_index_or values 5 false ≡ slice_index_or next 2 false →
    NextIs 3 (assignment_of values) (assignment_of next)
three_bits_next values next a b c zero lt = a
three_bits_next values next a b c (suc zero) lt = b
three_bits_next values next a b c (suc (suc zero)) lt = c
three_bits_next values next a b c (suc (suc (suc k))) lt = absurd (omega arith)

-- a system is the same as itself
pub same_as : (w : Bool) (a b : TransitionSystem) → b ≡ a → IsSameSystem w a b
same_as w a b e = record {
  state_bits = ap (λ (s : TransitionSystem). s.state_bits) (sym e);
  all_bits = ap (λ (s : TransitionSystem). s.all_bits) (sym e);
  init = ap (λ (s : TransitionSystem). s.init) (sym e);
  step = ap (λ (s : TransitionSystem). s.step) (sym e);
  bad = λ yes. ap (λ (s : TransitionSystem). s.bad) (sym e);
  good = λ yes. ap (λ (s : TransitionSystem). s.good) (sym e);
}

-- three bits are those of the next state
pub three_next : (n : ℕ) (values next : List Bool) → n ≡ 3 → slice_index_or values 3 false ≡ slice_index_or next 0 false →
    slice_index_or values 4 false ≡ slice_index_or next 1 false → slice_index_or values 5 false ≡ slice_index_or next 2 false →
    NextIs n (assignment_of values) (assignment_of next)
three_next n values next is a b c =
    let P : ℕ → Type 0 = λ m. NextIs m (assignment_of values) (assignment_of next) in
    subst P (sym is) (three_bits_next values next a b c)

-- a step after which bit 2 is true leads out of the clause that it is false
pub leaves_high : (n : ℕ) (values : List Bool) (clause : List Lit) → n ≡ 3 → slice_index_or values 5 false ≡ true → clause ≡ no 2 ∷ [] →
    (y : ℕ → Bool) → NextIs n (assignment_of values) y → ClauseTrue y clause → ⊥
leaves_high n values clause is on isc y next met =
    let off : y 2 ≡ false = one_true y (no 2) (subst (ClauseTrue y) isc met) in
    let P : ℕ → Type 0 = λ m. assignment_of values (m + 2) ≡ y 2 in
    let same : assignment_of values 5 ≡ y 2 = subst P is (next 2 (omega arith)) in
    let no_way : true ≡ false = sym on ∙ same ∙ off in
    cc
