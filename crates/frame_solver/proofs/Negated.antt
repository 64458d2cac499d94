-- The clause that excludes a state.
use Rattle.std.proofs.Common.{◌≡◌, inl, inr, ℕ, zero, suc, ◌<◌, Bool, true, false, not, List, [], ◌∷◌, ◌++◌, refl, sym, ◌∙◌, subst, arith}
use Rattle.std.specs.Prelude.{All, Contains}
use Rattle.std.proofs.lemmas.Bool.{cases_lt, both_ways}
use Rattle.std.proofs.lemmas.List.Elements.{All-push, All-nil, All-weaker, All-contains, Contains-append_left, Contains-push}
use Rattle.clause_core.specs.declared.literal.Lit.{Lit}
use Rattle.clause_core.specs.Literals.{Within, negate}
use Rattle.clause_core.proofs.Sound.{clause_cases, truths, agrees_true}
use Rattle.clause_core.specs.Assignments.{ClauseTrue, assignment_of}
use Rattle.clause_core.specs.Systems.{TransitionSystem}
use Rattle.frame_core.specs.Facts.{IsPart, IsFirstFlag}
use Rattle.frame_solver.specs.declared.first_states.Firsts.{Firsts}
use Rattle.frame_solver.specs.declared.first_states.Firsts.TheVariants as firsts
use Rattle.frame_solver.specs.declared.querying.Flag.{Flag}
use Rattle.frame_solver.specs.Firsts.{AllFirstsMeet, IsFirstOut, FindsFirsts, negation_of}
use Rattle.frame_solver.specs.Flags.{FlagSays, FlagOf}

-- a literal of the clause is of a state bit, and false in the state
abbrev pub IsOfState : List Bool → ℕ → Lit → Type 0
IsOfState values bits l = (l.var < bits) × (l.positive ≡ not (assignment_of values l.var))

pub negation_each : (values : List Bool) (bits : ℕ) → All (IsOfState values bits) (negation_of values bits)
negation_each values zero = All-nil (IsOfState values 0)
negation_each values (suc b) =
    All-push (IsOfState values (suc b)) (negation_of values b) record { var = b; positive = not (assignment_of values b) }
    (All-weaker (IsOfState values b) (IsOfState values (suc b)) (λ l h. (omega (arith, h.0), h.1)) (negation_of values b) (negation_each values b))
    (omega arith, refl)

pub negation_within : (values : List Bool) (bits : ℕ) → Within bits (negation_of values bits)
negation_within values bits = All-weaker (IsOfState values bits) (λ (l : Lit). l.var < bits) (λ l h. h.0) (negation_of values bits) (negation_each values bits)

pub negation_has : (values : List Bool) (bits v : ℕ) → v < bits → Contains (negation_of values bits) record { var = v; positive = not (assignment_of values v) }
negation_has values zero v lt = absurd (omega arith)
negation_has values (suc b) v lt =
    let l : ℕ → Lit = λ k. record { var = k; positive = not (assignment_of values k) } in
    elim (cases_lt v b) [
      | inl below ↦ Contains-append_left (negation_of values b) (l b ∷ []) (l v) (negation_has values b v below)
      | inr above ↦
          let e : b ≡ v = omega arith in
          let P : ℕ → Type 0 = λ k. Contains (negation_of values b ++ l b ∷ []) (l k) in
          subst P e (Contains-push (negation_of values b) (l b))
    ]

not_self : (b : Bool) → b ≡ not b → ⊥
not_self true e = both_ways true e refl
not_self false e = both_ways false refl e

-- the state does not meet it
pub negation_false : (values : List Bool) (bits : ℕ) → ClauseTrue (assignment_of values) (negation_of values bits) → ⊥
negation_false values bits h =
    let is = All-contains (IsOfState values bits) (negation_of values bits) h.1 (negation_each values bits) (h.0, h.2, h.3) in
    not_self (assignment_of values h.1.var) (h.4 ∙ is.1)

not_not : (a b : Bool) → a ≡ not (not b) → a ≡ b
not_not a true e = e
not_not a false e = e

-- where a part of it is met by all initial states, the state is none
pub not_first : (sys : TransitionSystem) (values : List Bool) (part : List Lit) → AllFirstsMeet sys part → IsPart part (negation_of values sys.state_bits) →
    IsFirstFlag sys values false
not_first sys values part meets is_part = record {
  is_first = λ e. absurd (both_ways false refl e);
  not_first = λ e start.
      (let h = meets (assignment_of values) start in
      negation_false values sys.state_bits
      (let here = All-contains (Contains (negation_of values sys.state_bits)) part h.1 is_part (h.0, h.2, h.3) in (here.0, h.1, here.1, here.2, h.4)));
}

-- an initial state that does not meet it is the state
pub is_first : (sys : TransitionSystem) (values found : List Bool) → IsFirstOut sys (negation_of values sys.state_bits) found → IsFirstFlag sys values true
is_first sys values found h = record {
  is_first = λ e.
      (let first = h.first in (
        first.0,
        (λ u lt. first.1 u lt ∙ not_not (assignment_of found u) (assignment_of values u)
            (All-contains (λ (l : Lit). assignment_of found l.var ≡ not l.positive) (negation_of values sys.state_bits) record { var = u; positive = not (assignment_of values u) }
            h.out (negation_has values sys.state_bits u lt))),
        first.2,
      ));
  not_first = λ e. absurd (both_ways true e refl);
}

pub flag_says : (sys : TransitionSystem) (values : List Bool) (budget : ℕ) (over : Bool) (answer : Firsts) (f : Flag) →
    FindsFirsts sys (negation_of values sys.state_bits) budget over answer → FlagOf answer f → FlagSays sys values budget over f
flag_says sys values budget over (firsts.Meet part) f h is = subst (FlagSays sys values budget over) (sym is) (not_first sys values part h.0 h.1)
flag_says sys values budget over (firsts.First found) f h is = subst (FlagSays sys values budget over) (sym is) (is_first sys values found h)
flag_says sys values budget over (firsts.Spent d b) f h is = subst (FlagSays sys values budget over) (sym is) h

-- where the state is no initial one, all initial states meet the clause that excludes it
pub negation_met : (sys : TransitionSystem) (values : List Bool) → IsFirstFlag sys values false → AllFirstsMeet sys (negation_of values sys.state_bits)
negation_met sys values flag x start =
    let clause = negation_of values sys.state_bits in
    let value : ℕ → Bool = assignment_of values in
    elim (clause_cases x clause) [
      | inl h ↦ h
      | inr none ↦
          absurd (flag.not_first refl (
            start.0,
            (λ u lt.
                let m : Lit = record { var = u; positive = not (value u) } in
                let off_x : truths x (negate m) ≡ true = All-contains (λ (q : Lit). truths x (negate q) ≡ true) clause m none (negation_has values sys.state_bits u lt) in
                start.1 u lt ∙ not_not (x u) (value u) (agrees_true (x u) (not (not (value u))) off_x)),
            start.2,
          ))
    ]
