-- What was found, as callers see it.
use Rattle.std.proofs.Common.{arith, ◌≡◌, ℕ, ◌<◌, Bool, true, false, List, length, refl, sym, subst}
use Rattle.std.proofs.lemmas.Bool.{both_ways}
use Rattle.clause_core.specs.declared.literal.Lit.{Lit}
use Rattle.clause_core.specs.Literals.{Within}
use Rattle.clause_core.specs.Systems.{TransitionSystem}
use Rattle.frame_core.specs.declared.parts.Lemma.{Lemma}
use Rattle.frame_core.specs.declared.parts.Parent.{Parent}
use Rattle.frame_core.specs.Facts.{IsPart, IsProved, ProvedClause, IsFound, IsFirstFlag, FoundStep}
use Rattle.frame_core.specs.FrameLaw.{system_at, AreAlike}
use Rattle.frame_core.proofs.States.{first_same, same_back}
use Rattle.frame_solver.specs.declared.stepping.Stepping.{Stepping}
use Rattle.frame_solver.specs.declared.stepping.Stepping.TheVariants as stepping
use Rattle.frame_query.specs.declared.outcomes.Relative.{Relative}
use Rattle.frame_query.specs.declared.outcomes.Relative.TheVariants as relative
use Rattle.frame_solver.specs.Firsts.{AllFirstsMeet}
use Rattle.frame_solver.specs.Stepping.{Finds, Ends}
use Rattle.frame_solver.specs.Bads.{IsBadIn}
use Rattle.frame_query.specs.Findings.{Shows, Tells, FindsRelative}

-- that steps end in a part, with what the caller knows, is a proof
pub proved : (sys : TransitionSystem) (level : ℕ) (clause part : List Lit) (parents : List Parent) → 0 < level → Within sys.state_bits clause →
    AllFirstsMeet sys clause → Ends sys level clause parents part → IsPart part clause →
    IsProved record { system = sys; clause = clause; part = part; level = level; parents = parents }
proved sys level clause part parents above within first ends is_part = record {
  above = above;
  within = within;
  part_in = is_part;
  first = first;
  step = λ x y start from step. ends x y start from step;
}

pub shows : (sys : TransitionSystem) (lemmas : List Lemma) (level : ℕ) (clause : List Lit) (budget : ℕ) (over : Bool) (found : Stepping) →
    Finds sys lemmas level clause budget over found → Shows sys level clause found
shows sys lemmas level clause budget over (stepping.Holds parents part) h = (h.0, h.2)
shows sys lemmas level clause budget over (stepping.Leaves vs) h = record { whole = h.whole; step = h.step }
shows sys lemmas level clause budget over (stepping.Spent d b) h = tt

-- what the caller sees is right
pub finds_relative : (systems : List TransitionSystem) (lemmas : List Lemma) (level : ℕ) (clause : List Lit) (budget : ℕ) (over : Bool) (found : Stepping) (r : Relative) →
    Finds (system_at systems 0) lemmas level clause budget over found → Tells (system_at systems 0) level clause found r →
    FindsRelative systems lemmas clause level budget over r
finds_relative systems lemmas level clause budget over (stepping.Holds parents part) (relative.Proved p) h told =
    let A : ProvedClause → Type 0 = λ q. FindsRelative systems lemmas clause level budget over (relative.Proved q) in
    subst A (sym told) (refl, refl, refl, h.1)
finds_relative systems lemmas level clause budget over (stepping.Holds parents part) (relative.Step s) h told = absurd told
finds_relative systems lemmas level clause budget over (stepping.Holds parents part) (relative.Spent d b) h told = absurd told
finds_relative systems lemmas level clause budget over (stepping.Leaves vs) (relative.Proved p) h told = absurd told
finds_relative systems lemmas level clause budget over (stepping.Leaves vs) (relative.Step s) h told =
    let A : FoundStep → Type 0 = λ q. FindsRelative systems lemmas clause level budget over (relative.Step q) in
    subst A (sym told) (refl, h)
finds_relative systems lemmas level clause budget over (stepping.Leaves vs) (relative.Spent d b) h told = absurd told
finds_relative systems lemmas level clause budget over (stepping.Spent d b) r h told =
    subst (FindsRelative systems lemmas clause level budget over) (sym told) h

pub bad_found : (sys : TransitionSystem) (lemmas : List Lemma) (i : ℕ) (values : List Bool) (first : Bool) → IsBadIn sys lemmas i values → IsFirstFlag sys values first →
    IsFound record { system = sys; values = values; is_step = false; first = first }
bad_found sys lemmas i values first h flag = record {
  whole = h.whole;
  step = λ e. absurd (both_ways false refl e);
  bad = λ e. h.bad;
  flag = flag;
}

pub first_at_none : (sys : TransitionSystem) (lemmas : List Lemma) (i : ℕ) (values : List Bool) → IsBadIn sys lemmas i values → i ≡ 0 → IsFirstFlag sys values true
first_at_none sys lemmas i values h none = record {
  is_first = λ e. h.from.0 none;
  not_first = λ e. absurd (both_ways true e refl);
}

-- the systems have the same initial states
pub flag_same : (systems : List TransitionSystem) (j : ℕ) (values : List Bool) (first : Bool) → j < length systems → AreAlike systems →
    IsFirstFlag (system_at systems 0) values first → IsFirstFlag (system_at systems j) values first
flag_same systems j values first lt alike flag =
    let same = alike j lt in
    record {
      is_first = λ e. first_same false (system_at systems 0) (system_at systems j) same _ (flag.is_first e);
      not_first = λ e start.
          flag.not_first e (first_same false (system_at systems j) (system_at systems 0) (same_back false (system_at systems 0) (system_at systems j) same) _ start);
    }

-- what a proof says of steps is the same at each level above 1
pub at_level : (p : ProvedClause) → IsProved p → 1 < p.level → (level : ℕ) → 1 < level →
    IsProved record { system = p.system; clause = p.clause; part = p.part; level = level; parents = p.parents }
at_level p h was level now = record {
  above = omega arith;
  within = h.within;
  part_in = h.part_in;
  first = h.first;
  step = λ x y first from step. h.step x y (λ e. absurd (omega (arith, e, was))) (λ up. from now) step;
}
