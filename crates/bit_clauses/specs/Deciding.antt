-- Clauses that decide a question of the first n variables, alone or by unit propagation.
use Rattle.std.specs.Prelude.{◌≡◌, ℕ, ◌<◌, ◌↔◌, Bool, true, false, cond, List, All}
use Rattle.std.specs.Bool.{beq}
use Rattle.clause_core.specs.declared.literal.Lit.{Lit}
use Rattle.clause_core.specs.Assignments.{ClauseTrue, Agrees}
use Rattle.clause_core.specs.Literals.{negate}
use Rattle.clause_core.specs.Propagation.{Closed, HasConflict}
use Rattle.clause_core.specs.Systems.{Meets}

-- the first n variables are set as x says
abbrev pub Sets : ℕ → (ℕ → Bool) → (Lit → Bool) → Type 0
Sets n x t = (k : ℕ) → k < n → t record { var = k; positive = x k } ≡ true

-- unit propagation from the first n variables, set as x says, meets a conflict
abbrev pub Refuted : ℕ → (ℕ → Bool) → List (List Lit) → Type 0
Refuted n x cs = (t : Lit → Bool) → Sets n x t → Closed t cs → HasConflict t cs

-- the clauses decide f of the first n variables: they can be met just where it is true, and unit propagation refutes
-- them just where it is false
pub record Decides (n : ℕ) (cs : List (List Lit)) (f : (ℕ → Bool) → Bool) : Type 0 where
  pub meets : (x : ℕ → Bool) → Meets n x cs ↔ (f x ≡ true)
  pub refuted : (x : ℕ → Bool) → Refuted n x cs ↔ (f x ≡ false)

-- the literal where b is true, and its negation where not
abbrev pub signed : Lit → Bool → Lit
signed l b = cond b l (negate l)

-- the clauses give the literal the value f of the first n variables, alone and by unit propagation
pub record Defines (n : ℕ) (cs : List (List Lit)) (l : Lit) (f : (ℕ → Bool) → Bool) : Type 0 where
  pub gives : (x a : ℕ → Bool) → Agrees n a x → All (ClauseTrue a) cs → beq (a l.var) l.positive ≡ f x
  pub sets : (x : ℕ → Bool) (t : Lit → Bool) → Sets n x t → Closed t cs → t (signed l (f x)) ≡ true
