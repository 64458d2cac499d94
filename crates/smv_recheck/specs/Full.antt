-- Full parts: steps that are accepted whatever numbers a version of the program gives to the bits that clauses need. The bits of states
-- and inputs have the same numbers in each version.
use Rattle.std.specs.Prelude.{◌≡◌, ℕ, ◌<◌, Bool, true, List, [], ◌++◌, length, take, All, Option, None, Some, IsTrue, slice_get, slice_index_or}
use Rattle.clause_core.specs.declared.literal.Lit.{Lit}
use Rattle.clause_core.specs.Literals.{Within}
use Rattle.clause_core.specs.Propagation.{AllFalse, Closed}
use Rattle.clause_core.specs.Derivations.{EndsEmpty}
use Rattle.hinted_log.specs.Hints.{HintedLog}
use Rattle.bit_clauses.specs.Deciding.{Sets}
use Rattle.cert_core.specs.declared.form.Form.TheVariants.{Plain}
use Rattle.cert_core.specs.declared.form.Part.TheVariants.{First, Kept}
use Rattle.cert_core.specs.declared.form.Part.{Part}
use Rattle.cert_core.specs.Blocks.{Block, part_of}
use Rattle.cert_core.specs.Certificates.{negated, negated_next, unit_clauses}
use Rattle.smv_tree.specs.declared.tree.Program.{Program}
use Rattle.smv_resolve.specs.Items.{ResolvedItem}
use Rattle.smv_meaning.specs.Runs.{IsFirstState, IsStep}
use Rattle.bit_states.specs.Layouts.{named_width, state_width}
use Rattle.bit_states.specs.Coding.{inputs_of, next_of, state_of}
use Rattle.bit_conditions.specs.Asked.{is_broken_in}
use Rattle.bit_faults.specs.Questions.{faults_at, judged_items}

-- the literals of the clause set false, unit propagation from these clauses sets each of the first n bits as x says
abbrev pub SetsAll : List (List Lit) → List Lit → ℕ → (ℕ → Bool) → Type 0
SetsAll cs c n x = (t : Lit → Bool) → AllFalse t c → Closed t cs → Sets n x t

-- The steps and these clauses have the first n bits alone, the last step is empty, and each step set false sets all of these bits, by unit
-- propagation from the clauses and the steps before it.
pub record IsFull (n : ℕ) (cs log : List (List Lit)) : Type 0 where
  pub given : All (Within n) cs
  pub steps : All (Within n) log
  pub ends : EndsEmpty log
  -- the values to which each step sets the bits
  pub values : ℕ → ℕ → Bool
  pub sets : (k : ℕ) → k < length log → SetsAll (cs ++ take k log) (slice_index_or log k []) n (values k)

-- the clauses of the certificate and of the negated clause that a part follows from, beside those of the system
abbrev pub own_clauses : Program → Block → Part → List (List Lit)
own_clauses p cert (First k) = unit_clauses (negated (slice_index_or cert.clauses k []))
own_clauses p cert (Kept k) = cert.clauses ++ unit_clauses (negated_next (state_width p) (slice_index_or cert.clauses k []))
own_clauses p cert other = cert.clauses

-- the bits that a full part is over: those of a state, or of a step
abbrev pub own_width : Program → Part → ℕ
own_width p (Kept k) = named_width p
own_width p other = state_width p

-- the part of a certificate in the plain form is full
pub record IsFullPart (p : Program) (cert : Block) (part : Part) (log : HintedLog) : Type 0 where
  pub plain : cert.form ≡ Plain
  pub there : part_of cert part ≡ Some log
  pub full : IsFull (own_width p part) (own_clauses p cert part) log.steps

-- the values are those of a first state, of a step, or of a state in which the specification is FALSE
abbrev pub IsReason : Program → ResolvedItem → Part → (ℕ → Bool) → Type 0
IsReason p spec (First k) x = IsFirstState p (state_of p x)
IsReason p spec (Kept k) x = IsStep p (state_of p x) (inputs_of p x) (next_of p x)
IsReason p spec other x = IsTrue (is_broken_in p spec (state_of p x))

-- some step of a full part sets the bits to values that are such a reason
pub record HasReason (p : Program) (spec : ResolvedItem) (cert : Block) (part : Part) (log : HintedLog) (full : IsFullPart p cert part log) : Type 0 where
  pub step : ℕ
  pub within : step < length log.steps
  pub reason : IsReason p spec part (full.full.values step)

-- The part of an item in the sound block is full: its steps are over the bits of a step.
pub record IsFullItem (p : Program) (parts : List (Option HintedLog)) (item : ℕ) (log : HintedLog) : Type 0 where
  pub there : slice_index_or parts item None ≡ Some log
  pub full : IsFull (named_width p) [] log.steps

-- some step of a full part sets the bits to values at which the item faults
pub record HasFault (p : Program) (parts : List (Option HintedLog)) (item : ℕ) (log : HintedLog) (full : IsFullItem p parts item log) : Type 0 where
  pub judged : ResolvedItem
  pub is_it : slice_get (judged_items p) item ≡ Some judged
  pub step : ℕ
  pub within : step < length log.steps
  pub faults : faults_at p judged (full.full.values step) ≡ true
