-- A certificate whose steps are judged by hints, made of another.
use Rattle.std.specs.Prelude.{◌≡◌, ℕ, List, [], ◌++◌, Option, None, Some}
use Rattle.clause_core.specs.declared.literal.Lit.{Lit}
use Rattle.clause_core.specs.Systems.{TransitionSystem}
use Rattle.hinted_log.specs.Hints.{HintedLog, Refutes}
use Rattle.cert_core.specs.declared.form.Form.TheVariants.{Hinted}
use Rattle.cert_core.specs.declared.form.Part.{Part}
use Rattle.cert_core.specs.declared.form.Part.TheVariants.{Shared, First, Kept, Safe}
use Rattle.cert_core.specs.Blocks.{Block, part_of, with_part}
use Rattle.cert_core.specs.Certificates.{Certifies, shared_steps}
use Rattle.cert_check.specs.Judgements.{FailsFirst}
use Rattle.cert_check.specs.declared.upgrading.Upgraded.{Upgraded}
use Rattle.cert_check.specs.declared.upgrading.Upgraded.TheVariants.{Certificate, No}

-- the steps of a part, none if it is missing
abbrev pub steps_in : Option HintedLog → List (List Lit)
steps_in None = []
steps_in (Some log) = log.steps

-- the steps that a part is shown by, with the shared ones where they count
abbrev pub log_of : Block → Part → List (List Lit)
log_of b Shared = steps_in b.shared
log_of b (First k) = steps_in (part_of b (First k))
log_of b (Kept k) = shared_steps b.form b.shared ++ steps_in (part_of b (Kept k))
log_of b Safe = steps_in b.safe

-- the part gets steps that derive the empty clause from these clauses by hints
abbrev pub Puts : ℕ → List (List Lit) → Part → Block → Block → Type 0
Puts vars cs part old new = (h : HintedLog) × Refutes vars cs h × (new ≡ with_part old part h)

-- the same clauses and the same counter, judged by hints, with no shared part
pub record IsUpgrade (old new : Block) : Type 0 where
  pub form : new.form ≡ Hinted
  pub counter : new.counter ≡ old.counter
  pub clauses : new.clauses ≡ old.clauses
  pub shared : new.shared ≡ None

-- the certificate certifies, and so does what was made of it; or this part is the first that fails
abbrev pub UpgradeSays : TransitionSystem → Block → Upgraded → Type 0
UpgradeSays sys cert (Certificate new) = Certifies sys cert × Certifies sys new × IsUpgrade cert new
UpgradeSays sys cert (No part) = FailsFirst sys cert part
