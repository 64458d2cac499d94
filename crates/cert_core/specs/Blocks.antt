-- What stands in a certificate. Each part may be missing.
use Rattle.std.specs.Prelude.{◌≡◌, ℕ, ◌<◌, ◌≤◌, ⊤, List, [], ◌∷◌, ◌++◌, length, All, Option, None, Some, slice_index_or, slice_set}
use Rattle.std.specs.Option.{ForSome}
use Rattle.clause_core.specs.declared.literal.Lit.{Lit}
use Rattle.clause_core.specs.Literals.{Within}
use Rattle.hinted_log.specs.Hints.{HintedLog}
use Rattle.cert_core.specs.declared.form.Form.{Form}
use Rattle.cert_core.specs.declared.form.Form.TheVariants.{Plain, Hinted}
use Rattle.cert_core.specs.declared.form.Part.{Part}
use Rattle.cert_core.specs.declared.form.Part.TheVariants.{Shared, First, Kept, Safe}
use Rattle.cert_core.specs.declared.form.TheConstants.{MAX_VARS, MAX_COUNTER}

-- a certificate as data: its form, up to how many signals were counted, its clauses, and the steps of each part that is
-- there; the parts `first` and `kept` stand in the order of the clauses
pub record Block : Type 0 where
  pub form : Form
  pub counter : Option ℕ
  pub clauses : List (List Lit)
  pub shared : Option HintedLog
  pub first : List (Option HintedLog)
  pub kept : List (Option HintedLog)
  pub safe : Option HintedLog

-- no clauses and no parts
abbrev pub empty_block : Form → Option ℕ → Block
empty_block form counter = record { form = form; counter = counter; clauses = []; shared = None; first = []; kept = []; safe = None }

-- one more clause, whose parts are missing
abbrev pub with_clause : Block → List Lit → Block
with_clause b c = record b { clauses = b.clauses ++ c ∷ []; first = b.first ++ None ∷ []; kept = b.kept ++ None ∷ [] }

-- the steps of the part, if it is there
abbrev pub part_of : Block → Part → Option HintedLog
part_of b Shared = b.shared
part_of b (First k) = slice_index_or b.first k None
part_of b (Kept k) = slice_index_or b.kept k None
part_of b Safe = b.safe

-- the part has these steps
abbrev pub with_part : Block → Part → HintedLog → Block
with_part b Shared log = record b { shared = Some log }
with_part b (First k) log = record b { first = slice_set b.first k (Some log) }
with_part b (Kept k) log = record b { kept = slice_set b.kept k (Some log) }
with_part b Safe log = record b { safe = Some log }

-- a certificate of this form, with so many clauses, may have the part
abbrev pub HasPlace : Block → Part → Type 0
HasPlace b Shared = b.form ≡ Hinted
HasPlace b (First k) = k < length b.clauses
HasPlace b (Kept k) = k < length b.clauses
HasPlace b Safe = ⊤

-- in the plain form steps have no hints
abbrev pub HintsFit : Form → List (List ℕ) → Type 0
HintsFit Plain hints = All (λ h. h ≡ []) hints
HintsFit Hinted hints = ⊤

-- steps as a certificate of this form may have them: the text has a number for each of their variables
pub record LogFits (form : Form) (log : HintedLog) : Type 0 where
  pub vars : All (Within MAX_VARS) log.steps
  pub hints : HintsFit form log.hints

-- the same of a part that may be missing
abbrev pub PartFits : Form → Option HintedLog → Type 0
PartFits form part = ForSome part (LogFits form)

-- what the type of certificates keeps: all of it can stand in a text
pub record IsBlock (b : Block) : Type 0 where
  pub counter : ForSome b.counter (λ k. k ≤ MAX_COUNTER)
  pub vars : All (Within MAX_VARS) b.clauses
  pub first_count : length b.first ≡ length b.clauses
  pub kept_count : length b.kept ≡ length b.clauses
  pub plain : b.form ≡ Plain → b.shared ≡ None
  pub shared : PartFits b.form b.shared
  pub first : All (PartFits b.form) b.first
  pub kept : All (PartFits b.form) b.kept
  pub safe : PartFits b.form b.safe
