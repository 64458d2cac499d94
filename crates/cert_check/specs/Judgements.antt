-- Which part of a certificate fails first.
use Rattle.std.specs.Prelude.{ℕ, ◌<◌, ◌⊎◌, List, [], length, All, Option, None, Some, slice_index_or}
use Rattle.clause_core.specs.declared.literal.Lit.{Lit}
use Rattle.clause_core.specs.Literals.{Within}
use Rattle.clause_core.specs.Systems.{TransitionSystem}
use Rattle.cert_core.specs.declared.form.Form.{Form}
use Rattle.cert_core.specs.declared.form.Form.TheVariants.{Plain, Hinted}
use Rattle.cert_core.specs.declared.form.Part.{Part}
use Rattle.cert_core.specs.declared.form.Part.TheVariants.{Shared, First, Kept, Safe}
use Rattle.cert_core.specs.Blocks.{Block, part_of}
use Rattle.cert_core.specs.Certificates.{shared_steps, shared_clauses, first_clauses, kept_clauses, safe_clauses, Shows, SharedFollow, Certifies}
use Rattle.cert_check.specs.declared.judging.CertVerdict.{CertVerdict}
use Rattle.cert_check.specs.declared.judging.CertVerdict.TheVariants.{Yes, No}

-- the clause has state bits alone, and the part `first` of it shows what it is to show
abbrev pub FirstHolds : TransitionSystem → Block → ℕ → Type 0
FirstHolds sys cert k =
    Within sys.state_bits (slice_index_or cert.clauses k [])
    × Shows cert.form sys.all_bits (first_clauses sys (slice_index_or cert.clauses k [])) (part_of cert (First k))

-- the part `kept` of the clause shows what it is to show
abbrev pub KeptHolds : TransitionSystem → Block → ℕ → Type 0
KeptHolds sys cert k =
    Shows cert.form sys.all_bits (kept_clauses sys cert.clauses (shared_steps cert.form cert.shared) (slice_index_or cert.clauses k []))
    (part_of cert (Kept k))

-- the part `safe` shows what it is to show
abbrev pub SafeHolds : TransitionSystem → Block → Type 0
SafeHolds sys cert = Shows cert.form sys.all_bits (safe_clauses sys cert.clauses) cert.safe

-- each below n holds
abbrev pub EachBelow : (ℕ → Type 0) → ℕ → Type 0
EachBelow P n = (j : ℕ) → j < n → P j

-- none: each below n holds; some k: it is the first that does not
abbrev pub Judges : (ℕ → Type 0) → ℕ → Option ℕ → Type 0
Judges P n None = EachBelow P n
Judges P n (Some k) = (k < n) × EachBelow P k × (P k → ⊥)

-- where steps are judged by hints, all clauses are seen to have state bits alone before any part is judged
abbrev pub IsNear : Form → ℕ → List (List Lit) → Type 0
IsNear Plain state_bits cs = Unit {0}
IsNear Hinted state_bits cs = All (Within state_bits) cs

-- so this clause is the first that has other bits
abbrev pub IsFarAt : Form → ℕ → List (List Lit) → ℕ → Type 0
IsFarAt Plain state_bits cs k = ⊥
IsFarAt Hinted state_bits cs k = (k < length cs) × EachBelow (λ j. Within state_bits (slice_index_or cs j [])) k × (Within state_bits (slice_index_or cs k []) → ⊥)

-- what is judged before the parts `first`
abbrev pub Begun : TransitionSystem → Block → Type 0
Begun sys cert =
    IsNear cert.form sys.state_bits cert.clauses × SharedFollow cert.form sys.all_bits (shared_clauses sys cert.clauses) cert.shared

-- this part is the first that fails
abbrev pub FailsFirst : TransitionSystem → Block → Part → Type 0
FailsFirst sys cert Shared =
    IsNear cert.form sys.state_bits cert.clauses × (SharedFollow cert.form sys.all_bits (shared_clauses sys cert.clauses) cert.shared → ⊥)
FailsFirst sys cert (First k) =
    IsFarAt cert.form sys.state_bits cert.clauses k
    ⊎ (Begun sys cert × Judges (FirstHolds sys cert) (length cert.clauses) (Some k))
FailsFirst sys cert (Kept k) =
    Begun sys cert
    × EachBelow (FirstHolds sys cert) (length cert.clauses)
    × Judges (KeptHolds sys cert) (length cert.clauses) (Some k)
FailsFirst sys cert Safe =
    Begun sys cert
    × EachBelow (FirstHolds sys cert) (length cert.clauses)
    × EachBelow (KeptHolds sys cert) (length cert.clauses)
    × (SafeHolds sys cert → ⊥)

-- Yes: the certificate certifies; No: this part is the first that fails
abbrev pub VerdictSays : TransitionSystem → Block → CertVerdict → Type 0
VerdictSays sys cert Yes = Certifies sys cert
VerdictSays sys cert (No part) = FailsFirst sys cert part
