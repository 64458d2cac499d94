-- What is made of an inductive invariant.
use Rattle.std.specs.Prelude.{◌≡◌, ℕ, ◌++◌, Bool, true, List, [], ◌∷◌, None, length, slice_index_or}
use Rattle.clause_core.specs.declared.literal.Lit.{Lit}
use Rattle.clause_core.specs.Propagation.{Follows}
use Rattle.clause_core.specs.Derivations.{AllStepsBelow, Derives}
use Rattle.clause_core.specs.Systems.{TransitionSystem}
use Rattle.cert_core.specs.declared.form.Form.TheVariants.{Hinted}
use Rattle.cert_core.specs.Certificates.{unit_clauses, negated_next, shared_steps, first_clauses, Shows, SharedFollow, Certifies}
use Rattle.cert_make.specs.declared.asking.Asked.{Asked}
use Rattle.cert_make.specs.declared.asking.Asked.TheVariants as asked
use Rattle.cert_core.specs.Blocks.{Block, part_of}
use Rattle.cert_core.specs.declared.form.Part.TheVariants.{First, Kept}
use Rattle.cert_check.specs.Judgements.{EachBelow}
use Rattle.rup_check.specs.Searches.{Covers}
use Rattle.cert_make.specs.declared.shared.Learned.{Learned}
use Rattle.cert_make.specs.declared.shared.Learned.TheVariants as of_learned
use Rattle.cert_make.specs.declared.making.Made.{Made}
use Rattle.cert_make.specs.declared.making.Made.TheVariants as made

-- the purse, whose budget this is, was spent, and is spent afterwards
pub record IsSpent (budget : ℕ) (over : Bool) (drawn b : ℕ) : Type 0 where
  pub drawn_all : drawn ≡ budget
  pub of_budget : b ≡ budget
  pub over_now : over ≡ true

-- refuted: what was learned derives the empty clause from the clauses and the assumptions
abbrev pub AskedSays : ℕ → List (List Lit) → List (List Lit) → List Lit → ℕ → Bool → Asked → Type 0
AskedSays vars given learned assumptions budget over asked.Refuted = Derives vars (given ++ unit_clauses assumptions) (learned ++ [] ∷ [])
AskedSays vars given learned assumptions budget over (asked.Spent drawn b) = IsSpent budget over drawn b

-- all questions are refuted, and this holds; or the purse was spent
abbrev pub AllSay : Type 0 → ℕ → Bool → Asked → Type 0
AllSay P budget over asked.Refuted = P
AllSay P budget over (asked.Spent drawn b) = IsSpent budget over drawn b

-- from the clauses, what was learned, and the negated clause at the next state, the empty clause follows
abbrev pub KeptFollows : ℕ → List (List Lit) → List (List Lit) → List Lit → Type 0
KeptFollows state_bits given learned c = Follows (given ++ learned ++ unit_clauses (negated_next state_bits c)) []

-- what was learned of the given clauses follows from them in turn, and shows of each clause that it is kept; or the
-- purse was spent
abbrev pub LearnedSays : ℕ → ℕ → List (List Lit) → List (List Lit) → ℕ → Bool → Learned → Type 0
LearnedSays vars state_bits given cs budget over (of_learned.Clauses log) =
    AllStepsBelow vars given log (length log) × EachBelow (λ j. KeptFollows state_bits given log (slice_index_or cs j [])) (length cs)
LearnedSays vars state_bits given cs budget over (of_learned.Spent drawn b) = IsSpent budget over drawn b

-- the shared part, where there is one, has steps that follow by hints, and covers the log
pub record SharedPut (vars : ℕ) (given log : List (List Lit)) (old new : Block) : Type 0 where
  pub follow : SharedFollow Hinted vars given new.shared
  pub covers : Covers (shared_steps Hinted new.shared) log
  pub rest : new ≡ record old { shared = new.shared }

-- the shared part follows by hints, and with it each clause's part `kept` shows what it is to show
pub record SharedAndKept (vars state_bits : ℕ) (given cs : List (List Lit)) (old new : Block) : Type 0 where
  pub follow : SharedFollow Hinted vars given new.shared
  pub shown : EachBelow (λ j. Shows Hinted vars (given ++ shared_steps Hinted new.shared ++ unit_clauses (negated_next state_bits (slice_index_or cs j []))) (part_of new (Kept j))) (length cs)
  pub rest : new ≡ record old { shared = new.shared; kept = new.kept }

-- each clause's part `first` shows what it is to show
pub record FirstPut (sys : TransitionSystem) (cs : List (List Lit)) (old new : Block) : Type 0 where
  pub shown : EachBelow (λ j. Shows Hinted sys.all_bits (first_clauses sys (slice_index_or cs j [])) (part_of new (First j))) (length cs)
  pub rest : new ≡ record old { first = new.first }

-- a certificate of these clauses that certifies, judged by hints, with no counter
pub record IsMade (sys : TransitionSystem) (cs : List (List Lit)) (cert : Block) : Type 0 where
  pub certifies : Certifies sys cert
  pub form : cert.form ≡ Hinted
  pub clauses : cert.clauses ≡ cs
  pub counter : cert.counter ≡ None

-- made of these clauses: such a certificate; or the purse was spent
abbrev pub MadeSays : TransitionSystem → List (List Lit) → ℕ → Bool → Made → Type 0
MadeSays sys cs budget over (made.Certificate cert) = IsMade sys cs cert
MadeSays sys cs budget over (made.Spent drawn b) = IsSpent budget over drawn b
