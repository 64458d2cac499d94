-- What the search says: of each item that its question can't be met, or of one that it is met.
use Rattle.std.specs.Prelude.{◌≡◌, ℕ, ◌<◌, Bool, true, List, length, All, Option, None, Some, IsSome, slice_get}
use Rattle.clause_core.specs.Assignments.{assignment_of, ClauseTrue}
use Rattle.bit_clauses.specs.declared.deciding.Decided.{Decided}
use Rattle.hinted_log.specs.Hints.{HintedLog}
use Rattle.cert_core.specs.declared.form.Form.TheVariants.{Plain}
use Rattle.cert_core.specs.Blocks.{PartFits}
use Rattle.cert_core.specs.Certificates.{Shows}
use Rattle.sound_check.specs.Judgements.{part_of}
use Rattle.sound_check.specs.Questions.{AreNeverMetBelow, question_of}
use Rattle.fault_search.specs.declared.asking.Asked.{Asked}
use Rattle.fault_search.specs.declared.asking.Asked.TheVariants as asked
use Rattle.fault_search.specs.declared.searching.Answer.{Answer}
use Rattle.fault_search.specs.declared.searching.Answer.TheVariants.{Free, Faulty, Spent}

-- the part derives the empty clause from the question's clauses; where nothing is asked there is none
abbrev pub PartAnswers : Option Decided → Option HintedLog → Type 0
PartAnswers None part = part ≡ None
PartAnswers (Some d) part = Shows Plain d.vars d.clauses part

-- the parts of the first n items answer their questions
abbrev pub AreAnsweredBelow : List (Option Decided) → List (Option HintedLog) → ℕ → Type 0
AreAnsweredBelow questions parts n = (item : ℕ) → item < n → PartAnswers (question_of questions item) (part_of parts item)

-- one part for each question, which answers it
pub record AreFree (questions : List (Option Decided)) (parts : List (Option HintedLog)) : Type 0 where
  pub count : length parts ≡ length questions
  pub each : AreAnsweredBelow questions parts (length questions)

-- the values meet the clauses of this item's question, and the questions before it can't be met
pub record IsFaulty (questions : List (Option Decided)) (item : ℕ) (model : List Bool) : Type 0 where
  pub question : Decided
  pub asked : slice_get questions item ≡ Some (Some question)
  pub long : length model ≡ question.vars
  pub met : All (ClauseTrue (assignment_of model)) question.clauses
  pub before : AreNeverMetBelow questions item

-- the purse, whose budget this is, was spent, and is spent afterwards
pub record IsSpent (budget : ℕ) (over : Bool) (drawn b : ℕ) : Type 0 where
  pub drawn_all : drawn ≡ budget
  pub of_budget : b ≡ budget
  pub over_now : over ≡ true

-- what the search answers, where this is the budget, and `over` says whether the purse is spent afterwards
abbrev pub AnswerSays : List (Option Decided) → ℕ → Bool → Answer → Type 0
AnswerSays questions budget over (Free parts) = AreFree questions parts
AnswerSays questions budget over (Faulty item model) = IsFaulty questions item model
AnswerSays questions budget over (Spent drawn b) = IsSpent budget over drawn b

-- the values meet the question's clauses
abbrev pub IsMetBy : Option Decided → List Bool → Type 0
IsMetBy None model = ⊥
IsMetBy (Some d) model = (length model ≡ d.vars) × All (ClauseTrue (assignment_of model)) d.clauses

-- what one question is answered
abbrev pub AskedSays : Option Decided → ℕ → Bool → Asked → Type 0
AskedSays q budget over (asked.Never part) = PartAnswers q part × PartFits Plain part
AskedSays q budget over (asked.Met model) = IsMetBy q model
AskedSays q budget over (asked.Spent drawn b) = IsSome q × IsSpent budget over drawn b
