-- What comes of preparing a model: whether one of its items ever faults.
use Rattle.std.specs.Prelude.{◌≡◌, ℕ, ◌<◌, Bool, List, Option, Some, slice_get}
use Rattle.bit_clauses.specs.declared.deciding.Decided.{Decided}
use Rattle.hinted_log.specs.Hints.{HintedLog}
use Rattle.smv_tree.specs.declared.refusal.Refusal.{Refusal}
use Rattle.smv_tree.specs.declared.tree.Program.{Program}
use Rattle.smv_resolve.specs.Items.{ResolvedItem}
use Rattle.smv_meaning.specs.Faults.{IsFaultFree}
use Rattle.fault_texts.specs.Refusals.{TellsFault}
use Rattle.bit_faults.specs.Questions.{AreFaultQuestions, NeverFaults, judged_items}
use Rattle.fault_search.specs.Answering.{AreFree, IsSpent}
use Rattle.fault_search.specs.Paying.{PaysOpen, PaysSome}
use Rattle.smv_prepare.specs.declared.preparing.Prepared.{Prepared}
use Rattle.smv_prepare.specs.declared.preparing.Prepared.TheVariants as prepared

-- How a program is refused where an item faults: for the first item that does, specifications after all others. The
-- refusal tells a state or a step of the declared types at which it does, and no item before it ever faults.
pub record IsRefusedByFaults (p : Program) (r : Refusal) : Type 0 where
  pub number : ℕ
  pub item : ResolvedItem
  pub judged : slice_get (judged_items p) number ≡ Some item
  pub before : (j : ℕ) (x : ResolvedItem) → j < number → slice_get (judged_items p) j ≡ Some x → NeverFaults p x
  pub told : TellsFault p item r

-- No item ever faults, and the steps show that of each item of which something is asked: its clauses are met where it
-- faults, and the empty clause follows from them.
pub record IsShownSound (p : Program) (parts : List (Option HintedLog)) : Type 0 where
  pub fault_free : IsFaultFree p
  pub questions : List (Option Decided)
  pub asked : AreFaultQuestions p questions
  pub free : AreFree questions parts

-- at most one query was asked of each item, and the tickets between these were drawn for the queries and what they
-- learned
pub record IsPaidPreparing (p : Program) (before after : List ℕ) : Type 0 where
  pub questions : List (Option Decided)
  pub asked : AreFaultQuestions p questions
  pub paid : PaysSome questions before after

-- All tickets of the budget were drawn, those between these for queries of items, and the query of some item was not
-- answered.
pub record IsSpentPreparing (p : Program) (budget : ℕ) (over : Bool) (before after : List ℕ) (drawn of_budget : ℕ) : Type 0 where
  pub questions : List (Option Decided)
  pub asked : AreFaultQuestions p questions
  pub paid : PaysOpen questions before after
  pub spent : IsSpent budget over drawn of_budget

-- what came of preparing is so; `before` and `after` are the tickets that were drawn, and `over` says whether none is
-- left
abbrev pub IsPrepared : Program → ℕ → Bool → List ℕ → List ℕ → Prepared → Type 0
IsPrepared p budget over before after (prepared.Sound parts) = IsShownSound p parts × IsPaidPreparing p before after
IsPrepared p budget over before after (prepared.Faulty r) = IsRefusedByFaults p r × IsPaidPreparing p before after
IsPrepared p budget over before after (prepared.Spent drawn of_budget) = IsSpentPreparing p budget over before after drawn of_budget
