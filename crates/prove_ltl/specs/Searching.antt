-- What a search of lassos of many lengths gives.
use Rattle.std.specs.Prelude.{◌≡◌, ℕ, Bool, true, List}
use Rattle.clause_core.specs.declared.literal.Lit.{Lit}
use Rattle.clause_core.specs.Systems.{TransitionSystem}
use Rattle.lasso_search.specs.declared.searched.Searched.{Searched}
use Rattle.lasso_search.specs.declared.searched.Searched.TheVariants.{Found, None, Spent}
use Rattle.lasso_search.specs.Lassos.{IsFairLasso}
use Rattle.prove_ltl.specs.Lengths.{LengthQuery, PaysBetween, PaysLengths, HasNoneBetween, StandsBetween}

-- a fair lasso of some length; or no length greater than `first` and at most `last` has one; or the purse was spent, which `over` says, and the
-- search stands at such a length
abbrev pub Finds : TransitionSystem → ℕ → ℕ → Bool → List LengthQuery → Searched → Type 0
Finds m first last over log (Found r) = (n : ℕ) × IsFairLasso m n r
Finds m first last over log None = HasNoneBetween m first last
Finds m first last over log (Spent drawn budget) = StandsBetween m first last log × (over ≡ true)

-- so the search of these lengths ended, after queries that were paid for
pub record LengthsSay (m : TransitionSystem) (first last : ℕ) (old new : List (List Lit)) (before after : List ℕ) (over : Bool) (answer : Searched) : Type 0 where
  pub log : List LengthQuery
  pub pays : PaysBetween m first last old new before after log
  pub finds : Finds m first last over log answer

-- so the search of all lengths up to the bound ended
pub record SearchSays (m : TransitionSystem) (bound : ℕ) (tickets : List ℕ) (over : Bool) (answer : Searched) : Type 0 where
  pub known : List (List Lit)
  pub log : List LengthQuery
  pub pays : PaysLengths m bound known tickets log
  pub finds : Finds m 0 bound over log answer

-- the lengths greater than `first` up to k were searched, and have no fair lasso
pub record AreSearched (m : TransitionSystem) (first k : ℕ) (old new : List (List Lit)) (before after : List ℕ) : Type 0 where
  pub log : List LengthQuery
  pub pays : PaysBetween m first k old new before after log
  pub none : HasNoneBetween m first k
