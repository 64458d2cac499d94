-- What the steps of a generalisation say.
use Rattle.std.specs.Prelude.{IfSome, ◌≡◌, ◌⊎◌, ℕ, ◌+◌, ◌-◌, ◌≤◌, Bool, true, List, [], ◌∷◌, ◌++◌, length, All, Contains, Option, Some, None, ◌<◌}
use Rattle.clause_core.specs.declared.literal.Lit.{Lit}
use Rattle.clause_core.specs.Systems.{TransitionSystem}
use Rattle.frame_core.specs.declared.parts.Lemma.{Lemma}
use Rattle.frame_core.specs.declared.parts.Parent.{Parent}
use Rattle.frame_core.specs.Facts.{IsPart, IsProved, ProvedClause}
use Rattle.frame_core.specs.FrameLaw.{AllStand}
use Rattle.frame_query.specs.declared.trying.Trial.{Trial}
use Rattle.frame_query.specs.declared.trying.Trial.TheVariants.{Holds, Fails, Spent}
use Rattle.frame_query.specs.declared.trying.Draft.{Draft}
use Rattle.frame_query.specs.declared.trying.Walk.{Walk}
use Rattle.frame_query.specs.declared.trying.Turn.{Turn}
use Rattle.frame_query.specs.declared.trying.Turn.TheVariants as turn
use Rattle.frame_query.specs.declared.trying.Ending.{Ending}
use Rattle.frame_query.specs.declared.trying.Ending.TheVariants as ending
use Rattle.frame_solver.specs.Firsts.{AllFirstsMeet}
use Rattle.frame_solver.specs.Stepping.{Ends}
use Rattle.frame_solver.specs.Paying.{AskedQuery, Pays, AllDiffer}
use Rattle.frame_query.specs.Dropping.{IsBroken, AllNeeded, AsksOf, AsksOfSome, IsProperPart}

-- the draft as a proof
abbrev pub proof_of : TransitionSystem → ℕ → Draft → ProvedClause
proof_of sys level d = record { system = sys; clause = d.clause.items; part = d.part.items; level = level; parents = d.parents.items }

-- what was found of a clause
abbrev pub Tries : TransitionSystem → List Lemma → ℕ → List Parent → List Lit → ℕ → Bool → Trial → Type 0
Tries sys lemmas level given d budget over (Holds parents part met) =
    Ends sys level d parents.items part.items × IsPart part.items d × AllFirstsMeet sys met × IsPart met d
    × (AllStand lemmas (level - 1) given → AllStand lemmas (level - 1) parents.items)
Tries sys lemmas level given d budget over Fails = IsBroken sys lemmas level d
Tries sys lemmas level given d budget over (Spent drawn b) = (drawn ≡ budget) × (b ≡ budget) × (over ≡ true)

-- queries of one clause, no two equal, paid for
abbrev pub PaysFor : List TransitionSystem → List Lemma → List (List Lit) → List (List Lit) → List ℕ → List ℕ → ℕ → List Lit → Type 0
PaysFor systems lemmas old new before after level d =
    (log : List AskedQuery) × Pays systems lemmas old new before after log × All (AsksOf level d) log × AllDiffer log

-- the clause has just the literals of the one that failed
abbrev pub IsSame : Option (List Lit) → List Lit → Type 0
IsSame None d = ⊥
IsSame (Some failed) d = IsPart failed d × IsPart d failed

-- the same, and none where the clause has just the literals of the one that failed
abbrev pub PaysNew : List TransitionSystem → List Lemma → List (List Lit) → List (List Lit) → List ℕ → List ℕ → ℕ → Option (List Lit) → List Lit → Type 0
PaysNew systems lemmas old new before after level failed d =
    (log : List AskedQuery)
    × Pays systems lemmas old new before after log
    × All (AsksOf level d) log
    × AllDiffer log
    × (IsSame failed d → length log ≡ 0)

-- the others have each literal of the list but l
pub record IsOthers (xs : List Lit) (l : Lit) (ys : List Lit) : Type 0 where
  pub enough : (m : Lit) → Contains xs m → (m ≡ l → ⊥) → Contains ys m
  pub only : IsPart ys xs
  pub lacks : Contains ys l → ⊥
  pub fewer : length ys ≤ length xs

-- the literals that are in the part or in the other part
pub record IsNeeded (left part met needed : List Lit) : Type 0 where
  pub enough : (m : Lit) → Contains left m → Contains part m ⊎ Contains met m → Contains needed m
  pub only : IsPart needed left
  pub fewer : length needed ≤ length left

-- each literal is in one of the two lists, which have no more
pub record IsSplit (xs inside outside : List Lit) : Type 0 where
  pub enough : (m : Lit) → Contains xs m → Contains inside m ⊎ Contains outside m
  pub inside_only : IsPart inside xs
  pub outside_only : IsPart outside xs
  pub many : length inside + length outside ≡ length xs

-- a generalisation under way: the proof at hand, the literals that are needed, and those still to be tried
pub record IsUnderWay (sys : TransitionSystem) (lemmas : List Lemma) (given : ProvedClause) (draft : Draft) (kept rest : List Lit) : Type 0 where
  pub proved : IsProved (proof_of sys given.level draft)
  pub stands : AllStand lemmas (given.level - 1) given.parents → AllStand lemmas (given.level - 1) draft.parents.items
  pub part : IsPart draft.clause.items given.clause
  pub to : IsPart draft.clause.items (kept ++ rest)
  pub from : IsPart (kept ++ rest) draft.clause.items
  pub needed : AllNeeded sys lemmas given.level given.clause draft.clause.items kept
  pub apart : (l : Lit) → Contains kept l → Contains rest l → ⊥

-- a clause that was asked about will not be asked about again: it has all literals at hand, or lacks one that is needed, or has
-- just the literals of the one that failed
abbrev pub IsPast : List Lit → List Lit → Option (List Lit) → List Lit → Type 0
IsPast best kept failed d = IsPart best d ⊎ (((l : Lit) × Contains kept l × (Contains d l → ⊥)) ⊎ IsSame failed d)

-- the queries of a generalisation so far, which may ask about so many clauses more
pub record IsPaidSoFar (systems : List TransitionSystem) (lemmas : List Lemma) (old new : List (List Lit)) (before after : List ℕ) (level : ℕ) (given best kept : List Lit)
    (failed : Option (List Lit)) (asks : ℕ) : Type 0 where
  pub log : List AskedQuery
  pub parts : List (List Lit)
  pub pays : Pays systems lemmas old new before after log
  pub differ : AllDiffer log
  pub proper : All (IsProperPart given) parts
  pub past : All (IsPast best kept failed) parts
  pub asked : All (AsksOfSome level parts) log
  pub few : length parts + asks ≤ length given

-- the clause that is tried: without l, which is still to be tried, with all that is needed
pub record IsCandidate (kept rest : List Lit) (l : Lit) (d : List Lit) : Type 0 where
  pub at : Contains rest l
  pub lacks : Contains d l → ⊥
  pub kept_in : IsPart kept d
  pub inside : IsPart d (kept ++ rest)

-- a walk under way: what was tried for a hint is broken, there is one hint at most, and each literal that is left may be tried
pub record IsGoing (sys : TransitionSystem) (lemmas : List Lemma) (given : ProvedClause) (walk : Walk) (rest : List Lit) : Type 0 where
  pub way : IsUnderWay sys lemmas given walk.draft walk.kept.items rest
  pub fell : IfSome walk.failed (IsBroken sys lemmas given.level)
  pub once : 0 < length walk.hint.items → walk.failed ≡ None
  pub room : length rest ≤ walk.asks

-- the hint fits: it lacks the literal, which is still to be tried, and one clause more may be asked about
pub record Fits (walk : Walk) (l : Lit) : Type 0 where
  pub some : 0 < length walk.hint.items
  pub at : Contains walk.rest.items l
  pub lacks : Contains walk.hint.items l → ⊥
  pub room : length walk.rest.items < walk.asks

-- what a trial that holds does to a walk with these literals kept, where these are left
pub record DropsTo (kept : List Lit) (failed : Option (List Lit)) (left part met : List Lit) (parents : List Parent) (new : Walk) : Type 0 where
  pub kept_is : new.kept.items ≡ kept
  pub rest : IsNeeded left part met new.rest.items
  pub clause_is : new.draft.clause.items ≡ kept ++ new.rest.items
  pub part_is : new.draft.part.items ≡ part
  pub parents_are : new.draft.parents.items ≡ parents
  pub failed_is : new.failed ≡ failed

-- what a trial without l does to a walk, where these literals are left
abbrev pub MovesBy : Walk → Lit → List Lit → Trial → Walk → Turn → Type 0
MovesBy old l left (Holds parents part met) new t =
    (t ≡ turn.Went) × DropsTo old.kept.items old.failed left part.items met parents.items new × (new.asks ≡ old.asks - 1) × (new.hint.items ≡ old.hint.items)
MovesBy old l left Fails new t =
    (t ≡ turn.Went) × (new.kept.items ≡ old.kept.items ++ l ∷ []) × (new.rest.items ≡ left) × (new.draft ≡ old.draft)
    × (new.failed ≡ old.failed) × (new.asks ≡ old.asks - 1) × (new.hint.items ≡ old.hint.items)
MovesBy old l left (Spent drawn b) new t = t ≡ turn.Spent drawn b

-- what the trial of a hint, of which these literals are left, does to a walk
abbrev pub HintMovesBy : Walk → List Lit → List Lit → Trial → Walk → Turn → Type 0
HintMovesBy old left d (Holds parents part met) new t =
    (t ≡ turn.Went) × DropsTo old.kept.items old.failed left part.items met parents.items new × (new.asks ≡ old.asks - 1) × (new.hint.items ≡ [])
HintMovesBy old left d Fails new t =
    (t ≡ turn.Went) × (new.kept.items ≡ old.kept.items) × (new.rest.items ≡ old.rest.items) × (new.draft ≡ old.draft)
    × (new.failed ≡ Some d) × (new.asks ≡ old.asks - 1) × (new.hint.items ≡ [])
HintMovesBy old left d (Spent drawn b) new t = t ≡ turn.Spent drawn b

-- the literal was dropped, and maybe others; or it is needed; or the clause failed, which was that of a hint
pub data Moves (old new : Walk) (l : Lit) (d : List Lit) : Type 0 where
  Drops : IsPart new.draft.clause.items d → IsPart new.draft.clause.items old.draft.clause.items → new.kept.items ≡ old.kept.items → new.failed ≡ old.failed → Moves old new l d
  Keeps : new.draft ≡ old.draft → new.kept.items ≡ old.kept.items ++ l ∷ [] → new.failed ≡ old.failed → Moves old new l d
  Falls : new.draft ≡ old.draft → new.kept.items ≡ old.kept.items → old.failed ≡ None → new.failed ≡ Some d → Moves old new l d

-- what a turn says of a walk, of which so many literals and hints were left
abbrev pub TurnSays : TransitionSystem → List Lemma → ProvedClause → Walk → Walk → Lit → List Lit → ℕ → ℕ → Bool → Turn → Type 0
TurnSays sys lemmas given old new l d size budget over turn.Went =
    IsGoing sys lemmas given new new.rest.items × Moves old new l d × (new.asks + 1 ≡ old.asks) × (length new.rest.items + length new.hint.items < size)
TurnSays sys lemmas given old new l d size budget over (turn.Spent drawn b) = (drawn ≡ budget) × (b ≡ budget) × (over ≡ true)

-- what a generalisation came to
abbrev pub EndSays : TransitionSystem → List Lemma → ProvedClause → ℕ → Bool → Ending → Type 0
EndSays sys lemmas given budget over (ending.Done draft) =
    IsProved (proof_of sys given.level draft) × IsPart draft.clause.items given.clause
    × AllNeeded sys lemmas given.level given.clause draft.clause.items draft.clause.items
    × (AllStand lemmas (given.level - 1) given.parents → AllStand lemmas (given.level - 1) draft.parents.items)
EndSays sys lemmas given budget over (ending.Spent drawn b) = (drawn ≡ budget) × (b ≡ budget) × (over ≡ true)
