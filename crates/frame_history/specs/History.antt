-- The lawful history of the frames that workers share: the state that its entries lead to, what may be claimed, and
-- what a settlement may change (after Bradley 2011, sections 3 and 4; Een, Mishchenko, Brayton 2011).
use Rattle.std.specs.Prelude.{◌≡◌, ◌≢◌, ◌⊎◌, ℕ, ◌+◌, ◌-◌, ◌<◌, ◌≤◌, Bool, true, false, List, [], ◌∷◌, ◌++◌, length, slice_index_or, slice_set, replicate, All, Option, Some, None}
use Rattle.clause_core.specs.declared.literal.Lit.{Lit}
use Rattle.clause_core.specs.Literals.{Within}
use Rattle.clause_core.specs.Assignments.{ClauseTrue, assignment_of}
use Rattle.clause_core.specs.Systems.{TransitionSystem, FirstBits, StepBits, BadBits, NextIs}
use Rattle.frame_core.specs.declared.parts.Lemma.{Lemma}
use Rattle.frame_core.specs.declared.parts.Parent.{Parent}
use Rattle.frame_core.specs.declared.outcomes.FramesVerdict.{FramesVerdict}
use Rattle.frame_core.specs.Facts.{MeetsParents, IsFirstFlag}
use Rattle.frame_core.specs.FrameLaw.{FrameState, AreAlike, LemmasHold, system_at, top_at, lemma_at, obligation_at, InFrame, AllStand, IsAsHigh}
use Rattle.frame_core.specs.Looking.{IsHeldBy, IsKeptLevel}
use Rattle.frame_core.specs.Changes.{fresh, with_lemma, with_level, with_retired, with_top, IsCovered, VerdictSays}
use Rattle.frame_history.specs.declared.entries.Limits.{Limits}
use Rattle.frame_history.specs.declared.entries.Subject.{Subject}
use Rattle.frame_history.specs.declared.entries.Subject.TheVariants.{Bad, Block, Push}
use Rattle.frame_history.specs.declared.entries.Made.{Made}
use Rattle.frame_history.specs.declared.entries.Lag.{Lag}
use Rattle.frame_history.specs.declared.entries.Lag.TheVariants as lag
use Rattle.frame_history.specs.declared.entries.Change.{Change}
use Rattle.frame_history.specs.declared.entries.Change.TheVariants.{Add, Raise, Held, Retire, Behind, Dropped, Note, Open, PushFailed, Limit, Spent}
use Rattle.frame_history.specs.declared.entries.Entry.{Entry}
use Rattle.frame_history.specs.declared.entries.Entry.TheVariants.{Claim, Settle, Back}

-- ---- The state

-- what a history leads to: the frames; for each entry the claim that it made, if it made one, and what became of it;
-- how often a lemma was added or raised; for each level up to the limit whether a push from it failed since; for each
-- system whether its limit was met; whether the purse was spent
pub record BookState : Type 0 where
  pub frames : FrameState
  pub claims : List (Option Made)
  pub growth : ℕ
  pub failed : List Bool
  pub limited : List Bool
  pub spent : Bool

-- the state before all entries: the carried lemmas, tops 0, and nothing else
abbrev pub start : Limits → List TransitionSystem → List Lemma → BookState
start limits systems carried =
    record {
      frames = fresh systems carried;
      claims = [];
      growth = 0;
      failed = replicate (limits.frames + 1) false;
      limited = replicate (length systems) false;
      spent = false;
    }

-- the claim that entry n made
abbrev pub claim_at : List (Option Made) → ℕ → Option Made
claim_at claims n = slice_index_or claims n None

-- ---- The state after a change, and after an entry

-- the frames with a lemma more, or a lemma raised: no push has failed since
abbrev pub grown : BookState → FrameState → BookState
grown s frames = record s { frames = frames; growth = s.growth + 1; failed = replicate (length s.failed) false }

-- the state after a change
abbrev pub changed : BookState → Change → BookState
changed s (Add clause level parents) = grown s (with_lemma s.frames clause level)
changed s (Raise n level parents) = grown s (with_level s.frames n level)
changed s (Held n clause level) = s
changed s (Retire n) = record s { frames = with_retired s.frames n }
changed s (Behind lag) = s
changed s Dropped = s
changed s (Note j values parent first) =
    let noted : FrameState =
    record s.frames { obligations = s.frames.obligations ++ record { system = j; values = values; parent = parent; first = first } ∷ [] } in
    record s { frames = noted }
changed s (Open j) = record s { frames = with_top s.frames j }
changed s (PushFailed n level) = record s { failed = slice_set s.failed level true }
changed s (Limit j) = record s { limited = slice_set s.limited j true }
changed s Spent = record s { spent = true }

-- the state after these changes, one after another
abbrev pub all_changed : BookState → List Change → BookState
all_changed s [] = s
all_changed s (c ∷ cs) = all_changed (changed s c) cs

-- a claim that is out no more
abbrev pub ended : Bool → Option Made → Option Made
ended void None = None
ended void (Some c) = Some (record c { out = false; void = void })

-- claim n is out no more, and one entry is noted that makes none
abbrev pub with_ended : BookState → ℕ → Bool → BookState
with_ended s n void = record s { claims = slice_set s.claims n (ended void (claim_at s.claims n)) ++ None ∷ [] }

-- the changes say that the outcome was behind
abbrev pub is_behind : List Change → Bool
is_behind (Behind lag ∷ cs) = true
is_behind cs = false

-- the state after an entry
abbrev pub after : BookState → Entry → BookState
after s (Claim worker subject level) =
    let made : Made = record { worker = worker; subject = subject; level = level; growth = s.growth; out = true; void = false } in
    record s { claims = s.claims ++ Some made ∷ [] }
after s (Settle worker n changes) = with_ended (all_changed s changes.items) n (is_behind changes.items)
after s (Back worker n) = with_ended s n true

-- the state after these entries, one after another
abbrev pub replay : BookState → List Entry → BookState
replay s [] = s
replay s (e ∷ es) = replay (after s e) es

-- ---- What may be claimed

-- the frames tell a verdict of system j
abbrev pub HasVerdict : FrameState → ℕ → Type 0
HasVerdict f j = (v : FramesVerdict) × VerdictSays f j (Some v)

-- system j has its verdict or its limit
abbrev pub IsDecided : BookState → ℕ → Type 0
IsDecided s j = HasVerdict s.frames j ⊎ (slice_index_or s.limited j false ≡ true)

-- the purse was spent, or each system is decided
abbrev pub IsClosed : BookState → Type 0
IsClosed s = (s.spent ≡ true) ⊎ ((j : ℕ) → j < length s.frames.systems → IsDecided s j)

-- i is the least level from 1 on whose frame has x
abbrev pub IsLeastLevel : TransitionSystem → List Lemma → ℕ → (ℕ → Bool) → Type 0
IsLeastLevel sys lemmas i x = (0 < i) × InFrame sys lemmas i x × ((k : ℕ) → 0 < k → k < i → InFrame sys lemmas k x → ⊥)

-- the subject fits the frames as they are, at this level: bad states at the top; an obligation at the least level of
-- its frames, up to the top; and a live lemma below some top, one level up
abbrev pub IsOpenTask : Limits → BookState → Subject → ℕ → Type 0
IsOpenTask limits s (Bad j) level =
    (j < length s.frames.systems) × (IsDecided s j → ⊥) × (level ≡ top_at s.frames.tops j) × (top_at s.frames.tops j ≤ limits.frames)
IsOpenTask limits s (Block o) level =
    let obligation = obligation_at s.frames.obligations o in
    (o < length s.frames.obligations) × (IsDecided s obligation.system → ⊥) × (top_at s.frames.tops obligation.system ≤ limits.frames)
    × (level ≤ top_at s.frames.tops obligation.system)
    × IsLeastLevel (system_at s.frames.systems obligation.system) s.frames.lemmas level (assignment_of obligation.values)
IsOpenTask limits s (Push n) level =
    let lemma = lemma_at s.frames.lemmas n in
    (n < length s.frames.lemmas) × (lemma.live ≡ true) × (level ≡ lemma.level + 1)
    × ((j : ℕ) × (j < length s.frames.systems) × (lemma.level < top_at s.frames.tops j))

-- an equal claim was not made since a lemma was last added or raised, but for those that are void
abbrev pub IsNew : BookState → Subject → ℕ → Type 0
IsNew s subject level =
    (n : ℕ) (c : Made) → n < length s.claims → claim_at s.claims n ≡ Some c → c.subject ≡ subject → c.level ≡ level → c.growth ≡ s.growth →
    c.void ≡ true

-- a claim that may be made now: the history is not closed, its subject fits the frames, and no equal claim stands
pub record IsLawfulClaim (limits : Limits) (s : BookState) (subject : Subject) (level : ℕ) : Type 0 where
  pub still_open : IsClosed s → ⊥
  pub task : IsOpenTask limits s subject level
  pub new : IsNew s subject level

-- ---- What a settlement may change

-- initial states meet the clause; a step from a state that meets it and the parents, at level 1 from an initial state,
-- ends in it; and the kept level of each parent is at least one below
pub record IsShown (f : FrameState) (clause : List Lit) (level : ℕ) (parents : List Parent) : Type 0 where
  pub above : 0 < level
  pub within : Within (system_at f.systems 0).state_bits clause
  pub first : (x : ℕ → Bool) → FirstBits (system_at f.systems 0) x → ClauseTrue x clause
  pub step : (x y : ℕ → Bool) → (level ≡ 1 → FirstBits (system_at f.systems 0) x) → (1 < level → ClauseTrue x clause × MeetsParents parents x) →
      StepBits (system_at f.systems 0) x y → ClauseTrue y clause
  pub stand : AllStand f.lemmas (level - 1) parents

-- the claim blocks obligation o at this level, whose state does not meet the clause
abbrev pub BlocksBy : FrameState → Made → ℕ → ℕ → List Lit → Type 0
BlocksBy f c o level clause =
    (c.subject ≡ Block o) × (c.level ≡ level) × (ClauseTrue (assignment_of (obligation_at f.obligations o).values) clause → ⊥)

-- values of a bad state of the frame of the top of j, which the claim asked about
abbrev pub IsBadFound : FrameState → Made → ℕ → List Bool → Type 0
IsBadFound f c j values =
    (c.subject ≡ Bad j) × (c.level ≡ top_at f.tops j) × (j < length f.systems)
    × All (ClauseTrue (assignment_of values)) (system_at f.systems j).bad
    × InFrame (system_at f.systems j) f.lemmas c.level (assignment_of values)

-- values of a step from a state of the frame below into the state of obligation o, which the claim blocks
abbrev pub IsStepFound : FrameState → Made → ℕ → ℕ → List Bool → Type 0
IsStepFound f c j o values =
    let obligation = obligation_at f.obligations o in
    (c.subject ≡ Block o) × (o < length f.obligations) × (obligation.system ≡ j)
    × All (ClauseTrue (assignment_of values)) (system_at f.systems j).step
    × NextIs (system_at f.systems j).state_bits (assignment_of values) (assignment_of obligation.values)
    × InFrame (system_at f.systems j) f.lemmas (c.level - 1) (assignment_of values)

-- the state found may be an obligation of j with this parent
abbrev pub MayBeNoted : FrameState → Made → ℕ → List Bool → Option ℕ → Type 0
MayBeNoted f c j values None = IsBadFound f c j values
MayBeNoted f c j values (Some o) = IsStepFound f c j o values

-- the frame that a claim asks about: that of its level for bad states, and else the one below
abbrev pub asked_level : Subject → ℕ → ℕ
asked_level (Bad j) level = level
asked_level (Block o) level = level - 1
asked_level (Push n) level = level - 1

-- the system of which a claim asks: pushes ask of steps, which all have in common
abbrev pub asked_system : FrameState → Subject → ℕ
asked_system f (Bad j) = j
asked_system f (Block o) = (obligation_at f.obligations o).system
asked_system f (Push n) = 0

-- the outcome of the claim says nothing of the frames as they are
abbrev pub LagsBy : FrameState → Made → Lag → Type 0
LagsBy f c (lag.Parent parent level) = IsKeptLevel f.lemmas parent level × (level < asked_level c.subject c.level)
LagsBy f c (lag.State values) =
    InFrame (system_at f.systems (asked_system f c.subject)) f.lemmas (asked_level c.subject c.level) (assignment_of values) → ⊥

-- what comes of the claim
abbrev pub Accepts : FrameState → Made → Change → Type 0
-- the clause is proved at the level, and no lemma is looked at but its parents
Accepts f c (Add clause level parents) =
    ((o : ℕ) × BlocksBy f c o level clause) × IsShown f clause level parents.items
-- a live lemma of a lower level is proved at the level
Accepts f c (Raise n level parents) =
    (c.subject ≡ Push n) × (c.level ≡ level) × (n < length f.lemmas) × (IsAsHigh f.lemmas n level → ⊥)
    × IsShown f (lemma_at f.lemmas n).clause level parents.items
-- a lemma has a part of the clause's literals and at least the level
Accepts f c (Held n clause level) =
    ((o : ℕ) × BlocksBy f c o level clause) × IsHeldBy f.lemmas clause level n
-- nothing comes of a claim but what follows from one that does
Accepts f c (Retire n) = ⊥
-- a parent has too low a level here, or the state found is not in the frame that was asked about
Accepts f c (Behind lag) = LagsBy f c lag
-- the lemma is retired, or at the level already; or the top is another than the one that was asked about
Accepts f c Dropped =
    ((n : ℕ) × (c.subject ≡ Push n) × IsAsHigh f.lemmas n c.level) ⊎ ((j : ℕ) × (c.subject ≡ Bad j) × (c.level ≢ top_at f.tops j))
-- a bad state of the top's frame; or a state of the frame below with a step to the obligation
Accepts f c (Note j values parent first) =
    MayBeNoted f c j values parent × (length values ≡ (system_at f.systems j).all_bits)
    × IsFirstFlag (system_at f.systems j) values first
-- the top's frame has no bad state
Accepts f c (Open j) =
    (c.subject ≡ Bad j) × (c.level ≡ top_at f.tops j) × (j < length f.systems)
    × ((x : ℕ → Bool) → InFrame (system_at f.systems j) f.lemmas (top_at f.tops j) x → BadBits (system_at f.systems j) x → ⊥)
-- a step leads from a state of the level's frame out of the lemma
Accepts f c (PushFailed n level) =
    (c.subject ≡ Push n) × (c.level ≡ level + 1)
    × ((x y : ℕ → Bool) × InFrame (system_at f.systems 0) f.lemmas level x × StepBits (system_at f.systems 0) x y
    × (ClauseTrue y (lemma_at f.lemmas n).clause → ⊥))
Accepts f c (Limit j) = ⊥
-- that the purse was spent is no fact about frames: any claim may end so
Accepts f c Spent = Unit {0}

-- the top of j is past the limit, and at each level up to the limit a push failed since a lemma was last added or
-- raised
abbrev pub MeetsLimit : Limits → BookState → ℕ → Type 0
MeetsLimit limits s j =
    (top_at s.frames.tops j ≡ limits.frames + 1) × ((i : ℕ) → 0 < i → i ≤ limits.frames → slice_index_or s.failed i false ≡ true)

-- a limit that is met and was not noted before
abbrev pub IsLimitLeft : Limits → BookState → ℕ → Type 0
IsLimitLeft limits s j = (j < length s.frames.systems) × (slice_index_or s.limited j false ≡ false) × MeetsLimit limits s j

-- what may follow in the same settlement: a lemma that another covers is retired, and a limit that is met now is noted
abbrev pub AcceptsNext : Limits → BookState → Change → Type 0
AcceptsNext limits s (Retire n) = (n < length s.frames.lemmas) × ((lemma_at s.frames.lemmas n).live ≡ true) × IsCovered s.frames n
AcceptsNext limits s (Limit j) = IsLimitLeft limits s j
AcceptsNext limits s c = ⊥

-- each of these may follow
abbrev pub AcceptsEach : Limits → BookState → List Change → Type 0
AcceptsEach limits s [] = Unit {0}
AcceptsEach limits s (c ∷ cs) = AcceptsNext limits s c × AcceptsEach limits (changed s c) cs

-- claim n of this worker is out
abbrev pub IsOut : BookState → ℕ → ℕ → Made → Type 0
IsOut s worker n c = (claim_at s.claims n ≡ Some c) × (c.out ≡ true) × (c.worker ≡ worker)

-- one change comes of this claim, the others follow from it, and at the end each limit that is met is noted
abbrev pub AcceptsAll : Limits → BookState → Made → List Change → Type 0
AcceptsAll limits s c [] = ⊥
AcceptsAll limits s c (d ∷ ds) =
    Accepts s.frames c d × AcceptsEach limits (changed s d) ds × ((j : ℕ) → IsLimitLeft limits (all_changed (changed s d) ds) j → ⊥)

-- ---- Which histories are lawful

-- the entry may stand here
abbrev pub MayStand : Limits → BookState → Entry → Type 0
MayStand limits s (Claim worker subject level) = IsLawfulClaim limits s subject level
MayStand limits s (Settle worker n changes) = (c : Made) × IsOut s worker n c × AcceptsAll limits s c changes.items
MayStand limits s (Back worker n) = (c : Made) × IsOut s worker n c

-- each entry may stand where it does
abbrev pub IsLawful : Limits → BookState → List Entry → Type 0
IsLawful limits s [] = Unit {0}
IsLawful limits s (e ∷ es) = MayStand limits s e × IsLawful limits (after s e) es

-- lemmas with which a history may begin: they hold in each of the systems, which are alike
pub record AreCarried (systems : List TransitionSystem) (carried : List Lemma) : Type 0 where
  pub some : 0 < length systems
  pub alike : AreAlike systems
  pub hold : (j : ℕ) → j < length systems → LemmasHold (system_at systems j) carried
