-- What is accepted of a claim.
use Rattle.std.proofs.Common.{◌≡◌, ℕ, ◌+◌, ◌-◌, ◌<◌, ◌≤◌, Bool, true, false, List, [], ◌∷◌, ◌++◌, length, refl, sym, ap, subst, ◌∙◌, arith, append_assoc, length-append, get_or}
use Rattle.std.specs.Prelude.{Some, None, All}
use Rattle.clause_core.specs.declared.literal.Lit.{Lit}
use Rattle.clause_core.specs.Assignments.{ClauseTrue, assignment_of}
use Rattle.clause_core.specs.Systems.{TransitionSystem, NextIs, StepBits, BadBits}
use Rattle.frame_core.specs.declared.parts.Lemma.{Lemma}
use Rattle.frame_core.specs.declared.parts.Parent.{Parent}
use Rattle.frame_core.specs.declared.outcomes.Insertion.TheVariants as insertion
use Rattle.frame_core.specs.declared.outcomes.Raising.TheVariants as raising
use Rattle.frame_core.specs.declared.outcomes.Opening.TheVariants as opening
use Rattle.frame_core.specs.Facts.{ProvedClause, IsProved, FoundState, IsFound, FoundStep, IsStep, ClearLevel, IsClear, MeetsParents}
use Rattle.frame_core.specs.Differences.{IsSameSystem}
use Rattle.frame_core.specs.FrameLaw.{FrameState, FramesHold, AreAlike, system_at, top_at, lemma_at, obligation_at, IsAsHigh, AllStand, InFrame, MeetsFrom}
use Rattle.frame_core.specs.Looking.{IsHeldBy, CoversAt, AreCoveredBy}
use Rattle.book_agenda.proofs.Blocked.{lemma_old, lemma_last}
use Rattle.frame_book.specs.declared.claim.ClaimOutcome.TheVariants as outcome
use Rattle.frame_core.specs.Changes.{InsertsSame, RaisesSame, OpensSame, with_lemma, with_level, with_top}
use Rattle.frame_core.proofs.Changing.{Shown, shown}
use Rattle.frame_core.proofs.States.{shown_same, first_same, step_same, bad_same, same_back}
use Rattle.frame_history.specs.declared.entries.Subject.TheVariants.{Bad, Block, Push}
use Rattle.frame_history.specs.declared.entries.Made.{Made}
use Rattle.frame_history.specs.declared.entries.Lag.TheVariants as lag
use Rattle.frame_history.specs.declared.entries.Change.{Change}
use Rattle.frame_history.specs.declared.entries.Change.TheVariants.{Add, Raise, Held, Retire, Behind, Dropped, Note, Open, PushFailed, Limit, Spent}
use Rattle.frame_history.specs.declared.entries.Limits.{Limits}
use Rattle.frame_book.specs.Marked.{Marking, NotesEach}
use Rattle.frame_history.specs.History.{IsShown, BlocksBy, Accepts, asked_system, asked_level}
use Rattle.book_agenda.specs.Values.{IsBlockedTo}
use Rattle.frame_book.specs.Outcomes.{EndsIn}
use Rattle.frame_core.specs.Facts.{IsPart}
use Rattle.frame_book.specs.Steps.{Retires, IsCoveredBy, AreSameLemmas, Comes, adds}

-- a clause that was proved of the frames' system, with parents that stand, is shown
pub shown_here : (f : FrameState) (p : ProvedClause) → IsProved p → IsSameSystem false (system_at f.systems 0) p.system → AllStand f.lemmas (p.level - 1) p.parents →
    IsShown f p.clause p.level p.parents
shown_here f p proved same stand =
    let s : Shown (system_at f.systems 0) p.clause p.level p.parents = shown_same false (system_at f.systems 0) p.system p.clause p.level p.parents same (shown p proved) in
    record { above = s.above; within = s.within; first = s.first; step = s.step; stand = stand }

-- ---- A clause is proved

pub added_is : (f now : FrameState) (c : Made) (o n : ℕ) (p : ProvedClause) (clause : List Lit) (level : ℕ) (parents : List Parent) → c.subject ≡ Block o →
    p.level ≡ c.level → (ClauseTrue (assignment_of (obligation_at f.obligations o).values) p.clause → ⊥) →
    IsSameSystem false (system_at f.systems 0) p.system → IsProved p → InsertsSame f p (insertion.Added n) now → clause ≡ p.clause → level ≡ p.level →
    parents ≡ p.parents → (((k : ℕ) × BlocksBy f c k level clause) × IsShown f clause level parents) × (now ≡ with_lemma f clause level)
added_is f now c o n p clause level parents su lv unmet same proved done e1 e2 e3 =
    let T : List Lit → ℕ → List Parent → Type 0 = λ cl l ps. (((k : ℕ) × BlocksBy f c k l cl) × IsShown f cl l ps) × (now ≡ with_lemma f cl l) in
    let base : T p.clause p.level p.parents = (((o, (su, sym lv, unmet)), shown_here f p proved same done.1), done.3) in
    subst (λ (cl : List Lit). T cl level parents) (sym e1)
    (subst (λ (l : ℕ). T p.clause l parents) (sym e2) (subst (λ (ps : List Parent). T p.clause p.level ps) (sym e3) base))

pub held_is : (f now : FrameState) (c : Made) (o n : ℕ) (p : ProvedClause) (clause : List Lit) (level : ℕ) → c.subject ≡ Block o →
    p.level ≡ c.level → (ClauseTrue (assignment_of (obligation_at f.obligations o).values) p.clause → ⊥) →
    InsertsSame f p (insertion.Held n) now → clause ≡ p.clause → level ≡ p.level →
    (((k : ℕ) × BlocksBy f c k level clause) × IsHeldBy f.lemmas clause level n) × (now ≡ f)
held_is f now c o n p clause level su lv unmet done e1 e2 =
    let T : List Lit → ℕ → Type 0 = λ cl l. (((k : ℕ) × BlocksBy f c k l cl) × IsHeldBy f.lemmas cl l n) × (now ≡ f) in
    let base : T p.clause p.level = (((o, (su, sym lv, unmet)), done.0), done.1) in
    subst (λ (cl : List Lit). T cl level) (sym e1) (subst (λ (l : ℕ). T p.clause l) (sym e2) base)

pub raised_is : (f now : FrameState) (c : Made) (n : ℕ) (p : ProvedClause) (level : ℕ) (parents : List Parent) → c.subject ≡ Push n →
    n < length f.lemmas → p.level ≡ c.level → p.clause ≡ (lemma_at f.lemmas n).clause → IsSameSystem false (system_at f.systems 0) p.system → IsProved p →
    RaisesSame f n p raising.Raised now → level ≡ p.level → parents ≡ p.parents →
    ((c.subject ≡ Push n) × (c.level ≡ level) × (n < length f.lemmas) × (IsAsHigh f.lemmas n level → ⊥) × IsShown f (lemma_at f.lemmas n).clause level parents)
    × (now ≡ with_level f n level)
raised_is f now c n p level parents su lt lv cl same proved done e2 e3 =
    let T : ℕ → List Parent → Type 0 =
    λ l ps. ((c.subject ≡ Push n) × (c.level ≡ l) × (n < length f.lemmas) × (IsAsHigh f.lemmas n l → ⊥) × IsShown f (lemma_at f.lemmas n).clause l ps)
    × (now ≡ with_level f n l) in
    let shown' : IsShown f (lemma_at f.lemmas n).clause p.level p.parents =
    subst (λ (z : List Lit). IsShown f z p.level p.parents) cl (shown_here f p proved same done.1) in
    let base : T p.level p.parents = ((su, sym lv, lt, done.0, shown'), done.2) in
    subst (λ (l : ℕ). T l parents) (sym e2) (subst (λ (ps : List Parent). T p.level ps) (sym e3) base)

-- ---- A level is clear

meets_stand : (f : FrameState) (least : ℕ) (parents : List Parent) (x : ℕ → Bool) → 0 < least → AllStand f.lemmas least parents →
    ((n : ℕ) → n < length f.lemmas → least ≤ (lemma_at f.lemmas n).level → ClauseTrue x (lemma_at f.lemmas n).clause) → MeetsParents parents x
meets_stand f least parents x some stand meets k d lt =
    let s = stand some k d lt in
    subst (ClauseTrue x) s.1 (meets _ s.0 s.2)

pub opened_is : (f now : FrameState) (c : Made) (j : ℕ) (k : ClearLevel) → c.subject ≡ Bad j → j < length f.systems → k.level ≡ c.level →
    IsSameSystem true (system_at f.systems j) k.system → IsClear k → OpensSame f j k opening.Opened now →
    ((c.subject ≡ Bad j) × (c.level ≡ top_at f.tops j) × (j < length f.systems)
    × ((x : ℕ → Bool) → InFrame (system_at f.systems j) f.lemmas (top_at f.tops j) x → BadBits (system_at f.systems j) x → ⊥))
    × (now ≡ with_top f j)
opened_is f now c j k su lt lv same clear done = (
  (
    su,
    sym lv ∙ done.0,
    lt,
    λ x inside bad. clear.safe x
        (λ e. first_same true (system_at f.systems j) k.system same x (inside.0 (sym done.0 ∙ e)))
        (λ some. meets_stand f (top_at f.tops j) k.parents x (subst (λ (z : ℕ). 0 < z) done.0 some) done.1
        (inside.1 (subst (λ (z : ℕ). 0 < z) done.0 some)))
        (bad_same (system_at f.systems j) k.system same x bad),
  ),
  done.2,
)

-- ---- A state is found

pub inside_same : (w : Bool) (a b : TransitionSystem) (ls : List Lemma) (i : ℕ) (x : ℕ → Bool) → IsSameSystem w a b → InFrame a ls i x → InFrame b ls i x
inside_same w a b ls i x same h = (λ e. first_same w a b same x (h.0 e), h.1)

pub inside_by : (sys : TransitionSystem) (ls : List Lemma) (r i : ℕ) (x : ℕ → Bool) → IsBlockedTo ls r x → r < i → InFrame sys ls i x
inside_by sys ls r i x blocked lt = (λ e. absurd (omega arith), λ some n in' high. blocked.above n in' (omega arith))

pub bad_lags : (f : FrameState) (c : Made) (j : ℕ) (sys : TransitionSystem) (values : List Bool) → c.subject ≡ Bad j → IsSameSystem true (system_at f.systems j) sys →
    (InFrame sys f.lemmas c.level (assignment_of values) → ⊥) → Accepts f c (Behind (lag.State values))
bad_lags f c j sys values su same out =
    λ inside.
    let here : InFrame (system_at f.systems (asked_system f (Bad j))) f.lemmas (asked_level (Bad j) c.level) (assignment_of values) =
    subst (λ u. InFrame (system_at f.systems (asked_system f u)) f.lemmas (asked_level u c.level) (assignment_of values)) su inside in
    out (inside_same true (system_at f.systems j) sys f.lemmas c.level (assignment_of values) same here)

pub bad_noted : (f : FrameState) (c : Made) (j : ℕ) (g : FoundState) → c.subject ≡ Bad j → c.level ≡ top_at f.tops j → j < length f.systems →
    g.is_step ≡ false → IsSameSystem true (system_at f.systems j) g.system → IsFound g → InFrame g.system f.lemmas c.level (assignment_of g.values) →
    Accepts f c (Note j g.values None g.first)
bad_noted f c j g su at lt kind same found inside =
    let back = same_back true (system_at f.systems j) g.system same in (
      (
        su,
        at,
        lt,
        subst (λ (cs : List (List Lit)). All (ClauseTrue (assignment_of g.values)) cs) (back.bad refl) (found.bad kind),
        inside_same true g.system (system_at f.systems j) f.lemmas c.level (assignment_of g.values) back inside,
      ),
      found.whole ∙ back.all_bits,
      record {
        is_first = λ e. first_same true g.system (system_at f.systems j) back (assignment_of g.values) (found.flag.is_first e);
        not_first = λ e h. found.flag.not_first e (first_same true (system_at f.systems j) g.system same (assignment_of g.values) h);
      },
    )

-- the systems are alike, and so is any of them to one that is the same as the first
same_with : (f : FrameState) (j : ℕ) (sys : TransitionSystem) → AreAlike f.systems → j < length f.systems → IsSameSystem false (system_at f.systems 0) sys →
    IsSameSystem false (system_at f.systems j) sys
same_with f j sys alike lt same =
    let a = alike j lt in
    record {
      state_bits = sym a.state_bits ∙ same.state_bits;
      all_bits = sym a.all_bits ∙ same.all_bits;
      init = sym a.init ∙ same.init;
      step = sym a.step ∙ same.step;
      bad = λ e. let no' : false ≡ true = e in absurd (cc);
      good = λ e. let no' : false ≡ true = e in absurd (cc);
    }

pub same_of : (f : FrameState) (o : ℕ) (sys : TransitionSystem) → FramesHold f → o < length f.obligations → IsSameSystem false (system_at f.systems 0) sys →
    IsSameSystem false (system_at f.systems (obligation_at f.obligations o).system) sys
same_of f o sys h lt same = same_with f (obligation_at f.obligations o).system sys h.alike (h.obligations o lt).of same

pub step_lags : (f : FrameState) (c : Made) (o : ℕ) (sys : TransitionSystem) (values : List Bool) → FramesHold f → c.subject ≡ Block o →
    o < length f.obligations → IsSameSystem false (system_at f.systems 0) sys → (InFrame sys f.lemmas (c.level - 1) (assignment_of values) → ⊥) →
    Accepts f c (Behind (lag.State values))
step_lags f c o sys values h su lt same out =
    λ inside.
    let here : InFrame (system_at f.systems (asked_system f (Block o))) f.lemmas (asked_level (Block o) c.level) (assignment_of values) =
    subst (λ u. InFrame (system_at f.systems (asked_system f u)) f.lemmas (asked_level u c.level) (assignment_of values)) su inside in
    out (inside_same false (system_at f.systems (obligation_at f.obligations o).system) sys f.lemmas (c.level - 1) (assignment_of values) (same_of f o sys h lt same) here)

pub step_noted : (f : FrameState) (c : Made) (o j : ℕ) (g : FoundState) → FramesHold f → c.subject ≡ Block o → o < length f.obligations →
    j ≡ (obligation_at f.obligations o).system → g.is_step ≡ true → EndsIn g (obligation_at f.obligations o).values →
    IsSameSystem false (system_at f.systems 0) g.system → IsFound g → InFrame g.system f.lemmas (c.level - 1) (assignment_of g.values) →
    Accepts f c (Note j g.values (Some o) g.first)
step_noted f c o j g h su lt of kind ends same found inside =
    let x : ℕ → Bool = assignment_of g.values in
    let s : TransitionSystem = system_at f.systems j in
    let there : IsSameSystem false s g.system = subst (λ (k : ℕ). IsSameSystem false (system_at f.systems k) g.system) (sym of) (same_of f o g.system h lt same) in
    let back : IsSameSystem false g.system s = same_back false s g.system there in (
      (
        su,
        lt,
        sym of,
        subst (λ (cs : List (List Lit)). All (ClauseTrue x) cs) back.step (found.step kind),
        subst (λ (n : ℕ). NextIs n x (assignment_of (obligation_at f.obligations o).values)) back.state_bits ends,
        inside_same false g.system s f.lemmas (c.level - 1) x back inside,
      ),
      found.whole ∙ back.all_bits,
      record {
        is_first = λ e. first_same false g.system s back x (found.flag.is_first e);
        not_first = λ e k. found.flag.not_first e (first_same false s g.system there x k);
      },
    )

pub left_is : (f : FrameState) (c : Made) (n level : ℕ) (s : FoundStep) → c.subject ≡ Push n → c.level ≡ level + 1 → 0 < level → IsStep s →
    IsSameSystem false (system_at f.systems 0) s.system →
    ((y : ℕ → Bool) → NextIs s.system.state_bits (assignment_of s.values) y → ClauseTrue y (lemma_at f.lemmas n).clause → ⊥) →
    MeetsFrom f.lemmas level (assignment_of s.values) → Accepts f c (PushFailed n level)
left_is f c n level s su lv above step same leaves meets =
    let x : ℕ → Bool = assignment_of s.values in
    let y : ℕ → Bool = λ b. x (s.system.state_bits + b) in
    let next : NextIs s.system.state_bits x y = λ b below. refl in
    let taken : StepBits s.system x y = (x, λ v below. refl, next, step.step) in (
      su,
      lv,
      (
        x,
        y,
        (λ e. absurd (omega (arith, above, e)), λ some. meets),
        step_same false s.system (system_at f.systems 0) (same_back false (system_at f.systems 0) s.system same) x y taken,
        leaves y next,
      ),
    )

-- ---- Lemmas are retired, one after another

pub retires_more : (f g h : FrameState) (ds es : List Change) → Retires f ds g → Retires g es h → Retires f (ds ++ es) h
retires_more f g h [] es a b = subst (λ (z : FrameState). Retires z es h) a b
retires_more f g h (Retire n ∷ ds) es a b = (a.0, a.1, a.2, retires_more _ g h ds es a.3 b)
retires_more f g h (Add clause level parents ∷ ds) es a b = absurd a
retires_more f g h (Raise n level parents ∷ ds) es a b = absurd a
retires_more f g h (Held n clause level ∷ ds) es a b = absurd a
retires_more f g h (Behind l ∷ ds) es a b = absurd a
retires_more f g h (Dropped ∷ ds) es a b = absurd a
retires_more f g h (Note j values parent first ∷ ds) es a b = absurd a
retires_more f g h (Open j ∷ ds) es a b = absurd a
retires_more f g h (PushFailed n level ∷ ds) es a b = absurd a
retires_more f g h (Limit j ∷ ds) es a b = absurd a
retires_more f g h (Spent ∷ ds) es a b = absurd a

pub same_trans : (xs ys zs : List Lemma) → AreSameLemmas xs ys → AreSameLemmas ys zs → AreSameLemmas xs zs
same_trans xs ys zs x y =
    record { as_many = y.as_many ∙ x.as_many; clause = λ n. y.clause n ∙ x.clause n; level = λ n. y.level n ∙ x.level n }

pub covered_still : (xs ys : List Lemma) (m n : ℕ) → AreSameLemmas xs ys → IsCoveredBy xs m n → IsCoveredBy ys m n
covered_still xs ys m n s h = (
  subst (λ (k : ℕ). n < k) (sym s.as_many) h.0,
  h.1,
  subst (λ (c : List Lit). IsPart c (lemma_at ys n).clause) (sym (s.clause m))
      (subst (λ (c : List Lit). IsPart (lemma_at xs m).clause c) (sym (s.clause n)) h.2),
  subst (λ (k : ℕ). k ≤ (lemma_at ys m).level) (sym (s.level n)) (subst (λ (k : ℕ). (lemma_at xs n).level ≤ k) (sym (s.level m)) h.3),
)

pub retired_more : (f g h : FrameState) (xs ys zs : List Change) → ((ds : List Change) × (ys ≡ xs ++ ds) × Retires f ds g) →
    ((es : List Change) × (zs ≡ ys ++ es) × Retires g es h) → (ds : List Change) × (zs ≡ xs ++ ds) × Retires f ds h
retired_more f g h xs ys zs a b =
    (a.0 ++ b.0, b.1 ∙ ap (λ (z : List Change). z ++ b.0) a.1 ∙ append_assoc xs a.0 b.0, retires_more f g h a.0 b.0 a.2 b.2)

-- ---- Limits are noted, one after another

pub notes_more : (limits : Limits) (f : FrameState) (l m n : Marking) (ds es : List Change) → NotesEach limits f l ds m → NotesEach limits f m es n →
    NotesEach limits f l (ds ++ es) n
notes_more limits f l m n [] es a b = subst (λ (z : Marking). NotesEach limits f z es n) a b
notes_more limits f l m n (Limit j ∷ ds) es a b = (a.0, notes_more limits f _ m n ds es a.1 b)
notes_more limits f l m n (Retire k ∷ ds) es a b = absurd a
notes_more limits f l m n (Add clause level parents ∷ ds) es a b = absurd a
notes_more limits f l m n (Raise k level parents ∷ ds) es a b = absurd a
notes_more limits f l m n (Held k clause level ∷ ds) es a b = absurd a
notes_more limits f l m n (Behind g ∷ ds) es a b = absurd a
notes_more limits f l m n (Dropped ∷ ds) es a b = absurd a
notes_more limits f l m n (Note j values parent first ∷ ds) es a b = absurd a
notes_more limits f l m n (Open j ∷ ds) es a b = absurd a
notes_more limits f l m n (PushFailed k level ∷ ds) es a b = absurd a
notes_more limits f l m n (Spent ∷ ds) es a b = absurd a

pub noted_more : (limits : Limits) (f : FrameState) (l m n : Marking) (xs ys zs : List Change) →
    ((ds : List Change) × (ys ≡ xs ++ ds) × NotesEach limits f l ds m) → ((es : List Change) × (zs ≡ ys ++ es) × NotesEach limits f m es n) →
    (ds : List Change) × (zs ≡ xs ++ ds) × NotesEach limits f l ds n
noted_more limits f l m n xs ys zs a b =
    (a.0 ++ b.0, b.1 ∙ ap (λ (z : List Change). z ++ b.0) a.1 ∙ append_assoc xs a.0 b.0, notes_more limits f l m n a.0 b.0 a.2 b.2)

-- ---- A lemma that was added covers others

covers_one : (f g : FrameState) (clause : List Lit) (level m n : ℕ) → g ≡ with_lemma f clause level → m ≡ length f.lemmas →
    CoversAt f.lemmas clause level n → IsCoveredBy g.lemmas m n
covers_one f g clause level m n is at covers =
    let l : Lemma = record { clause = clause; level = level; live = true } in
    let more : List Lemma = f.lemmas ++ l ∷ [] in
    let len : length more ≡ length f.lemmas + 1 = length-append f.lemmas (l ∷ []) in
    let lt = covers.0 in
    let old : lemma_at more n ≡ lemma_at f.lemmas n = lemma_old f.lemmas l n lt in
    let new : lemma_at more m ≡ l = lemma_last f.lemmas l m (sym at) in
    let base : IsCoveredBy more m n = (
      omega (arith, len, lt),
      (λ e. let e' : m ≡ n = e in absurd (omega (arith, e', at, lt))),
      subst (λ (z : Lemma). IsPart z.clause (lemma_at more n).clause) (sym new)
          (subst (λ (z : Lemma). IsPart clause z.clause) (sym old) covers.3),
      subst (λ (z : Lemma). (lemma_at more n).level ≤ z.level) (sym new) (subst (λ (z : Lemma). z.level ≤ level) (sym old) covers.2),
    ) in
    subst (λ (z : FrameState). IsCoveredBy z.lemmas m n) (sym is) base

pub covers_each : (f g : FrameState) (c : Made) (p : ProvedClause) (d : Change) (m : ℕ) (numbers : List ℕ) → Comes f c (outcome.Proved p) d g →
    adds d ≡ true → m ≡ length f.lemmas → AreCoveredBy f.lemmas p.clause p.level (length f.lemmas) numbers →
    All (IsCoveredBy g.lemmas m) numbers × ((lemma_at g.lemmas m).live ≡ true) × (m < length g.lemmas)
covers_each f g c p (Add clause level parents) m numbers h adds' at are =
    let l : Lemma = record { clause = clause; level = level; live = true } in
    let new : lemma_at (f.lemmas ++ l ∷ []) m ≡ l = lemma_last f.lemmas l m (sym at) in
    let len : length (f.lemmas ++ l ∷ []) ≡ length f.lemmas + 1 = length-append f.lemmas (l ∷ []) in (
      λ k d lt. covers_one f g clause level m (get_or numbers k d) h.changes at
          (subst (λ (z : List Lit). CoversAt f.lemmas z level (get_or numbers k d)) (sym h.tells.0)
          (subst (λ (z : ℕ). CoversAt f.lemmas p.clause z (get_or numbers k d)) (sym h.tells.1) (are.each k d lt))),
      subst (λ (z : FrameState). (lemma_at z.lemmas m).live ≡ true) (sym h.changes) (ap (λ (z : Lemma). z.live) new),
      subst (λ (z : FrameState). m < length z.lemmas) (sym h.changes) (omega (arith, len, at)),
    )
covers_each f g c p (Raise n level parents) m numbers h adds' at are = absurd (cc)
covers_each f g c p (Held n clause level) m numbers h adds' at are = absurd (cc)
covers_each f g c p (Retire n) m numbers h adds' at are = absurd (cc)
covers_each f g c p (Behind l) m numbers h adds' at are = absurd (cc)
covers_each f g c p Dropped m numbers h adds' at are = absurd (cc)
covers_each f g c p (Note j values parent first) m numbers h adds' at are = absurd (cc)
covers_each f g c p (Open j) m numbers h adds' at are = absurd (cc)
covers_each f g c p (PushFailed n level) m numbers h adds' at are = absurd (cc)
covers_each f g c p (Limit j) m numbers h adds' at are = absurd (cc)
covers_each f g c p Spent m numbers h adds' at are = absurd (cc)
