-- What may be claimed, and what may not.
use Rattle.std.proofs.Common.{◌≡◌, ◌⊎◌, inl, inr, ℕ, zero, suc, ◌+◌, ◌<◌, ◌≤◌, Bool, true, false, List, [], ◌∷◌, ◌++◌, length, refl, ap, subst, ◌∙◌, arith}
use Rattle.std.specs.Prelude.{Option, Some, None, MatchOption, slice_index_or}
use Rattle.std.proofs.lemmas.Bool.{cases_eq, cases_lt}
use Rattle.clause_core.specs.Assignments.{assignment_of}
use Rattle.clause_core.specs.Systems.{TransitionSystem}
use Rattle.frame_core.specs.declared.parts.Lemma.{Lemma}
use Rattle.frame_core.specs.declared.outcomes.FramesVerdict.{FramesVerdict}
use Rattle.frame_core.specs.declared.outcomes.FramesVerdict.TheVariants.{Invariant, Reached}
use Rattle.frame_core.specs.FrameLaw.{FrameState, FramesHold, system_at, top_at, lemma_at, obligation_at}
use Rattle.frame_core.specs.Changes.{VerdictSays}
use Rattle.frame_history.specs.declared.entries.Limits.{Limits}
use Rattle.frame_history.specs.declared.entries.Subject.{Subject}
use Rattle.frame_history.specs.declared.entries.Subject.TheVariants.{Bad, Block, Push}
use Rattle.frame_history.specs.declared.entries.Entry.{Entry}
use Rattle.frame_history.specs.declared.entries.Entry.TheVariants.{Claim, Settle, Back}
use Rattle.frame_history.specs.History.{BookState, start, IsDecided, IsClosed, IsLeastLevel, IsNew}
use Rattle.frame_history.proofs.Keeping.{same_systems}
use Rattle.frame_book.specs.declared.picking.Task.{Task}
use Rattle.frame_book.specs.declared.claim.ClaimOutcome.{ClaimOutcome}
use Rattle.frame_book.specs.declared.claim.Claiming.{Claiming}
use Rattle.frame_book.specs.declared.claim.Claiming.TheVariants as claiming
use Rattle.frame_book.specs.declared.claim.Settling.TheVariants as settling
use Rattle.frame_book.specs.declared.claim.Returning.{Returning}
use Rattle.frame_book.specs.declared.claim.Returning.TheVariants as returning
use Rattle.frame_book.specs.Claims.{ClaimView}
use Rattle.book_agenda.specs.Values.{IsBlockedTo}
use Rattle.frame_book.specs.Picking.{IsOpenSystem, IsOffered, IsNotOffered, HasNoTask}
use Rattle.frame_book.specs.Book.{BookView, IsBook, Claims, SettlesBy, Settles, Returns, counts_as, settlements}
use Rattle.frame_book.proofs.Accepted.{inside_by}

says_none : (f : FrameState) (j : ℕ) (v : FramesVerdict) → VerdictSays f j None → VerdictSays f j (Some v) → ⊥
says_none f j (Invariant i) n h = let w = n.0 i h.0 h.1 in h.2 w.0 w.1 w.2 w.3
says_none f j (Reached k) n h = n.1 k h.0 h.1 h.2

pub undecided : (s : BookState) (j : ℕ) → VerdictSays s.frames j None → false ≡ slice_index_or s.limited j false → IsDecided s j → ⊥
undecided s j n off d = elim d [ inl v ↦ says_none s.frames j v.0 n v.1 | inr on ↦ let e = off ∙ on in absurd (cc) ]

-- ---- The level at which an obligation is blocked

pub level_is : (sys : TransitionSystem) (ls : List Lemma) (b level : ℕ) (x : ℕ → Bool) → IsBlockedTo ls b x → IsLeastLevel sys ls level x → level ≡ b + 1
level_is sys ls b level x h least =
    elim (cases_lt (b + 1) level) [
      | inl lt ↦ absurd (least.2 (b + 1) (omega arith) lt (inside_by sys ls b (b + 1) x h (omega arith)))
      | inr le ↦ elim h.at' [
        | inl z ↦ let some = least.0 in omega (arith, z, le, some)
        | inr w ↦ elim (cases_eq level (b + 1)) [
          | inl e ↦ e
          | inr ne ↦
              let at = w.2 in
              let high : level ≤ (lemma_at ls w.0).level = omega (arith, le, ne, at) in
              absurd (w.3 (least.1.1 least.0 w.0 w.1 high))
        ]
      ]
    ]

pub no_block : (limits : Limits) (s : BookState) (o b : ℕ) → IsBlockedTo s.frames.lemmas b (assignment_of (obligation_at s.frames.obligations o).values) →
    ((limits.frames < top_at s.frames.tops (obligation_at s.frames.obligations o).system) ⊎ (top_at s.frames.tops (obligation_at s.frames.obligations o).system ≤ b))
    ⊎ (IsNew s (Block o) (b + 1) → ⊥) → IsNotOffered limits s (Block o)
no_block limits s o b h why level task new =
    let is : level ≡ b + 1 =
    level_is (system_at s.frames.systems (obligation_at s.frames.obligations o).system) s.frames.lemmas b level (assignment_of (obligation_at s.frames.obligations o).values) h task.4 in
    elim why [
      | inl low ↦ elim low [
        | inl lt ↦ let le = task.2 in absurd (omega (arith, lt, le))
        | inr le ↦ let top = task.3 in absurd (omega (arith, le, is, top))
      ]
      | inr old ↦ old (subst (IsNew s (Block o)) is new)
    ]

-- ---- The best so far

pub best_more : (limits : Limits) (s : BookState) (j low high : ℕ) (best result : Option Task) →
    MatchOption best ((k : ℕ) → high ≤ k → k < length s.frames.obligations → (obligation_at s.frames.obligations k).system ≡ j → IsNotOffered limits s (Block k)) (λ t. IsOffered limits s t.subject t.level) →
    ((t : Task) → result ≡ Some t → (best ≡ Some t) ⊎ IsOffered limits s t.subject t.level) →
    (result ≡ None → (best ≡ None) × ((k : ℕ) → low ≤ k → k < high → k < length s.frames.obligations → (obligation_at s.frames.obligations k).system ≡ j → IsNotOffered limits s (Block k))) →
    MatchOption result ((k : ℕ) → low ≤ k → k < length s.frames.obligations → (obligation_at s.frames.obligations k).system ≡ j → IsNotOffered limits s (Block k)) (λ t. IsOffered limits s t.subject t.level)
best_more limits s j low high None None before some none =
    λ k le lt of. elim (cases_lt k high) [ inl below ↦ (none refl).1 k le below lt of | inr above ↦ before k above lt of ]
best_more limits s j low high (Some b) None before some none = let e : Some b ≡ None = (none refl).0 in absurd (cc)
best_more limits s j low high None (Some t) before some none =
    elim (some t refl) [ inl e ↦ let f : None ≡ Some t = e in absurd (cc) | inr h ↦ h ]
best_more limits s j low high (Some b) (Some t) before some none =
    elim (some t refl) [
      | inl e ↦ let f : b ≡ t = some_same b t e in subst (λ (z : Task). IsOffered limits s z.subject z.level) f before
      | inr h ↦ h
    ]
  where
    some_same : (x y : Task) → Some x ≡ Some y → x ≡ y
    some_same x y e = cc

pub best_all : (limits : Limits) (s : BookState) (j low : ℕ) (best : Option Task) → low ≤ 0 →
    MatchOption best ((k : ℕ) → low ≤ k → k < length s.frames.obligations → (obligation_at s.frames.obligations k).system ≡ j → IsNotOffered limits s (Block k)) (λ t. IsOffered limits s t.subject t.level) →
    MatchOption best ((k : ℕ) → k < length s.frames.obligations → (obligation_at s.frames.obligations k).system ≡ j → IsNotOffered limits s (Block k))
    (λ t. IsOffered limits s t.subject t.level)
best_all limits s j low None le h = λ k lt of. h k (omega (arith, le)) lt of
best_all limits s j low (Some t) le h = h

none_at_all : (limits : Limits) (s : BookState) → FramesHold s.frames →
    ((k : ℕ) → k < length s.frames.systems → IsDecided s k ⊎ HasNoTask limits s k) →
    ((n : ℕ) → n < length s.frames.lemmas → IsNotOffered limits s (Push n)) → (u : Subject) → IsNotOffered limits s u
none_at_all limits s law each pushes (Bad j) = λ level task new. elim (each j task.0) [ inl d ↦ task.1 d | inr n ↦ n.0 level task new ]
none_at_all limits s law each pushes (Block o) =
    λ level task new. elim (each (obligation_at s.frames.obligations o).system (law.obligations o task.0).of) [
      | inl d ↦ task.1 d
      | inr n ↦ n.1 o task.0 refl level task new
    ]
none_at_all limits s law each pushes (Push n) = λ level task new. pushes n task.0 level task new

pub picked : (limits : Limits) (s : BookState) (result : Option Task) → FramesHold s.frames →
    ((k : ℕ) → k < length s.frames.systems → IsDecided s k ⊎ HasNoTask limits s k) →
    MatchOption result ((n : ℕ) → n < length s.frames.lemmas → IsNotOffered limits s (Push n)) (λ t. IsOffered limits s t.subject t.level) →
    MatchOption result ((u : Subject) → IsNotOffered limits s u) (λ t. IsOffered limits s t.subject t.level)
picked limits s None law each h = none_at_all limits s law each h
picked limits s (Some t) law each h = h

-- ---- How many settlements there are

pub settlements-push : (es : List Entry) (e : Entry) → settlements (es ++ e ∷ []) ≡ settlements es + counts_as e
settlements-push [] e = omega arith
settlements-push (x ∷ es) e = omega (arith, settlements-push es e)

pub claims_counted : (b now : BookView) (w : ℕ) (a : Claiming) → Claims b w a now → settlements now.history ≡ settlements b.history
claims_counted b now w (claiming.Task c) h =
    ap (λ (z : BookView). settlements z.history) h.1 ∙ omega (arith, settlements-push b.history (Claim w c.subject c.level))
claims_counted b now w claiming.Idle h = ap (λ (z : BookView). settlements z.history) h.3
claims_counted b now w claiming.Closed h = ap (λ (z : BookView). settlements z.history) h.1

pub returns_counted : (b now : BookView) (v : ClaimView) (r : Returning) → Returns b v r now → settlements now.history ≡ settlements b.history
returns_counted b now v returning.Back h =
    ap (λ (z : BookView). settlements z.history) h.1 ∙ omega (arith, settlements-push b.history (Back v.worker v.number))
returns_counted b now v (returning.NotOut n) h = ap (λ (z : BookView). settlements z.history) h.2

settle_counts : (b : BookView) (v : ClaimView) (o : ClaimOutcome) (e : Entry) → SettlesBy b v o e → counts_as e ≡ suc zero
settle_counts b v o (Settle worker n changes) h = refl
settle_counts b v o (Claim worker subject level) h = absurd h
settle_counts b v o (Back worker n) h = absurd h

pub settles_counted : (b now : BookView) (v : ClaimView) (o : ClaimOutcome) → Settles b v o settling.Settled now → settlements now.history ≡ settlements b.history + 1
settles_counted b now v o h =
    let e : Entry = h.1.0 in
    let one = settle_counts b v o e h.1.1 in
    ap (λ (z : BookView). settlements z.history) h.1.2 ∙ omega (arith, settlements-push b.history e, one)

pub book_systems : (b : BookView) → IsBook b → b.state.frames.systems ≡ b.systems
book_systems b h = ap (λ (s : BookState). s.frames.systems) h.replayed ∙ same_systems (start b.limits b.systems b.carried) b.history

pub not_closed : (s : BookState) (j : ℕ) → IsOpenSystem s j → IsClosed s → ⊥
not_closed s j h closed =
    elim closed [
      | inl spent ↦ let e = h.unspent in let f : s.spent ≡ true = spent in absurd (cc)
      | inr all ↦ h.open' (all j h.in')
    ]
