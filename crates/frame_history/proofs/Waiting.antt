-- Where nothing is decided and nothing may be claimed, some claim is out.
use Rattle.std.proofs.Common.{◌≡◌, ℕ, zero, suc, ◌+◌, ◌-◌, ◌<◌, ◌≤◌, ◌⊎◌, true, false, List, [], ◌∷◌, length, refl, sym, subst, ap, ◌∙◌, inl, inr, arith}
use Rattle.std.specs.Prelude.{Option, Some, None, slice_index_or, replicate}
use Rattle.std.proofs.lemmas.Bool.{cases_Bool, cases_eq, cases_lt}
use Rattle.std.proofs.lemmas.List.{get_or-replicate, get_or_past, length-replicate}
use Rattle.clause_core.specs.Assignments.{assignment_of}
use Rattle.clause_core.specs.Systems.{TransitionSystem, FirstBits}
use Rattle.frame_core.specs.declared.parts.Lemma.{Lemma}
use Rattle.frame_core.specs.declared.outcomes.FramesVerdict.TheVariants.{Invariant, Reached}
use Rattle.frame_core.specs.FrameLaw.{FramesHold, InFrame, system_at, top_at, lemma_at, obligation_at}
use Rattle.frame_core.specs.Changes.{HasNoneAt}
use Rattle.frame_core.proofs.Reaching.{inductive_live}
use Rattle.frame_history.specs.declared.entries.Limits.{Limits}
use Rattle.frame_history.specs.declared.entries.Subject.{Subject}
use Rattle.frame_history.specs.declared.entries.Subject.TheVariants.{Bad, Block, Push}
use Rattle.frame_history.specs.declared.entries.Made.{Made}
use Rattle.frame_history.specs.declared.entries.Change.{Change}
use Rattle.frame_history.specs.declared.entries.Entry.{Entry}
use Rattle.frame_history.specs.declared.entries.Entry.TheVariants.{Claim, Settle, Back}
use Rattle.frame_history.specs.History.{BookState, start, after, replay, claim_at, IsDecided, IsClosed, IsNew, IsOpenTask, IsLawfulClaim, IsLimitLeft, AcceptsAll, MayStand, IsLawful, AreCarried, all_changed}
use Rattle.frame_history.specs.Limits.{SomeIsOut}
use Rattle.frame_history.proofs.Keeping.{keeps_entry, holds_at_start}
use Rattle.frame_history.proofs.Tracking.{IsTracked, EffectOf, HasObligation, history_tracked, start_tracked}

no_way : false ≡ true → ⊥
no_way e = let h : false ≡ true = e in cc

none_is_some : (c : Made) → None ≡ Some c → ⊥
none_is_some c e = let h : None ≡ Some c = e in cc

some_same : (a b : Made) → Some a ≡ Some b → a ≡ b
some_same a b e = let h : Some a ≡ Some b = e in cc

pub holds_all : (limits : Limits) (s : BookState) (es : List Entry) → FramesHold s.frames → IsLawful limits s es → FramesHold (replay s es).frames
holds_all limits s [] h l = h
holds_all limits s (e ∷ es) h l = holds_all limits (after s e) es (keeps_entry limits s e h l.0) l.1

-- ---- No limit is left

left_after_all : (limits : Limits) (s : BookState) (c : Made) (ds : List Change) → AcceptsAll limits s c ds → (j : ℕ) →
    IsLimitLeft limits (all_changed s ds) j → ⊥
left_after_all limits s c [] a = absurd a
left_after_all limits s c (d ∷ ds) a = a.2

left_after : (limits : Limits) (s : BookState) (e : Entry) → MayStand limits s e → ((j : ℕ) → IsLimitLeft limits s j → ⊥) → (j : ℕ) →
    IsLimitLeft limits (after s e) j → ⊥
left_after limits s (Claim worker subject level) m h j left = h j left
left_after limits s (Settle worker n changes) m h j left = left_after_all limits s m.0 changes.items m.2 j left
left_after limits s (Back worker n) m h j left = h j left

left_in : (limits : Limits) (s : BookState) (es : List Entry) → IsLawful limits s es → ((j : ℕ) → IsLimitLeft limits s j → ⊥) → (j : ℕ) →
    IsLimitLeft limits (replay s es) j → ⊥
left_in limits s [] l h = h
left_in limits s (e ∷ es) l h = left_in limits (after s e) es l.1 (left_after limits s e l.0 h)

low_at_start : (m j : ℕ) → top_at (replicate m 0) j ≡ 0
low_at_start m j = elim (cases_lt j m) [
  | inl lt ↦ get_or-replicate m j 0 0 lt
  | inr ge ↦ get_or_past (replicate m 0) j 0 (omega (arith, length-replicate {A = ℕ} m 0))
]

left_at_start : (limits : Limits) (systems : List TransitionSystem) (carried : List Lemma) (j : ℕ) → IsLimitLeft limits (start limits systems carried) j → ⊥
left_at_start limits systems carried j left = let z = low_at_start (length systems) j in omega (arith, left.2.0)

-- ---- Nothing is out, nothing is lawful

-- of finitely many, none of which can fail, all hold as far as that can be denied
all_or_none : (P : ℕ → Type 0) (m : ℕ) → ((j : ℕ) → j < m → (P j → ⊥) → ⊥) → (((j : ℕ) → j < m → P j) → ⊥) → ⊥
all_or_none P zero h k = k (λ j lt. absurd (omega arith))
all_or_none P (suc m) h k =
    all_or_none P m (λ j lt. h j (omega arith)) (λ all. h m (omega arith) (λ p. k (λ j lt. elim (cases_eq j m) [
      | inl e ↦ subst P (sym e) p
      | inr ne ↦ all j (omega arith)
    ])))

pub record IsStuck (limits : Limits) (s : BookState) : Type 0 where
  pub holds : FramesHold s.frames
  pub tracked : IsTracked limits s
  pub none_left : (j : ℕ) → IsLimitLeft limits s j → ⊥
  pub none_out : (n : ℕ) (c : Made) → claim_at s.claims n ≡ Some c → c.out ≡ false
  pub still_open : IsClosed s → ⊥
  pub none_lawful : (u : Subject) (level : ℕ) → IsLawfulClaim limits s u level → ⊥

-- what has had no effect was not claimed before
new_without : (limits : Limits) (s : BookState) (u : Subject) (level : ℕ) → IsStuck limits s → (EffectOf s u level → ⊥) → IsNew s u level
new_without limits s u level h none n c lt is of at same = elim (cases_Bool c.void) [
  | inl on ↦ on
  | inr off ↦
      let e : EffectOf s c.subject c.level = h.tracked.effects n c is (h.none_out n c is) off same in
      absurd (none (subst (λ (v : Subject). EffectOf s v level) of (subst (λ (k : ℕ). EffectOf s c.subject k) at e)))
]

-- so a task that has had no effect may be claimed
claims_one : (limits : Limits) (s : BookState) (u : Subject) (level : ℕ) → IsStuck limits s → IsOpenTask limits s u level → (EffectOf s u level → ⊥) → ⊥
claims_one limits s u level h task none =
    h.none_lawful u level (record { still_open = h.still_open; task = task; new = new_without limits s u level h none })

first_decides : (s : BookState) (j : ℕ) → HasObligation s.frames j 0 → IsDecided s j
first_decides s j has =
    let o = obligation_at s.frames.obligations has.0 in
    let first : FirstBits (system_at s.frames.systems j) (assignment_of o.values) = has.3.0 refl in
    let P : ℕ → Type 0 = λ k. FirstBits (system_at s.frames.systems k) (assignment_of o.values) in
    inl (Reached has.0, (has.1, has.2, subst P (sym has.2) first))

no_obligation_in : (limits : Limits) (s : BookState) (j : ℕ) → IsStuck limits s → (IsDecided s j → ⊥) → top_at s.frames.tops j ≤ limits.frames →
    (bound i : ℕ) → i < bound → i ≤ top_at s.frames.tops j → HasObligation s.frames j i → ⊥
no_obligation_in limits s j h undecided low zero i lt below has = omega arith
no_obligation_in limits s j h undecided low (suc bound) i lt below has = elim (cases_eq i 0) [
  | inl e ↦ undecided (first_decides s j (subst (HasObligation s.frames j) e has))
  | inr ne ↦
      let o : ℕ = has.0 in
      let x = obligation_at s.frames.obligations o in
      let of : x.system ≡ j = has.2 in
      let F : ℕ → ℕ → Type 0 = λ k l. InFrame (system_at s.frames.systems k) s.frames.lemmas l (assignment_of x.values) in
      let inside : F x.system i = subst (λ (k : ℕ). F k i) (sym of) has.3 in
      let least : (k : ℕ) → 0 < k → k < i → F x.system k → ⊥ = λ k some less there.
      no_obligation_in limits s j h undecided low bound k (omega arith) (omega arith) (o, has.1, of, subst (λ (z : ℕ). F z k) of there) in
      let top = ap (λ (k : ℕ). top_at s.frames.tops k) of in
      let task : IsOpenTask limits s (Block o) i =
      (has.1, λ d. undecided (subst (IsDecided s) of d), omega arith, omega arith, (omega arith, inside, least)) in
      claims_one limits s (Block o) i h task (λ effect. elim effect [
        | inl spent ↦ h.still_open (inl spent)
        | inr rest ↦ elim rest [
          | inl out ↦ out inside
          | inr more ↦ no_obligation_in limits s j h undecided low bound (i - 1) (omega arith) (omega arith)
              (subst (λ (z : ℕ). HasObligation s.frames z (i - 1)) of more)
        ]
      ])
]

decided_below : (limits : Limits) (s : BookState) (j : ℕ) → IsStuck limits s → j < length s.frames.systems → top_at s.frames.tops j ≤ limits.frames →
    (IsDecided s j → ⊥) → ⊥
decided_below limits s j h lt low undecided =
    let top : ℕ = top_at s.frames.tops j in
    claims_one limits s (Bad j) top h (lt, undecided, refl, low) (λ effect. elim effect [
      | inl spent ↦ h.still_open (inl spent)
      | inr rest ↦ elim rest [
        | inl up ↦ omega (arith, up)
        | inr has ↦ no_obligation_in limits s j h undecided low (suc top) top (omega arith) (omega arith) has
      ]
    ])

-- a level below the top from which no push failed has no live lemma
empty_level : (limits : Limits) (s : BookState) (j i : ℕ) → IsStuck limits s → j < length s.frames.systems → i < top_at s.frames.tops j →
    slice_index_or s.failed i false ≡ false → HasNoneAt s.frames.lemmas i
empty_level limits s j i h lt below off n here live e =
    let up : (lemma_at s.frames.lemmas n).level < top_at s.frames.tops j = omega arith in
    claims_one limits s (Push n) (i + 1) h (here, live, omega arith, (j, lt, up)) (λ effect. elim effect [
      | inl spent ↦ h.still_open (inl spent)
      | inr rest ↦ elim rest [
        | inl failed ↦ let at : i + 1 - 1 ≡ i = omega arith in no_way (sym off ∙ subst (λ (k : ℕ). slice_index_or s.failed k false ≡ true) at failed)
        | inr high ↦ elim high [
          | inl dead ↦ no_way (sym dead ∙ live)
          | inr more ↦ omega (arith, more)
        ]
      ]
    ])

decided_at : (limits : Limits) (s : BookState) (j : ℕ) → IsStuck limits s → j < length s.frames.systems → limits.frames < top_at s.frames.tops j →
    (IsDecided s j → ⊥) → ⊥
decided_at limits s j h lt high undecided =
    let most = h.tracked.tops j in
    let top : top_at s.frames.tops j ≡ limits.frames + 1 = omega arith in
    let sys : TransitionSystem = system_at s.frames.systems j in
    let failed : (i : ℕ) → 0 < i → i ≤ limits.frames → slice_index_or s.failed i false ≡ true = λ i some low.
    elim (cases_Bool (slice_index_or s.failed i false)) [
      | inl on ↦ on
      | inr off ↦
          let below : i < top_at s.frames.tops j = omega arith in
          let none : HasNoneAt s.frames.lemmas i = empty_level limits s j i h lt below off in
          absurd (undecided (inl (
            Invariant i,
            (
              some,
              below,
              none,
              inductive_live sys s.frames.lemmas (top_at s.frames.tops j) i (h.holds.lemmas j lt) (h.holds.safe j lt) some below none,
            ),
          )))
    ] in
    elim (cases_Bool (slice_index_or s.limited j false)) [
      | inl on ↦ undecided (inr on)
      | inr off ↦ h.none_left j (lt, off, (top, failed))
    ]

never_stuck : (limits : Limits) (s : BookState) → IsStuck limits s → ⊥
never_stuck limits s h =
    all_or_none (IsDecided s) (length s.frames.systems) (λ j lt undecided. elim (cases_lt limits.frames (top_at s.frames.tops j)) [
      | inl high ↦ decided_at limits s j h lt high undecided
      | inr low ↦ decided_below limits s j h lt (omega arith) undecided
    ]) (λ all. h.still_open (inr all))

-- ---- Some claim is out

none_more : (o : Option Made) (claims : List (Option Made)) → ((c : Made) → o ≡ Some c → c.out ≡ false) →
    ((n : ℕ) (c : Made) → claim_at claims n ≡ Some c → c.out ≡ false) → (n : ℕ) (c : Made) → claim_at (o ∷ claims) n ≡ Some c → c.out ≡ false
none_more o claims first rest zero c is = first c is
none_more o claims first rest (suc n) c is = rest n c is

-- a claim that is out, or all are out no more
find_out : (claims : List (Option Made)) → SomeIsOut claims ⊎ ((n : ℕ) (c : Made) → claim_at claims n ≡ Some c → c.out ≡ false)
find_out [] = inr (λ n c is. absurd (none_is_some c (sym (get_or_past [] n None (omega arith)) ∙ is)))
find_out (None ∷ claims) = elim (find_out claims) [
  | inl found ↦ inl (suc found.0, found.1, found.2, found.3)
  | inr none ↦ inr (none_more None claims (λ c is. absurd (none_is_some c is)) none)
]
find_out (Some d ∷ claims) = elim (cases_Bool d.out) [
  | inl on ↦ inl (0, d, refl, on)
  | inr off ↦ elim (find_out claims) [
    | inl found ↦ inl (suc found.0, found.1, found.2, found.3)
    | inr none ↦ inr (none_more (Some d) claims (λ c is. ap (λ (m : Made). m.out) (sym (some_same d c is)) ∙ off) none)
  ]
]

-- where nothing is decided and nothing is lawful, some claim is out
pub some_is_out : (limits : Limits) (systems : List TransitionSystem) (carried : List Lemma) (history : List Entry) → AreCarried systems carried →
    IsLawful limits (start limits systems carried) history → (IsClosed (replay (start limits systems carried) history) → ⊥) →
    ((u : Subject) (level : ℕ) → IsLawfulClaim limits (replay (start limits systems carried) history) u level → ⊥) →
    SomeIsOut (replay (start limits systems carried) history).claims
some_is_out limits systems carried history are lawful undecided none =
    let first : BookState = start limits systems carried in
    let s : BookState = replay first history in
    let holds_first : FramesHold first.frames = holds_at_start systems carried are in
    elim (find_out s.claims) [
      | inl found ↦ found
      | inr not_out ↦ absurd (never_stuck limits s (record {
        holds = holds_all limits first history holds_first lawful;
        tracked = history_tracked limits first history holds_first (start_tracked limits systems carried) lawful;
        none_left = left_in limits first history lawful (left_at_start limits systems carried);
        none_out = not_out;
        still_open = undecided;
        none_lawful = none;
      }))
    ]
