-- What stands of claims that were settled: so where no claim is out, and not all is decided, one is lawful.
use Rattle.std.proofs.Common.{◌≡◌, ◌⊎◌, inl, inr, ℕ, zero, suc, ◌+◌, ◌-◌, ◌<◌, ◌≤◌, Bool, true, false, List, [], ◌∷◌, ◌++◌, length, set, refl, sym, ap, subst, ◌∙◌, arith, length-append, length-set, get_or-set_same, get_or-set_other, replicate}
use Rattle.std.proofs.lemmas.List.{length-replicate}
use Rattle.std.specs.Prelude.{Option, Some, None, slice_index_or, if◌then◌else◌}
use Rattle.std.proofs.lemmas.Bool.{cases_eq, cases_lt}
use Rattle.clause_core.specs.Assignments.{ClauseTrue, assignment_of}
use Rattle.clause_core.specs.Systems.{TransitionSystem, FirstBits}
use Rattle.frame_core.specs.declared.parts.Lemma.{Lemma}
use Rattle.frame_core.specs.declared.parts.Obligation.{Obligation}
use Rattle.frame_core.specs.FrameLaw.{FrameState, FramesHold, no_lemma, system_at, top_at, lemma_at, obligation_at, InFrame}
use Rattle.frame_core.specs.Changes.{VerdictSays, with_retired}
use Rattle.frame_core.proofs.Changing.{ClauseTrue-part}
use Rattle.frame_history.specs.declared.entries.Limits.{Limits}
use Rattle.frame_history.specs.declared.entries.Subject.{Subject}
use Rattle.frame_history.specs.declared.entries.Subject.TheVariants.{Bad, Block, Push}
use Rattle.frame_history.specs.declared.entries.Made.{Made}
use Rattle.frame_history.specs.declared.entries.Change.{Change}
use Rattle.frame_history.specs.declared.entries.Change.TheVariants.{Add, Raise, Held, Retire, Behind, Dropped, Note, Open, PushFailed, Limit, Spent}
use Rattle.frame_history.specs.History.{BookState, start, ended, Accepts, claim_at, IsOpenTask, IsNew, IsLeastLevel, IsDecided}
use Rattle.book_agenda.specs.Values.{IsBlockedTo, AreBlocked, blocked_at}
use Rattle.book_agenda.specs.Register.{AreOrderly, outs}
use Rattle.frame_book.specs.Steps.{AreSameLemmas, framed, grows, lags, head_of, Comes, Retires, HasSettled}
use Rattle.frame_book.specs.Pages.{state_of, FitsIn, AreSane}
use Rattle.frame_book.specs.Backed.{HasInFrame, IsBacked, AreBacked, IsWithin, spends, failed_after}
use Rattle.book_agenda.proofs.Blocked.{obligation_old, obligation_last}
use Rattle.frame_book.proofs.Accepted.{inside_by}
use Rattle.frame_book.specs.declared.claim.ClaimOutcome.{ClaimOutcome}
use Rattle.frame_book.specs.Marked.{Marking, marks_of, marked, LimitIsLeft, NotesEach}
use Rattle.frame_book.proofs.Entering.{growth_after}
use Rattle.book_agenda.proofs.Orderly.{outs_some, claim_snoc, claim_set, some_is, was, Was, end_of}
use Rattle.frame_book.proofs.Sane.{Evolves, evolves_framed, same_framed, retires_evolve, fits_still}

-- ---- It goes on standing

inside_still : (xs ys : List Lemma) (sys : TransitionSystem) (i : ℕ) (x : ℕ → Bool) → AreSameLemmas xs ys → InFrame sys xs i x → InFrame sys ys i x
inside_still xs ys sys i x s h = (
  h.0,
  λ some n lt high. subst (ClauseTrue x) (sym (s.clause n)) (h.1 some n (let l = s.as_many in omega arith) (let l = s.level n in omega arith)),
)

inside_back : (xs ys : List Lemma) (sys : TransitionSystem) (i : ℕ) (x : ℕ → Bool) → AreSameLemmas xs ys → InFrame sys ys i x → InFrame sys xs i x
inside_back xs ys sys i x s h = (
  h.0,
  λ some n lt high. subst (ClauseTrue x) (s.clause n) (h.1 some n (let l = s.as_many in omega arith) (let l = s.level n in omega arith)),
)

has_still : (f g : FrameState) (j i o : ℕ) → Evolves f g → AreSameLemmas f.lemmas g.lemmas → HasInFrame f j i o → HasInFrame g j i o
has_still f g j i o e s h =
    let x = e.obligations o h.0 in
    let P : Obligation → Type 0 = λ z. (z.system ≡ j) × InFrame (system_at f.systems j) f.lemmas i (assignment_of z.values) in
    let q : P (obligation_at g.obligations o) = subst P (sym x.1) (h.1, h.2) in
    let y : ℕ → Bool = assignment_of (obligation_at g.obligations o).values in (
      x.0,
      q.0,
      subst (λ (z : List TransitionSystem). InFrame (system_at z j) g.lemmas i y) (sym e.systems)
          (inside_still f.lemmas g.lemmas (system_at f.systems j) i y s q.1),
    )

-- retired lemmas stay so
abbrev pub Fades : List Lemma → List Lemma → Type 0
Fades xs ys = (n : ℕ) → (lemma_at xs n).live ≡ false → (lemma_at ys n).live ≡ false

backed_still : (f g : FrameState) (failed : List Bool) (u : Subject) (level : ℕ) → Evolves f g → AreSameLemmas f.lemmas g.lemmas → Fades f.lemmas g.lemmas →
    FitsIn f u level → IsBacked f failed u level → IsBacked g failed u level
backed_still f g failed (Bad j) level e s fades fits h =
    elim h [
      | inl lt ↦ inl (let t = e.tops j in omega (arith, t, lt))
      | inr w ↦ inr (w.0, has_still f g j level w.0 e s w.1)
    ]
backed_still f g failed (Block o) level e s fades fits h =
    let x = e.obligations o fits.0 in
    let of : (obligation_at g.obligations o).system ≡ (obligation_at f.obligations o).system = ap (λ (z : Obligation). z.system) x.1 in
    elim h [
      | inl out ↦ inl (λ inside.
          let a : InFrame (system_at g.systems (obligation_at f.obligations o).system) g.lemmas level (assignment_of (obligation_at f.obligations o).values) =
          subst (λ (z : Obligation). InFrame (system_at g.systems z.system) g.lemmas level (assignment_of z.values)) x.1 inside in
          let b : InFrame (system_at f.systems (obligation_at f.obligations o).system) g.lemmas level (assignment_of (obligation_at f.obligations o).values) =
          subst (λ (z : List TransitionSystem). InFrame (system_at z (obligation_at f.obligations o).system) g.lemmas level (assignment_of (obligation_at f.obligations o).values)) e.systems a in
          out (inside_back f.lemmas g.lemmas (system_at f.systems (obligation_at f.obligations o).system) level (assignment_of (obligation_at f.obligations o).values) s b))
      | inr w ↦ inr (w.0, subst (λ (k : ℕ). HasInFrame g k (level - 1) w.0) (sym of) (has_still f g (obligation_at f.obligations o).system (level - 1) w.0 e s w.1))
    ]
backed_still f g failed (Push n) level e s fades fits h =
    elim h [
      | inl high ↦ inl (elim high [ inl dead ↦ inl (fades n dead) | inr le ↦ inr (let l = s.level n in omega (arith, le, l)) ])
      | inr flag ↦ inr flag
    ]

-- ---- It stands after a settlement

backed_at : (f : FrameState) (failed : List Bool) (u v : Subject) (level : ℕ) → u ≡ v → IsBacked f failed v level → IsBacked f failed u level
backed_at f failed u v level e h = subst (λ (z : Subject). IsBacked f failed z level) (sym e) h

fits_at : (f : FrameState) (u v : Subject) (level : ℕ) → u ≡ v → FitsIn f u level → FitsIn f v level
fits_at f u v level e h = subst (λ (z : Subject). FitsIn f z level) e h

pub newly_backed : (limits : Limits) (f : FrameState) (c : Made) (d : Change) (failed : List Bool) → FramesHold f → Accepts f c d → grows d ≡ false →
    lags d ≡ false → FitsIn f c.subject c.level → IsWithin limits c.subject c.level → length failed ≡ limits.frames + 1 →
    (spends d ≡ true) ⊎ IsBacked (framed f d) (failed_after failed d) c.subject c.level
newly_backed limits f c (Add clause level parents) failed law a g l fits within len = absurd (cc)
newly_backed limits f c (Raise n level parents) failed law a g l fits within len = absurd (cc)
newly_backed limits f c (Held n clause level) failed law a g l fits within len =
    let o : ℕ = a.0.0 in
    let blocks = a.0.1 in
    let su : c.subject ≡ Block o = blocks.0 in
    let some = (fits_at f c.subject (Block o) c.level su fits).1 in
    let held = a.1 in
    inr (backed_at f failed c.subject (Block o) c.level su (inl (λ inside.
    let lv : c.level ≡ level = blocks.1 in
    let le = held.2 in
    let met = inside.1 some n held.0 (omega (arith, lv, le)) in
    blocks.2 (ClauseTrue-part (assignment_of (obligation_at f.obligations o).values) (lemma_at f.lemmas n).clause clause held.1 met))))
newly_backed limits f c (Retire n) failed law a g l fits within len = absurd a
newly_backed limits f c (Behind lag) failed law a g l fits within len = absurd (cc)
newly_backed limits f c Dropped failed law a g l fits within len =
    inr (elim a [
      | inl w ↦ backed_at f failed c.subject (Push w.0) c.level w.1 (inl w.2)
      | inr w ↦
          let low = (fits_at f c.subject (Bad w.0) c.level w.1 fits).1 in
          let ne = w.2 in
          backed_at f failed c.subject (Bad w.0) c.level w.1 (inl (omega (arith, low, ne)))
    ])
newly_backed limits f c (Note j values None first) failed law a g l fits within len =
    let x : Obligation = record { system = j; values = values; parent = None; first = first } in
    let n : ℕ = length f.obligations in
    let last : obligation_at (f.obligations ++ x ∷ []) n ≡ x = obligation_last f.obligations x n refl in
    let more : length (f.obligations ++ x ∷ []) ≡ n + 1 = length-append f.obligations (x ∷ []) in
    let b = a.0 in
    let has : HasInFrame (framed f (Note j values None first)) j c.level n = (
      omega (arith, more),
      ap (λ (z : Obligation). z.system) last,
      subst (λ (z : Obligation). InFrame (system_at f.systems j) f.lemmas c.level (assignment_of z.values)) (sym last) b.4,
    ) in
    inr (backed_at (framed f (Note j values None first)) failed c.subject (Bad j) c.level b.0 (inr (n, has)))
newly_backed limits f c (Note j values (Some o) first) failed law a g l fits within len =
    let x : Obligation = record { system = j; values = values; parent = Some o; first = first } in
    let n : ℕ = length f.obligations in
    let last : obligation_at (f.obligations ++ x ∷ []) n ≡ x = obligation_last f.obligations x n refl in
    let more : length (f.obligations ++ x ∷ []) ≡ n + 1 = length-append f.obligations (x ∷ []) in
    let b = a.0 in
    let old : obligation_at (f.obligations ++ x ∷ []) o ≡ obligation_at f.obligations o = obligation_old f.obligations x o b.1 in
    let of : (obligation_at (f.obligations ++ x ∷ []) o).system ≡ j = ap (λ (z : Obligation). z.system) old ∙ b.2 in
    let has : HasInFrame (framed f (Note j values (Some o) first)) j (c.level - 1) n = (
      omega (arith, more),
      ap (λ (z : Obligation). z.system) last,
      subst (λ (z : Obligation). InFrame (system_at f.systems j) f.lemmas (c.level - 1) (assignment_of z.values)) (sym last) b.5,
    ) in
    inr (backed_at (framed f (Note j values (Some o) first)) failed c.subject (Block o) c.level b.0
    (inr (n, subst (λ (k : ℕ). HasInFrame (framed f (Note j values (Some o) first)) k (c.level - 1) n) (sym of) has)))
newly_backed limits f c (Open j) failed law a g l fits within len =
    let at = a.1 in
    let here : j < length f.tops = let e = law.tops in let lt = a.2 in omega (arith, e, lt) in
    let top : top_at (set f.tops j (top_at f.tops j + 1)) j ≡ top_at f.tops j + 1 = get_or-set_same f.tops j (top_at f.tops j + 1) 0 here in
    inr (backed_at (framed f (Open j)) failed c.subject (Bad j) c.level a.0 (inl (omega (arith, at, top))))
newly_backed limits f c (PushFailed n level) failed law a g l fits within len =
    let lv = a.1 in
    let few : c.level ≤ limits.frames + 1 = subst (λ (z : Subject). IsWithin limits z c.level) a.0 within in
    let here : level < length failed = omega (arith, lv, few, len) in
    let flag : slice_index_or (set failed level true) level false ≡ true = get_or-set_same failed level true false here in
    let at : c.level - 1 ≡ level = omega (arith, lv) in
    inr (backed_at f (set failed level true) c.subject (Push n) c.level a.0
    (inr (subst (λ (k : ℕ). slice_index_or (set failed level true) k false ≡ true) (sym at) flag)))
newly_backed limits f c (Limit j) failed law a g l fits within len = absurd a
newly_backed limits f c Spent failed law a g l fits within len = inl refl

-- ---- Retired lemmas

fades_trans : (xs ys zs : List Lemma) → Fades xs ys → Fades ys zs → Fades xs zs
fades_trans xs ys zs a b n dead = b n (a n dead)

fades_retired : (f : FrameState) (n : ℕ) → n < length f.lemmas → Fades f.lemmas (with_retired f n).lemmas
fades_retired f n lt k dead =
    let old : Lemma = lemma_at f.lemmas n in
    let l : Lemma = record { clause = old.clause; level = old.level; live = false } in
    elim (cases_eq k n) [
      | inl e ↦ ap (λ (m : ℕ). (lemma_at (set f.lemmas n l) m).live) e ∙ ap (λ (z : Lemma). z.live) (get_or-set_same f.lemmas n l no_lemma lt)
      | inr ne ↦ ap (λ (z : Lemma). z.live) (get_or-set_other f.lemmas n k l no_lemma ne) ∙ dead
    ]

pub retires_fade : (f g : FrameState) (ds : List Change) → Retires f ds g → Fades f.lemmas g.lemmas × (g.tops ≡ f.tops)
retires_fade f g [] a = (subst (λ (z : FrameState). Fades f.lemmas z.lemmas) (sym a) (λ n dead. dead), ap (λ (z : FrameState). z.tops) a)
retires_fade f g (Retire n ∷ ds) a =
    let r = retires_fade (with_retired f n) g ds a.3 in
    (fades_trans f.lemmas (with_retired f n).lemmas g.lemmas (fades_retired f n a.0) r.0, r.1)
retires_fade f g (Add clause level parents ∷ ds) a = absurd a
retires_fade f g (Raise n level parents ∷ ds) a = absurd a
retires_fade f g (Held n clause level ∷ ds) a = absurd a
retires_fade f g (Behind l ∷ ds) a = absurd a
retires_fade f g (Dropped ∷ ds) a = absurd a
retires_fade f g (Note j values parent first ∷ ds) a = absurd a
retires_fade f g (Open j ∷ ds) a = absurd a
retires_fade f g (PushFailed n level ∷ ds) a = absurd a
retires_fade f g (Limit j ∷ ds) a = absurd a
retires_fade f g (Spent ∷ ds) a = absurd a

fades_framed : (f : FrameState) (c : Made) (d : Change) → Accepts f c d → grows d ≡ false → Fades f.lemmas (framed f d).lemmas
fades_framed f c (Add clause level parents) a e n dead = absurd (cc)
fades_framed f c (Raise k level parents) a e n dead = absurd (cc)
fades_framed f c (Held k clause level) a e n dead = dead
fades_framed f c (Retire k) a e n dead = absurd a
fades_framed f c (Behind l) a e n dead = dead
fades_framed f c Dropped a e n dead = dead
fades_framed f c (Note j values parent first) a e n dead = dead
fades_framed f c (Open j) a e n dead = dead
fades_framed f c (PushFailed k level) a e n dead = dead
fades_framed f c (Limit j) a e n dead = absurd a
fades_framed f c Spent a e n dead = dead

-- ---- Where no claim is out, one is lawful

none_out : (ms : List (Option Made)) (n : ℕ) (c : Made) → outs ms ≡ zero → claim_at ms n ≡ Some c → c.out ≡ false
none_out ms n c none at = bool_by c.out (λ on. let some = outs_some ms n c at on in absurd (omega (arith, none, some)))
  where
    bool_by : (b : Bool) → (b ≡ true → b ≡ false) → b ≡ false
    bool_by true f = f refl
    bool_by false f = refl

pub some_out : (ms : List (Option Made)) → (outs ms ≡ zero → ⊥) → (n : ℕ) × (c : Made) × (claim_at ms n ≡ Some c) × (c.out ≡ true)
some_out [] h = absurd (h refl)
some_out (None ∷ ms) h = let r = some_out ms (λ e. h (omega (arith, e))) in (suc r.0, r.1, r.2, r.3)
some_out (Some c ∷ ms) h =
    elim (cases_bool c.out) [
      | inl on ↦ (zero, c, refl, on)
      | inr off ↦
          let r = some_out ms (λ e. h (let z : (if c.out then 1 else 0) ≡ zero = rw off refl in omega (arith, z, e))) in
          (suc r.0, r.1, r.2, r.3)
    ]
  where
    cases_bool : (b : Bool) → (b ≡ true) ⊎ (b ≡ false)
    cases_bool true = inl refl
    cases_bool false = inr refl

-- a state in which no claim is out, and system j has neither verdict nor limit
pub record IsStuck (limits : Limits) (s : BookState) (blocked : List ℕ) (j : ℕ) : Type 0 where
  pub law : FramesHold s.frames
  pub follow : AreBlocked s.frames.lemmas s.frames.obligations blocked
  pub backed : AreBacked limits s
  pub none : outs s.claims ≡ zero
  pub unspent : s.spent ≡ false
  pub in' : j < length s.frames.systems
  pub says : VerdictSays s.frames j None
  pub off : slice_index_or s.limited j false ≡ false
  pub open' : IsDecided s j → ⊥
  pub nothing : (u : Subject) (level : ℕ) → IsOpenTask limits s u level → IsNew s u level → ⊥

new_if : (limits : Limits) (s : BookState) (blocked : List ℕ) (j : ℕ) (u : Subject) (level : ℕ) → IsStuck limits s blocked j →
    (IsBacked s.frames s.failed u level → ⊥) → IsNew s u level
new_if limits s blocked j u level h not n c lt at su sl sg =
    bool_by c.void (λ off. elim (h.backed.settled n c at (none_out s.claims n c h.none at) off sg) [
      | inl spent ↦ let e = h.unspent in let f : s.spent ≡ true = spent in absurd (cc)
      | inr b ↦ absurd (not (subst (λ (z : Subject). IsBacked s.frames s.failed z level) su (subst (λ (k : ℕ). IsBacked s.frames s.failed c.subject k) sl b)))
    ])
  where
    bool_by : (b : Bool) → (b ≡ false → b ≡ true) → b ≡ true
    bool_by true f = refl
    bool_by false f = f refl

first_not : (limits : Limits) (s : BookState) (blocked : List ℕ) (j o : ℕ) → IsStuck limits s blocked j → HasInFrame s.frames j zero o → ⊥
first_not limits s blocked j o h has =
    h.says.1 o has.0 has.1
    (subst (λ (k : ℕ). FirstBits (system_at s.frames.systems k) (assignment_of (obligation_at s.frames.obligations o).values)) (sym has.1) (has.2.0 refl))

descent : (limits : Limits) (s : BookState) (blocked : List ℕ) (j : ℕ) → IsStuck limits s blocked j → top_at s.frames.tops j ≤ limits.frames →
    (m i o : ℕ) → i ≤ m → i ≤ top_at s.frames.tops j → HasInFrame s.frames j i o → ⊥
descent limits s blocked j h low zero i o le high has =
    first_not limits s blocked j o h (subst (λ (k : ℕ). HasInFrame s.frames j k o) (let z : i ≡ zero = omega (arith, le) in z) has)
descent limits s blocked j h low (suc m) i o le high has =
    elim (cases_eq i zero) [
      | inl z ↦ first_not limits s blocked j o h (subst (λ (k : ℕ). HasInFrame s.frames j k o) z has)
      | inr some ↦
          let x : ℕ → Bool = assignment_of (obligation_at s.frames.obligations o).values in
          let b : ℕ = blocked_at blocked o in
          let to : IsBlockedTo s.frames.lemmas b x = h.follow.each o has.0 in
          let k : ℕ = (obligation_at s.frames.obligations o).system in
          let of : k ≡ j = has.1 in
          let below : b < i = below_of s.frames.lemmas b i x (system_at s.frames.systems j) to has.2 (omega (arith, some)) in
          let top : top_at s.frames.tops k ≡ top_at s.frames.tops j = ap (top_at s.frames.tops) of in
          let sys : TransitionSystem = system_at s.frames.systems k in
          let least : IsLeastLevel sys s.frames.lemmas (b + 1) x = (
            omega arith,
            inside_by sys s.frames.lemmas b (b + 1) x to (omega arith),
            λ l pos lt inside. below_not s.frames.lemmas b l x sys to inside pos (omega (arith, lt)),
          ) in
          h.nothing (Block o) (b + 1)
          (has.0, subst (λ (z : ℕ). IsDecided s z → ⊥) (sym of) h.open', omega (arith, top, low), omega (arith, top, below, high), least)
          (new_if limits s blocked j (Block o) (b + 1) h (λ backed. elim backed [
            | inl out ↦ out (inside_by sys s.frames.lemmas b (b + 1) x to (omega arith))
            | inr p ↦
                descent limits s blocked j h low m b p.0 (omega (arith, below, le)) (omega (arith, below, high))
                (subst (λ (z : ℕ). HasInFrame s.frames z b p.0) of (subst (λ (z : ℕ). HasInFrame s.frames k z p.0) (let e : b + 1 - 1 ≡ b = omega arith in e) p.1))
          ]))
    ]
  where
    below_of : (ls : List Lemma) (b i : ℕ) (x : ℕ → Bool) (sys : TransitionSystem) → IsBlockedTo ls b x → InFrame sys ls i x → 0 < i → b < i
    below_of ls b i x sys to inside some =
        elim (cases_lt b i) [
          | inl lt ↦ lt
          | inr le ↦ elim to.at' [
            | inl z ↦ omega (arith, z, some)
            | inr w ↦ absurd (w.3 (inside.1 some w.0 w.1 (let e = w.2 in omega (arith, e, le))))
          ]
        ]

    below_not : (ls : List Lemma) (b l : ℕ) (x : ℕ → Bool) (sys : TransitionSystem) → IsBlockedTo ls b x → InFrame sys ls l x → 0 < l → l ≤ b → ⊥
    below_not ls b l x sys to inside some le = let lt = below_of ls b l x sys to inside some in absurd (omega (arith, lt, le))

pub not_stuck : (limits : Limits) (s : BookState) (blocked : List ℕ) (j : ℕ) → IsStuck limits s blocked j → ⊥
not_stuck limits s blocked j h =
    elim (cases_lt limits.frames (top_at s.frames.tops j)) [
      | inr low ↦
          h.nothing (Bad j) (top_at s.frames.tops j) (h.in', h.open', refl, low)
          (new_if limits s blocked j (Bad j) (top_at s.frames.tops j) h (λ backed. elim backed [
            | inl lt ↦ absurd (omega (arith, lt))
            | inr w ↦ descent limits s blocked j h low (top_at s.frames.tops j) (top_at s.frames.tops j) w.0 (omega arith) (omega arith) w.1
          ]))
      | inl past ↦
          let most = h.backed.tops j in
          h.backed.noted j (h.in', h.off, (omega (arith, past, most), λ i pos le. failed_at i pos le))
    ]
  where
    bool_by : (b : Bool) → (b ≡ false → b ≡ true) → b ≡ true
    bool_by true f = refl
    bool_by false f = f refl

    stuck_low : top_at s.frames.tops j ≤ limits.frames → ⊥
    stuck_low low =
        h.nothing (Bad j) (top_at s.frames.tops j) (h.in', h.open', refl, low)
        (new_if limits s blocked j (Bad j) (top_at s.frames.tops j) h (λ backed. elim backed [
          | inl lt ↦ absurd (omega (arith, lt))
          | inr w ↦ descent limits s blocked j h low (top_at s.frames.tops j) (top_at s.frames.tops j) w.0 (omega arith) (omega arith) w.1
        ]))

    failed_at : (i : ℕ) → 0 < i → i ≤ limits.frames → slice_index_or s.failed i false ≡ true
    failed_at i pos le =
        bool_by (slice_index_or s.failed i false) (λ off.
        elim (cases_lt limits.frames (top_at s.frames.tops j)) [
          | inr low ↦ absurd (stuck_low low)
          | inl past ↦
              let live = h.says.0 i pos (omega (arith, le, past)) in
              let n : ℕ = live.0 in
              let lv : (lemma_at s.frames.lemmas n).level ≡ i = live.3 in
              absurd (h.nothing (Push n) (i + 1) (live.1, live.2, ap (λ (k : ℕ). k + 1) (sym lv), (j, h.in', omega (arith, lv, le, past)))
              (new_if limits s blocked j (Push n) (i + 1) h (λ backed. elim backed [
                | inl high ↦ elim high [
                  | inl dead ↦ let a = live.2 in let b : (lemma_at s.frames.lemmas n).live ≡ false = dead in absurd (cc)
                  | inr ge ↦ absurd (omega (arith, ge, lv))
                ]
                | inr flag ↦
                    let e : i + 1 - 1 ≡ i = omega arith in
                    let t : slice_index_or s.failed i false ≡ true = subst (λ (k : ℕ). slice_index_or s.failed k false ≡ true) e flag in
                    absurd (cc)
              ])))
        ])

-- ---- It is kept by each entry

was_here : (ms : List (Option Made)) (n : ℕ) (void : Bool) (c : Made) (k : ℕ) (d : Made) →
    claim_at (set ms n (ended void (Some c)) ++ None ∷ []) k ≡ Some d → (claim_at ms k ≡ Some d) ⊎ (end_of void c ≡ d)
was_here ms n void c k d is =
    elim (claim_snoc (set ms n (ended void (Some c))) None k d is) [
      | inl old ↦ elim (claim_set ms n (ended void (Some c)) k d old) [
        | inl here ↦ inr (some_is (end_of void c) d here.1)
        | inr other ↦ inl other
      ]
      | inr last ↦ let none : None ≡ Some d = last.1 in absurd (cc)
    ]

few_ended : (limits : Limits) (ms : List (Option Made)) (n : ℕ) (void : Bool) (c : Made) → claim_at ms n ≡ Some c → c.out ≡ true →
    ((k : ℕ) (d : Made) → claim_at ms k ≡ Some d → IsWithin limits d.subject d.level) → (k : ℕ) (d : Made) →
    claim_at (set ms n (ended void (Some c)) ++ None ∷ []) k ≡ Some d → IsWithin limits d.subject d.level
few_ended limits ms n void c at out few k d is =
    let w : Was ms k d = was ms n void c at out k d is in
    subst (λ (u : Subject). IsWithin limits u d.level) (sym w.subject) (subst (IsWithin limits w.before.subject) (sym w.level) (few k w.before w.at'))

pub backed_returned : (limits : Limits) (s : BookState) (n : ℕ) (c : Made) → claim_at s.claims n ≡ Some c → c.out ≡ true → AreBacked limits s →
    AreBacked limits (record s { claims = set s.claims n (ended true (Some c)) ++ None ∷ [] })
backed_returned limits s n c at out h =
    record {
      tops = h.tops;
      flags = h.flags;
      noted = h.noted;
      few = few_ended limits s.claims n true c at out h.few;
      settled = λ k d is off valid now. elim (was_here s.claims n true c k d is) [
        | inl old ↦ h.settled k d old off valid now
        | inr here ↦ let e : true ≡ d.void = ap (λ (z : Made). z.void) here in absurd (cc)
      ];
    }

pub within_task : (limits : Limits) (s : BookState) (u : Subject) (level : ℕ) → AreBacked limits s → IsOpenTask limits s u level → IsWithin limits u level
within_task limits s (Bad j) level h t = let a = t.2 in let b = t.3 in omega (arith, a, b)
within_task limits s (Block o) level h t = let a = t.2 in let b = t.3 in omega (arith, a, b)
within_task limits s (Push n) level h t =
    let top = h.tops t.3.0 in
    let a = t.2 in
    let b = t.3.2 in
    omega (arith, top, a, b)

pub backed_claimed : (limits : Limits) (s : BookState) (d : Made) → IsWithin limits d.subject d.level → d.out ≡ true → AreBacked limits s →
    AreBacked limits (record s { claims = s.claims ++ Some d ∷ [] })
backed_claimed limits s d within out h =
    record {
      tops = h.tops;
      flags = h.flags;
      noted = h.noted;
      few = λ n c at. elim (claim_snoc s.claims (Some d) n c at) [
        | inl old ↦ h.few n c old
        | inr last ↦ subst (λ (z : Made). IsWithin limits z.subject z.level) (some_is d c last.1) within
      ];
      settled = λ n c at off valid now. elim (claim_snoc s.claims (Some d) n c at) [
        | inl old ↦ h.settled n c old off valid now
        | inr last ↦ let e : d.out ≡ c.out = ap (λ (z : Made). z.out) (some_is d c last.1) in absurd (cc)
      ];
    }

top_within : (tops : List ℕ) (j v k bound : ℕ) → ((i : ℕ) → top_at tops i ≤ bound) → v ≤ bound → top_at (set tops j v) k ≤ bound
top_within [] j v k bound all le = all k
top_within (t ∷ ts) zero v zero bound all le = le
top_within (t ∷ ts) zero v (suc k) bound all le = all (suc k)
top_within (t ∷ ts) (suc j) v zero bound all le = all zero
top_within (t ∷ ts) (suc j) v (suc k) bound all le = top_within ts j v k bound (λ i. all (suc i)) le

tops_framed : (limits : Limits) (f : FrameState) (c : Made) (d : Change) → Accepts f c d → IsWithin limits c.subject c.level →
    ((i : ℕ) → top_at f.tops i ≤ limits.frames + 1) → (k : ℕ) → top_at (framed f d).tops k ≤ limits.frames + 1
tops_framed limits f c (Add clause level parents) a within all k = all k
tops_framed limits f c (Raise n level parents) a within all k = all k
tops_framed limits f c (Held n clause level) a within all k = all k
tops_framed limits f c (Retire n) a within all k = all k
tops_framed limits f c (Behind l) a within all k = all k
tops_framed limits f c Dropped a within all k = all k
tops_framed limits f c (Note j values parent first) a within all k = all k
tops_framed limits f c (Open j) a within all k =
    let at = a.1 in
    let few : c.level ≤ limits.frames = subst (λ (z : Subject). IsWithin limits z c.level) a.0 within in
    top_within f.tops j (top_at f.tops j + 1) k (limits.frames + 1) all (omega (arith, at, few))
tops_framed limits f c (PushFailed n level) a within all k = all k
tops_framed limits f c (Limit j) a within all k = all k
tops_framed limits f c Spent a within all k = all k

flags_marked : (m : Marking) (d : Change) → length (marked m d).failed ≡ length m.failed
flags_marked m (Add clause level parents) = length-replicate (length m.failed) false
flags_marked m (Raise n level parents) = length-replicate (length m.failed) false
flags_marked m (Held n clause level) = refl
flags_marked m (Retire n) = refl
flags_marked m (Behind l) = refl
flags_marked m Dropped = refl
flags_marked m (Note j values parent first) = refl
flags_marked m (Open j) = refl
flags_marked m (PushFailed n level) = length-set m.failed level true
flags_marked m (Limit j) = refl
flags_marked m Spent = refl

failed_marked : (m : Marking) (d : Change) → grows d ≡ false → (marked m d).failed ≡ failed_after m.failed d
failed_marked m (Add clause level parents) e = absurd (cc)
failed_marked m (Raise n level parents) e = absurd (cc)
failed_marked m (Held n clause level) e = refl
failed_marked m (Retire n) e = refl
failed_marked m (Behind l) e = refl
failed_marked m Dropped e = refl
failed_marked m (Note j values parent first) e = refl
failed_marked m (Open j) e = refl
failed_marked m (PushFailed n level) e = refl
failed_marked m (Limit j) e = refl
failed_marked m Spent e = refl

spent_marked : (m : Marking) (d : Change) → (m.spent ≡ true) ⊎ (spends d ≡ true) → (marked m d).spent ≡ true
spent_marked m (Add clause level parents) e = elim e [ inl s ↦ s | inr x ↦ absurd (cc) ]
spent_marked m (Raise n level parents) e = elim e [ inl s ↦ s | inr x ↦ absurd (cc) ]
spent_marked m (Held n clause level) e = elim e [ inl s ↦ s | inr x ↦ absurd (cc) ]
spent_marked m (Retire n) e = elim e [ inl s ↦ s | inr x ↦ absurd (cc) ]
spent_marked m (Behind l) e = elim e [ inl s ↦ s | inr x ↦ absurd (cc) ]
spent_marked m Dropped e = elim e [ inl s ↦ s | inr x ↦ absurd (cc) ]
spent_marked m (Note j values parent first) e = elim e [ inl s ↦ s | inr x ↦ absurd (cc) ]
spent_marked m (Open j) e = elim e [ inl s ↦ s | inr x ↦ absurd (cc) ]
spent_marked m (PushFailed n level) e = elim e [ inl s ↦ s | inr x ↦ absurd (cc) ]
spent_marked m (Limit j) e = elim e [ inl s ↦ s | inr x ↦ absurd (cc) ]
spent_marked m Spent e = refl

flag_after : (failed : List Bool) (d : Change) (i : ℕ) → slice_index_or failed i false ≡ true → slice_index_or (failed_after failed d) i false ≡ true
flag_after failed (Add clause level parents) i h = h
flag_after failed (Raise n level parents) i h = h
flag_after failed (Held n clause level) i h = h
flag_after failed (Retire n) i h = h
flag_after failed (Behind l) i h = h
flag_after failed Dropped i h = h
flag_after failed (Note j values parent first) i h = h
flag_after failed (Open j) i h = h
flag_after failed (PushFailed n level) i h = flag_set failed level i h
  where
    flag_set : (flags : List Bool) (k i : ℕ) → slice_index_or flags i false ≡ true → slice_index_or (set flags k true) i false ≡ true
    flag_set [] k i h = h
    flag_set (b ∷ bs) zero zero h = refl
    flag_set (b ∷ bs) zero (suc i) h = h
    flag_set (b ∷ bs) (suc k) zero h = h
    flag_set (b ∷ bs) (suc k) (suc i) h = flag_set bs k i h
flag_after failed (Limit j) i h = h
flag_after failed Spent i h = h

backed_after : (f : FrameState) (failed : List Bool) (d : Change) (u : Subject) (level : ℕ) → IsBacked f failed u level → IsBacked f (failed_after failed d) u level
backed_after f failed d (Bad j) level h = h
backed_after f failed d (Block o) level h = h
backed_after f failed d (Push n) level h = elim h [ inl high ↦ inl high | inr flag ↦ inr (flag_after failed d (level - 1) flag) ]

notes_keep : (limits : Limits) (f : FrameState) (m m' : Marking) (ls : List Change) → NotesEach limits f m ls m' → (m'.failed ≡ m.failed) × (m'.spent ≡ m.spent)
notes_keep limits f m m' [] a = (ap (λ (z : Marking). z.failed) a, ap (λ (z : Marking). z.spent) a)
notes_keep limits f m m' (Limit j ∷ ls) a = notes_keep limits f (marked m (Limit j)) m' ls a.1
notes_keep limits f m m' (Retire n ∷ ls) a = absurd a
notes_keep limits f m m' (Add clause level parents ∷ ls) a = absurd a
notes_keep limits f m m' (Raise n level parents ∷ ls) a = absurd a
notes_keep limits f m m' (Held n clause level ∷ ls) a = absurd a
notes_keep limits f m m' (Behind l ∷ ls) a = absurd a
notes_keep limits f m m' (Dropped ∷ ls) a = absurd a
notes_keep limits f m m' (Note j values parent first ∷ ls) a = absurd a
notes_keep limits f m m' (Open j ∷ ls) a = absurd a
notes_keep limits f m m' (PushFailed n level ∷ ls) a = absurd a
notes_keep limits f m m' (Spent ∷ ls) a = absurd a

bool_cases : (b : Bool) → (b ≡ true) ⊎ (b ≡ false)
bool_cases true = inl refl
bool_cases false = inr refl

pub backed_settled : (limits : Limits) (s : BookState) (n : ℕ) (c : Made) (o : ClaimOutcome) (d : Change) (ds ls : List Change) (g f' : FrameState) (m' : Marking) →
    claim_at s.claims n ≡ Some c → c.out ≡ true → FramesHold s.frames → AreOrderly record { made = s.claims; growth = s.growth } →
    AreSane s.frames record { made = s.claims; growth = s.growth } → Comes s.frames c o d g → Retires g ds f' →
    NotesEach limits f' (marked (marks_of s) d) ls m' → ((j : ℕ) → LimitIsLeft limits f' m' j → ⊥) → AreBacked limits s →
    AreBacked limits (state_of f' record { made = set s.claims n (ended (lags d) (Some c)) ++ None ∷ []; growth = growth_after s.growth d } m')
backed_settled limits s n c o d ds ls g f' m' at out law orderly sane come ret notes none h =
    let keep = notes_keep limits f' (marked (marks_of s) d) m' ls notes in
    let fade = retires_fade g f' ds ret in
    record {
      tops = λ k. subst (λ (z : List ℕ). top_at z k ≤ limits.frames + 1) (sym (fade.1 ∙ ap (λ (z : FrameState). z.tops) come.changes))
          (tops_framed limits s.frames c d come.accepted (h.few n c at) h.tops k);
      flags = ap length keep.0 ∙ flags_marked (marks_of s) d ∙ h.flags;
      noted = none;
      few = few_ended limits s.claims n (lags d) c at out h.few;
      settled = λ k e is off valid now. elim (bool_cases (grows d)) [
        | inl grew ↦
            let w : Was s.claims k e = was s.claims n (lags d) c at out k e is in
            let past : w.before.growth ≤ s.growth = orderly.past k w.before w.at' in
            let same = w.growth in
            let one : (if grows d then 1 else 0) ≡ suc zero = rw grew refl in
            absurd (omega (arith, past, same, now, one))
        | inr still ↦
            let zero' : (if grows d then 1 else 0) ≡ zero = rw still refl in
            let failed : m'.failed ≡ failed_after s.failed d = keep.0 ∙ failed_marked (marks_of s) d still in
            let on : (u : Subject) (level : ℕ) → FitsIn s.frames u level → IsBacked (framed s.frames d) (failed_after s.failed d) u level → IsBacked f' m'.failed u level =
            λ u level fits b.
            let b' : IsBacked g (failed_after s.failed d) u level = subst (λ (z : FrameState). IsBacked z (failed_after s.failed d) u level) (sym come.changes) b in
            let fits' : FitsIn g u level = subst (λ (z : FrameState). FitsIn z u level) (sym come.changes) (fits_still s.frames (framed s.frames d) u level (evolves_framed s.frames d) fits) in
            let r = retires_evolve g f' ds ret in
            subst (λ (z : List Bool). IsBacked f' z u level) (sym failed) (backed_still g f' (failed_after s.failed d) u level r.0 r.1 fade.0 fits' b') in
            elim (was_here s.claims n (lags d) c k e is) [
              | inl old ↦ elim (h.settled k e old off valid (omega (arith, now, zero'))) [
                | inl spent ↦ inl (keep.1 ∙ spent_marked (marks_of s) d (inl spent))
                | inr b ↦
                    let fits : FitsIn s.frames e.subject e.level = sane.fit k e old in
                    inr (on e.subject e.level fits
                    (backed_still s.frames (framed s.frames d) (failed_after s.failed d) e.subject e.level (evolves_framed s.frames d)
                    (same_framed s.frames c d come.accepted still) (fades_framed s.frames c d come.accepted still) fits
                    (backed_after s.frames s.failed d e.subject e.level b)))
              ]
              | inr here ↦
                  let lag' : lags d ≡ false = ap (λ (z : Made). z.void) here ∙ valid in
                  let fits : FitsIn s.frames c.subject c.level = sane.fit n c at in
                  elim (newly_backed limits s.frames c d s.failed law come.accepted still lag' fits (h.few n c at) h.flags) [
                    | inl spent ↦ inl (keep.1 ∙ spent_marked (marks_of s) d (inr spent))
                    | inr b ↦ inr (subst (λ (z : Made). IsBacked f' m'.failed z.subject z.level) here (on c.subject c.level fits b))
                  ]
            ]
      ];
    }

pub backed_by : (limits : Limits) (s : BookState) (n : ℕ) (c : Made) (o : ClaimOutcome) (xs ls : List Change) (f' : FrameState) (m' : Marking) →
    claim_at s.claims n ≡ Some c → c.out ≡ true → FramesHold s.frames → AreOrderly record { made = s.claims; growth = s.growth } →
    AreSane s.frames record { made = s.claims; growth = s.growth } → HasSettled s.frames c o xs f' →
    NotesEach limits f' (marked (marks_of s) (head_of xs)) ls m' → ((j : ℕ) → LimitIsLeft limits f' m' j → ⊥) → AreBacked limits s →
    AreBacked limits
    (state_of f' record { made = set s.claims n (ended (lags (head_of xs)) (Some c)) ++ None ∷ []; growth = growth_after s.growth (head_of xs) } m')
backed_by limits s n c o [] ls f' m' at out law orderly sane has notes none h = absurd has
backed_by limits s n c o (d ∷ ds) ls f' m' at out law orderly sane has notes none h =
    backed_settled limits s n c o d ds ls has.0 f' m' at out law orderly sane has.1 has.2 notes none h

pub backed_opened : (limits : Limits) (systems : List TransitionSystem) (carried : List Lemma) → AreBacked limits (start limits systems carried)
backed_opened limits systems carried =
    record {
      tops = λ j. omega (arith, top_zero (length systems) j);
      flags = length-replicate (limits.frames + 1) false;
      noted = λ j left. let e = left.2.0 in let z = top_zero (length systems) j in absurd (omega (arith, e, z));
      few = λ n c at. absurd (no_claim n c at);
      settled = λ n c at off valid now. absurd (no_claim n c at);
    }
  where
    top_zero : (m j : ℕ) → top_at (replicate m zero) j ≡ zero
    top_zero zero j = refl
    top_zero (suc m) zero = refl
    top_zero (suc m) (suc j) = top_zero m j

    no_claim : (n : ℕ) (c : Made) → claim_at [] n ≡ Some c → ⊥
    no_claim n c at = let none : None ≡ Some c = at in cc
