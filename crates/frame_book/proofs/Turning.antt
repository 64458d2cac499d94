-- A book with one entry more is a book.
use Rattle.std.proofs.Common.{◌≡◌, inl, inr, ℕ, ◌+◌, ◌<◌, ◌≤◌, ◌^◌, Bool, true, false, List, [], ◌∷◌, ◌++◌, length, set, replicate, refl, sym, ap, subst, ◌∙◌, arith, length-append, length-set, Vec, Global}
use Rattle.std.specs.Prelude.{Option, Some, None}
use Rattle.std.proofs.lemmas.Bool.{cases_lt}
use Rattle.clause_core.specs.Assignments.{assignment_of}
use Rattle.clause_core.specs.Systems.{TransitionSystem}
use Rattle.frame_core.specs.declared.parts.Lemma.{Lemma}
use Rattle.frame_core.specs.FrameLaw.{FrameState, FramesHold, lemma_at, obligation_at}
use Rattle.frame_core.specs.Changes.{fresh}
use Rattle.frame_history.specs.declared.entries.Limits.{Limits}
use Rattle.frame_history.specs.declared.entries.Subject.{Subject}
use Rattle.frame_history.specs.declared.entries.Subject.TheVariants.{Bad, Block, Push}
use Rattle.frame_history.specs.declared.entries.Made.{Made}
use Rattle.frame_history.specs.declared.entries.Change.{Change}
use Rattle.frame_history.specs.declared.entries.Entry.{Entry}
use Rattle.frame_history.specs.declared.entries.Entry.TheVariants.{Claim, Settle, Back}
use Rattle.frame_history.specs.History.{BookState, after, claim_at, ended, IsOut, IsOpenTask, IsLawfulClaim, IsLawful}
use Rattle.frame_book.specs.declared.claim.ClaimOutcome.{ClaimOutcome}
use Rattle.frame_book.specs.Claims.{ClaimView, IsClaimOf}
use Rattle.book_agenda.specs.Values.{IsBlockedTo}
use Rattle.book_agenda.specs.Register.{Claims, IsUpTo, AreOrderly, outs}
use Rattle.frame_book.specs.Marked.{Marking, marks_of, marked, LimitIsLeft, NotesEach}
use Rattle.frame_book.specs.Steps.{lags, head_of, HasSettled}
use Rattle.frame_book.specs.Rooms.{Room}
use Rattle.frame_book.specs.Picking.{IsLevelOf}
use Rattle.frame_book.specs.Pages.{state_of, FitsIn, IsIn, IsNotAbove, AreSane, ArePages}
use Rattle.frame_book.specs.Book.{BookView, IsBook, entered, SettlesBy}
use Rattle.book_agenda.proofs.Orderly.{outs-push, outs-end, end_of}
use Rattle.frame_book.proofs.Entering.{growth_after, IsSettled, settled, ended_is, book_entered}
use Rattle.frame_book.specs.Backed.{AreBacked}
use Rattle.frame_book.proofs.Backed.{backed_returned, backed_claimed, backed_by, within_task}
use Rattle.frame_book.proofs.Sane.{settled_evolves, sane_settled, sane_ended, sane_claimed}

abbrev pub claims_of : BookState → Claims
claims_of s = record { made = s.claims; growth = s.growth }

-- the book with these frames, claims, marks and history
abbrev pub turned : BookView → FrameState → Claims → Marking → List Entry → BookView
turned b f claims marks history = record { systems = f.systems; limits = b.limits; carried = b.carried; history = history; state = state_of f claims marks }

-- how many claims there are, and how many are out, after one ended
counts_end : (ms : List (Option Made)) (n : ℕ) (void : Bool) (c : Made) → claim_at ms n ≡ Some c → c.out ≡ true →
    (length (set ms n (ended void (Some c)) ++ None ∷ []) ≡ length ms + 1) × (outs (set ms n (ended void (Some c)) ++ None ∷ []) + 1 ≡ outs ms)
counts_end ms n void c at out =
    let e : Option Made = ended void (Some c) in
    let o : outs (set ms n e ++ None ∷ []) ≡ outs (set ms n e) + 0 = outs-push (set ms n e) None in
    let p : outs (set ms n e) + 1 ≡ outs ms = outs-end ms n c (end_of void c) at out refl in
    let len : length (set ms n e ++ None ∷ []) ≡ length (set ms n e) + 1 = length-append (set ms n e) (None ∷ []) in
    let len' : length (set ms n e) ≡ length ms = length-set ms n e in
    (omega (arith, len, len'), omega (arith, o, p))

-- ---- A claim is given back

pub returned : (b : BookView) (cap cap' : ℕ) (rooms : Room) (w n : ℕ) (d : Made) (claims : Claims) (history : List Entry) → ArePages b cap rooms →
    IsOut b.state w n d → claims ≡ record { made = set b.state.claims n (ended true (Some d)) ++ None ∷ []; growth = b.state.growth } →
    history ≡ b.history ++ Back w n ∷ [] → cap' ≡ cap →
    (turned b b.state.frames claims (marks_of b.state) history ≡ entered b (Back w n)) × ArePages (turned b b.state.frames claims (marks_of b.state) history) cap' rooms
returned b cap cap' rooms w n d claims history h out is items same =
    let f : FrameState = b.state.frames in
    let m : Marking = marks_of b.state in
    let e : Entry = Back w n in
    let now : Claims = record { made = set b.state.claims n (ended true (Some d)) ++ None ∷ []; growth = b.state.growth } in
    let next : state_of f claims m ≡ after b.state e =
    ap (λ (z : Claims). state_of f z m) is
    ∙ ap (λ (x : Option Made). state_of f record { made = set b.state.claims n (ended true x) ++ None ∷ []; growth = b.state.growth } m) (sym out.0) in
    let view : turned b f claims m history ≡ entered b e =
    λ i. record { systems = sym h.systems i; limits = b.limits; carried = b.carried; history = items i; state = next i } in
    let k = counts_end b.state.claims n true d out.0 out.1 in
    let len : length claims.made ≡ length b.state.claims + 1 = ap (λ (z : Claims). length z.made) is ∙ k.0 in
    let few : outs claims.made + 1 ≡ outs b.state.claims = ap (λ (z : Claims). outs z.made + 1) is ∙ k.1 in
    let more : length history ≡ length b.history + 1 = ap length items ∙ length-append b.history (e ∷ []) in
    let as_many = h.as_many in
    let room = h.room in
    let rooms' = h.rooms' in (
      view,
      record {
        book = subst IsBook (sym view) (book_entered b e h.book (d, out));
        systems = refl;
        sane = subst (AreSane f) (sym is) (sane_ended f (claims_of b.state) n true d out.0 out.1 h.sane);
        small = h.small;
        as_many = omega (arith, len, more, as_many);
        limited = h.limited ∙ ap length h.systems;
        room = omega (arith, few, more, room, same);
        rooms' = omega (arith, few, rooms');
        size = h.size ∙ ap (λ (z : List TransitionSystem). length z + 1) h.systems;
        backed = subst (λ (z : Claims). AreBacked b.limits (state_of f z m)) (sym is) (backed_returned b.limits b.state n d out.0 out.1 h.backed);
      },
    )

-- ---- A claim is made

pub fits_task : (limits : Limits) (s : BookState) (u : Subject) (level : ℕ) → limits.frames + 1 < 2 ^ 32 → FramesHold s.frames → IsOpenTask limits s u level →
    FitsIn s.frames u level
fits_task limits s (Bad j) level small law t = (t.0, omega (arith, t.2), omega (arith, t.2, t.3, small))
fits_task limits s (Block o) level small law t = (t.0, t.4.0)
fits_task limits s (Push n) level small law t =
    let above : 0 < (lemma_at s.frames.lemmas n).level = (law.lemmas 0 law.some).above n t.0 in
    (t.0, omega (arith, t.2, above))

least_blocked : (ls : List Lemma) (b c : ℕ) (x : ℕ → Bool) → IsBlockedTo ls b x → IsBlockedTo ls c x → b ≤ c
least_blocked ls b c x h k =
    elim (cases_lt c b) [
      | inl lt ↦ elim h.at' [
        | inl z ↦ omega (arith, z)
        | inr w ↦ absurd (w.3 (k.above w.0 w.1 (let e = w.2 in omega arith)))
      ]
      | inr le ↦ le
    ]

pub low_task : (f : FrameState) (u : Subject) (level : ℕ) → IsLevelOf f u level → IsNotAbove f u level
low_task f (Bad j) level is = omega (arith, is)
low_task f (Block o) level is =
    λ b blocked.
    let le = least_blocked f.lemmas is.0 b (assignment_of (obligation_at f.obligations o).values) is.1 blocked in
    let e = is.2 in
    omega (arith, le, e)
low_task f (Push n) level is = omega (arith, is)

below_task : (f : FrameState) (u : Subject) (low level : ℕ) → IsLevelOf f u level → IsNotAbove f u low → low ≤ level
below_task f (Bad j) low level is h = omega (arith, is, h)
below_task f (Block o) low level is h = let e = is.2 in let k = h is.0 is.1 in omega (arith, e, k)
below_task f (Push n) low level is h = omega (arith, is, h)

pub up_to_task : (f : FrameState) (claims : Claims) (u : Subject) (level : ℕ) → AreSane f claims → IsLevelOf f u level → IsUpTo claims u level
up_to_task f claims u level sane is n c at su now = below_task f u c.level level is (subst (λ (v : Subject). IsNotAbove f v c.level) su (sane.low n c at now))

abbrev pub new_claim : BookState → ℕ → Subject → ℕ → Made
new_claim s w u level = record { worker = w; subject = u; level = level; growth = s.growth; out = true; void = false }

pub claimed : (b : BookView) (cap cap' : ℕ) (rooms rooms' : Room) (w : ℕ) (u : Subject) (level : ℕ) (claims : Claims) (history : List Entry) → ArePages b cap rooms →
    FramesHold b.state.frames → IsLawfulClaim b.limits b.state u level → IsLevelOf b.state.frames u level →
    claims ≡ record { made = b.state.claims ++ Some (new_claim b.state w u level) ∷ []; growth = b.state.growth } →
    history ≡ b.history ++ Claim w u level ∷ [] → length b.history + (outs b.state.claims + 2) ≤ cap' → outs b.state.claims + 1 ≤ rooms'.count →
    rooms'.size ≡ rooms.size →
    (turned b b.state.frames claims (marks_of b.state) history ≡ entered b (Claim w u level))
    × ArePages (turned b b.state.frames claims (marks_of b.state) history) cap' rooms'
claimed b cap cap' rooms rooms' w u level claims history h law lawful is-level is items fits many size =
    let f : FrameState = b.state.frames in
    let m : Marking = marks_of b.state in
    let e : Entry = Claim w u level in
    let d : Made = new_claim b.state w u level in
    let next : state_of f claims m ≡ after b.state e = ap (λ (z : Claims). state_of f z m) is in
    let view : turned b f claims m history ≡ entered b e =
    λ i. record { systems = sym h.systems i; limits = b.limits; carried = b.carried; history = items i; state = next i } in
    let len : length claims.made ≡ length b.state.claims + 1 = ap (λ (z : Claims). length z.made) is ∙ length-append b.state.claims (Some d ∷ []) in
    let out : outs claims.made ≡ outs b.state.claims + 1 = ap (λ (z : Claims). outs z.made) is ∙ outs-push b.state.claims (Some d) in
    let more : length history ≡ length b.history + 1 = ap length items ∙ length-append b.history (e ∷ []) in
    let as_many = h.as_many in (
      view,
      record {
        book = subst IsBook (sym view) (book_entered b e h.book lawful);
        systems = refl;
        sane = subst (AreSane f) (sym is)
            (sane_claimed f (claims_of b.state) d (fits_task b.limits b.state u level h.small law lawful.task) (low_task f u level is-level) h.sane);
        small = h.small;
        as_many = omega (arith, len, more, as_many);
        limited = h.limited ∙ ap length h.systems;
        room = omega (arith, out, more, fits);
        rooms' = omega (arith, out, many);
        size = size ∙ h.size ∙ ap (λ (z : List TransitionSystem). length z + 1) h.systems;
        backed = subst (λ (z : Claims). AreBacked b.limits (state_of f z m)) (sym is)
            (backed_claimed b.limits b.state d (within_task b.limits b.state u level h.backed lawful.task) refl h.backed);
      },
    )

-- ---- A claim is settled

pub turned_by : (b : BookView) (cap cap' : ℕ) (rooms rooms' : Room) (v : ClaimView) (d : Made) (o : ClaimOutcome) (f : FrameState) (xs ls : List Change) (m : Marking)
    (claims : Claims) (changes : Vec Change Global) (history : List Entry) → ArePages b cap rooms → FramesHold b.state.frames → AreOrderly (claims_of b.state) →
    IsClaimOf b.state v d → HasSettled b.state.frames d o xs f →
    changes.items ≡ xs ++ ls → NotesEach b.limits f (marked (marks_of b.state) (head_of xs)) ls m → ((j : ℕ) → LimitIsLeft b.limits f m j → ⊥) →
    length m.limited ≡ length b.state.limited →
    claims ≡ record { made = set b.state.claims v.number (ended (lags (head_of xs)) (Some d)) ++ None ∷ []; growth = growth_after b.state.growth (head_of xs) } →
    history ≡ b.history ++ Settle v.worker v.number changes ∷ [] → cap' ≡ cap → rooms'.count + 1 ≡ rooms.count → rooms'.size ≡ rooms.size →
    (turned b f claims m history ≡ entered b (Settle v.worker v.number changes)) × ArePages (turned b f claims m history) cap' rooms'
    × SettlesBy b v o (Settle v.worker v.number changes)
turned_by b cap cap' rooms rooms' v d o f xs ls m claims changes history h law orderly of has are notes none long is items same one size =
    let s : BookState = b.state in
    let n : ℕ = v.number in
    let e : Entry = Settle v.worker v.number changes in
    let first : Change = head_of xs in
    let st : IsSettled b.limits s d o f m first changes.items =
    subst (IsSettled b.limits s d o f m first) (sym are) (settled b.limits s d o xs ls f m has notes none) in
    let now : Claims = record { made = set s.claims n (ended (lags first) (Some d)) ++ None ∷ []; growth = growth_after s.growth first } in
    let next : state_of f claims m ≡ after s e = ap (λ (z : Claims). state_of f z m) is ∙ sym (ended_is b.limits s n d o f m first changes.items of.out.0 st) in
    let ev = settled_evolves s.frames f d o xs has in
    let systems : f.systems ≡ b.systems = ev.0.systems ∙ sym h.systems in
    let view : turned b f claims m history ≡ entered b e =
    λ i. record { systems = systems i; limits = b.limits; carried = b.carried; history = items i; state = next i } in
    let k = counts_end s.claims n (lags first) d of.out.0 of.out.1 in
    let len : length claims.made ≡ length s.claims + 1 = ap (λ (z : Claims). length z.made) is ∙ k.0 in
    let few : outs claims.made + 1 ≡ outs s.claims = ap (λ (z : Claims). outs z.made + 1) is ∙ k.1 in
    let more : length history ≡ length b.history + 1 = ap length items ∙ length-append b.history (e ∷ []) in
    let as_many = h.as_many in
    let room = h.room in
    let rooms-many = h.rooms' in
    let grown : Claims = record { made = s.claims; growth = growth_after s.growth first } in (
      view,
      record {
        book = subst IsBook (sym view) (book_entered b e h.book (d, of.out, st.accepted));
        systems = refl;
        sane = subst (AreSane f) (sym is)
            (sane_ended f grown n (lags first) d of.out.0 of.out.1 (sane_settled s.frames f d o xs (claims_of s) has orderly h.sane));
        small = h.small;
        as_many = omega (arith, len, more, as_many);
        limited = long ∙ h.limited ∙ ap length (sym systems);
        room = omega (arith, few, more, room, same);
        rooms' = omega (arith, few, rooms-many, one);
        size = size ∙ h.size ∙ ap (λ (z : List TransitionSystem). length z + 1) (sym systems);
        backed = subst (λ (z : Claims). AreBacked b.limits (state_of f z m)) (sym is)
            (backed_by b.limits s n d o xs ls f m of.out.0 of.out.1 law orderly h.sane has notes none h.backed);
      },
      (refl, refl, (d, first, st.rest, of, st.are, st.tells, st.accepted)),
    )

-- ---- No entry

pub fresh_is : (f : FrameState) → f.obligations ≡ [] → f.tops ≡ replicate (length f.systems) 0 → f ≡ fresh f.systems f.lemmas
fresh_is f none low = λ i. record { systems = f.systems; lemmas = f.lemmas; tops = low i; obligations = none i }

pub fits_in : (f : FrameState) (u : Subject) (level : ℕ) → FitsIn f u level → IsIn f u
fits_in f (Bad j) level h = h.0
fits_in f (Block o) level h = h.0
fits_in f (Push n) level h = h.0

pub lawful_none : (limits : Limits) (s : BookState) (es : List Entry) → es ≡ [] → IsLawful limits s es
lawful_none limits s es none = subst (IsLawful limits s) (sym none) tt

-- an open task is on a subject that there is
pub in_task : (limits : Limits) (s : BookState) (u : Subject) (level : ℕ) → IsOpenTask limits s u level → IsIn s.frames u
in_task limits s (Bad j) level t = t.0
in_task limits s (Block o) level t = t.0
in_task limits s (Push n) level t = t.0

-- the same pages with more room
pub roomier : (b : BookView) (cap cap' : ℕ) (rooms rooms' : Room) → ArePages b cap rooms → cap ≤ cap' → rooms.count ≤ rooms'.count →
    rooms'.size ≡ rooms.size → ArePages b cap' rooms'
roomier b cap cap' rooms rooms' h more many size =
    let room = h.room in
    let count = h.rooms' in
    record {
      book = h.book;
      systems = h.systems;
      sane = h.sane;
      small = h.small;
      as_many = h.as_many;
      limited = h.limited;
      room = omega arith;
      rooms' = omega arith;
      size = size ∙ h.size;
      backed = h.backed;
    }
