-- What a settlement by the one worker leads to.
use Rattle.std.proofs.Common.{◌≡◌, ℕ, ◌-◌, ◌<◌, ◌≤◌, ◌⊎◌, Bool, true, false, List, [], ◌∷◌, ◌++◌, length, set, refl, sym, subst, ap, ◌∙◌, inl, inr, arith, length-set, length-append, get_or-set_same, get_or-set_other}
use Rattle.std.specs.Prelude.{Option, Some, None, Contains}
use Rattle.std.proofs.Math.ListN.{get_or-append}
use Rattle.std.proofs.Math.Seq.{get_or-append_seam}
use Rattle.std.proofs.lemmas.Bool.{cases_eq, cases_lt}
use Rattle.std.proofs.lemmas.List.{get_or_past}
use Rattle.std.proofs.lemmas.List.Elements.{All-contains}
use Rattle.clause_core.specs.Assignments.{assignment_of}
use Rattle.frame_core.specs.declared.parts.Lemma.{Lemma}
use Rattle.frame_core.specs.declared.parts.Parent.{Parent}
use Rattle.frame_core.specs.Facts.{ProvedClause, ClearLevel, FoundStep}
use Rattle.frame_core.specs.FrameLaw.{FrameState, InFrame, AllStand, Stands, IsAsHigh, system_at, lemma_at, no_lemma, raised_at, retired_at}
use Rattle.frame_core.specs.Looking.{IsKeptLevel}
use Rattle.frame_core.proofs.Changing.{Extends, Extends-added, Extends-raised, retired_lemma}
use Rattle.frame_history.specs.declared.entries.Limits.{Limits}
use Rattle.frame_history.specs.declared.entries.Subject.{Subject}
use Rattle.frame_history.specs.declared.entries.Subject.TheVariants.{Bad, Block, Push}
use Rattle.frame_history.specs.declared.entries.Made.{Made}
use Rattle.frame_history.specs.declared.entries.Lag.{Lag}
use Rattle.frame_history.specs.declared.entries.Lag.TheVariants as lag
use Rattle.frame_history.specs.declared.entries.Change.{Change}
use Rattle.frame_history.specs.declared.entries.Change.TheVariants.{Add, Raise, Held, Retire, Behind, Dropped, Note, Open, PushFailed, Limit}
use Rattle.frame_history.specs.declared.entries.Change.TheVariants as change
use Rattle.frame_history.specs.History.{BookState, changed, all_changed, claim_at, ended, is_behind, asked_level, asked_system, LagsBy, Accepts, AcceptsEach, AcceptsAll}
use Rattle.frame_history.proofs.Tracking.{same_but_live, as_long, none_is_some, some_same}
use Rattle.frame_query.specs.Findings.{IsOlder}
use Rattle.frame_book.specs.declared.claim.ClaimOutcome.{ClaimOutcome}
use Rattle.frame_book.specs.declared.claim.ClaimOutcome.TheVariants.{Proved, Step, Found, Clear, Spent}
use Rattle.frame_book.specs.Claims.{ClaimView}
use Rattle.frame_book.specs.Outcomes.{IsOutcomeOf, ComesOf}
use Rattle.frame_claims.specs.Outcomes.{IsTimely, IsSpentBy}

no_way : false ≡ true → ⊥
no_way e = let h : false ≡ true = e in cc

-- ---- The lemmas are the same or more, raised and retired

pub older_itself : (ls : List Lemma) → IsOlder ls ls
older_itself ls = record { shorter = omega arith; clause = λ n lt. refl; live = λ n lt on. on }

pub older_then : (a b c : List Lemma) → IsOlder a b → IsOlder b c → IsOlder a c
older_then a b c f s =
    let short = f.shorter in
    let long = s.shorter in
    record {
      shorter = omega arith;
      clause = λ n lt. f.clause n lt ∙ s.clause n (omega arith);
      live = λ n lt on. f.live n lt (s.live n (omega arith) on);
    }

older_extended : (a b : List Lemma) → Extends a b → IsOlder a b
older_extended a b e = record { shorter = e.longer; clause = λ n lt. sym (e.clause n lt); live = λ n lt on. sym (e.live n lt) ∙ on }

older_retired : (ls : List Lemma) (k : ℕ) → k < length ls → IsOlder ls (retired_at ls k)
older_retired ls k lt =
    record {
      shorter = omega (arith, as_long ls k);
      clause = λ n below. sym (same_but_live ls k n lt).0;
      live = λ n below on. elim (cases_eq n k) [
        | inl e ↦
            let here = get_or-set_same ls k (retired_lemma (lemma_at ls k)) no_lemma lt in
            let off : (lemma_at (retired_at ls k) n).live ≡ false = rw e (ap (λ (z : Lemma). z.live) here) in
            absurd (no_way (sym off ∙ on))
        | inr ne ↦ sym (ap (λ (z : Lemma). z.live) (get_or-set_other ls k n (retired_lemma (lemma_at ls k)) no_lemma ne)) ∙ on
      ];
    }

low_of : (ls : List Lemma) (n level : ℕ) → (IsAsHigh ls n level → ⊥) → (lemma_at ls n).level ≤ level
low_of ls n level needed = elim (cases_lt (lemma_at ls n).level level) [
  | inl less ↦ omega arith
  | inr more ↦ absurd (needed (inr (omega arith)))
]

older_change : (s : BookState) (c : Made) (d : Change) → Accepts s.frames c d → IsOlder s.frames.lemmas (changed s d).frames.lemmas
older_change s c (Add clause level parents) a =
    let l : Lemma = record { clause = clause; level = level; live = true } in
    older_extended s.frames.lemmas (s.frames.lemmas ++ l ∷ []) (Extends-added s.frames.lemmas l)
older_change s c (Raise n level parents) a =
    older_extended s.frames.lemmas (raised_at s.frames.lemmas n level) (Extends-raised s.frames.lemmas n level a.2 (low_of s.frames.lemmas n level a.3))
older_change s c (Held n clause level) a = older_itself s.frames.lemmas
older_change s c (Retire n) a = absurd a
older_change s c (Behind lag) a = older_itself s.frames.lemmas
older_change s c Dropped a = older_itself s.frames.lemmas
older_change s c (Note j values parent first) a = older_itself s.frames.lemmas
older_change s c (Open j) a = older_itself s.frames.lemmas
older_change s c (PushFailed n level) a = older_itself s.frames.lemmas
older_change s c (Limit j) a = absurd a
older_change s c change.Spent a = older_itself s.frames.lemmas

older_each : (limits : Limits) (s : BookState) (ds : List Change) → AcceptsEach limits s ds → IsOlder s.frames.lemmas (all_changed s ds).frames.lemmas
older_each limits s [] a = older_itself s.frames.lemmas
older_each limits s (Retire n ∷ ds) a =
    older_then s.frames.lemmas (changed s (Retire n)).frames.lemmas (all_changed s (Retire n ∷ ds)).frames.lemmas (older_retired s.frames.lemmas n a.0.0)
    (older_each limits (changed s (Retire n)) ds a.1)
older_each limits s (Limit j ∷ ds) a = older_each limits (changed s (Limit j)) ds a.1
older_each limits s (Add clause level parents ∷ ds) a = absurd a.0
older_each limits s (Raise n level parents ∷ ds) a = absurd a.0
older_each limits s (Held n clause level ∷ ds) a = absurd a.0
older_each limits s (Behind lag ∷ ds) a = absurd a.0
older_each limits s (Dropped ∷ ds) a = absurd a.0
older_each limits s (Note j values parent first ∷ ds) a = absurd a.0
older_each limits s (Open j ∷ ds) a = absurd a.0
older_each limits s (PushFailed n level ∷ ds) a = absurd a.0
older_each limits s (change.Spent ∷ ds) a = absurd a.0

pub older_all : (limits : Limits) (s : BookState) (c : Made) (ds : List Change) → AcceptsAll limits s c ds → IsOlder s.frames.lemmas (all_changed s ds).frames.lemmas
older_all limits s c [] a = absurd a
older_all limits s c (d ∷ ds) a =
    older_then s.frames.lemmas (changed s d).frames.lemmas (all_changed s (d ∷ ds)).frames.lemmas (older_change s c d a.0) (older_each limits (changed s d) ds a.1)

-- ---- Nothing is behind

-- a parent that stands has no level that is too low
stands_no_lag : (ls : List Lemma) (least : ℕ) (parents : List Parent) (p : Parent) (level : ℕ) → AllStand ls least parents → Contains parents p →
    IsKeptLevel ls p level → level < least → ⊥
stands_no_lag ls least parents p level stand there kept low =
    let s : Stands ls least p = All-contains (Stands ls least) parents p (stand (omega arith)) there in
    elim kept [
      | inl here ↦ let at = here.1 in omega (arith, s.2)
      | inr gone ↦ gone.0 (s.0, s.1)
    ]

-- of a proof that a claim of this subject gave
proved_no_lag : (f : FrameState) (v : ClaimView) (c : Made) (u : Subject) (p : ProvedClause) (parent : Parent) (level : ℕ) →
    IsOutcomeOf f.systems v u (Proved p) → c.subject ≡ u → c.level ≡ v.level → AllStand f.lemmas (v.level - 1) p.parents → Contains p.parents parent →
    IsKeptLevel f.lemmas parent level → level < asked_level c.subject c.level → ⊥
proved_no_lag f v c (Bad j) p parent level is of at stand there kept low = absurd is
proved_no_lag f v c (Block o) p parent level is of at stand there kept low =
    let low' : level < c.level - 1 = subst (λ (s : Subject). level < asked_level s c.level) of low in
    stands_no_lag f.lemmas (v.level - 1) p.parents parent level stand there kept (omega arith)
proved_no_lag f v c (Push n) p parent level is of at stand there kept low =
    let low' : level < c.level - 1 = subst (λ (s : Subject). level < asked_level s c.level) of low in
    stands_no_lag f.lemmas (v.level - 1) p.parents parent level stand there kept (omega arith)

clear_no_lag : (f : FrameState) (v : ClaimView) (c : Made) (u : Subject) (e : ClearLevel) (parent : Parent) (level : ℕ) →
    IsOutcomeOf f.systems v u (Clear e) → c.subject ≡ u → c.level ≡ v.level → AllStand f.lemmas v.level e.parents → Contains e.parents parent →
    IsKeptLevel f.lemmas parent level → level < asked_level c.subject c.level → ⊥
clear_no_lag f v c (Bad j) e parent level is of at stand there kept low =
    let low' : level < c.level = subst (λ (s : Subject). level < asked_level s c.level) of low in
    stands_no_lag f.lemmas v.level e.parents parent level stand there kept (omega arith)
clear_no_lag f v c (Block o) e parent level is of at stand there kept low = absurd is
clear_no_lag f v c (Push n) e parent level is of at stand there kept low = absurd is

step_no_lag : (f : FrameState) (v : ClaimView) (c : Made) (u : Subject) (s : FoundStep) (values : List Bool) →
    IsOutcomeOf f.systems v u (Step s) → c.subject ≡ u → c.level ≡ v.level → InFrame (system_at f.systems 0) f.lemmas (v.level - 1) (assignment_of s.values) →
    values ≡ s.values → LagsBy f c (lag.State values) → ⊥
step_no_lag f v c (Bad j) s values is of at inside same lags = absurd is
step_no_lag f v c (Block o) s values is of at inside same lags = absurd is
step_no_lag f v c (Push n) s values is of at inside same lags =
    let F : Subject → ℕ → List Bool → Type 0 = λ z i x. InFrame (system_at f.systems (asked_system f z)) f.lemmas (asked_level z i) (assignment_of x) in
    let one : F (Push n) v.level s.values = inside in
    lags (subst (λ (z : Subject). F z c.level values) (sym of) (subst (λ (i : ℕ). F (Push n) i values) (sym at) (subst (F (Push n) v.level) (sym same) one)))

found_no_lag : (f : FrameState) (v : ClaimView) (c : Made) (g values : List Bool) → c.subject ≡ v.subject → c.level ≡ v.level →
    InFrame (system_at f.systems (asked_system f v.subject)) f.lemmas (asked_level v.subject v.level) (assignment_of g) → values ≡ g →
    LagsBy f c (lag.State values) → ⊥
found_no_lag f v c g values of at inside same lags =
    let F : Subject → ℕ → List Bool → Type 0 = λ z i x. InFrame (system_at f.systems (asked_system f z)) f.lemmas (asked_level z i) (assignment_of x) in
    let one : F v.subject v.level g = inside in
    lags (subst (λ (z : Subject). F z c.level values) (sym of) (subst (λ (i : ℕ). F v.subject i values) (sym at) (subst (F v.subject v.level) (sym same) one)))

no_lag : (f : FrameState) (v : ClaimView) (c : Made) (o : ClaimOutcome) (l : Lag) → IsOutcomeOf f.systems v v.subject o → IsTimely f v o →
    c.subject ≡ v.subject → c.level ≡ v.level → ComesOf o (Behind l) → LagsBy f c l → ⊥
no_lag f v c (Proved p) (lag.Parent parent level) is timely of at comes lags =
    proved_no_lag f v c v.subject p parent level is of at timely comes lags.0 lags.1
no_lag f v c (Proved p) (lag.State values) is timely of at comes lags = absurd comes
no_lag f v c (Step s) (lag.Parent parent level) is timely of at comes lags = absurd comes
no_lag f v c (Step s) (lag.State values) is timely of at comes lags = step_no_lag f v c v.subject s values is of at timely comes lags
no_lag f v c (Found g) (lag.Parent parent level) is timely of at comes lags = absurd comes
no_lag f v c (Found g) (lag.State values) is timely of at comes lags = found_no_lag f v c g.values values of at timely comes lags
no_lag f v c (Clear e) (lag.Parent parent level) is timely of at comes lags =
    clear_no_lag f v c v.subject e parent level is of at timely comes lags.0 lags.1
no_lag f v c (Clear e) (lag.State values) is timely of at comes lags = absurd comes
no_lag f v c (Spent d b) (lag.Parent parent level) is timely of at comes lags = absurd comes
no_lag f v c (Spent d b) (lag.State values) is timely of at comes lags = absurd comes

pub not_behind : (f : FrameState) (v : ClaimView) (c : Made) (o : ClaimOutcome) (d : Change) (ds : List Change) → IsOutcomeOf f.systems v v.subject o →
    IsTimely f v o → c.subject ≡ v.subject → c.level ≡ v.level → ComesOf o d → Accepts f c d → is_behind (d ∷ ds) ≡ false
not_behind f v c o (Behind l) ds is timely of at comes a = absurd (no_lag f v c o l is timely of at comes a)
not_behind f v c o (Add clause level parents) ds is timely of at comes a = refl
not_behind f v c o (Raise n level parents) ds is timely of at comes a = refl
not_behind f v c o (Held n clause level) ds is timely of at comes a = refl
not_behind f v c o (Retire n) ds is timely of at comes a = refl
not_behind f v c o Dropped ds is timely of at comes a = refl
not_behind f v c o (Note j values parent first) ds is timely of at comes a = refl
not_behind f v c o (Open j) ds is timely of at comes a = refl
not_behind f v c o (PushFailed n level) ds is timely of at comes a = refl
not_behind f v c o (Limit j) ds is timely of at comes a = refl
not_behind f v c o change.Spent ds is timely of at comes a = refl

-- ---- That the purse was spent is noted only where it was

spent_by : (s : BookState) (o : ClaimOutcome) (d : Change) (over : Bool) → ComesOf o d → IsSpentBy over o → (changed s d).spent ≡ true →
    (s.spent ≡ true) ⊎ (over ≡ true)
spent_by s o (Behind l) over comes by on = inl on
spent_by s o (Add clause level parents) over comes by on = inl on
spent_by s o (Raise n level parents) over comes by on = inl on
spent_by s o (Held n clause level) over comes by on = inl on
spent_by s o (Retire n) over comes by on = inl on
spent_by s o Dropped over comes by on = inl on
spent_by s o (Note j values parent first) over comes by on = inl on
spent_by s o (Open j) over comes by on = inl on
spent_by s o (PushFailed n level) over comes by on = inl on
spent_by s o (Limit j) over comes by on = inl on
spent_by s (Spent d b) change.Spent over comes by on = inr by
spent_by s (Proved p) change.Spent over comes by on = absurd comes
spent_by s (Step t) change.Spent over comes by on = absurd comes
spent_by s (Found g) change.Spent over comes by on = absurd comes
spent_by s (Clear e) change.Spent over comes by on = absurd comes

pub spent_each : (limits : Limits) (s : BookState) (ds : List Change) → AcceptsEach limits s ds → (all_changed s ds).spent ≡ s.spent
spent_each limits s [] a = refl
spent_each limits s (Retire n ∷ ds) a = spent_each limits (changed s (Retire n)) ds a.1
spent_each limits s (Limit j ∷ ds) a = spent_each limits (changed s (Limit j)) ds a.1
spent_each limits s (Add clause level parents ∷ ds) a = absurd a.0
spent_each limits s (Raise n level parents ∷ ds) a = absurd a.0
spent_each limits s (Held n clause level ∷ ds) a = absurd a.0
spent_each limits s (Behind lag ∷ ds) a = absurd a.0
spent_each limits s (Dropped ∷ ds) a = absurd a.0
spent_each limits s (Note j values parent first ∷ ds) a = absurd a.0
spent_each limits s (Open j ∷ ds) a = absurd a.0
spent_each limits s (PushFailed n level ∷ ds) a = absurd a.0
spent_each limits s (change.Spent ∷ ds) a = absurd a.0

pub spent_all : (limits : Limits) (s : BookState) (o : ClaimOutcome) (d : Change) (ds : List Change) (over : Bool) → ComesOf o d → IsSpentBy over o →
    AcceptsEach limits (changed s d) ds → (all_changed s (d ∷ ds)).spent ≡ true → (s.spent ≡ true) ⊎ (over ≡ true)
spent_all limits s o d ds over comes by a on = spent_by s o d over comes by (sym (spent_each limits (changed s d) ds a) ∙ on)

-- ---- The claims after the settlement

-- the one claim that was out is ended, and not void; the others were ended before
pub all_ended : (claims : List (Option Made)) (made : Made) → ((n : ℕ) (c : Made) → claim_at claims n ≡ Some c → (c.out ≡ false) × (c.void ≡ false)) →
    (n : ℕ) (c : Made) →
    claim_at (set (claims ++ Some made ∷ []) (length claims) (ended false (claim_at (claims ++ Some made ∷ []) (length claims))) ++ None ∷ []) n ≡ Some c →
    (c.out ≡ false) × (c.void ≡ false)
all_ended claims made h n c is =
    let more : List (Option Made) = claims ++ Some made ∷ [] in
    let k : ℕ = length claims in
    let x : Option Made = ended false (claim_at more k) in
    let whole : List (Option Made) = set more k x in
    let long = length-append claims (Some made ∷ []) in
    let as_long' = length-set more k x in
    elim (cases_lt n (length whole)) [
      | inr ge ↦ elim (cases_eq n (length whole)) [
        | inl e ↦ absurd (none_is_some c (sym (rw e (get_or-append_seam whole None [] None)) ∙ is))
        | inr ne ↦ absurd (none_is_some c (sym (get_or_past (whole ++ None ∷ []) n None (omega (arith, length-append whole (None ∷ [])))) ∙ is))
      ]
      | inl lt ↦
          let at : claim_at whole n ≡ Some c = sym (get_or-append whole (None ∷ []) None n lt) ∙ is in
          elim (cases_eq n k) [
            | inl e ↦
                let last : claim_at more k ≡ Some made = get_or-append_seam claims (Some made) [] None in
                let d : Made = record made { out = false; void = false } in
                let here : claim_at whole k ≡ Some d = get_or-set_same more k x None (omega arith) ∙ ap (ended false) last in
                let is_d : d ≡ c = some_same d c (sym here ∙ subst (λ (m : ℕ). claim_at whole m ≡ Some c) e at) in
                (ap (λ (z : Made). z.out) (sym is_d), ap (λ (z : Made). z.void) (sym is_d))
            | inr ne ↦
                let before : claim_at more n ≡ Some c = sym (get_or-set_other more k n x None ne) ∙ at in
                let there : claim_at claims n ≡ Some c = sym (get_or-append claims (Some made ∷ []) None n (omega arith)) ∙ before in
                h n c there
          ]
    ]
