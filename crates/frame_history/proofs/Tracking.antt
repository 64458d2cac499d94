-- What every lawful history keeps beside the law of the frames: claims fit the frames, and those that are settled had
-- their effect.
use Rattle.std.proofs.Common.{◌≡◌, ℕ, ◌+◌, ◌-◌, ◌<◌, ◌≤◌, ◌⊎◌, Bool, true, false, List, [], ◌∷◌, ◌++◌, length, set, refl, sym, subst, ap, ◌∙◌, inl, inr, arith, length-set, length-append, get_or-set_same, get_or-set_other}
use Rattle.std.specs.Prelude.{Option, Some, None, slice_index_or, replicate}
use Rattle.std.proofs.Math.ListN.{get_or-append}
use Rattle.std.proofs.Math.Seq.{get_or-append_seam}
use Rattle.std.proofs.lemmas.Bool.{cases_eq, cases_lt}
use Rattle.std.proofs.lemmas.List.{get_or_past, get_or-replicate, length-replicate}
use Rattle.clause_core.specs.declared.literal.Lit.{Lit}
use Rattle.clause_core.specs.declared.bits.Bits.{Bits}
use Rattle.clause_core.specs.Assignments.{ClauseTrue, assignment_of}
use Rattle.clause_core.specs.Systems.{TransitionSystem}
use Rattle.frame_core.specs.declared.parts.Lemma.{Lemma}
use Rattle.frame_core.specs.declared.parts.Obligation.{Obligation}
use Rattle.frame_core.specs.Facts.{IsPart}
use Rattle.frame_core.specs.FrameLaw.{FrameState, FramesHold, InFrame, IsAsHigh, system_at, top_at, lemma_at, no_lemma, obligation_at, no_obligation, retired_at}
use Rattle.frame_core.proofs.Changing.{Extends, Extends-added, Extends-raised, ClauseTrue-part, retired_lemma}
use Rattle.frame_history.specs.declared.entries.Limits.{Limits}
use Rattle.frame_history.specs.declared.entries.Subject.{Subject}
use Rattle.frame_history.specs.declared.entries.Subject.TheVariants.{Bad, Block, Push}
use Rattle.frame_history.specs.declared.entries.Made.{Made}
use Rattle.frame_history.specs.declared.entries.Change.{Change}
use Rattle.frame_history.specs.declared.entries.Change.TheVariants.{Add, Raise, Held, Retire, Behind, Dropped, Note, Open, PushFailed, Limit, Spent}
use Rattle.frame_history.specs.declared.entries.Entry.{Entry}
use Rattle.frame_history.specs.declared.entries.Entry.TheVariants.{Claim, Settle, Back}
use Rattle.frame_history.specs.History.{BookState, changed, all_changed, after, replay, claim_at, ended, with_ended, is_behind, Accepts, AcceptsNext, AcceptsEach, AcceptsAll, MayStand, IsLawful, IsOpenTask, start}
use Rattle.frame_history.specs.Limits.{IsLeft}
use Rattle.frame_history.proofs.Keeping.{keeps_entry}

no_way : false ≡ true → ⊥
no_way e = let h : false ≡ true = e in cc

pub none_is_some : (c : Made) → None ≡ Some c → ⊥
none_is_some c e = let h : None ≡ Some c = e in cc

pub some_same : (a b : Made) → Some a ≡ Some b → a ≡ b
some_same a b e = let h : Some a ≡ Some b = e in cc

-- ---- What is kept

-- what a claim asks is there, at a level that it may have
abbrev pub Fits : Limits → FrameState → Subject → ℕ → Type 0
Fits limits f (Bad j) level = (level ≤ top_at f.tops j) × (level ≤ limits.frames)
Fits limits f (Block o) level = (o < length f.obligations) × (0 < level)
Fits limits f (Push l) level =
    (l < length f.lemmas) × (level ≤ (lemma_at f.lemmas l).level + 1) × (0 < level) × (level ≤ limits.frames + 1)

-- an obligation of j has its state in frame i
abbrev pub HasObligation : FrameState → ℕ → ℕ → Type 0
HasObligation f j i =
    (o : ℕ) × (o < length f.obligations) × ((obligation_at f.obligations o).system ≡ j)
    × InFrame (system_at f.systems j) f.lemmas i (assignment_of (obligation_at f.obligations o).values)

-- what came of a claim: the purse is spent; or the top was opened, or a bad state of its frame is an obligation; or the
-- obligation's state is out of the frame, or one of the frame below leads to it; or the push failed, or the lemma needs
-- it no more
abbrev pub EffectOf : BookState → Subject → ℕ → Type 0
EffectOf s (Bad j) level = (s.spent ≡ true) ⊎ ((level < top_at s.frames.tops j) ⊎ HasObligation s.frames j level)
EffectOf s (Block o) level =
    let obligation = obligation_at s.frames.obligations o in
    (s.spent ≡ true)
    ⊎ ((InFrame (system_at s.frames.systems obligation.system) s.frames.lemmas level (assignment_of obligation.values) → ⊥)
    ⊎ HasObligation s.frames obligation.system (level - 1))
EffectOf s (Push l) level = (s.spent ≡ true) ⊎ ((slice_index_or s.failed (level - 1) false ≡ true) ⊎ IsAsHigh s.frames.lemmas l level)

abbrev pub KeptClaim : Limits → BookState → Made → Type 0
KeptClaim limits s c = (c.growth ≤ s.growth) × Fits limits s.frames c.subject c.level

-- a claim that is out no more, and not void, had its effect, if no lemma was added or raised since
abbrev pub HadEffect : BookState → Made → Type 0
HadEffect s c = c.out ≡ false → c.void ≡ false → c.growth ≡ s.growth → EffectOf s c.subject c.level

pub record IsTracked (limits : Limits) (s : BookState) : Type 0 where
  pub tops : (j : ℕ) → top_at s.frames.tops j ≤ limits.frames + 1
  pub long : length s.failed ≡ limits.frames + 1
  pub left : (i : ℕ) → 0 < i → slice_index_or s.failed i false ≡ true → IsLeft s.frames i
  pub claims : (n : ℕ) (c : Made) → claim_at s.claims n ≡ Some c → KeptClaim limits s c
  pub effects : (n : ℕ) (c : Made) → claim_at s.claims n ≡ Some c → HadEffect s c

-- ---- A lemma that is retired

pub same_but_live : (ls : List Lemma) (k n : ℕ) → k < length ls →
    ((lemma_at (retired_at ls k) n).clause ≡ (lemma_at ls n).clause) × ((lemma_at (retired_at ls k) n).level ≡ (lemma_at ls n).level)
same_but_live ls k n lt = elim (cases_eq n k) [
  | inl e ↦
      let here : lemma_at (retired_at ls k) k ≡ retired_lemma (lemma_at ls k) = get_or-set_same ls k (retired_lemma (lemma_at ls k)) no_lemma lt in
      rw e (ap (λ (z : Lemma). z.clause) here, ap (λ (z : Lemma). z.level) here)
  | inr ne ↦
      let there : lemma_at (retired_at ls k) n ≡ lemma_at ls n = get_or-set_other ls k n (retired_lemma (lemma_at ls k)) no_lemma ne in
      (ap (λ (z : Lemma). z.clause) there, ap (λ (z : Lemma). z.level) there)
]

pub as_long : (ls : List Lemma) (k : ℕ) → length (retired_at ls k) ≡ length ls
as_long ls k = length-set ls k (retired_lemma (lemma_at ls k))

still_retired : (ls : List Lemma) (k l : ℕ) → k < length ls → (lemma_at ls l).live ≡ false → (lemma_at (retired_at ls k) l).live ≡ false
still_retired ls k l lt off = elim (cases_eq l k) [
  | inl e ↦
      let here : lemma_at (retired_at ls k) k ≡ retired_lemma (lemma_at ls k) = get_or-set_same ls k (retired_lemma (lemma_at ls k)) no_lemma lt in
      rw e (ap (λ (z : Lemma). z.live) here)
  | inr ne ↦ ap (λ (z : Lemma). z.live) (get_or-set_other ls k l (retired_lemma (lemma_at ls k)) no_lemma ne) ∙ off
]

-- ---- From one state to a later one

-- the frames are the same but for retired lemmas, and what was noted is noted still
pub record IsSame (s t : BookState) : Type 0 where
  pub into : (j i : ℕ) (x : ℕ → Bool) → InFrame (system_at s.frames.systems j) s.frames.lemmas i x → InFrame (system_at s.frames.systems j) t.frames.lemmas i x
  pub back : (j i : ℕ) (x : ℕ → Bool) → InFrame (system_at s.frames.systems j) t.frames.lemmas i x → InFrame (system_at s.frames.systems j) s.frames.lemmas i x
  pub high : (l level : ℕ) → IsAsHigh s.frames.lemmas l level → IsAsHigh t.frames.lemmas l level
  pub failed : (i : ℕ) → slice_index_or s.failed i false ≡ true → slice_index_or t.failed i false ≡ true
  pub spent : s.spent ≡ true → t.spent ≡ true

pub record IsLater (s t : BookState) : Type 0 where
  pub systems : t.frames.systems ≡ s.frames.systems
  pub claims : t.claims ≡ s.claims
  pub tops : (j : ℕ) → top_at s.frames.tops j ≤ top_at t.frames.tops j
  pub lemmas : length s.frames.lemmas ≤ length t.frames.lemmas
  pub levels : (l : ℕ) → l < length s.frames.lemmas → (lemma_at s.frames.lemmas l).level ≤ (lemma_at t.frames.lemmas l).level
  pub more : length s.frames.obligations ≤ length t.frames.obligations
  pub obligations : (o : ℕ) → o < length s.frames.obligations → obligation_at t.frames.obligations o ≡ obligation_at s.frames.obligations o
  pub growth : IsSame s t × (t.growth ≡ s.growth) ⊎ (s.growth < t.growth)

fits_later : (limits : Limits) (s t : BookState) (u : Subject) (level : ℕ) → IsLater s t → Fits limits s.frames u level → Fits limits t.frames u level
fits_later limits s t (Bad j) level l fit = let up = l.tops j in (omega (arith, fit.0), fit.1)
fits_later limits s t (Block o) level l fit = let up = l.more in (omega (arith, fit.0), fit.1)
fits_later limits s t (Push k) level l fit =
    let up = l.levels k fit.0 in
    let long = l.lemmas in
    (omega (arith, fit.0), omega (arith, fit.1), fit.2, fit.3)

has_later : (s t : BookState) (j i : ℕ) → IsLater s t → IsSame s t → HasObligation s.frames j i → HasObligation t.frames j i
has_later s t j i l same h =
    let long = l.more in
    let is : obligation_at t.frames.obligations h.0 ≡ obligation_at s.frames.obligations h.0 = l.obligations h.0 h.1 in
    let P : List TransitionSystem → Type 0 = λ z. InFrame (system_at z j) t.frames.lemmas i (assignment_of (obligation_at t.frames.obligations h.0).values) in
    let Q : Obligation → Type 0 = λ z. InFrame (system_at s.frames.systems j) t.frames.lemmas i (assignment_of z.values) in (
      h.0,
      omega (arith, h.1),
      ap (λ (z : Obligation). z.system) is ∙ h.2,
      subst P (sym l.systems) (subst Q (sym is) (same.into j i (assignment_of (obligation_at s.frames.obligations h.0).values) h.3)),
    )

effect_later : (limits : Limits) (s t : BookState) (u : Subject) (level : ℕ) → IsLater s t → IsSame s t → Fits limits s.frames u level → EffectOf s u level →
    EffectOf t u level
effect_later limits s t (Bad j) level l same fit (inl spent) = inl (same.spent spent)
effect_later limits s t (Bad j) level l same fit (inr (inl opened)) = let up = l.tops j in inr (inl (omega (arith, opened)))
effect_later limits s t (Bad j) level l same fit (inr (inr has)) = inr (inr (has_later s t j level l same has))
effect_later limits s t (Block o) level l same fit (inl spent) = inl (same.spent spent)
effect_later limits s t (Block o) level l same fit (inr (inl out)) =
    let is : obligation_at t.frames.obligations o ≡ obligation_at s.frames.obligations o = l.obligations o fit.0 in
    inr (inl (λ inside.
    let P : List TransitionSystem → Type 0 =
    λ z. InFrame (system_at z (obligation_at t.frames.obligations o).system) t.frames.lemmas level (assignment_of (obligation_at t.frames.obligations o).values) in
    let Q : Obligation → Type 0 = λ z. InFrame (system_at s.frames.systems z.system) t.frames.lemmas level (assignment_of z.values) in
    out (same.back (obligation_at s.frames.obligations o).system level (assignment_of (obligation_at s.frames.obligations o).values)
    (subst Q is (subst P l.systems inside)))))
effect_later limits s t (Block o) level l same fit (inr (inr has)) =
    let is : obligation_at t.frames.obligations o ≡ obligation_at s.frames.obligations o = l.obligations o fit.0 in
    let P : Obligation → Type 0 = λ z. HasObligation t.frames z.system (level - 1) in
    inr (inr (subst P (sym is) (has_later s t (obligation_at s.frames.obligations o).system (level - 1) l same has)))
effect_later limits s t (Push k) level l same fit (inl spent) = inl (same.spent spent)
effect_later limits s t (Push k) level l same fit (inr (inl failed)) = inr (inl (same.failed (level - 1) failed))
effect_later limits s t (Push k) level l same fit (inr (inr high)) = inr (inr (same.high k level high))

kept_later : (limits : Limits) (s t : BookState) (c : Made) → IsLater s t → KeptClaim limits s c → KeptClaim limits t c
kept_later limits s t c l k = (elim l.growth [ inl same ↦ omega (arith, k.0, same.1) | inr up ↦ omega (arith, k.0) ], fits_later limits s t c.subject c.level l k.1)

had_later : (limits : Limits) (s t : BookState) (c : Made) → IsLater s t → KeptClaim limits s c → HadEffect s c → HadEffect t c
had_later limits s t c l k h out void at = elim l.growth [
  | inl same ↦ effect_later limits s t c.subject c.level l same.0 k.1 (h out void (at ∙ same.1))
  | inr up ↦ absurd (omega (arith, k.0, at, up))
]

-- ---- Each change is to a later state

itself : (s : BookState) → IsSame s s
itself s = record { into = λ j i x h. h; back = λ j i x h. h; high = λ l level h. h; failed = λ i h. h; spent = λ h. h }

-- nothing of the frames changes but tops, obligations and marks
alike : (s t : BookState) → t.frames.systems ≡ s.frames.systems → t.frames.lemmas ≡ s.frames.lemmas →
    ((i : ℕ) → slice_index_or s.failed i false ≡ true → slice_index_or t.failed i false ≡ true) → (s.spent ≡ true → t.spent ≡ true) → IsSame s t
alike s t systems lemmas failed spent =
    record {
      into = λ j i x h. subst (λ (z : List Lemma). InFrame (system_at s.frames.systems j) z i x) (sym lemmas) h;
      back = λ j i x h. subst (λ (z : List Lemma). InFrame (system_at s.frames.systems j) z i x) lemmas h;
      high = λ l level h. subst (λ (z : List Lemma). IsAsHigh z l level) (sym lemmas) h;
      failed = failed;
      spent = spent;
    }

grown_later : (s : BookState) (f : FrameState) (fails : List Bool) → f.systems ≡ s.frames.systems → f.tops ≡ s.frames.tops →
    f.obligations ≡ s.frames.obligations → Extends s.frames.lemmas f.lemmas → IsLater s (record s { frames = f; growth = s.growth + 1; failed = fails })
grown_later s f fails systems tops obligations e =
    record {
      systems = systems;
      claims = refl;
      tops = λ j. let same = ap (λ (z : List ℕ). top_at z j) tops in omega arith;
      lemmas = e.longer;
      levels = e.level;
      more = let same = ap (λ (z : List Obligation). length z) obligations in omega arith;
      obligations = λ o lt. ap (λ (z : List Obligation). obligation_at z o) obligations;
      growth = inr (omega arith);
    }

-- lemmas and obligations are the same, and tops no lower
quiet_later : (s t : BookState) → t.frames.systems ≡ s.frames.systems → t.claims ≡ s.claims → ((j : ℕ) → top_at s.frames.tops j ≤ top_at t.frames.tops j) →
    t.frames.lemmas ≡ s.frames.lemmas → t.frames.obligations ≡ s.frames.obligations → t.growth ≡ s.growth →
    ((i : ℕ) → slice_index_or s.failed i false ≡ true → slice_index_or t.failed i false ≡ true) → (s.spent ≡ true → t.spent ≡ true) → IsLater s t
quiet_later s t systems claims tops lemmas obligations growth failed spent =
    record {
      systems = systems;
      claims = claims;
      tops = tops;
      lemmas = let same = ap (λ (z : List Lemma). length z) lemmas in omega arith;
      levels = λ l lt. let same = ap (λ (z : List Lemma). (lemma_at z l).level) lemmas in omega arith;
      more = let same = ap (λ (z : List Obligation). length z) obligations in omega arith;
      obligations = λ o lt. ap (λ (z : List Obligation). obligation_at z o) obligations;
      growth = inl (alike s t systems lemmas failed spent, growth);
    }

same_later : (s t : BookState) → t.frames ≡ s.frames → t.claims ≡ s.claims → t.growth ≡ s.growth →
    ((i : ℕ) → slice_index_or s.failed i false ≡ true → slice_index_or t.failed i false ≡ true) → (s.spent ≡ true → t.spent ≡ true) → IsLater s t
same_later s t frames claims growth failed spent =
    quiet_later s t (ap (λ (f : FrameState). f.systems) frames) claims
    (λ j. let same = ap (λ (f : FrameState). top_at f.tops j) frames in omega arith) (ap (λ (f : FrameState). f.lemmas) frames)
    (ap (λ (f : FrameState). f.obligations) frames) growth failed spent

opens_up : (tops : List ℕ) (j k : ℕ) → top_at tops k ≤ top_at (set tops j (top_at tops j + 1)) k
opens_up tops j k = elim (cases_eq k j) [
  | inl e ↦ elim (cases_lt j (length tops)) [
    | inl lt ↦ let here = get_or-set_same tops j (top_at tops j + 1) 0 lt in rw e (omega arith)
    | inr ge ↦ let old = get_or_past tops j 0 ge in rw e (omega arith)
  ]
  | inr ne ↦ let there = get_or-set_other tops j k (top_at tops j + 1) 0 ne in omega arith
]

noted_later : (s : BookState) (x : Obligation) → IsLater s (record s { frames = record s.frames { obligations = s.frames.obligations ++ x ∷ [] } })
noted_later s x =
    let t : BookState = record s { frames = record s.frames { obligations = s.frames.obligations ++ x ∷ [] } } in
    record {
      systems = refl;
      claims = refl;
      tops = λ j. omega arith;
      lemmas = omega arith;
      levels = λ l lt. omega arith;
      more = omega (arith, length-append s.frames.obligations (x ∷ []));
      obligations = λ o lt. get_or-append s.frames.obligations (x ∷ []) no_obligation o lt;
      growth = inl (alike s t refl refl (λ i h. h) (λ h. h), refl);
    }

marks_more : (xs : List Bool) (k i : ℕ) → slice_index_or xs i false ≡ true → slice_index_or (set xs k true) i false ≡ true
marks_more xs k i on = elim (cases_eq i k) [
  | inl e ↦ elim (cases_lt k (length xs)) [
    | inl lt ↦ rw e (get_or-set_same xs k true false lt)
    | inr ge ↦ absurd (no_way (sym (get_or_past xs k false ge) ∙ subst (λ (m : ℕ). slice_index_or xs m false ≡ true) e on))
  ]
  | inr ne ↦ get_or-set_other xs k i true false ne ∙ on
]

retired_later : (s : BookState) (n : ℕ) → n < length s.frames.lemmas → IsLater s (changed s (Retire n))
retired_later s n lt =
    let ls : List Lemma = s.frames.lemmas in
    let same : IsSame s (changed s (Retire n)) = record {
      into = λ j i x h. (
        h.0,
        λ some k below high.
            let is = same_but_live ls n k lt in
            subst (ClauseTrue x) (sym is.0) (h.1 some k (omega (arith, as_long ls n)) (omega (arith, is.1))),
      );
      back = λ j i x h. (
        h.0,
        λ some k below high.
            let is = same_but_live ls n k lt in
            subst (ClauseTrue x) is.0 (h.1 some k (omega (arith, as_long ls n)) (omega (arith, is.1))),
      );
      high = λ l level h. elim h [
        | inl off ↦ inl (still_retired ls n l lt off)
        | inr up ↦ let is = same_but_live ls n l lt in inr (omega (arith, up, is.1))
      ];
      failed = λ i h. h;
      spent = λ h. h;
    } in
    record {
      systems = refl;
      claims = refl;
      tops = λ j. omega arith;
      lemmas = omega (arith, as_long ls n);
      levels = λ l below. let is = same_but_live ls n l lt in omega (arith, is.1);
      more = omega arith;
      obligations = λ o below. refl;
      growth = inl (same, refl);
    }

low_of : (ls : List Lemma) (n level : ℕ) → (IsAsHigh ls n level → ⊥) → (lemma_at ls n).level ≤ level
low_of ls n level needed = elim (cases_lt (lemma_at ls n).level level) [
  | inl less ↦ omega arith
  | inr more ↦ absurd (needed (inr (omega arith)))
]

change_later : (s : BookState) (c : Made) (d : Change) → Accepts s.frames c d → IsLater s (changed s d)
change_later s c (Add clause level parents) a =
    let l : Lemma = record { clause = clause; level = level; live = true } in
    grown_later s (changed s (Add clause level parents)).frames (replicate (length s.failed) false) refl refl refl (Extends-added s.frames.lemmas l)
change_later s c (Raise n level parents) a =
    grown_later s (changed s (Raise n level parents)).frames (replicate (length s.failed) false) refl refl refl
    (Extends-raised s.frames.lemmas n level a.2 (low_of s.frames.lemmas n level a.3))
change_later s c (Held n clause level) a = same_later s s refl refl refl (λ i h. h) (λ h. h)
change_later s c (Retire n) a = absurd a
change_later s c (Behind lag) a = same_later s s refl refl refl (λ i h. h) (λ h. h)
change_later s c Dropped a = same_later s s refl refl refl (λ i h. h) (λ h. h)
change_later s c (Note j values parent first) a = noted_later s (record { system = j; values = values; parent = parent; first = first })
change_later s c (Open j) a =
    quiet_later s (changed s (Open j)) refl refl (λ k. opens_up s.frames.tops j k) refl refl refl (λ i h. h) (λ h. h)
change_later s c (PushFailed n level) a = same_later s (changed s (PushFailed n level)) refl refl refl (marks_more s.failed level) (λ h. h)
change_later s c (Limit j) a = absurd a
change_later s c Spent a = same_later s (changed s Spent) refl refl refl (λ i h. h) (λ h. refl)

next_later : (limits : Limits) (s : BookState) (d : Change) → AcceptsNext limits s d → IsLater s (changed s d)
next_later limits s (Retire n) a = retired_later s n a.0
next_later limits s (Limit j) a = same_later s (changed s (Limit j)) refl refl refl (λ i h. h) (λ h. h)
next_later limits s (Add clause level parents) a = absurd a
next_later limits s (Raise n level parents) a = absurd a
next_later limits s (Held n clause level) a = absurd a
next_later limits s (Behind lag) a = absurd a
next_later limits s Dropped a = absurd a
next_later limits s (Note j values parent first) a = absurd a
next_later limits s (Open j) a = absurd a
next_later limits s (PushFailed n level) a = absurd a
next_later limits s Spent a = absurd a

-- ---- Claims and effects in a later state

claims_later : (limits : Limits) (s t : BookState) → IsLater s t → ((n : ℕ) (c : Made) → claim_at s.claims n ≡ Some c → KeptClaim limits s c) →
    (n : ℕ) (c : Made) → claim_at t.claims n ≡ Some c → KeptClaim limits t c
claims_later limits s t l h n c is = kept_later limits s t c l (h n c (subst (λ (z : List (Option Made)). claim_at z n ≡ Some c) l.claims is))

effects_later : (limits : Limits) (s t : BookState) → IsLater s t → ((n : ℕ) (c : Made) → claim_at s.claims n ≡ Some c → KeptClaim limits s c) →
    ((n : ℕ) (c : Made) → claim_at s.claims n ≡ Some c → HadEffect s c) → (n : ℕ) (c : Made) → claim_at t.claims n ≡ Some c → HadEffect t c
effects_later limits s t l k h n c is =
    let is' : claim_at s.claims n ≡ Some c = subst (λ (z : List (Option Made)). claim_at z n ≡ Some c) l.claims is in
    had_later limits s t c l (k n c is') (h n c is')

-- ---- Steps that lead out of frames

left_same : (s t : BookState) → IsSame s t → t.frames.systems ≡ s.frames.systems → (i : ℕ) → IsLeft s.frames i → IsLeft t.frames i
left_same s t same systems i h =
    let P : List TransitionSystem → Type 0 = λ z. IsLeft (record t.frames { systems = z }) i in
    subst P (sym systems) (h.0, h.1, same.into 0 i h.0 h.2, h.3, λ inside. h.4 (same.back 0 i h.1 inside))

none_failed : (m i : ℕ) → slice_index_or (replicate m false) i false ≡ true → ⊥
none_failed m i on = elim (cases_lt i m) [
  | inl lt ↦ no_way (sym (get_or-replicate m i false false lt) ∙ on)
  | inr ge ↦ no_way (sym (get_or_past (replicate m false) i false (omega (arith, length-replicate m false))) ∙ on)
]

-- a step that leaves a lemma leaves the frame that the push was from
leaves_frame : (limits : Limits) (f : FrameState) (n level : ℕ) → Fits limits f (Push n) (level + 1) → (y : ℕ → Bool) → 0 < level →
    (ClauseTrue y (lemma_at f.lemmas n).clause → ⊥) → InFrame (system_at f.systems 0) f.lemmas level y → ⊥
leaves_frame limits f n level fit y some out inside = out (inside.1 some n fit.0 (omega (arith, fit.1)))

fits_push : (limits : Limits) (f : FrameState) (c : Made) (n level : ℕ) → Fits limits f c.subject c.level → c.subject ≡ Push n → c.level ≡ level →
    Fits limits f (Push n) level
fits_push limits f c n level fit of at =
    subst (λ (k : ℕ). Fits limits f (Push n) k) at (subst (λ (u : Subject). Fits limits f u c.level) of fit)

left_failed : (limits : Limits) (s : BookState) (c : Made) (n level : ℕ) → IsTracked limits s → KeptClaim limits s c →
    Accepts s.frames c (PushFailed n level) → (i : ℕ) → 0 < i → slice_index_or (set s.failed level true) i false ≡ true → IsLeft s.frames i
left_failed limits s c n level h k a i some on = elim (cases_eq i level) [
  | inl e ↦
      let w = a.2 in
      let at : 0 < level = omega arith in
      let out = leaves_frame limits s.frames n level (fits_push limits s.frames c n (level + 1) k.1 a.0 a.1) w.1 at w.4 in
      let left : IsLeft s.frames level = (w.0, w.1, w.2, w.3, out) in
      subst (IsLeft s.frames) (sym e) left
  | inr ne ↦ h.left i some (sym (get_or-set_other s.failed level i true false ne) ∙ on)
]

-- ---- Tops stay at most one past the limit

top_opened : (limits : Limits) (tops : List ℕ) (j k : ℕ) → top_at tops j ≤ limits.frames → top_at tops k ≤ limits.frames + 1 →
    top_at (set tops j (top_at tops j + 1)) k ≤ limits.frames + 1
top_opened limits tops j k low here = elim (cases_eq k j) [
  | inl e ↦ elim (cases_lt j (length tops)) [
    | inl lt ↦ let at = get_or-set_same tops j (top_at tops j + 1) 0 lt in rw e (omega arith)
    | inr ge ↦
        let at = get_or_past (set tops j (top_at tops j + 1)) j 0 (omega (arith, length-set tops j (top_at tops j + 1))) in
        rw e (omega arith)
  ]
  | inr ne ↦ let at = get_or-set_other tops j k (top_at tops j + 1) 0 ne in omega arith
]

fits_bad : (limits : Limits) (f : FrameState) (c : Made) (j level : ℕ) → Fits limits f c.subject c.level → c.subject ≡ Bad j → c.level ≡ level →
    Fits limits f (Bad j) level
fits_bad limits f c j level fit of at =
    subst (λ (k : ℕ). Fits limits f (Bad j) k) at (subst (λ (u : Subject). Fits limits f u c.level) of fit)

-- ---- A change keeps all of it

change_tracked : (limits : Limits) (s : BookState) (c : Made) (d : Change) → IsTracked limits s → KeptClaim limits s c → Accepts s.frames c d →
    IsTracked limits (changed s d)
change_tracked limits s c (Add clause level parents) h k a =
    let t : BookState = changed s (Add clause level parents) in
    let l = change_later s c (Add clause level parents) a in
    record {
      tops = h.tops;
      long = length-replicate (length s.failed) false ∙ h.long;
      left = λ i some on. absurd (none_failed (length s.failed) i on);
      claims = claims_later limits s t l h.claims;
      effects = effects_later limits s t l h.claims h.effects;
    }
change_tracked limits s c (Raise n level parents) h k a =
    let t : BookState = changed s (Raise n level parents) in
    let l = change_later s c (Raise n level parents) a in
    record {
      tops = h.tops;
      long = length-replicate (length s.failed) false ∙ h.long;
      left = λ i some on. absurd (none_failed (length s.failed) i on);
      claims = claims_later limits s t l h.claims;
      effects = effects_later limits s t l h.claims h.effects;
    }
change_tracked limits s c (Held n clause level) h k a = h
change_tracked limits s c (Retire n) h k a = absurd a
change_tracked limits s c (Behind lag) h k a = h
change_tracked limits s c Dropped h k a = h
change_tracked limits s c (Note j values parent first) h k a =
    let t : BookState = changed s (Note j values parent first) in
    let l = change_later s c (Note j values parent first) a in
    record {
      tops = h.tops;
      long = h.long;
      left = h.left;
      claims = claims_later limits s t l h.claims;
      effects = effects_later limits s t l h.claims h.effects;
    }
change_tracked limits s c (Open j) h k a =
    let t : BookState = changed s (Open j) in
    let l = change_later s c (Open j) a in
    let low = (fits_bad limits s.frames c j (top_at s.frames.tops j) k.1 a.0 a.1).1 in
    record {
      tops = λ i. top_opened limits s.frames.tops j i low (h.tops i);
      long = h.long;
      left = h.left;
      claims = claims_later limits s t l h.claims;
      effects = effects_later limits s t l h.claims h.effects;
    }
change_tracked limits s c (PushFailed n level) h k a =
    let t : BookState = changed s (PushFailed n level) in
    let l = change_later s c (PushFailed n level) a in
    record {
      tops = h.tops;
      long = length-set s.failed level true ∙ h.long;
      left = left_failed limits s c n level h k a;
      claims = claims_later limits s t l h.claims;
      effects = effects_later limits s t l h.claims h.effects;
    }
change_tracked limits s c (Limit j) h k a = absurd a
change_tracked limits s c Spent h k a =
    let t : BookState = changed s Spent in
    let l = change_later s c Spent a in
    record {
      tops = h.tops;
      long = h.long;
      left = h.left;
      claims = claims_later limits s t l h.claims;
      effects = effects_later limits s t l h.claims h.effects;
    }

same_in : (s t : BookState) → IsLater s t → t.growth ≡ s.growth → IsSame s t
same_in s t l e = elim l.growth [ inl same ↦ same.0 | inr up ↦ absurd (omega (arith, up)) ]

next_tracked : (limits : Limits) (s : BookState) (d : Change) → IsTracked limits s → AcceptsNext limits s d → IsTracked limits (changed s d)
next_tracked limits s (Retire n) h a =
    let t : BookState = changed s (Retire n) in
    let l = next_later limits s (Retire n) a in
    record {
      tops = h.tops;
      long = h.long;
      left = λ i some on. left_same s t (same_in s t l refl) refl i (h.left i some on);
      claims = claims_later limits s t l h.claims;
      effects = effects_later limits s t l h.claims h.effects;
    }
next_tracked limits s (Limit j) h a =
    let t : BookState = changed s (Limit j) in
    let l = next_later limits s (Limit j) a in
    record {
      tops = h.tops;
      long = h.long;
      left = h.left;
      claims = claims_later limits s t l h.claims;
      effects = effects_later limits s t l h.claims h.effects;
    }
next_tracked limits s (Add clause level parents) h a = absurd a
next_tracked limits s (Raise n level parents) h a = absurd a
next_tracked limits s (Held n clause level) h a = absurd a
next_tracked limits s (Behind lag) h a = absurd a
next_tracked limits s Dropped h a = absurd a
next_tracked limits s (Note j values parent first) h a = absurd a
next_tracked limits s (Open j) h a = absurd a
next_tracked limits s (PushFailed n level) h a = absurd a
next_tracked limits s Spent h a = absurd a

-- ---- The claim that is settled has its effect

-- a clause that is false in a state, and a part of which holds in the frame, keeps the state out
out_by_part : (sys : TransitionSystem) (ls : List Lemma) (i n : ℕ) (clause : List Lit) (x : ℕ → Bool) → n < length ls → i ≤ (lemma_at ls n).level →
    IsPart (lemma_at ls n).clause clause → 0 < i → (ClauseTrue x clause → ⊥) → InFrame sys ls i x → ⊥
out_by_part sys ls i n clause x lt high part some out inside =
    out (ClauseTrue-part x (lemma_at ls n).clause clause part (inside.1 some n lt high))

is_true_false : true ≡ false → ⊥
is_true_false e = let h : true ≡ false = e in cc

to_subject : (s : BookState) (c : Made) (u : Subject) → c.subject ≡ u → EffectOf s u c.level → EffectOf s c.subject c.level
to_subject s c u of h = subst (λ (v : Subject). EffectOf s v c.level) (sym of) h

held_effect : (limits : Limits) (s : BookState) (c : Made) (n : ℕ) (clause : List Lit) (level : ℕ) → KeptClaim limits s c →
    Accepts s.frames c (Held n clause level) → EffectOf s c.subject c.level
held_effect limits s c n clause level k a =
    let o = a.0.0 in
    let obligation = obligation_at s.frames.obligations o in
    let fit : Fits limits s.frames (Block o) c.level = subst (λ (u : Subject). Fits limits s.frames u c.level) a.0.1.0 k.1 in
    let high : c.level ≤ (lemma_at s.frames.lemmas n).level = let e = a.0.1.1 in omega (arith, a.1.2) in
    to_subject s c (Block o) a.0.1.0 (inr (inl (out_by_part (system_at s.frames.systems obligation.system) s.frames.lemmas c.level n clause
    (assignment_of obligation.values) a.1.0 high a.1.1 fit.1 a.0.1.2)))

dropped_effect : (limits : Limits) (s : BookState) (c : Made) → KeptClaim limits s c → Accepts s.frames c Dropped → EffectOf s c.subject c.level
dropped_effect limits s c k (inl h) = to_subject s c (Push h.0) h.1 (inr (inr h.2))
dropped_effect limits s c k (inr h) =
    let fit : Fits limits s.frames (Bad h.0) c.level = subst (λ (u : Subject). Fits limits s.frames u c.level) h.1 k.1 in
    let ne = h.2 in
    to_subject s c (Bad h.0) h.1 (inr (inl (omega (arith, fit.0))))

-- the obligation that was noted last
last_noted : (s : BookState) (x : Obligation) (i : ℕ) → InFrame (system_at s.frames.systems x.system) s.frames.lemmas i (assignment_of x.values) →
    HasObligation (record s.frames { obligations = s.frames.obligations ++ x ∷ [] }) x.system i
last_noted s x i inside =
    let n : ℕ = length s.frames.obligations in
    let last : obligation_at (s.frames.obligations ++ x ∷ []) n ≡ x = get_or-append_seam s.frames.obligations x [] no_obligation in
    let P : Obligation → Type 0 = λ z. InFrame (system_at s.frames.systems x.system) s.frames.lemmas i (assignment_of z.values) in
    (n, omega (arith, length-append s.frames.obligations (x ∷ [])), ap (λ (z : Obligation). z.system) last, subst P (sym last) inside)

noted_effect : (s : BookState) (c : Made) (j : ℕ) (values : Bits) (parent : Option ℕ) (first : Bool) → Accepts s.frames c (Note j values parent first) →
    EffectOf (changed s (Note j values parent first)) c.subject c.level
noted_effect s c j values None first a =
    let x : Obligation = record { system = j; values = values; parent = None; first = first } in
    let t : BookState = changed s (Note j values None first) in
    to_subject t c (Bad j) a.0.0 (inr (inr (last_noted s x c.level a.0.4)))
noted_effect s c j values (Some p) first a =
    let x : Obligation = record { system = j; values = values; parent = Some p; first = first } in
    let t : BookState = changed s (Note j values (Some p) first) in
    let is : obligation_at t.frames.obligations p ≡ obligation_at s.frames.obligations p = get_or-append s.frames.obligations (x ∷ []) no_obligation p a.0.1 in
    let of : (obligation_at t.frames.obligations p).system ≡ j = ap (λ (z : Obligation). z.system) is ∙ a.0.2 in
    let has : HasObligation t.frames j (c.level - 1) = last_noted s x (c.level - 1) a.0.5 in
    to_subject t c (Block p) a.0.0 (inr (inr (subst (λ (z : ℕ). HasObligation t.frames z (c.level - 1)) (sym of) has)))

opened_effect : (s : BookState) (c : Made) (j : ℕ) → FramesHold s.frames → Accepts s.frames c (Open j) → EffectOf (changed s (Open j)) c.subject c.level
opened_effect s c j holds a =
    let tops : List ℕ = s.frames.tops in
    let lt : j < length tops = let e = holds.tops in let below = a.2 in omega arith in
    let here = get_or-set_same tops j (top_at tops j + 1) 0 lt in
    let at = a.1 in
    to_subject (changed s (Open j)) c (Bad j) a.0 (inr (inl (omega arith)))

failed_effect : (limits : Limits) (s : BookState) (c : Made) (n level : ℕ) → IsTracked limits s → KeptClaim limits s c →
    Accepts s.frames c (PushFailed n level) → EffectOf (changed s (PushFailed n level)) c.subject c.level
failed_effect limits s c n level h k a =
    let fit = fits_push limits s.frames c n (level + 1) k.1 a.0 a.1 in
    let long = h.long in
    let at : c.level - 1 ≡ level = let e = a.1 in omega arith in
    let on : slice_index_or (set s.failed level true) level false ≡ true = get_or-set_same s.failed level true false (omega (arith, fit.3)) in
    to_subject (changed s (PushFailed n level)) c (Push n) a.0
    (inr (inl (subst (λ (i : ℕ). slice_index_or (set s.failed level true) i false ≡ true) (sym at) on)))

spent_effect : (s : BookState) (u : Subject) (level : ℕ) → s.spent ≡ true → EffectOf s u level
spent_effect s (Bad j) level on = inl on
spent_effect s (Block o) level on = inl on
spent_effect s (Push l) level on = inl on

own_effect : (limits : Limits) (s : BookState) (c : Made) (d : Change) → FramesHold s.frames → IsTracked limits s → KeptClaim limits s c →
    Accepts s.frames c d → is_behind (d ∷ []) ≡ false → c.growth ≡ (changed s d).growth → EffectOf (changed s d) c.subject c.level
own_effect limits s c (Add clause level parents) holds h k a behind at = absurd (omega (arith, k.0, at))
own_effect limits s c (Raise n level parents) holds h k a behind at = absurd (omega (arith, k.0, at))
own_effect limits s c (Held n clause level) holds h k a behind at = held_effect limits s c n clause level k a
own_effect limits s c (Retire n) holds h k a behind at = absurd a
own_effect limits s c (Behind lag) holds h k a behind at = absurd (is_true_false behind)
own_effect limits s c Dropped holds h k a behind at = dropped_effect limits s c k a
own_effect limits s c (Note j values parent first) holds h k a behind at = noted_effect s c j values parent first a
own_effect limits s c (Open j) holds h k a behind at = opened_effect s c j holds a
own_effect limits s c (PushFailed n level) holds h k a behind at = failed_effect limits s c n level h k a
own_effect limits s c (Limit j) holds h k a behind at = absurd a
own_effect limits s c Spent holds h k a behind at = spent_effect (changed s Spent) c.subject c.level refl

-- ---- Further changes

next_growth : (limits : Limits) (s : BookState) (d : Change) → AcceptsNext limits s d → (changed s d).growth ≡ s.growth
next_growth limits s (Retire n) a = refl
next_growth limits s (Limit j) a = refl
next_growth limits s (Add clause level parents) a = absurd a
next_growth limits s (Raise n level parents) a = absurd a
next_growth limits s (Held n clause level) a = absurd a
next_growth limits s (Behind lag) a = absurd a
next_growth limits s Dropped a = absurd a
next_growth limits s (Note j values parent first) a = absurd a
next_growth limits s (Open j) a = absurd a
next_growth limits s (PushFailed n level) a = absurd a
next_growth limits s Spent a = absurd a

each_growth : (limits : Limits) (s : BookState) (ds : List Change) → AcceptsEach limits s ds → (all_changed s ds).growth ≡ s.growth
each_growth limits s [] a = refl
each_growth limits s (d ∷ ds) a = each_growth limits (changed s d) ds a.1 ∙ next_growth limits s d a.0

each_tracked : (limits : Limits) (s : BookState) (ds : List Change) → IsTracked limits s → AcceptsEach limits s ds → IsTracked limits (all_changed s ds)
each_tracked limits s [] h a = h
each_tracked limits s (d ∷ ds) h a = each_tracked limits (changed s d) ds (next_tracked limits s d h a.0) a.1

each_effect : (limits : Limits) (s : BookState) (ds : List Change) (u : Subject) (level : ℕ) → AcceptsEach limits s ds → Fits limits s.frames u level →
    EffectOf s u level → EffectOf (all_changed s ds) u level
each_effect limits s [] u level a fit e = e
each_effect limits s (d ∷ ds) u level a fit e =
    let l : IsLater s (changed s d) = next_later limits s d a.0 in
    each_effect limits (changed s d) ds u level a.1 (fits_later limits s (changed s d) u level l fit)
    (effect_later limits s (changed s d) u level l (same_in s (changed s d) l (next_growth limits s d a.0)) fit e)

behind_first : (d : Change) (ds : List Change) → is_behind (d ∷ ds) ≡ is_behind (d ∷ [])
behind_first (Add clause level parents) ds = refl
behind_first (Raise n level parents) ds = refl
behind_first (Held n clause level) ds = refl
behind_first (Retire n) ds = refl
behind_first (Behind lag) ds = refl
behind_first Dropped ds = refl
behind_first (Note j values parent first) ds = refl
behind_first (Open j) ds = refl
behind_first (PushFailed n level) ds = refl
behind_first (Limit j) ds = refl
behind_first Spent ds = refl

-- what a settlement leads to keeps all, and the claim had its effect
all_tracked : (limits : Limits) (s : BookState) (c : Made) (ds : List Change) → IsTracked limits s → KeptClaim limits s c → AcceptsAll limits s c ds →
    IsTracked limits (all_changed s ds)
all_tracked limits s c [] h k a = absurd a
all_tracked limits s c (d ∷ ds) h k a = each_tracked limits (changed s d) ds (change_tracked limits s c d h k a.0) a.1

all_effect : (limits : Limits) (s : BookState) (c : Made) (ds : List Change) → FramesHold s.frames → IsTracked limits s → KeptClaim limits s c →
    AcceptsAll limits s c ds → is_behind ds ≡ false → c.growth ≡ (all_changed s ds).growth → EffectOf (all_changed s ds) c.subject c.level
all_effect limits s c [] holds h k a behind at = absurd a
all_effect limits s c (d ∷ ds) holds h k a behind at =
    let at' : c.growth ≡ (changed s d).growth = at ∙ each_growth limits (changed s d) ds a.1 in
    let own = own_effect limits s c d holds h k a.0 (sym (behind_first d ds) ∙ behind) at' in
    let fit = fits_later limits s (changed s d) c.subject c.level (change_later s c d a.0) k.1 in
    each_effect limits (changed s d) ds c.subject c.level a.1 fit own

each_claims : (limits : Limits) (s : BookState) (ds : List Change) → AcceptsEach limits s ds → (all_changed s ds).claims ≡ s.claims
each_claims limits s [] a = refl
each_claims limits s (d ∷ ds) a = each_claims limits (changed s d) ds a.1 ∙ (next_later limits s d a.0).claims

all_claims : (limits : Limits) (s : BookState) (c : Made) (ds : List Change) → AcceptsAll limits s c ds → (all_changed s ds).claims ≡ s.claims
all_claims limits s c [] a = absurd a
all_claims limits s c (d ∷ ds) a = each_claims limits (changed s d) ds a.1 ∙ (change_later s c d a.0).claims

-- ---- Each entry

-- where a claim is ended, it has the same subject, level and growth, is out no more, and is void as said
pub record IsEnded (void : Bool) (o : Option Made) (c : Made) : Type 0 where
  pub before : Made
  pub was : o ≡ Some before
  pub is : c ≡ record before { out = false; void = void }

ended_is : (void : Bool) (o : Option Made) (c : Made) → ended void o ≡ Some c → IsEnded void o c
ended_is void None c e = absurd (none_is_some c e)
ended_is void (Some d) c e = record { before = d; was = refl; is = sym (some_same (record d { out = false; void = void }) c e) }

none_behind : (claims : List (Option Made)) (m : ℕ) → length claims ≤ m → claim_at (claims ++ None ∷ []) m ≡ None
none_behind claims m ge = elim (cases_eq m (length claims)) [
  | inl e ↦ rw e (get_or-append_seam claims None [] None)
  | inr ne ↦ get_or_past (claims ++ None ∷ []) m None (omega (arith, length-append claims (None ∷ [])))
]

-- a claim that stands after one was ended is that one, or was there
ended_cases : (claims : List (Option Made)) (n : ℕ) (void : Bool) (m : ℕ) (c : Made) →
    claim_at (set claims n (ended void (claim_at claims n)) ++ None ∷ []) m ≡ Some c →
    ((m ≡ n) × IsEnded void (claim_at claims n) c) ⊎ (claim_at claims m ≡ Some c)
ended_cases claims n void m c is =
    let whole : List (Option Made) = set claims n (ended void (claim_at claims n)) in
    let long = length-set claims n (ended void (claim_at claims n)) in
    elim (cases_lt m (length whole)) [
      | inl lt ↦
          let at : claim_at whole m ≡ Some c = sym (get_or-append whole (None ∷ []) None m lt) ∙ is in
          elim (cases_eq m n) [
            | inl e ↦
                let lt' : n < length claims = omega (arith, long, lt, e) in
                let here : claim_at whole n ≡ ended void (claim_at claims n) = get_or-set_same claims n (ended void (claim_at claims n)) None lt' in
                let same : ended void (claim_at claims n) ≡ Some c = sym here ∙ subst (λ (k : ℕ). claim_at whole k ≡ Some c) e at in
                inl (e, ended_is void (claim_at claims n) c same)
            | inr ne ↦ inr (sym (get_or-set_other claims n m (ended void (claim_at claims n)) None ne) ∙ at)
          ]
      | inr ge ↦ absurd (none_is_some c (sym (none_behind whole m ge) ∙ is))
    ]

-- the claims of a state after one was ended, where it had its effect unless it is void
ended_tracked : (limits : Limits) (s : BookState) (n : ℕ) (void : Bool) → IsTracked limits s →
    ((c : Made) → claim_at s.claims n ≡ Some c → void ≡ false → c.growth ≡ s.growth → EffectOf s c.subject c.level) →
    IsTracked limits (with_ended s n void)
ended_tracked limits s n void h own =
    record {
      tops = h.tops;
      long = h.long;
      left = h.left;
      claims = λ m c is. elim (ended_cases s.claims n void m c is) [
        | inl e ↦
            let k : KeptClaim limits s e.1.before = h.claims n e.1.before e.1.was in
            subst (λ (z : Made). KeptClaim limits s z) (sym e.1.is) k
        | inr there ↦ h.claims m c there
      ];
      effects = λ m c is. elim (ended_cases s.claims n void m c is) [
        | inl e ↦ subst (λ (z : Made). HadEffect s z) (sym e.1.is) (λ out not_void at. own e.1.before e.1.was not_void at)
        | inr there ↦ h.effects m c there
      ];
    }

claim_fits : (limits : Limits) (s : BookState) (u : Subject) (level : ℕ) → IsTracked limits s → IsOpenTask limits s u level → Fits limits s.frames u level
claim_fits limits s (Bad j) level h task = let e = task.2 in let low = task.3 in (omega arith, omega arith)
claim_fits limits s (Block o) level h task = (task.0, task.4.0)
claim_fits limits s (Push l) level h task =
    let e = task.2 in
    let top = h.tops task.3.0 in
    (task.0, omega arith, omega arith, omega (arith, task.3.2))

-- a claim that stands with one more is that one, or was there
more_cases : (claims : List (Option Made)) (d : Made) (m : ℕ) (c : Made) → claim_at (claims ++ Some d ∷ []) m ≡ Some c →
    (claim_at claims m ≡ Some c) ⊎ (d ≡ c)
more_cases claims d m c is = elim (cases_lt m (length claims)) [
  | inl lt ↦ inl (sym (get_or-append claims (Some d ∷ []) None m lt) ∙ is)
  | inr ge ↦ elim (cases_eq m (length claims)) [
    | inl e ↦
        let last : claim_at (claims ++ Some d ∷ []) m ≡ Some d = rw e (get_or-append_seam claims (Some d) [] None) in
        inr (some_same d c (sym last ∙ is))
    | inr ne ↦ absurd (none_is_some c (sym (get_or_past (claims ++ Some d ∷ []) m None (omega (arith, length-append claims (Some d ∷ [])))) ∙ is))
  ]
]

-- the claims with one more
claimed : (limits : Limits) (s : BookState) (d : Made) → IsTracked limits s → KeptClaim limits s d → d.out ≡ true →
    IsTracked limits (record s { claims = s.claims ++ Some d ∷ [] })
claimed limits s d h k out =
    record {
      tops = h.tops;
      long = h.long;
      left = h.left;
      claims = λ m c is. elim (more_cases s.claims d m c is) [
        | inl there ↦ h.claims m c there
        | inr e ↦ subst (λ (z : Made). KeptClaim limits s z) e k
      ];
      effects = λ m c is. elim (more_cases s.claims d m c is) [
        | inl there ↦ h.effects m c there
        | inr e ↦ subst (λ (z : Made). HadEffect s z) e (λ off void at. absurd (is_true_false (sym out ∙ off)))
      ];
    }

pub entry_tracked : (limits : Limits) (s : BookState) (e : Entry) → FramesHold s.frames → IsTracked limits s → MayStand limits s e →
    IsTracked limits (after s e)
entry_tracked limits s (Claim worker subject level) holds h m =
    let d : Made = record { worker = worker; subject = subject; level = level; growth = s.growth; out = true; void = false } in
    claimed limits s d h (omega arith, claim_fits limits s subject level h m.task) refl
entry_tracked limits s (Settle worker n changes) holds h m =
    let c : Made = m.0 in
    let t : BookState = all_changed s changes.items in
    let k : KeptClaim limits s c = h.claims n c m.1.0 in
    let done : IsTracked limits t = all_tracked limits s c changes.items h k m.2 in
    let same : t.claims ≡ s.claims = all_claims limits s c changes.items m.2 in
    ended_tracked limits t n (is_behind changes.items) done (λ d is void at.
    let e : c ≡ d = some_same c d (sym m.1.0 ∙ sym (ap (λ (z : List (Option Made)). claim_at z n) same) ∙ is) in
    let at' : c.growth ≡ t.growth = ap (λ (z : Made). z.growth) e ∙ at in
    subst (λ (z : Made). EffectOf t z.subject z.level) e (all_effect limits s c changes.items holds h k m.2 void at'))
entry_tracked limits s (Back worker n) holds h m = ended_tracked limits s n true h (λ d is void at. absurd (is_true_false void))

pub history_tracked : (limits : Limits) (s : BookState) (es : List Entry) → FramesHold s.frames → IsTracked limits s → IsLawful limits s es →
    IsTracked limits (replay s es)
history_tracked limits s [] holds h l = h
history_tracked limits s (e ∷ es) holds h l =
    history_tracked limits (after s e) es (keeps_entry limits s e holds l.0) (entry_tracked limits s e holds h l.0) l.1

low_at_start : (m j : ℕ) → top_at (replicate m 0) j ≡ 0
low_at_start m j = elim (cases_lt j m) [
  | inl lt ↦ get_or-replicate m j 0 0 lt
  | inr ge ↦ get_or_past (replicate m 0) j 0 (omega (arith, length-replicate {A = ℕ} m 0))
]

pub start_tracked : (limits : Limits) (systems : List TransitionSystem) (carried : List Lemma) → IsTracked limits (start limits systems carried)
start_tracked limits systems carried =
    record {
      tops = λ j. let z = low_at_start (length systems) j in omega arith;
      long = length-replicate (limits.frames + 1) false;
      left = λ i some on. absurd (none_failed (limits.frames + 1) i on);
      claims = λ n c is. absurd (none_is_some c (sym (get_or_past [] n None (omega arith)) ∙ is));
      effects = λ n c is. absurd (none_is_some c (sym (get_or_past [] n None (omega arith)) ∙ is));
    }
