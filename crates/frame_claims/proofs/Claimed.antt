-- Claims of a history, and the queries that were asked for them.
use Rattle.std.proofs.Common.{◌≡◌, ℕ, zero, suc, ◌+◌, ◌<◌, Bool, true, false, List, [], ◌∷◌, ◌++◌, length, take, set, refl, sym, subst, ap, ◌∙◌, inl, inr, arith, length-set, length-append, get_or-set_same, get_or-set_other}
use Rattle.std.specs.Prelude.{Option, Some, None, slice_get}
use Rattle.std.proofs.Math.ListN.{get_or-append}
use Rattle.std.proofs.Math.Seq.{get_or-append_seam}
use Rattle.std.proofs.lemmas.Bool.{cases_eq, cases_lt}
use Rattle.std.proofs.lemmas.List.{get_or_past}
use Rattle.frame_history.specs.declared.entries.Subject.{Subject}
use Rattle.frame_history.specs.declared.entries.Made.{Made}
use Rattle.frame_history.specs.declared.entries.Change.{Change}
use Rattle.frame_history.specs.declared.entries.Change.TheVariants.{Add, Raise, Held, Retire, Behind, Dropped, Note, Open, PushFailed, Limit, Spent}
use Rattle.frame_history.specs.declared.entries.Entry.{Entry}
use Rattle.frame_history.specs.declared.entries.Entry.TheVariants.{Claim, Settle, Back}
use Rattle.frame_history.specs.History.{BookState, changed, all_changed, after, replay, claim_at, ended, is_behind}
use Rattle.frame_history.proofs.Tracking.{none_is_some}

-- ---- A claim stays what it is

-- the claims are alike but for whether they are out and void
pub record IsSameClaim (c d : Made) : Type 0 where
  pub subject : d.subject ≡ c.subject
  pub level : d.level ≡ c.level
  pub growth : d.growth ≡ c.growth

itself : (c : Made) → IsSameClaim c c
itself c = record { subject = refl; level = refl; growth = refl }

-- changes leave the claims
pub change_claims : (s : BookState) (d : Change) → (changed s d).claims ≡ s.claims
change_claims s (Add clause level parents) = refl
change_claims s (Raise n level parents) = refl
change_claims s (Held n clause level) = refl
change_claims s (Retire n) = refl
change_claims s (Behind lag) = refl
change_claims s Dropped = refl
change_claims s (Note j values parent first) = refl
change_claims s (Open j) = refl
change_claims s (PushFailed n level) = refl
change_claims s (Limit j) = refl
change_claims s Spent = refl

pub changes_claims : (s : BookState) (ds : List Change) → (all_changed s ds).claims ≡ s.claims
changes_claims s [] = refl
changes_claims s (d ∷ ds) = changes_claims (changed s d) ds ∙ change_claims s d

-- the claim stands in the list, as it was but for whether it is out and void
abbrev pub StillThere : List (Option Made) → ℕ → Made → Type 0
StillThere claims n c = (d : Made) × (claim_at claims n ≡ Some d) × IsSameClaim c d

pub below_length : (claims : List (Option Made)) (n : ℕ) (c : Made) → claim_at claims n ≡ Some c → n < length claims
below_length claims n c is = elim (cases_lt n (length claims)) [
  | inl lt ↦ lt
  | inr ge ↦ absurd (none_is_some c (sym (get_or_past claims n None (omega arith)) ∙ is))
]

still_more : (claims : List (Option Made)) (o : Option Made) (n : ℕ) (c : Made) → claim_at claims n ≡ Some c → claim_at (claims ++ o ∷ []) n ≡ Some c
still_more claims o n c is = get_or-append claims (o ∷ []) None n (below_length claims n c is) ∙ is

still_ended : (claims : List (Option Made)) (k : ℕ) (void : Bool) (n : ℕ) (c : Made) → claim_at claims n ≡ Some c →
    StillThere (set claims k (ended void (claim_at claims k)) ++ None ∷ []) n c
still_ended claims k void n c is =
    let whole : List (Option Made) = set claims k (ended void (claim_at claims k)) in
    elim (cases_eq n k) [
      | inl e ↦
          let at : claim_at claims k ≡ Some c = subst (λ (m : ℕ). claim_at claims m ≡ Some c) e is in
          let d : Made = record c { out = false; void = void } in
          let here : claim_at whole k ≡ Some d = get_or-set_same claims k (ended void (claim_at claims k)) None (below_length claims k c at) ∙ ap (ended void) at in
          let there : claim_at whole n ≡ Some d = rw e here in
          (d, still_more whole None n d there, record { subject = refl; level = refl; growth = refl })
      | inr ne ↦ (c, still_more whole None n c (get_or-set_other claims k n (ended void (claim_at claims k)) None ne ∙ is), itself c)
    ]

still_after : (s : BookState) (e : Entry) (n : ℕ) (c : Made) → claim_at s.claims n ≡ Some c → StillThere (after s e).claims n c
still_after s (Claim worker subject level) n c is =
    let d : Made = record { worker = worker; subject = subject; level = level; growth = s.growth; out = true; void = false } in
    (c, still_more s.claims (Some d) n c is, itself c)
still_after s (Settle worker k changes) n c is =
    let t : BookState = all_changed s changes.items in
    still_ended t.claims k (is_behind changes.items) n c (subst (λ (z : List (Option Made)). claim_at z n ≡ Some c) (sym (changes_claims s changes.items)) is)
still_after s (Back worker k) n c is = still_ended s.claims k true n c is

still_in : (s : BookState) (es : List Entry) (n : ℕ) (c : Made) → claim_at s.claims n ≡ Some c → StillThere (replay s es).claims n c
still_in s [] n c is = (c, is, itself c)
still_in s (e ∷ es) n c is =
    let a = still_after s e n c is in
    let b = still_in (after s e) es n a.0 a.1 in
    (b.0, b.1, record { subject = b.2.subject ∙ a.2.subject; level = b.2.level ∙ a.2.level; growth = b.2.growth ∙ a.2.growth })

-- ---- Each entry that claims has its claim

pub one_more : (s : BookState) (e : Entry) → length (after s e).claims ≡ length s.claims + 1
one_more s (Claim worker subject level) =
    let d : Made = record { worker = worker; subject = subject; level = level; growth = s.growth; out = true; void = false } in
    length-append s.claims (Some d ∷ [])
one_more s (Settle worker k changes) =
    let t : BookState = all_changed s changes.items in
    let o : Option Made = ended (is_behind changes.items) (claim_at t.claims k) in
    let same = ap (λ (z : List (Option Made)). length z) (changes_claims s changes.items) in
    omega (arith, length-append (set t.claims k o) (None ∷ []), length-set t.claims k o, same)
one_more s (Back worker k) =
    let o : Option Made = ended true (claim_at s.claims k) in
    omega (arith, length-append (set s.claims k o) (None ∷ []), length-set s.claims k o)

pub claims_each : (s : BookState) (es : List Entry) → length (replay s es).claims ≡ length s.claims + length es
claims_each s [] = omega arith
claims_each s (e ∷ es) = omega (arith, claims_each (after s e) es, one_more s e)

pub no_entry : (e : Entry) → None ≡ Some e → ⊥
no_entry e is = let h : None ≡ Some e = is in cc

pub some_entry : (d e : Entry) → Some d ≡ Some e → d ≡ e
some_entry d e is = let h : Some d ≡ Some e = is in cc

-- the claim of an entry of the history
pub record IsMadeBy (first : BookState) (history : List Entry) (m : ℕ) (subject : Subject) (level : ℕ) (c : Made) : Type 0 where
  pub there : claim_at (replay first history).claims (length first.claims + m) ≡ Some c
  pub subject_is : c.subject ≡ subject
  pub level_is : c.level ≡ level
  pub growth_is : c.growth ≡ (replay first (take m history)).growth

pub made_by : (s : BookState) (es : List Entry) (m worker : ℕ) (subject : Subject) (level : ℕ) → slice_get es m ≡ Some (Claim worker subject level) →
    (c : Made) × IsMadeBy s es m subject level c
made_by s [] m worker subject level is = absurd (no_entry (Claim worker subject level) is)
made_by s (e ∷ es) zero worker subject level is =
    let d : Made = record { worker = worker; subject = subject; level = level; growth = s.growth; out = true; void = false } in
    let at : e ≡ Claim worker subject level = some_entry e (Claim worker subject level) is in
    let last : claim_at (s.claims ++ Some d ∷ []) (length s.claims) ≡ Some d = get_or-append_seam s.claims (Some d) [] None in
    let here : claim_at (after s e).claims (length s.claims) ≡ Some d =
    subst (λ (z : Entry). claim_at (after s z).claims (length s.claims) ≡ Some d) (sym at) last in
    let later = still_in (after s e) es (length s.claims) d here in
    let zero_more : length s.claims + 0 ≡ length s.claims = omega arith in (
      later.0,
      record {
        there = subst (λ (k : ℕ). claim_at (replay (after s e) es).claims k ≡ Some later.0) (sym zero_more) later.1;
        subject_is = later.2.subject;
        level_is = later.2.level;
        growth_is = later.2.growth;
      },
    )
made_by s (e ∷ es) (suc m) worker subject level is =
    let rest = made_by (after s e) es m worker subject level is in
    let more = one_more s e in
    let at : length (after s e).claims + m ≡ length s.claims + suc m = omega arith in (
      rest.0,
      record {
        there = subst (λ (k : ℕ). claim_at (replay (after s e) es).claims k ≡ Some rest.0) at rest.1.there;
        subject_is = rest.1.subject_is;
        level_is = rest.1.level_is;
        growth_is = rest.1.growth_is;
      },
    )
