-- The scan of a history goes on by one entry.
use Rattle.std.proofs.Common.{◌≡◌, ℕ, ◌+◌, ◌<◌, ◌≤◌, ◌⊎◌, Bool, true, false, List, [], ◌∷◌, ◌++◌, length, take, set, refl, sym, subst, ap, ◌∙◌, inl, inr, arith, length-set, length-append, get_or-set_same, get_or-set_other}
use Rattle.std.specs.Prelude.{Option, Some, None, slice_get, slice_index_or}
use Rattle.std.proofs.Math.ListN.{get_or-append}
use Rattle.std.proofs.Math.Seq.{get_or-append_seam, take-length}
use Rattle.std.proofs.lemmas.Bool.{cases_eq, cases_lt}
use Rattle.std.proofs.lemmas.List.{get_or_past, take_more, take-append-le}
use Rattle.std.proofs.lemmas.Option.{slice_get_within, get_or_from_slice_get}
use Rattle.clause_core.specs.Systems.{TransitionSystem}
use Rattle.frame_core.specs.declared.parts.Lemma.{Lemma}
use Rattle.frame_history.specs.declared.entries.Limits.{Limits}
use Rattle.frame_history.specs.declared.entries.Made.{Made}
use Rattle.frame_history.specs.declared.entries.Change.{Change}
use Rattle.frame_history.specs.declared.entries.Change.TheVariants.{Add, Raise, Held, Retire, Behind, Dropped, Note, Open, PushFailed, Limit, Spent}
use Rattle.frame_history.specs.declared.entries.Entry.{Entry}
use Rattle.frame_history.specs.declared.entries.Entry.TheVariants.{Claim, Settle, Back}
use Rattle.frame_history.specs.History.{BookState, start, changed, all_changed, after, replay, claim_at, ended, is_behind, AcceptsEach, AcceptsAll, MayStand, IsLawful}
use Rattle.frame_history.proofs.Keeping.{replay-append}
use Rattle.frame_history.proofs.Tracking.{none_is_some, some_same}
use Rattle.frame_claims.specs.Apart.{IsBelow, IsScanned, Leads, grown_by}
use Rattle.frame_claims.specs.Paying.{before as state_before}
use Rattle.frame_claims.proofs.Claimed.{below_length, changes_claims, claims_each}
use Rattle.frame_claims.proofs.Histories.{lawful_at}

no_way : false ≡ true → ⊥
no_way e = let h : false ≡ true = e in cc

-- ---- The growth after an entry

growth_each : (limits : Limits) (s : BookState) (ds : List Change) → AcceptsEach limits s ds → (all_changed s ds).growth ≡ s.growth
growth_each limits s [] a = refl
growth_each limits s (Retire n ∷ ds) a = growth_each limits (changed s (Retire n)) ds a.1
growth_each limits s (Limit j ∷ ds) a = growth_each limits (changed s (Limit j)) ds a.1
growth_each limits s (Add clause level parents ∷ ds) a = absurd a.0
growth_each limits s (Raise n level parents ∷ ds) a = absurd a.0
growth_each limits s (Held n clause level ∷ ds) a = absurd a.0
growth_each limits s (Behind lag ∷ ds) a = absurd a.0
growth_each limits s (Dropped ∷ ds) a = absurd a.0
growth_each limits s (Note j values parent first ∷ ds) a = absurd a.0
growth_each limits s (Open j ∷ ds) a = absurd a.0
growth_each limits s (PushFailed n level ∷ ds) a = absurd a.0
growth_each limits s (Spent ∷ ds) a = absurd a.0

growth_first : (s : BookState) (d : Change) (ds : List Change) → (changed s d).growth ≡ s.growth + grown_by (d ∷ ds)
growth_first s (Add clause level parents) ds = refl
growth_first s (Raise n level parents) ds = refl
growth_first s (Held n clause level) ds = omega arith
growth_first s (Retire n) ds = omega arith
growth_first s (Behind lag) ds = omega arith
growth_first s Dropped ds = omega arith
growth_first s (Note j values parent first) ds = omega arith
growth_first s (Open j) ds = omega arith
growth_first s (PushFailed n level) ds = omega arith
growth_first s (Limit j) ds = omega arith
growth_first s Spent ds = omega arith

growth_all : (limits : Limits) (s : BookState) (c : Made) (ds : List Change) → AcceptsAll limits s c ds → (all_changed s ds).growth ≡ s.growth + grown_by ds
growth_all limits s c [] a = absurd a
growth_all limits s c (d ∷ ds) a = growth_each limits (changed s d) ds a.1 ∙ growth_first s d ds

growth_after : (limits : Limits) (s : BookState) (e : Entry) (made : List ℕ) (now : ℕ) → MayStand limits s e → Leads made s.growth e now → (after s e).growth ≡ now
growth_after limits s (Claim worker subject level) made now may leads = sym leads
growth_after limits s (Settle worker n changes) made now may leads = growth_all limits s may.0 changes.items may.2 ∙ sym leads.0
growth_after limits s (Back worker n) made now may leads = sym leads.0

not_less : (s : BookState) (e : Entry) (made : List ℕ) (now : ℕ) → Leads made s.growth e now → s.growth ≤ now
not_less s (Claim worker subject level) made now leads = let h : now ≡ s.growth = leads in omega arith
not_less s (Settle worker n changes) made now leads = let h = leads.0 in omega arith
not_less s (Back worker n) made now leads = let h = leads.0 in omega arith

-- ---- The claims after an entry

-- a claim of the list with one more
one_more_case : (claims : List (Option Made)) (o : Option Made) (n : ℕ) (c : Made) → claim_at (claims ++ o ∷ []) n ≡ Some c →
    (claim_at claims n ≡ Some c) ⊎ ((n ≡ length claims) × (o ≡ Some c))
one_more_case claims o n c is = elim (cases_lt n (length claims)) [
  | inl lt ↦ inl (sym (get_or-append claims (o ∷ []) None n lt) ∙ is)
  | inr ge ↦ elim (cases_eq n (length claims)) [
    | inl e ↦ inr (e, sym (rw e (get_or-append_seam claims o [] None)) ∙ is)
    | inr ne ↦ absurd (none_is_some c (sym (get_or_past (claims ++ o ∷ []) n None (omega (arith, length-append claims (o ∷ [])))) ∙ is))
  ]
]

-- it was there so, or it is the one that ended, which was made when it was
abbrev pub WasThere : List (Option Made) → ℕ → Bool → ℕ → Made → Type 0
WasThere claims k void n c =
    (claim_at claims n ≡ Some c) ⊎ ((n ≡ k) × ((d : Made) × (claim_at claims k ≡ Some d) × (c.growth ≡ d.growth) × (c.void ≡ void)))

ended_some : (void : Bool) (o : Option Made) (c : Made) → ended void o ≡ Some c → (d : Made) × (o ≡ Some d) × (c.growth ≡ d.growth) × (c.void ≡ void)
ended_some void None c is = absurd (none_is_some c is)
ended_some void (Some d) c is =
    let e : record d { out = false; void = void } ≡ c = some_same (record d { out = false; void = void }) c is in
    (d, refl, ap (λ (z : Made). z.growth) (sym e), ap (λ (z : Made). z.void) (sym e))

ended_case : (claims : List (Option Made)) (k : ℕ) (void : Bool) (n : ℕ) (c : Made) →
    claim_at (set claims k (ended void (claim_at claims k)) ++ None ∷ []) n ≡ Some c → WasThere claims k void n c
ended_case claims k void n c is =
    let x : Option Made = ended void (claim_at claims k) in
    let whole : List (Option Made) = set claims k x in
    let there : claim_at whole n ≡ Some c = elim (one_more_case whole None n c is) [
      | inl was ↦ was
      | inr last ↦ absurd (none_is_some c last.1)
    ] in
    elim (cases_eq n k) [
      | inr ne ↦ inl (sym (get_or-set_other claims k n x None ne) ∙ there)
      | inl e ↦
          let at : claim_at whole k ≡ Some c = subst (λ (m : ℕ). claim_at whole m ≡ Some c) e there in
          let lt : k < length claims = (let l = below_length whole k c at in omega (arith, length-set claims k x)) in
          let is_x : x ≡ Some c = sym (get_or-set_same claims k x None lt) ∙ at in
          inr (e, ended_some void (claim_at claims k) c is_x)
    ]

-- ---- One entry more

all_taken : (first : BookState) (h : List Entry) → state_before first h (length h) ≡ replay first h
all_taken first h = ap (replay first) (take-length h)

module _ (limits : Limits) (first : BookState) (none : first.claims ≡ []) (h : List Entry) (e : Entry) (made : List ℕ) (now : ℕ)
    (noted : List ℕ) (growth : ℕ) (all : noted ≡ made ++ growth ∷ []) (is : IsScanned first h made growth) (may : MayStand limits (replay first h) e)
    (leads : Leads noted growth e now) where
  at_first : Leads noted (replay first h).growth e now
  at_first = subst (λ (g : ℕ). Leads noted g e now) (sym is.growth_is) leads

  growth_now : (after (replay first h) e).growth ≡ now
  growth_now = growth_after limits (replay first h) e noted now may at_first

  rises : growth ≤ now
  rises = (let l = not_less (replay first h) e noted now at_first in let g = is.growth_is in omega arith)

  claims_many : length (replay first h).claims ≡ length h
  claims_many = (let l = claims_each first h in let z : length first.claims ≡ 0 = ap (λ (x : List (Option Made)). length x) none in omega arith)

  -- a claim from before has its number noted, and where it is void it is older
  noted_before : (n : ℕ) (c : Made) → claim_at (replay first h).claims n ≡ Some c → slice_index_or noted n 0 ≡ c.growth
  noted_before n c there =
      (let lt : n < length made = (let l = below_length (replay first h).claims n c there in let m = is.many in omega (arith, claims_many)) in
      let at : slice_index_or (made ++ growth ∷ []) n 0 ≡ slice_index_or made n 0 = get_or-append made (growth ∷ []) 0 n lt in
      subst (λ (z : List ℕ). slice_index_or z n 0 ≡ c.growth) (sym all) (at ∙ is.made_at n c there))

  whole_before : state_before first h (length h) ≡ replay first h
  whole_before = all_taken first h

  old_before : (n : ℕ) (c : Made) → claim_at (replay first h).claims n ≡ Some c → c.void ≡ true → c.growth < now
  old_before n c there void =
      (let at : claim_at (state_before first h (length h)).claims n ≡ Some c = subst (λ (s : BookState). claim_at s.claims n ≡ Some c) (sym whole_before) there in
      let lt : c.growth < (state_before first h (length h)).growth = is.voids (length h) (omega arith) n c at void in
      let lt' : c.growth < growth = subst (λ (g : ℕ). c.growth < g) (ap (λ (s : BookState). s.growth) whole_before ∙ is.growth_is) lt in
      omega (arith, rises))

-- of each claim after the entry: its number is noted, and where it is void it is older
abbrev pub IsNoted : List ℕ → ℕ → ℕ → Made → Type 0
IsNoted noted now n c = (slice_index_or noted n 0 ≡ c.growth) × (c.void ≡ true → c.growth < now)

noted_ended : (limits : Limits) (first : BookState) (none : first.claims ≡ []) (h : List Entry) (e : Entry) (made : List ℕ) (now : ℕ)
    (noted : List ℕ) (growth : ℕ) (all : noted ≡ made ++ growth ∷ []) (is : IsScanned first h made growth) (may : MayStand limits (replay first h) e)
    (leads : Leads noted growth e now) (k : ℕ) (void : Bool) → (void ≡ true → IsBelow noted k now) → (n : ℕ) (c : Made) →
    WasThere (replay first h).claims k void n c → IsNoted noted now n c
noted_ended limits first none h e made now noted growth all is may leads k void below n c was = elim was [
  | inl there ↦ (
    noted_before limits first none h e made now noted growth all is may leads n c there,
    old_before limits first none h e made now noted growth all is may leads n c there,
  )
  | inr by ↦
      let d : Made = by.1.0 in
      let at : slice_index_or noted k 0 ≡ d.growth = noted_before limits first none h e made now noted growth all is may leads k d by.1.1 in
      let at_n : slice_index_or noted n 0 ≡ slice_index_or noted k 0 = ap (λ (m : ℕ). slice_index_or noted m 0) by.0 in
      (at_n ∙ at ∙ sym by.1.2, λ on. (let lt : slice_index_or noted k 0 < now = below (sym by.1.3 ∙ on) in let g = by.1.2 in omega arith))
]

noted_after : (limits : Limits) (first : BookState) (none : first.claims ≡ []) (h : List Entry) (e : Entry) (made : List ℕ) (now : ℕ)
    (noted : List ℕ) (growth : ℕ) (all : noted ≡ made ++ growth ∷ []) (is : IsScanned first h made growth) (may : MayStand limits (replay first h) e)
    (leads : Leads noted growth e now) → (n : ℕ) (c : Made) → claim_at (after (replay first h) e).claims n ≡ Some c → IsNoted noted now n c
noted_after limits first none h (Claim worker subject level) made now noted growth all is may leads n c there =
    let s : BookState = replay first h in
    let d : Made = record { worker = worker; subject = subject; level = level; growth = s.growth; out = true; void = false } in
    elim (one_more_case s.claims (Some d) n c there) [
      | inl was ↦ (
        noted_before limits first none h (Claim worker subject level) made now noted growth all is may leads n c was,
        old_before limits first none h (Claim worker subject level) made now noted growth all is may leads n c was,
      )
      | inr last ↦
          let same : d ≡ c = some_same d c last.1 in
          let long = claims_many limits first none h (Claim worker subject level) made now noted growth all is may leads in
          let at : n ≡ length made = (let m = is.many in let l = last.0 in omega (arith, long)) in
          let seam : slice_index_or (made ++ growth ∷ []) (length made) 0 ≡ growth = get_or-append_seam made growth [] 0 in
          let here : slice_index_or noted n 0 ≡ growth =
          subst (λ (z : List ℕ). slice_index_or z n 0 ≡ growth) (sym all) (subst (λ (m : ℕ). slice_index_or (made ++ growth ∷ []) m 0 ≡ growth) (sym at) seam) in (
            here ∙ sym is.growth_is ∙ ap (λ (z : Made). z.growth) same,
            λ on. absurd (no_way (ap (λ (z : Made). z.void) same ∙ on)),
          )
    ]
noted_after limits first none h (Settle worker k changes) made now noted growth all is may leads n c there =
    let s : BookState = replay first h in
    let same : (all_changed s changes.items).claims ≡ s.claims = changes_claims s changes.items in
    let at : claim_at (set s.claims k (ended (is_behind changes.items) (claim_at s.claims k)) ++ None ∷ []) n ≡ Some c =
    subst (λ (z : List (Option Made)). claim_at (set z k (ended (is_behind changes.items) (claim_at z k)) ++ None ∷ []) n ≡ Some c) same there in
    noted_ended limits first none h (Settle worker k changes) made now noted growth all is may leads k (is_behind changes.items) leads.1 n c
    (ended_case s.claims k (is_behind changes.items) n c at)
noted_after limits first none h (Back worker k) made now noted growth all is may leads n c there =
    noted_ended limits first none h (Back worker k) made now noted growth all is may leads k true
    (λ on. leads.1) n c (ended_case (replay first h).claims k true n c there)

pub scanned_more : (limits : Limits) (first : BookState) → first.claims ≡ [] → (h : List Entry) (e : Entry) (made : List ℕ) (now : ℕ)
    (noted : List ℕ) (growth : ℕ) → noted ≡ made ++ growth ∷ [] → IsScanned first h made growth → MayStand limits (replay first h) e →
    Leads noted growth e now → IsScanned first (h ++ e ∷ []) noted now
scanned_more limits first none h e made now noted growth all is may leads =
    let H : List Entry = h ++ e ∷ [] in
    let s : BookState = replay first h in
    let next : replay first H ≡ after s e = replay-append first h e in
    let long = length-append h (e ∷ []) in
    let g : (after s e).growth ≡ now = growth_now limits first none h e made now noted growth all is may leads in
    record {
      growth_is = ap (λ (z : BookState). z.growth) next ∙ g;
      many = (let l : length noted ≡ length (made ++ growth ∷ []) = ap (λ (z : List ℕ). length z) all in let m = is.many in omega (arith, length-append made (growth ∷ [])));
      made_at = λ n c there.
          (noted_after limits first none h e made now noted growth all is may leads n c
          (subst (λ (z : BookState). claim_at z.claims n ≡ Some c) next there)).0;
      voids = λ m le n c there void. elim (cases_lt m (length H)) [
        | inl lt ↦
            let le' : m ≤ length h = omega arith in
            let same : state_before first H m ≡ state_before first h m = ap (replay first) (take-append-le m h (e ∷ []) le') in
            let old : c.growth < (state_before first h m).growth =
            is.voids m le' n c (subst (λ (z : BookState). claim_at z.claims n ≡ Some c) same there) void in
            subst (λ (z : BookState). c.growth < z.growth) (sym same) old
        | inr ge ↦
            let at : m ≡ length H = omega arith in
            let whole : state_before first H m ≡ after s e = ap (λ (k : ℕ). replay first (take k H)) at ∙ all_taken first H ∙ next in
            let lt : c.growth < now = (noted_after limits first none h e made now noted growth all is may leads n c
            (subst (λ (z : BookState). claim_at z.claims n ≡ Some c) whole there)).1 void in
            subst (λ (z : BookState). c.growth < z.growth) (sym whole) (subst (λ (k : ℕ). c.growth < k) (sym g) lt)
      ];
    }

-- ---- The whole scan

pub scanned_none : (limits : Limits) (systems : List TransitionSystem) (carried : List Lemma) (made : List ℕ) → made ≡ [] →
    IsScanned (start limits systems carried) [] made 0
scanned_none limits systems carried made none =
    let first : BookState = start limits systems carried in
    let no_claim : (n : ℕ) (c : Made) → claim_at [] n ≡ Some c → ⊥ = λ n c there. none_is_some c (sym (get_or_past [] n None (omega arith)) ∙ there) in
    record {
      growth_is = refl;
      many = ap (λ (z : List ℕ). length z) none;
      made_at = λ n c there. absurd (no_claim n c there);
      voids = λ m le n c there void.
          (let at : m ≡ 0 = omega arith in
          absurd (no_claim n c (subst (λ (k : ℕ). claim_at (state_before first [] k).claims n ≡ Some c) at there)));
    }

-- one entry more of a lawful history is scanned
pub scanned_next : (limits : Limits) (systems : List TransitionSystem) (carried : List Lemma) (history : List Entry) (n : ℕ) (e : Entry) (made : List ℕ)
    (now : ℕ) (noted : List ℕ) (growth : ℕ) → IsLawful limits (start limits systems carried) history → slice_get history n ≡ Some e →
    noted ≡ made ++ growth ∷ [] → IsScanned (start limits systems carried) (take n history) made growth → Leads noted growth e now →
    IsScanned (start limits systems carried) (take (n + 1) history) noted now
scanned_next limits systems carried history n e made now noted growth lawful there all is leads =
    let first : BookState = start limits systems carried in
    let lt : n < length history = slice_get_within history n e there in
    let more : take (n + 1) history ≡ take n history ++ e ∷ [] =
    take_more history n e lt ∙ ap (λ (x : Entry). take n history ++ x ∷ []) (get_or_from_slice_get history n e e there) in
    subst (λ (h : List Entry). IsScanned first h noted now) (sym more)
    (scanned_more limits first refl (take n history) e made now noted growth all is (lawful_at limits first history n e lawful there) leads)
