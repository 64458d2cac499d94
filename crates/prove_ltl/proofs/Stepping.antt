-- What comes of one counter.
use Rattle.std.proofs.Common.{◌≡◌, ℕ, zero, suc, ◌+◌, ◌<◌, ◌≤◌, Bool, true, false, List, [], ◌∷◌, ◌++◌, length, refl, sym, subst, ap, ◌∙◌, inl, inr, arith, length-append}
use Rattle.std.specs.Prelude.{map, Contains, Option, Some, None, ◌⊎◌}
use Rattle.std.proofs.lemmas.List.{map-append}
use Rattle.std.proofs.lemmas.List.Elements.{All-nil, All-push}
use Rattle.clause_core.specs.declared.literal.Lit.{Lit}
use Rattle.clause_core.specs.Assignments.{assignment_of}
use Rattle.clause_core.specs.Systems.{TransitionSystem, StepBits, FirstBits, ReachedWithin}
use Rattle.cert_core.specs.Blocks.{Block}
use Rattle.cert_core.specs.Certificates.{Certifies}
use Rattle.cert_make.specs.Paying.{PartQuery}
use Rattle.sat_core.specs.Paying.{tickets_in}
use Rattle.frame_core.specs.declared.parts.Lemma.{Lemma}
use Rattle.frame_core.specs.declared.outcomes.FramesVerdict.TheVariants.{Invariant, Reached}
use Rattle.frame_core.specs.FrameLaw.{FrameState, FramesHold, system_at, obligation_at, LeadsToBad}
use Rattle.frame_core.specs.Changes.{VerdictSays}
use Rattle.frame_history.specs.declared.entries.Limits.{Limits}
use Rattle.frame_history.specs.declared.entries.Entry.{Entry}
use Rattle.frame_history.specs.History.{HasVerdict}
use Rattle.ltl_meaning.specs.Ltl.{Ltl, past_height}
use Rattle.ltl_monitor.specs.Counted.{IsCounted}
use Rattle.ltl_monitor.specs.Runs.{SignalRun, SignalsWithin, BadWithin}
use Rattle.ltl_monitor.proofs.SignalRuns.{exact}
use Rattle.ltl_lassos.specs.Violating.{NeverViolated, NeverViolatedWithin}
use Rattle.ltl_lassos.proofs.Stretched.{none_within}
use Rattle.prove_run.specs.declared.answers.Work.{Work}
use Rattle.prove_run.specs.Answers.{CertifySays, IsLeftOpen}
use Rattle.prove_run.specs.Certifying.{CertQuery, IsOfCertificate, PaysCertificates, clauses_above}
use Rattle.prove_run.specs.Certifying.{queries_of as part_queries}
use Rattle.frame_worker.specs.Exploring.{IsExplored}
use Rattle.prove_run.proofs.Certified.{AllBefore, by_system, lacks_some, pays_more}
use Rattle.sat_core.proofs.Payments.{log_none}
use Rattle.frame_history.specs.History.{start}
use Rattle.frame_history.proofs.Keeping.{same_systems}
use Rattle.prove_ltl.specs.declared.effort.LtlEffort.{LtlEffort}
use Rattle.prove_ltl.specs.declared.answers.LtlAnswer.{LtlAnswer}
use Rattle.prove_ltl.specs.declared.answers.LtlAnswer.TheVariants.{True, False, Unknown}
use Rattle.prove_ltl.specs.declared.answers.LtlCause.{LtlCause}
use Rattle.prove_ltl.specs.declared.answers.LtlCause.TheVariants.{Bound, Frames}
use Rattle.prove_ltl.specs.Early.{is_unknown}
use Rattle.prove_ltl.specs.Lengths.{HasNoneUpTo, queries_of}
use Rattle.prove_ltl.specs.Rungs.{Rung, IsRung, IsPassed, tickets_of, histories_of, histories_in}
use Rattle.prove_ltl.specs.LtlAnswers.{LtlLog, IsLtlLog, IsLast, IsClimbOpen, IsLimitMet, IsLtlRight, IsLtlDone, limits_of}
use Rattle.prove_ltl.specs.Climbing.{IsClimbing, IsUsedUp, Shows, cause_of, spent_cause}
use Rattle.prove_ltl.proofs.Ladder.{rungs_more, lemmas_last, tickets_last, long_after}

-- ---- An obligation that is a first state begins a run to a bad one

module _ (fr : FrameState) (j : ℕ) (holds : FramesHold fr) where
  abbrev its_system : TransitionSystem
  its_system = system_at fr.systems j

  abbrev its_state : ℕ → ℕ → Bool
  its_state n = assignment_of (obligation_at fr.obligations n).values

  ends_from : (fuel n t : ℕ) (p : Option ℕ) → LeadsToBad fr.systems fr.obligations n j (obligation_at fr.obligations n).values p → n ≤ fuel →
      n < length fr.obligations → ReachedWithin its_system t (its_state n) → (u : ℕ) × BadWithin its_system u
  ends_from fuel n t None leads le lt reached = (t, (its_state n, reached, (its_state n, (λ v low. refl), leads)))
  ends_from zero n t (Some p) leads le lt reached = absurd (let low = leads.0 in omega (arith, low, le))
  ends_from (suc fuel) n t (Some p) leads le lt reached =
      let low = leads.0 in
      let lt' : p < length fr.obligations = omega (arith, low, lt) in
      let its = (holds.obligations p lt').leads in
      let its' : LeadsToBad fr.systems fr.obligations p j (obligation_at fr.obligations p).values (obligation_at fr.obligations p).parent =
      subst (λ (i : ℕ). LeadsToBad fr.systems fr.obligations p i (obligation_at fr.obligations p).values (obligation_at fr.obligations p).parent) leads.1 its in
      let step : StepBits its_system (its_state n) (its_state p) = (its_state n, (λ v below. refl), leads.3, leads.2) in
      ends_from fuel p (suc t) (obligation_at fr.obligations p).parent its' (omega (arith, low, le)) lt' (inr (its_state n, reached, step))

  bad_within : (n : ℕ) → VerdictSays fr j (Some (Reached n)) → (u : ℕ) × BadWithin its_system u
  bad_within n says =
      let leads = (holds.obligations n says.0).leads in
      let leads' : LeadsToBad fr.systems fr.obligations n j (obligation_at fr.obligations n).values (obligation_at fr.obligations n).parent =
      subst (λ (i : ℕ). LeadsToBad fr.systems fr.obligations n i (obligation_at fr.obligations n).values (obligation_at fr.obligations n).parent) says.1 leads in
      let first : FirstBits its_system (its_state n) = subst (λ (i : ℕ). FirstBits (system_at fr.systems i) (its_state n)) says.1 says.2 in
      ends_from n n 0 (obligation_at fr.obligations n).parent leads' (omega arith) says.0 first

-- ---- Certificates

none_asked : (fr : FrameState) (tickets : List ℕ) → PaysCertificates fr tickets tickets []
none_asked fr tickets =
    record {
      each = All-nil (IsOfCertificate fr);
      apart = λ i j d lt below. absurd (omega (arith, below));
      paid = log_none [] [] tickets tickets (All-nil (Contains [])) refl;
    }

-- ---- One counter more

pub same_after : (systems : List TransitionSystem) (limits : Limits) (carried : List Lemma) (history : List Entry) (fr : FrameState) (old new : ℕ) (over : Bool) →
    IsExplored systems limits carried history fr old new over → fr.systems ≡ systems
same_after systems limits carried history fr old new over e = ap (λ (z : FrameState). z.systems) e.frames ∙ same_systems (start limits systems carried) history

-- the tickets of the lengths, of the counters before, and of this one
sum_of : (asked earlier rungs drawn old new : ℕ) → rungs ≡ earlier + drawn → asked + earlier ≡ old → old + drawn ≡ new → asked + rungs ≡ new
sum_of asked earlier rungs drawn old new a b c = omega arith

-- and those of the certificate
add_up : (asked rungs new x z after n : ℕ) → asked ≡ 0 + x → asked + rungs ≡ new → after ≡ new + z → after ≡ n → x + rungs + z ≡ n
add_up asked rungs new x z after n a b c d = omega arith

which : (b : Bool) → (b ≡ true) ⊎ (b ≡ false)
which true = inl refl
which false = inr refl

module _ (sys : TransitionSystem) (f : Ltl) (atoms : List Lit) (effort : LtlEffort) (m : TransitionSystem) (log : LtlLog) (k : ℕ) (carried : List Lemma)
    (works : List Work) (old : ℕ) (h : IsClimbing sys f atoms effort m log k carried works old) (c : TransitionSystem) (isc : IsCounted m k c)
    (now : List Work) (one : Work) (is_now : now ≡ works ++ one ∷ []) (fr : FrameState) (tickets : List ℕ) (over : Bool)
    (e : IsExplored (c ∷ []) (limits_of effort) carried one.history.items fr old (length tickets) over) where
  abbrev rung : Rung
  rung = record { system = c; carried = carried; history = one.history.items; drawn = e.drawn; logs = e.logs }

  abbrev next : LtlLog
  next = record { monitored = log.monitored; lassos = log.lassos; known = log.known; asked = log.asked; rungs = log.rungs ++ rung ∷ [] }

  pub its_counted : IsCounted log.monitored k c
  its_counted = subst (λ (z : TransitionSystem). IsCounted z k c) (sym h.of) isc

  is_rung : IsRung log.monitored (limits_of effort) (0 + length log.rungs) rung
  is_rung =
      let base : IsRung log.monitored (limits_of effort) k rung = record { counted = its_counted; lawful = e.lawful; paid = e.paid } in
      let counted = h.count in
      let count : k ≡ 0 + length log.rungs = omega (arith, counted) in
      subst (λ (n : ℕ). IsRung log.monitored (limits_of effort) n rung) count base

  so_it_was : IsLtlLog sys f atoms effort next
  so_it_was =
      record {
        monitor = h.so_it_was.monitor;
        gives = h.so_it_was.gives;
        searched = h.so_it_was.searched;
        climbed = rungs_more log.monitored (limits_of effort) 0 [] log.rungs rung h.so_it_was.climbed is_rung (sym h.lemmas);
      }

  drawn_all : length log.asked + tickets_of next.rungs ≡ length tickets
  drawn_all = sum_of (length log.asked) (tickets_of log.rungs) (tickets_of next.rungs) e.drawn old (length tickets) (tickets_last log.rungs rung) h.drawn e.all

  systems_are : fr.systems ≡ c ∷ []
  systems_are = same_after (c ∷ []) (limits_of effort) carried one.history.items fr old (length tickets) over e

  kept : histories_in now ≡ histories_of next.rungs
  kept =
      let there : histories_in (works ++ one ∷ []) ≡ histories_in works ++ one.history.items ∷ [] = map-append (λ (w : Work). w.history.items) works (one ∷ []) in
      let here : histories_of next.rungs ≡ histories_of log.rungs ++ one.history.items ∷ [] = map-append (λ (r : Rung). r.history) log.rungs (rung ∷ []) in
      ap histories_in is_now ∙ there ∙ ap (λ (z : List (List Entry)). z ++ one.history.items ∷ []) h.kept ∙ sym here

  last : HasNoneUpTo m effort.bound → IsLast effort next log.rungs rung
  last none = record { none = subst (λ (z : TransitionSystem). HasNoneUpTo z effort.bound) (sym h.of) none; rungs = refl; passed = h.passed }

  short : HasNoneUpTo m effort.bound → NeverViolatedWithin sys f atoms (past_height f) effort.bound
  short none =
      none_within sys log.monitored f atoms h.so_it_was.monitor h.own h.so_it_was.gives effort.bound (λ n some le. ((last none).none n some le).never)

  -- ---- It was passed

  more_signals : (n : ℕ) → VerdictSays fr 0 (Some (Reached n)) → (i : ℕ) × SignalRun sys f atoms i (k + 1)
  more_signals n says =
      let bad = bad_within fr 0 e.holds n says in
      let bad' : BadWithin c bad.0 = subst (λ (z : List TransitionSystem). BadWithin (system_at z 0) bad.0) systems_are bad.1 in
      let some = (exact sys log.monitored c f atoms k h.so_it_was.monitor its_counted h.own h.so_it_was.gives bad.0).1 bad' in
      (some.0, some.2)

  pub goes_on : (n : ℕ) → VerdictSays fr 0 (Some (Reached n)) → (z : LtlLog) × IsClimbing sys f atoms effort m z (k + 1) fr.lemmas now (length tickets)
  goes_on n says =
      let long = length-append log.rungs (rung ∷ []) in
      let count = h.count in
      let passed : IsPassed (limits_of effort) rung = (n, subst (λ (z : FrameState). VerdictSays z 0 (Some (Reached n))) e.frames says) in (
        next,
        record {
          so_it_was = so_it_was;
          of = h.of;
          own = h.own;
          count = omega (arith, long, count);
          lemmas = lemmas_last (limits_of effort) [] log.rungs rung ∙ ap (λ (z : FrameState). z.lemmas) (sym e.frames);
          drawn = drawn_all;
          passed = All-push (IsPassed (limits_of effort)) log.rungs rung h.passed passed;
          signals = inr (more_signals n says);
          kept = kept;
        },
      )

  done : (a : LtlAnswer) → IsLtlRight sys f atoms effort next a → IsLtlDone sys f atoms effort now a
  done a right = record { log = next; so_it_was = so_it_was; kept = kept; right = right }

  -- and no more is counted
  pub ends : (n : ℕ) → VerdictSays fr 0 (Some (Reached n)) → k ≡ effort.counter → HasNoneUpTo m effort.bound →
      IsLtlDone sys f atoms effort now (Unknown (Bound effort.bound k))
  ends n says at none =
      let run = more_signals n says in
      done (Unknown (Bound effort.bound k))
      (refl, at, short none, run)

  -- ---- The budget was spent

  spent : (after : List ℕ) (parts : List CertQuery) → IsLeftOpen fr parts 0 → PaysCertificates fr tickets after parts → length after ≡ effort.conflicts →
      HasNoneUpTo m effort.bound → IsLtlDone sys f atoms effort now (Unknown (spent_cause effort))
  spent after parts left certified all none =
      let asked = long_after [] log.asked (tickets_in (queries_of log.lassos)) h.so_it_was.searched.paid.drawn in
      let last_drawn = long_after tickets after (tickets_in (part_queries parts)) certified.paid.drawn in
      let open' : IsClimbOpen effort next parts =
      record {
        earlier = log.rungs;
        here = rung;
        last = last none;
        left = subst (λ (z : FrameState). IsLeftOpen z parts 0) e.frames left;
        before = tickets;
        after = after;
        count = sym drawn_all;
        certified = subst (λ (z : FrameState). PaysCertificates z tickets after parts) e.frames certified;
      } in
      done (Unknown (spent_cause effort)) (
        refl,
        refl,
        record {
          parts = parts;
          left_open = inr open';
          all = add_up (length log.asked) (tickets_of next.rungs) (length tickets) (tickets_in (queries_of log.lassos)) (tickets_in (part_queries parts)) (length after)
              effort.conflicts asked drawn_all last_drawn all;
        },
      )

  -- ---- There is no verdict

  limited : over ≡ false → k ≤ effort.counter → (HasVerdict fr 0 → ⊥) → HasNoneUpTo m effort.bound →
      IsLtlDone sys f atoms effort now (Unknown (Frames effort.bound effort.frames k))
  limited not_over within undecided none =
      let both = e.limit not_over 0 (omega arith) undecided in
      let few : SignalsWithin sys f atoms effort.frames (k + 1) → ⊥ = λ s.
      (let bad = (exact sys log.monitored c f atoms k h.so_it_was.monitor its_counted h.own h.so_it_was.gives effort.frames).0 s in
      both.1 bad.0 bad.1 bad.2) in
      let met : IsLimitMet sys f atoms effort next k =
      record {
        earlier = log.rungs;
        here = rung;
        last = last none;
        number = h.count;
        undecided = subst (λ (z : FrameState). HasVerdict z 0 → ⊥) e.frames undecided;
        met = both.0;
        few = few;
      } in
      done (Unknown (Frames effort.bound effort.frames k)) (refl, refl, within, short none, h.signals, met)

  pub stops : IsUsedUp effort tickets over → k ≤ effort.counter → (HasVerdict fr 0 → ⊥) → HasNoneUpTo m effort.bound →
      IsLtlDone sys f atoms effort now (Unknown (cause_of over k effort))
  stops whole within undecided none = elim (which over) [
    | inl on ↦
        subst (λ (o : Bool). IsLtlDone sys f atoms effort now (Unknown (cause_of o k effort))) (sym on)
        (spent tickets [] (inl undecided) (none_asked fr tickets) (whole on) none)
    | inr off ↦ subst (λ (o : Bool). IsLtlDone sys f atoms effort now (Unknown (cause_of o k effort))) (sym off) (limited off within undecided none)
  ]

  -- ---- An invariant

  pub certified : (level : ℕ) (after : List ℕ) (late : Bool) (cert : Block) →
      CertifySays (system_at fr.systems 0) (clauses_above level fr.lemmas) (Some k) tickets after late (Some cert) → k ≤ effort.counter →
      (Certifies c cert → NeverViolated sys f atoms) → IsLtlDone sys f atoms effort now (True cert)
  certified level after late cert said within never =
      let certifies : Certifies c cert = subst (λ (z : List TransitionSystem). Certifies (system_at z 0) cert) systems_are said.0 in
      done (True cert) (
        never certifies,
        record {
          monitored = log.monitored;
          counted = c;
          counter = k;
          monitor = h.so_it_was.monitor;
          counts = its_counted;
          certifies = certifies;
          named = said.1;
          within = within;
        },
      )

  pub uncertified : (level : ℕ) (after : List ℕ) (late : Bool) → VerdictSays fr 0 (Some (Invariant level)) →
      CertifySays (system_at fr.systems 0) (clauses_above level fr.lemmas) (Some k) tickets after late None → IsUsedUp effort after late →
      HasNoneUpTo m effort.bound → IsLtlDone sys f atoms effort now (Unknown (spent_cause effort))
  uncertified level after late says said whole none =
      let asked : List PartQuery = said.1.0 in
      let before : AllBefore 0 [] = All-nil (λ (q : CertQuery). q.system < 0) in
      let parts : List CertQuery = map (by_system 0) asked in
      spent after parts (inr (lacks_some fr 0 level says tickets tickets after [] (none_asked fr tickets) before asked said.1.1 said.1.2))
      (pays_more fr 0 level says tickets tickets after [] (none_asked fr tickets) before asked said.1.1) (whole said.0) none

  pub shown : (level : ℕ) (after : List ℕ) (late : Bool) (a : LtlAnswer) → VerdictSays fr 0 (Some (Invariant level)) → Shows effort fr level k tickets after late a →
      k ≤ effort.counter → ((cert : Block) → Certifies c cert → NeverViolated sys f atoms) → IsUsedUp effort after late →
      (is_unknown a ≡ true → HasNoneUpTo m effort.bound) → IsLtlDone sys f atoms effort now a
  shown level after late (True cert) says shows within never whole none = certified level after late cert shows within (never cert)
  shown level after late (False lasso) says shows within never whole none = absurd shows
  shown level after late (Unknown cause) says shows within never whole none =
      subst (λ (z : LtlCause). IsLtlDone sys f atoms effort now (Unknown z)) (sym shows.1) (uncertified level after late says shows.0 whole (none refl))
