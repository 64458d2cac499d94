-- What one counter, or a lasso along a course, answers by itself: no lasso was asked for, and no history is kept.
use Rattle.std.proofs.Common.{◌≡◌, ℕ, ◌≤◌, List, [], ◌∷◌, Bool, false, subst}
use Rattle.std.specs.Prelude.{Some}
use Rattle.clause_core.specs.declared.literal.Lit.{Lit}
use Rattle.clause_core.specs.Systems.{TransitionSystem, Gives}
use Rattle.cert_core.specs.Blocks.{Block}
use Rattle.cert_core.specs.Certificates.{Certifies}
use Rattle.frame_core.specs.FrameLaw.{FrameState, system_at}
use Rattle.lasso_search.specs.Lassos.{Lasso}
use Rattle.ltl_meaning.specs.Ltl.{Ltl}
use Rattle.ltl_monitor.specs.States.{IsMonitor}
use Rattle.ltl_monitor.specs.Counted.{IsCounted}
use Rattle.ltl_lassos.specs.Violating.{AreViolating, NeverViolated}
use Rattle.prove_ltl.specs.declared.effort.LtlEffort.{LtlEffort}
use Rattle.prove_ltl.specs.declared.answers.LtlAnswer.{LtlAnswer}
use Rattle.prove_ltl.specs.declared.answers.LtlAnswer.TheVariants.{True, False, Unknown}
use Rattle.prove_ltl.specs.Climbing.{Shows}
use Rattle.prove_ltl.specs.Early.{is_unknown}
use Rattle.prove_ltl.specs.LtlAnswers.{IsLtlDone, IsLtlCertificate}
use Rattle.prove_ltl.proofs.Beginning.{unasked}

module _ (sys : TransitionSystem) (effort : LtlEffort) (m : TransitionSystem) (own : Gives sys.state_bits sys.fair sys.defs)
    (gives : Gives m.state_bits m.fair m.defs) (f : Ltl) (atoms : List Lit) (ism : IsMonitor sys f atoms m) where
  -- a lasso was found
  pub lasso_done : (r : Lasso) → AreViolating sys f atoms r.rows r.start → IsLtlDone sys f atoms effort [] (False r)
  lasso_done r violating =
      let nothing = unasked sys effort m own gives f atoms ism in
      record { log = nothing.0; so_it_was = nothing.1.so_it_was; kept = nothing.1.kept; right = violating }

  -- a certificate was made, for the counter k
  certificate_done : (k : ℕ) (c : TransitionSystem) (cert : Block) → IsCounted m k c → Certifies c cert → cert.counter ≡ Some k → k ≤ effort.counter →
      NeverViolated sys f atoms → IsLtlDone sys f atoms effort [] (True cert)
  certificate_done k c cert isc certifies named within never =
      let nothing = unasked sys effort m own gives f atoms ism in
      let its : IsLtlCertificate sys f atoms effort.counter cert =
      record { monitored = m; counted = c; counter = k; monitor = ism; counts = isc; certifies = certifies; named = named; within = within } in
      record { log = nothing.0; so_it_was = nothing.1.so_it_was; kept = nothing.1.kept; right = (never, its) }

  -- and it is the answer, which is known
  pub shown_done : (fr : FrameState) (level k : ℕ) (before after : List ℕ) (over : Bool) (a : LtlAnswer) (c : TransitionSystem) → IsCounted m k c →
      fr.systems ≡ c ∷ [] → Shows effort fr level k before after over a → is_unknown a ≡ false → k ≤ effort.counter →
      ((cert : Block) → Certifies c cert → NeverViolated sys f atoms) → IsLtlDone sys f atoms effort [] a
  shown_done fr level k before after over (True cert) c isc systems said known within never =
      let certifies : Certifies c cert = subst (λ (z : List TransitionSystem). Certifies (system_at z 0) cert) systems said.0 in
      certificate_done k c cert isc certifies said.1 within (never cert certifies)
  shown_done fr level k before after over (False lasso) c isc systems said known within never = absurd said
  shown_done fr level k before after over (Unknown cause) c isc systems said known within never = absurd (let never : ⊥ = cc in never)
