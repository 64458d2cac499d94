-- What is shown holds.
use Rattle.std.proofs.Common.{◌≡◌, ◌∙◌, ℕ, Bool, true, false, List, Option, None, Some, refl, sym, ap, subst}
use Rattle.clause_core.specs.Systems.{TransitionSystem}
use Rattle.cert_core.specs.Blocks.{Block}
use Rattle.cert_core.specs.Certificates.{Certifies}
use Rattle.smv_tree.specs.declared.tree.Program.{Program}
use Rattle.smv_tree.specs.declared.tree.SpecificationKind.{SpecificationKind}
use Rattle.smv_tree.specs.declared.tree.SpecificationKind.TheVariants as claim
use Rattle.smv_resolve.specs.declared.item.ItemKind.TheVariants as item
use Rattle.smv_resolve.specs.Items.{ResolvedItem}
use Rattle.hinted_log.specs.Hints.{HintedLog}
use Rattle.smv_meaning.specs.Faults.{IsFaultFree}
use Rattle.bit_clauses.specs.declared.deciding.Decided.{Decided}
use Rattle.bit_faults.specs.Questions.{AreFaultQuestions}
use Rattle.bit_system.specs.Claims.{IsUnbroken}
use Rattle.bit_lassos.specs.Claims.{IsUnviolated}
use Rattle.trace_replay.specs.Lassos.{lasso_told}
use Rattle.trace_replay.specs.declared.trace.Trace.{Trace}
use Rattle.trace_replay.proofs.OfLassos.{faultless, violates}
use Rattle.trace_replay.proofs.Shows.{shows}
use Rattle.sound_check.specs.declared.judging.SoundVerdict.{SoundVerdict}
use Rattle.sound_check.specs.declared.judging.SoundVerdict.TheVariants.{Sound, Rejected}
use Rattle.sound_check.specs.Judgements.{IsSoundBlock, VerdictSays, parts_of}
use Rattle.sound_check.specs.Questions.{AreNeverMet}
use Rattle.smv_recheck.specs.declared.judgement.Judgement.{Judgement}
use Rattle.smv_recheck.specs.declared.judgement.Judgement.TheVariants.{ShownTrue, ShownFalse}
use Rattle.smv_recheck.specs.Checking.{IsSoundness, is_shown_false, is_shown_true}
use Rattle.smv_recheck.specs.Claims.{IsRefuted, IsUpheld}
use Rattle.smv_recheck.specs.Counted.{IsCountedSystem}
use Rattle.smv_recheck.specs.Judging.{IsByBlocks, IsByCertificate, IsByTrace, IsCertified, IsJudged, IsOfFormula, IsOfInvariant}

-- a certificate certifies: of the system of an invariant, or of a counted system of a temporal formula
abbrev pub IsShown : SpecificationKind → Program → TransitionSystem → ResolvedItem → Type 0
IsShown claim.Invariant p sys spec = (cert : Block) × Certifies sys cert
IsShown claim.Temporal p sys spec = (k : ℕ) × ((c : TransitionSystem) × ((cert : Block) × (IsCountedSystem p spec k c × Certifies c cert)))

-- what is something else is not shown
unshown : (test : Judgement → Bool) (a b : Judgement) → a ≡ b → test b ≡ false → test a ≡ true → ⊥
unshown test a b same unlike alike = let clash : false ≡ true = sym unlike ∙ (sym (ap test same) ∙ alike) in cc

certifies : (sys : TransitionSystem) (cert : Block) (upgrade : Bool) (j : Judgement) → IsCertified sys cert upgrade j → is_shown_true j ≡ true → Certifies sys cert
certifies sys cert upgrade (ShownTrue again) h e = h.0
certifies sys cert upgrade other h e = absurd (let never : ⊥ = cc in never)

never_false : (sys : TransitionSystem) (cert : Block) (upgrade : Bool) (j : Judgement) → IsCertified sys cert upgrade j → is_shown_false j ≡ true → ⊥
never_false sys cert upgrade ShownFalse h e = h
never_false sys cert upgrade other h e = cc

module _ (p : Program) (sys : TransitionSystem) (spec : ResolvedItem) (cert : Block) (upgrade : Bool) (j : Judgement) where
  of_invariant : (counter : Option ℕ) → IsOfInvariant counter sys cert upgrade j → is_shown_true j ≡ true → IsShown claim.Invariant p sys spec
  of_invariant None h e = (cert, certifies sys cert upgrade j h e)
  of_invariant (Some k) h e = absurd (unshown is_shown_true j _ h refl e)

  of_formula : (counter : Option ℕ) → IsOfFormula counter p spec cert upgrade j → is_shown_true j ≡ true → IsShown claim.Temporal p sys spec
  of_formula None h e = absurd (unshown is_shown_true j _ h refl e)
  of_formula (Some k) h e = (k, (h.0, (cert, (h.1, certifies h.0 cert upgrade j h.2 e))))

  invariant_never : (counter : Option ℕ) → IsOfInvariant counter sys cert upgrade j → is_shown_false j ≡ true → ⊥
  invariant_never None h e = never_false sys cert upgrade j h e
  invariant_never (Some k) h e = unshown is_shown_false j _ h refl e

  formula_never : (counter : Option ℕ) → IsOfFormula counter p spec cert upgrade j → is_shown_false j ≡ true → ⊥
  formula_never None h e = unshown is_shown_false j _ h refl e
  formula_never (Some k) h e = never_false h.0 cert upgrade j h.2 e

by_trace_never : (kind : SpecificationKind) (p : Program) (spec : ResolvedItem) (t : Trace) (j : Judgement) → IsByTrace kind p spec t j → is_shown_true j ≡ true → ⊥
by_trace_never kind p spec t (ShownTrue again) h e = h
by_trace_never kind p spec t other h e = cc

refuted : (kind : SpecificationKind) (p : Program) (spec : ResolvedItem) (t : Trace) (j : Judgement) → IsByTrace kind p spec t j → is_shown_false j ≡ true → IsRefuted (item.Specification kind) p spec
refuted claim.Invariant p spec t ShownFalse h e = let shown = shows p spec t h in (shown.states, (shown.inputs, (shown.broken, shown.faultless)))
refuted claim.Temporal p spec t ShownFalse h e = (lasso_told p t, (violates p spec t h, faultless p spec t h))
refuted kind p spec t other h e = absurd (let never : ⊥ = cc in never)

module _ (p : Program) (sys : TransitionSystem) (spec : ResolvedItem) (upgrade : Bool) where
  by_certificate : (kind : SpecificationKind) (cert : Block) (j : Judgement) → IsByCertificate kind p sys spec cert upgrade j → is_shown_true j ≡ true → IsShown kind p sys spec
  by_certificate claim.Invariant cert j h e = of_invariant p sys spec cert upgrade j cert.counter h e
  by_certificate claim.Temporal cert j h e = of_formula p sys spec cert upgrade j cert.counter h e

  certificate_never : (kind : SpecificationKind) (cert : Block) (j : Judgement) → IsByCertificate kind p sys spec cert upgrade j → is_shown_false j ≡ true → ⊥
  certificate_never claim.Invariant cert j h e = invariant_never p sys spec cert upgrade j cert.counter h e
  certificate_never claim.Temporal cert j h e = formula_never p sys spec cert upgrade j cert.counter h e

  by_blocks : (soundness : SoundVerdict) (kind : SpecificationKind) (cert : Block) (j : Judgement) → IsByBlocks soundness kind p sys spec cert upgrade j → is_shown_true j ≡ true →
      (soundness ≡ Sound) × IsShown kind p sys spec
  by_blocks Sound kind cert j h e = (refl, by_certificate kind cert j h e)
  by_blocks (Rejected item) kind cert j h e = absurd (unshown is_shown_true j _ h refl e)

  blocks_never : (soundness : SoundVerdict) (kind : SpecificationKind) (cert : Block) (j : Judgement) → IsByBlocks soundness kind p sys spec cert upgrade j → is_shown_false j ≡ true → ⊥
  blocks_never Sound kind cert j h e = certificate_never kind cert j h e
  blocks_never (Rejected item) kind cert j h e = unshown is_shown_false j _ h refl e

  -- where something is shown true, the sound block is accepted, and a certificate certifies
  pub certified : (soundness : SoundVerdict) (kind : SpecificationKind) (t : Option Trace) (cert : Option Block) (j : Judgement) → IsJudged soundness kind p sys spec upgrade t cert j → is_shown_true j ≡ true →
      (soundness ≡ Sound) × IsShown kind p sys spec
  certified soundness kind (Some t) cert j h e = absurd (by_trace_never kind p spec t j h e)
  certified soundness kind None (Some cert) j h e = by_blocks soundness kind cert j h e
  certified soundness kind None None j h e = absurd (unshown is_shown_true j _ h refl e)

  -- what is shown false is refuted by a run or a lasso
  pub broken : (soundness : SoundVerdict) (kind : SpecificationKind) (t : Option Trace) (cert : Option Block) (j : Judgement) → IsJudged soundness kind p sys spec upgrade t cert j → is_shown_false j ≡ true →
      IsRefuted (item.Specification kind) p spec
  broken soundness kind (Some t) cert j h e = refuted kind p spec t j h e
  broken soundness kind None (Some cert) j h e = absurd (blocks_never soundness kind cert j h e)
  broken soundness kind None None j h e = absurd (unshown is_shown_false j _ h refl e)

-- what has a certificate that certifies holds, where both kinds do
pub upheld : (kind : SpecificationKind) (p : Program) (sys : TransitionSystem) (spec : ResolvedItem) → (kind ≡ claim.Invariant → (cert : Block) → Certifies sys cert → IsUnbroken p spec)
    → ((k : ℕ) (c : TransitionSystem) (cert : Block) → IsCountedSystem p spec k c → Certifies c cert → IsUnviolated p spec) → IsShown kind p sys spec → IsUpheld (item.Specification kind) p spec
upheld claim.Invariant p sys spec by_run by_lasso shown = by_run refl shown.0 shown.1
upheld claim.Temporal p sys spec by_run by_lasso shown = by_lasso shown.0 shown.1.0 shown.1.1.0 shown.1.1.1.0 shown.1.1.1.1

-- where the sound block is accepted, no item faults
pub sound_free : (p : Program) (sound : Option (List (Option HintedLog))) (soundness : SoundVerdict) → IsSoundness p sound soundness → soundness ≡ Sound →
    ((questions : List (Option Decided)) (parts : List (Option HintedLog)) → IsSoundBlock questions parts → AreNeverMet questions) →
    ((questions : List (Option Decided)) → AreFaultQuestions p questions → AreNeverMet questions → IsFaultFree p) → IsFaultFree p
sound_free p sound soundness is same shows free =
    let P : SoundVerdict → Type 0 = VerdictSays is.questions (parts_of sound) in
    free is.questions is.asked (shows is.questions (parts_of sound) (subst P same is.says))
