-- What is said of a specification, by what a text shows of it.
use Rattle.std.specs.Prelude.{◌≡◌, ℕ, Bool, true, false, Option, None, Some}
use Rattle.clause_core.specs.Systems.{TransitionSystem}
use Rattle.cert_core.specs.Blocks.{Block}
use Rattle.cert_core.specs.Certificates.{Certifies}
use Rattle.cert_core.specs.declared.form.Part.TheVariants.{Safe}
use Rattle.cert_check.specs.Judgements.{FailsFirst}
use Rattle.cert_check.specs.Upgrades.{IsUpgrade}
use Rattle.smv_tree.specs.declared.tree.Program.{Program}
use Rattle.smv_tree.specs.declared.tree.SpecificationKind.{SpecificationKind}
use Rattle.smv_tree.specs.declared.tree.SpecificationKind.TheVariants as claim
use Rattle.smv_resolve.specs.declared.item.ItemKind.TheVariants as item
use Rattle.smv_resolve.specs.Items.{ResolvedItem}
use Rattle.trace_replay.specs.Lassos.{IsReplayOf}
use Rattle.trace_replay.specs.declared.rule.Replayed.TheVariants.{Accepted, Rejected}
use Rattle.trace_replay.specs.declared.trace.Trace.{Trace}
use Rattle.sound_check.specs.declared.judging.SoundVerdict.{SoundVerdict}
use Rattle.sound_check.specs.declared.judging.SoundVerdict.TheVariants.{Sound, Rejected}
use Rattle.smv_recheck.specs.Counted.{IsCountedSystem}
use Rattle.smv_recheck.specs.declared.judgement.Judgement.{Judgement}
use Rattle.smv_recheck.specs.declared.judgement.Judgement.TheVariants.{ShownTrue, ShownFalse, ItemRejected, PartRejected, TestRejected, NothingShown}
use Rattle.smv_recheck.specs.declared.judgement.Record.{Record}

-- by a trace: it is that of a run that breaks an invariant, or of a lasso that violates a formula; or this test is the first that fails
abbrev pub IsByTrace : SpecificationKind → Program → ResolvedItem → Trace → Judgement → Type 0
IsByTrace kind p spec t (ShownTrue again) = ⊥
IsByTrace kind p spec t ShownFalse = IsReplayOf (item.Specification kind) p spec t Accepted
IsByTrace kind p spec t (ItemRejected item) = ⊥
IsByTrace kind p spec t (PartRejected part) = ⊥
IsByTrace kind p spec t (TestRejected rule number) = IsReplayOf (item.Specification kind) p spec t (Rejected rule number)
IsByTrace kind p spec t NothingShown = ⊥

-- where certificates are to be printed again, the one of the same clauses and the same counter that is judged by hints
abbrev pub IsAgain : TransitionSystem → Block → Bool → Option Block → Type 0
IsAgain sys cert false again = again ≡ None
IsAgain sys cert true None = ⊥
IsAgain sys cert true (Some new) = Certifies sys new × IsUpgrade cert new

-- by a certificate of this system: it certifies, or this part is the first that fails
abbrev pub IsCertified : TransitionSystem → Block → Bool → Judgement → Type 0
IsCertified sys cert upgrade (ShownTrue again) = Certifies sys cert × IsAgain sys cert upgrade again
IsCertified sys cert upgrade ShownFalse = ⊥
IsCertified sys cert upgrade (ItemRejected item) = ⊥
IsCertified sys cert upgrade (PartRejected part) = FailsFirst sys cert part
IsCertified sys cert upgrade (TestRejected rule number) = ⊥
IsCertified sys cert upgrade NothingShown = ⊥

-- By a certificate of an invariant, with this counter: it has none. One that is there is rejected as the part `safe`, before all parts.
abbrev pub IsOfInvariant : Option ℕ → TransitionSystem → Block → Bool → Judgement → Type 0
IsOfInvariant None sys cert upgrade j = IsCertified sys cert upgrade j
IsOfInvariant (Some k) sys cert upgrade j = j ≡ PartRejected Safe

-- By a certificate of a temporal formula, with this counter: it is one of the system that counts signals up to the counter. One without
-- a counter is rejected as the part `safe`, before all parts.
abbrev pub IsOfFormula : Option ℕ → Program → ResolvedItem → Block → Bool → Judgement → Type 0
IsOfFormula None p spec cert upgrade j = j ≡ PartRejected Safe
IsOfFormula (Some k) p spec cert upgrade j = (c : TransitionSystem) × IsCountedSystem p spec k c × IsCertified c cert upgrade j

-- By a certificate of a specification of this kind, which has this system where it is an invariant.
abbrev pub IsByCertificate : SpecificationKind → Program → TransitionSystem → ResolvedItem → Block → Bool → Judgement → Type 0
IsByCertificate claim.Invariant p sys spec cert upgrade j = IsOfInvariant cert.counter sys cert upgrade j
IsByCertificate claim.Temporal p sys spec cert upgrade j = IsOfFormula cert.counter p spec cert upgrade j

-- the same behind the parts of the sound block: where one of these is rejected, it is this item's, before all parts of the certificate
abbrev pub IsByBlocks : SoundVerdict → SpecificationKind → Program → TransitionSystem → ResolvedItem → Block → Bool → Judgement → Type 0
IsByBlocks Sound kind p sys spec cert upgrade j = IsByCertificate kind p sys spec cert upgrade j
IsByBlocks (Rejected item) kind p sys spec cert upgrade j = j ≡ ItemRejected item

-- of a specification of this kind: by its trace, where it has one; else by the sound block and its certificate, where it has one
abbrev pub IsJudged : SoundVerdict → SpecificationKind → Program → TransitionSystem → ResolvedItem → Bool → Option Trace → Option Block → Judgement → Type 0
IsJudged soundness kind p sys spec upgrade (Some t) cert j = IsByTrace kind p spec t j
IsJudged soundness kind p sys spec upgrade None (Some cert) j = IsByBlocks soundness kind p sys spec cert upgrade j
IsJudged soundness kind p sys spec upgrade None None j = j ≡ NothingShown

-- the record of a specification, with this number
pub record IsRecord (p : Program) (soundness : SoundVerdict) (sys : TransitionSystem) (upgrade : Bool) (trace : Option Trace) (cert : Option Block) (number : ℕ) (spec : ResolvedItem) (r : Record) : Type 0 where
  pub number_is : r.number ≡ number
  pub kind_is : spec.kind ≡ item.Specification r.kind
  pub judged : IsJudged soundness r.kind p sys spec upgrade trace cert r.judgement
