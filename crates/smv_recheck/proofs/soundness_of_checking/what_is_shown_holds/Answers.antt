-- What is shown true has a certificate, so no bad state is reached, and a sound block, so no item faults; what is shown false has a trace.
use Rattle.std.proofs.Common.{◌≡◌, ◌∙◌, ◌<◌, ℕ, ap, sym, subst, true, arith, length}
use Rattle.std.proofs.lemmas.Option.{slice_get_within}
use Rattle.clause_core.specs.Systems.{Gives}
use Rattle.ltl_meaning.specs.Unfolded.{unfolded}
use Rattle.smv_tree.specs.declared.tree.SpecificationKind.{SpecificationKind}
use Rattle.smv_resolve.specs.declared.item.ItemKind.{ItemKind}
use Rattle.smv_resolve.specs.declared.item.ItemKind.TheVariants as item
use Rattle.smv_meaning.specs.Runs.{specifications_of}
use Rattle.bit_conditions.specs.Asked.{is_invariant}
use Rattle.bit_system.specs.Building.{system_of}
use Rattle.smv_recheck.specs.Claims.{IsRefuted, IsUpheld}
use Rattle.smv_recheck.proofs.Gives.{gives_left}
use Rattle.smv_recheck.proofs.Recording.{element_at}
use Rattle.smv_recheck.proofs.Showing.{broken, certified, sound_free, upheld}
use Rattle.smv_recheck.proofs.soundness_of_checking.what_is_shown_holds.Goals as goal

pub returns-clause-fault_free : goal.returns-clause-fault_free
returns-clause-fault_free c = λ p text upgrade checked j r is here shown. (
    let within : j < length (specifications_of p) = omega (arith, slice_get_within checked.records j r here, is.records.each_one) in
    let spec = element_at (specifications_of p) j within in
    let judged = is.records.each j spec.0 r spec.1 here in
    let both = certified p (system_of checked.built j) spec.0 upgrade is.soundness r.kind _ _ r.judgement judged.judged shown in
    sound_free p is.sound is.soundness is.judged both.0 c.what_is_sound_is_never_met.ensures
    (λ questions asked never. c.what_is_never_met.ensures.all p questions is.built.types asked never))

pub returns-clause-shown_true : goal.returns-clause-shown_true
returns-clause-shown_true c = λ p text upgrade checked j spec r is at here shown. (
    let sys = system_of checked.built j in
    let judged = is.records.each j spec r at here in
    let both = certified p sys spec upgrade is.soundness r.kind _ _ r.judgement judged.judged shown in
    subst (λ (kind : ItemKind). IsUpheld kind p spec) (sym judged.kind_is)
    (upheld r.kind p sys spec
    (λ kind cert certifies.
    let invariant : is_invariant spec.kind ≡ true = ap is_invariant (judged.kind_is ∙ ap (λ (k : SpecificationKind). item.Specification k) kind) in
    c.what_is_never_bad_is_unbroken.ensures.all p spec sys (is.built.stands j spec at invariant) (λ n x reached bad. c.no_run_reaches_bad.ensures sys cert certifies n x reached bad))
    (λ k counter cert counted certifies.
    let f = counted.formula in
    let gives : Gives f.system.state_bits f.system.fair f.system.defs = subst (λ (n : ℕ). Gives n f.system.fair f.system.defs) (sym counted.stands.bits) (gives_left _ f.system.fair f.atoms f.system.defs counted.stands.defs) in
    c.what_is_never_violated.ensures.all p spec f counted.stands
    (c.counted_systems.ensures.certified f.system counted.monitor counter (unfolded f.formula) f.atoms k cert counted.monitored counted.counted gives counted.gives certifies))
    both.1))

pub returns-clause-shown_false : goal.returns-clause-shown_false
returns-clause-shown_false c = λ p text upgrade checked j spec r is at here shown. (
    let judged = is.records.each j spec r at here in
    subst (λ (kind : ItemKind). IsRefuted kind p spec) (sym judged.kind_is)
    (broken p (system_of checked.built j) spec upgrade is.soundness r.kind _ _ r.judgement judged.judged shown))
