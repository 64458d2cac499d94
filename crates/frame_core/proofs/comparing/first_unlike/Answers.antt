use Rattle.std.proofs.Common.{◌≡◌, ◌<◌, length, false, subst, arith, below_more}
use Rattle.std.proofs.lemmas.List.{get_or_read}
use Rattle.clause_core.specs.Systems.{TransitionSystem}
use Rattle.frame_core.specs.Differences.{IsSameSystem, DifferAt}
use Rattle.frame_core.specs.FrameLaw.{no_system, system_at}
use Rattle.frame_core.proofs.comparing.first_unlike.Goals as goal

pub loop-j-preserved : goal.loop-j-preserved
loop-j-preserved c =
    let systems = c.args.systems.now in
    let j = c.loop-j.j in
    let a : TransitionSystem = c.index-systems-0.result in
    let b : TransitionSystem = c.index-systems-j.result in
    let lt : j < length systems = omega arith in
    let ea : a ≡ system_at systems 0 = get_or_read systems 0 a (omega arith) c.index-systems-0.is no_system in
    let eb : b ≡ system_at systems j = get_or_read systems j b lt c.index-systems-j.is no_system in
    below_more (λ k. IsSameSystem false (system_at systems 0) (system_at systems k)) j c.loop-j.invariant
    (subst (λ (t : TransitionSystem). IsSameSystem false t (system_at systems j)) ea (subst (IsSameSystem false a) eb c.in_default.ensures))

pub returns-in-Some : goal.returns-in-Some
returns-in-Some c =
    let systems = c.args.systems.now in
    let j = c.loop-j.j in
    let a : TransitionSystem = c.index-systems-0.result in
    let b : TransitionSystem = c.index-systems-j.result in
    let lt : j < length systems = omega arith in
    let ea : a ≡ system_at systems 0 = get_or_read systems 0 a (omega arith) c.index-systems-0.is no_system in
    let eb : b ≡ system_at systems j = get_or_read systems j b lt c.index-systems-j.is no_system in (
      lt,
      subst (λ (t : TransitionSystem). DifferAt false t (system_at systems j) c.in-Some.place) ea
          (subst (λ (t : TransitionSystem). DifferAt false a t c.in-Some.place) eb c.in-Some.ensures),
      c.loop-j.invariant,
    )
