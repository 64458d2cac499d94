use Rattle.std.proofs.Common.{arith, subst, sym}
use Rattle.std.proofs.lemmas.Grind.{common_steps}
use Rattle.std.specs.Prelude.{◌↔◌, IsTrue}
use Rattle.ltl_meaning.specs.Temporal.{Temporal, formula_of}
use Rattle.ltl_meaning.specs.Unfolded.{unfolded}
use Rattle.ltl_meaning.proofs.Chains.{bounded_is, chain_starts, chain_goes_on}
use Rattle.ltl_monitor.specs.States.{AtomsBelow}
use Rattle.ltl_monitor.proofs.Repeated.{bounded_below}
use Rattle.ltl_monitor.proofs.monitoring.+are_below.Goals as goal

pub returns-in-Bounded : goal.returns-in-Bounded
returns-in-Bounded t c =
    let inner = c.get-in-Bounded.result.now in
    let is = bounded_is c.args.node.now c.in-Bounded.operand inner c.in-Bounded.field-0 c.in-Bounded.field-1 c.in-Bounded.is c.get-in-Bounded.ensures in
    let e = bounded_below c.args.bound c.in-Bounded.field-0 c.in-Bounded.field-1 (unfolded (formula_of inner)) in
    let told = c.are_below-in-Bounded.ensures in
    subst (λ g. IsTrue c.are_below-in-Bounded.result ↔ AtomsBelow c.args.bound g) (sym is) (λ h. e.0 (told.0 h), λ h. told.1 (e.1 h))

pub loop-link-init : goal.loop-link-init
loop-link-init t c = (
  formula_of c.get-in-Chain.result.now,
  c.are_below-all.ensures,
  chain_starts c.args.node.now c.get-in-Chain.result.now c.as_slice-link-items.result.now (rw (c.get-in-Chain.ensures, c.as_slice-link-items.ensures) c.in-Chain.is),
)

pub loop-link-preserved : goal.loop-link-preserved
loop-link-preserved t c =
    let link = c.link-item.result in
    let so_far = c.loop-link.invariant in (
      Temporal.Binary link.operator so_far.0 (formula_of link.operand),
      grind (arith, common_steps),
      chain_goes_on so_far.0 (formula_of c.args.node.now) c.as_slice-link-items.result.now c.loop-link.link-index link c.loop-link-test.true c.link-item.is so_far.2,
    )
