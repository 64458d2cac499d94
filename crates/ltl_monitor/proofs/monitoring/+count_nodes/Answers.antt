use Rattle.std.proofs.Common.{◌≡◌, ◌+◌, arith, ap, sym, ◌∙◌, subst}
use Rattle.std.specs.Prelude.{IfOk}
use Rattle.ltl_meaning.specs.Temporal.{Temporal, formula_of}
use Rattle.ltl_meaning.specs.Unfolded.{unfolded}
use Rattle.ltl_meaning.proofs.Chains.{bounded_is, chain_starts, chain_goes_on}
use Rattle.ltl_monitor.specs.Monitor.{nodes}
use Rattle.ltl_monitor.proofs.Repeated.{bounded_nodes}
use Rattle.ltl_monitor.proofs.monitoring.+count_nodes.Goals as goal

pub returns-in_ok-count_nodes-in-Bounded : goal.returns-in_ok-count_nodes-in-Bounded
returns-in_ok-count_nodes-in-Bounded t c =
    let w = c.in-Bounded.window in
    let inner = c.get-in-Bounded.result.now in
    let is = bounded_is c.args.node.now c.in-Bounded.operand inner c.in-Bounded.field-0 w c.in-Bounded.is c.get-in-Bounded.ensures in
    let e : c.in_ok-count_nodes-in-Bounded.field-0 + w.high ≡ nodes (unfolded (formula_of c.args.node.now)) =
    ap (λ n. n + w.high) c.in_ok-count_nodes-in-Bounded.ensures ∙ sym (ap nodes is ∙ bounded_nodes c.in-Bounded.field-0 w (unfolded (formula_of inner))) in
    subst (λ m. IfOk c.sum-in-Bounded.result (λ n. n ≡ m)) e c.sum-in-Bounded.ensures

pub loop-link-init : goal.loop-link-init
loop-link-init t c = (
  formula_of c.get-in-Chain.result.now,
  c.in_ok-all-in-Chain.ensures,
  chain_starts c.args.node.now c.get-in-Chain.result.now c.as_slice-link-items.result.now (rw (c.get-in-Chain.ensures, c.as_slice-link-items.ensures) c.in-Chain.is),
)

pub loop-link-preserved : goal.loop-link-preserved
loop-link-preserved t c =
    let link = c.link-item.result in
    let so_far = c.loop-link.invariant in (
      Temporal.Binary link.operator so_far.0 (formula_of link.operand),
      omega (arith, so_far.1, c.in_ok-count_nodes-in-Chain.ensures, c.in_ok-all-in-Chain-2.ensures),
      chain_goes_on so_far.0 (formula_of c.args.node.now) c.as_slice-link-items.result.now c.loop-link.link-index link c.loop-link-test.true c.link-item.is so_far.2,
    )
