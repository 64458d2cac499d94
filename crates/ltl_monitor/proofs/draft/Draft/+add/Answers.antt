use Rattle.ltl_meaning.specs.Temporal.{Temporal, formula_of}
use Rattle.ltl_meaning.specs.Unfolded.{unfolded}
use Rattle.ltl_meaning.proofs.Chains.{chain_starts, chain_goes_on}
use Rattle.ltl_monitor.proofs.Parts.{binary_joined}
use Rattle.ltl_monitor.proofs.draft.Draft.+add.Goals as goal

pub loop-link-init : goal.loop-link-init
loop-link-init t c = (
  formula_of c.get-in-Chain.result.now,
  c.in_ok-all-in-Chain.ensures,
  chain_starts c.args.node.now c.get-in-Chain.result.now c.as_slice-link-items.result.now (rw (c.get-in-Chain.ensures, c.as_slice-link-items.ensures) c.in-Chain.is),
)

pub loop-link-preserved : goal.loop-link-preserved
loop-link-preserved t c =
    let link = c.link-item.result in
    let so_far = c.loop-link.invariant in (
      Temporal.Binary link.operator so_far.0 (formula_of link.operand),
      binary_joined c.args.scene.now link.operator (unfolded so_far.0) (unfolded (formula_of link.operand)) c.args.self.now c.loop-link.self c.add-in-loop-link.new.self
          c.loop-link.all c.in_ok-operand-in-Chain.operand _ so_far.1 c.in_ok-operand-in-Chain.ensures c.in_ok-all-in-Chain-2.ensures,
      chain_goes_on so_far.0 (formula_of c.args.node.now) c.as_slice-link-items.result.now c.loop-link.link-index link c.loop-link-test.true c.link-item.is so_far.2,
    )
