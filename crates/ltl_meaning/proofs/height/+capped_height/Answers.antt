use Rattle.std.proofs.Common.{min, ap, ◌∙◌, arith}
use Rattle.ltl_meaning.specs.declared.height.TheConstants.{LIMIT}
use Rattle.ltl_meaning.specs.Temporal.{Temporal, formula_of, past_depth}
use Rattle.ltl_meaning.proofs.Chains.{chain_starts, chain_goes_on, chain_ends}
use Rattle.ltl_meaning.proofs.height.+capped_height.Goals as goal

pub loop-link-init : goal.loop-link-init
loop-link-init t c = (
  formula_of c.get-in-Chain.result.now,
  c.capped_height-height.ensures,
  chain_starts c.args.node.now c.get-in-Chain.result.now c.as_slice-link-items.result.now (rw (c.get-in-Chain.ensures, c.as_slice-link-items.ensures) c.in-Chain.is),
)

pub loop-link-preserved : goal.loop-link-preserved
loop-link-preserved t c = (
  Temporal.Binary c.link-item.result.operator c.loop-link.invariant.0 (formula_of c.link-item.result.operand),
  omega (arith, c.loop-link.invariant.1),
  chain_goes_on c.loop-link.invariant.0 (formula_of c.args.node.now) c.as_slice-link-items.result.now c.loop-link.link-index c.link-item.result
      c.loop-link-test.true c.link-item.is c.loop-link.invariant.2,
)

pub returns-after-loop-link : goal.returns-after-loop-link
returns-after-loop-link t c =
    c.loop-link.invariant.1 ∙ ap (λ f. min (past_depth f) LIMIT)
    (chain_ends c.loop-link.invariant.0 (formula_of c.args.node.now) c.as_slice-link-items.result.now c.loop-link.link-index
    c.loop-link-test.false c.loop-link.invariant.2)
