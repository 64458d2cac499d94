-- One level is opened, and then fewer.
use Rattle.std.proofs.Common.{sym, ap, ◌+◌, ◌∙◌}
use Rattle.smv_resolve.proofs.Opening.{levels_within-step, levels_within-none}
use Rattle.smv_resolve.proofs.dots.+levels.Goals as goal

pub levels_within-returns-then-depth-eq0-clause-levels : goal.levels_within-returns-then-depth-eq0-clause-levels
levels_within-returns-then-depth-eq0-clause-levels t c = sym (levels_within-none c.args.scope.now.program c.args.depth c.args.instance c.args.e.now c.if-depth-eq0.true)

pub levels_within-returns-clause-levels : goal.levels_within-returns-clause-levels
levels_within-returns-clause-levels t c =
    ap (λ n. n + 1) c.levels_by_node-below.ensures.levels ∙ sym (levels_within-step c.args.scope.now.program c.args.depth c.args.instance c.args.e.now c.if-depth-eq0.false)
