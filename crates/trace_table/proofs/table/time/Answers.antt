-- The brackets are those of the time.
use Rattle.std.proofs.Common.{◌∙◌, ◌++◌, ap₂, ap, List, ℕ}
use Rattle.std.specs.Fmt.{decimal}
use Rattle.std.proofs.lemmas.Result.{IfOk-weaker}
use Rattle.trace_table.specs.Table as table
use Rattle.trace_table.proofs.table.time.Goals as goal

pub returns : goal.returns
returns c =
    IfOk-weaker c.format.result _ _
    (λ text h. h ∙ ap₂ (λ (a b : List ℕ). a ++ (decimal c.args.i ++ b)) c.opening-opening.ensures (c.closing-closing.ensures ∙ ap (table.closing c.args.trace.now.start c.args.i) c.len.ensures))
    c.format.ensures.ok
