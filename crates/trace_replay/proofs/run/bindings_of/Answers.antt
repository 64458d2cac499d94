-- No binding is left.
use Rattle.std.proofs.Common.{◌∙◌, ◌++◌, ◌≤◌, List, min, length, sym, ap, append-nil, arith}
use Rattle.trace_replay.specs.declared.entry.Binding.{Binding}
use Rattle.trace_replay.specs.Rows.{terms_of}
use Rattle.trace_replay.proofs.OfRuns.{bindings_done}
use Rattle.trace_replay.proofs.run.bindings_of.Goals as goal

pub returns : goal.returns
returns c =
    let columns = c.args.columns.now in
    let values = c.args.values.now in
    let i = c.loop-i.i in
    let end : min (length columns) (length values) ≤ i = omega (arith, c.loop-i-test.false, c.min-i-end.ensures) in
    let made = c.loop-i.bindings.items in
    c.from_vec.ensures ∙ sym (append-nil made) ∙ ap (λ (l : List Binding). made ++ l) (sym (bindings_done (terms_of c.args.typed.now.scope.program) columns values i end)) ∙ c.loop-i.invariant
