-- The first line that is not as it should be.
use Rattle.std.proofs.Common.{ℕ, Result, sym, subst}
use Rattle.cert_text.specs.Reading.{IsStopped, ReadSoFar}
use Rattle.smv_tree.specs.declared.refusal.TextStop.{TextStop}
use Rattle.trace_replay.specs.Reading.{Holds, IsLinesStop, texts}
use Rattle.smv_recheck.specs.Lines.{trace_lines}
use Rattle.smv_recheck.specs.Refusing.{IsStopBeside}
use Rattle.smv_recheck.proofs.Stopping.{both_stopped, certificates_as, certificates_stopped}
use Rattle.smv_recheck.proofs.beside.read_beside.Goals as goal

pub returns-in-Ok-clause-refused : goal.returns-in-Ok-clause-refused
returns-in-Ok-clause-refused c =
    let p = c.args.typed.now.scope.program in
    let text = c.args.text.now in
    let stop = c.in-Err-found.certificate in
    let as_read = certificates_as p text c.args.specs c.item_count-items.result c.requires c.item_count-items.ensures in
    let stopped = subst (λ (r : Result ReadSoFar ℕ). IsStopped r stop) as_read c.in-Err-found.ensures.stopped in
    certificates_stopped p text stop c.in-Ok.traces stopped (subst (λ (n : ℕ). Holds n (texts (trace_lines text)) c.in-Ok.traces) c.requires c.in-Ok.ensures.held)

pub returns-clause-refused : goal.returns-clause-refused
returns-clause-refused c =
    let p = c.args.typed.now.scope.program in
    let text = c.args.text.now in
    let as_read = certificates_as p text c.args.specs c.item_count-items.result c.requires c.item_count-items.ensures in
    let first = subst (λ (n : ℕ). IsLinesStop n (trace_lines text) c.in-Err.trace) c.requires c.in-Err.ensures.refused in
    let second = subst (λ (r : Result ReadSoFar ℕ). IsStopped r c.in-Err-found-2.certificate) as_read c.in-Err-found-2.ensures.stopped in
    subst (λ (s : TextStop). IsStopBeside p text s) (sym c.earlier.ensures) (both_stopped p text c.in-Err.trace c.in-Err-found-2.certificate first second)
