-- A number before a colon.
use Rattle.std.proofs.Common.{◌≡◌, ◌∙◌, None, Some, sym, ap}
use Rattle.std.specs.Fmt.{decimal}
use Rattle.trace_replay.specs.Words.{without_last}
use Rattle.trace_replay.proofs.OfWords.{numbered_if_ok, without_last-push}
use Rattle.trace_replay.proofs.words.numbered_read.Goals as goal

pub returns-in-None : goal.returns-in-None
returns-in-None c = λ n small is.
    let clash : None ≡ Some (decimal n) = c.in-None.ensures ∙ ap (without_last 58) is ∙ without_last-push 58 (decimal n) in
    let never : ⊥ = cc in never

pub returns-in-Some : goal.returns-in-Some
returns-in-Some c = numbered_if_ok c.args.text.now c.in-Some.number.now c.number_read.result (sym c.in-Some.ensures) c.number_read.ensures
