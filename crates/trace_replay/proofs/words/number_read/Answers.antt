-- A number is read where its text is that which it prints.
use Rattle.std.proofs.Common.{◌∙◌}
use Rattle.std.proofs.lemmas.Fmt.{parse-decimal}
use Rattle.trace_replay.proofs.OfWords.{not_printed, same_number}
use Rattle.trace_replay.proofs.words.number_read.Goals as goal

pub returns-in_default : goal.returns-in_default
returns-in_default c = λ n small is. c.in_default.not-Ok n (parse-decimal 64 n c.args.text.now c.parse.result small small is c.parse.ensures.value.0)

pub returns : goal.returns
returns c = λ n small is.
    let read = parse-decimal 64 n c.args.text.now c.parse.result small small is c.parse.ensures.value.0 in
    not_printed c.as_str.result.now c.args.text.now c.in-Ok.n n (c.as_str.ensures.value ∙ c.in_ok-printed.ensures.ok) (same_number c.parse.result c.in-Ok.n n c.in-Ok.is read) is c.if-eq.ensures
