-- A number is read where its text is that which it prints.
use Rattle.std.proofs.Common.{sym, ◌∙◌}
use Rattle.std.specs.Fmt.{decimal}
use Rattle.value_texts.proofs.OfReading.{not_printed, number_back, same_ok}
use Rattle.value_texts.proofs.reading.number_read.Goals as goal

pub returns-in_default : goal.returns-in_default
returns-in_default c = λ n small is. c.in_default.not-Ok n (number_back n c.args.text.now c.parse.result small is c.parse.ensures.value.0)

pub returns : goal.returns
returns c = λ n small is.
    let read = number_back n c.args.text.now c.parse.result small is c.parse.ensures.value.0 in
    not_printed c.args.text.now c.as_str.result.now decimal c.in-Ok.n n (c.as_str.ensures.value ∙ c.in_ok-printed.ensures.ok) (same_ok c.parse.result c.in-Ok.n n c.in-Ok.is read) is (sym c.if-eq.ensures)
