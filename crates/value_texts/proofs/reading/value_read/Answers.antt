-- What is read by the kind of the type is the value that is told so.
use Rattle.value_texts.proofs.Codes.{all_read}
use Rattle.value_texts.proofs.reading.value_read.Goals as goal

pub returns : goal.returns
returns c = all_read c.args.symbols.now.names.now c.args.declared.now c.requires c.args.text.now c.read_by.result c.read_by.ensures
