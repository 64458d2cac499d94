-- Other targets are no entries.
use Rattle.smv_names.proofs.Numbered.{no_entry}
use Rattle.smv_names.proofs.numbers.entry_numbered.Goals as goal

pub returns-in_default : goal.returns-in_default
returns-in_default c = λ entries numbered. no_entry entries c.args.target c.in_default.not-Given c.in_default.not-Defined
