-- One module more.
use Rattle.std.specs.Prelude.{nat_eq}
use Rattle.std.specs.HashMap.{get}
use Rattle.smv_names.proofs.Opened.{noted_more}
use Rattle.smv_names.proofs.open_names.note.Goals as goal

pub returns : goal.returns
returns c = noted_more c.args._program.now (get nat_eq c.args.noted.now) (get nat_eq c.insert.new.self) c.args.m c.args.again c.in_ok-insert.ensures.updates.0 c.requires.again c.requires.noted
