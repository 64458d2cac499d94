-- What preparing gives.
use Rattle.smv_cli.proofs.OfPreparing.{prepared_faulty, prepared_sound, prepared_spent}
use Rattle.smv_cli.proofs.preparing.prepared.Goals as goal

pub returns-in-Ok-Sound-clause-prepared : goal.returns-in-Ok-Sound-clause-prepared
returns-in-Ok-Sound-clause-prepared c =
    prepared_sound c.args.flat.now.typed.scope.program c.args.effort.now c.new-purse.result c.prepare.new.purse c.new-purse.ensures.budget c.new-purse.ensures.count c.prepare.ensures.budget _
    c.in-Ok-Sound.ensures.prepared c.in-Ok-Sound.sound c.in-Ok-Sound.field-0-is

pub returns-in-Ok-Spent-clause-prepared : goal.returns-in-Ok-Spent-clause-prepared
returns-in-Ok-Spent-clause-prepared c =
    prepared_spent c.args.flat.now.typed.scope.program c.args.effort.now c.new-purse.result c.prepare.new.purse c.new-purse.ensures.budget c.new-purse.ensures.count c.prepare.ensures.budget _
    c.in-Ok-Spent.ensures.prepared c.in-Ok-Spent.drawn c.in-Ok-Spent.budget c.in-Ok-Spent.field-0-is

pub returns-in-Ok-Faulty-clause-refused : goal.returns-in-Ok-Faulty-clause-refused
returns-in-Ok-Faulty-clause-refused c =
    prepared_faulty c.args.flat.now.typed.scope.program c.args.effort.now c.new-purse.result c.prepare.new.purse c.new-purse.ensures.budget c.new-purse.ensures.count c.prepare.ensures.budget _
    c.in-Ok-Faulty.ensures.prepared c.in-Ok-Faulty.refusal c.in-Ok-Faulty.field-0-is
