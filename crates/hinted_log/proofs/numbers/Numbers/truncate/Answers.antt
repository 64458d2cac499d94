use Rattle.std.proofs.Common.{sym}
use Rattle.std.proofs.lemmas.List.{take-map}
use Rattle.hinted_log.specs.Places.{list_at}
use Rattle.hinted_log.proofs.numbers.Numbers.truncate.Goals as goal

pub returns : goal.returns
returns c =
    rw (← c.self.view_is, c.truncate.ensures.items)
    (sym (take-map (list_at c.self.inside.numbers.items) c.args.k c.self.inside.places.items))
