-- The place that was found.
use Rattle.std.proofs.Common.{sym, ◌∙◌}
use Rattle.bit_choices.proofs.OfSymbols.{found_at, no_place}
use Rattle.bit_choices.proofs.symbols.place_of.Goals as goal

pub returns-in-Some : goal.returns-in-Some
returns-in-Some c = found_at c.args.symbols.now c.args.symbol c.in-Some.k (sym c.place.ensures ∙ c.in-Some.is)

pub returns-in-None : goal.returns-in-None
returns-in-None c = absurd (no_place c.args.symbols.now c.args.symbol (sym c.place.ensures ∙ c.in-None.is) c.requires)
