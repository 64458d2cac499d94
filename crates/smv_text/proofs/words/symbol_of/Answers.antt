use Rattle.std.proofs.Common.{refl, ◌∙◌}
use Rattle.smv_text.specs.Words.{symbol_of, symbols}
use Rattle.smv_text.proofs.ByFirst.{among}
use Rattle.smv_text.proofs.words.symbol_of.Goals as goal

pub returns : goal.returns
unfolding symbol_of
returns c = c.kind_among.ensures ∙ among 33 93 symbols _ refl refl c.args.text.now
