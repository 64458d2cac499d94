use Rattle.std.proofs.Common.{ap, refl, ◌∙◌}
use Rattle.smv_text.specs.Words.{or_identifier, kind_of_word, words_with_meaning}
use Rattle.smv_text.proofs.ByFirst.{among}
use Rattle.smv_text.proofs.words.kind_of_word.Goals as goal

pub returns-in-Some : goal.returns-in-Some
unfolding kind_of_word
returns-in-Some c = ap or_identifier (c.in-Some.ensures ∙ among 65 56 words_with_meaning _ refl refl c.args.word.now)

pub returns-in-None : goal.returns-in-None
unfolding kind_of_word
returns-in-None c = ap or_identifier (c.in-None.ensures ∙ among 65 56 words_with_meaning _ refl refl c.args.word.now)
