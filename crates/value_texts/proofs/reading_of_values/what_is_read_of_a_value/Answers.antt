use Rattle.value_texts.proofs.Codes.{reading}
use Rattle.value_texts.proofs.reading_of_values.what_is_read_of_a_value.Goals as goal

pub returns : goal.returns
returns c = λ names t typed. reading names t typed
