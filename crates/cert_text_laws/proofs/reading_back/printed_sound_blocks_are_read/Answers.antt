-- The law.
use Rattle.cert_text_laws.proofs.Sounds.{sound_read}
use Rattle.cert_text_laws.proofs.reading_back.printed_sound_blocks_are_read.Goals as goal

pub returns : goal.returns
returns c = λ r sound readable none. sound_read r sound readable none
