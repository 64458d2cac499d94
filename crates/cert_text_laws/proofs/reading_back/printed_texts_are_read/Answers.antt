-- The laws.
use Rattle.cert_text_laws.proofs.Texts.{blocks_read, blocks_read_behind}
use Rattle.cert_text_laws.proofs.reading_back.printed_texts_are_read.Goals as goal

pub returns : goal.returns
returns c = record { alone = blocks_read; behind = blocks_read_behind }
