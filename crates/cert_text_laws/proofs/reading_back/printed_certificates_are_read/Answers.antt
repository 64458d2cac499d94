-- The law.
use Rattle.cert_text_laws.proofs.Whole.{certificate_read}
use Rattle.cert_text_laws.proofs.reading_back.printed_certificates_are_read.Goals as goal

pub returns : goal.returns
returns c = λ items s r b readable free. certificate_read items s r b readable free
