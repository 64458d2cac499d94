-- The law.
use Rattle.cert_text_laws.proofs.Others.{others_passed}
use Rattle.cert_text_laws.proofs.reading_back.other_lines_are_passed_over.Goals as goal

pub returns : goal.returns
returns c = λ items n last r text behind other. others_passed items n last r text behind other
