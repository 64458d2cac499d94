use Rattle.std.proofs.Common.{◌≡◌, ◌+◌, List, ℕ, map, ap, ◌∙◌, rules, Bor}
use Rattle.cert_text.specs.Reading.{lines_of}
use Rattle.cert_text.proofs.Readings.{text_read}
use Rattle.cert_text.proofs.whole.read.Goals as goal

pub returns-clause-whole : goal.returns-clause-whole
returns-clause-whole c =
    let all : c.in-Some.all_items ≡ c.args.items + c.args.specs = search rules in
    let lines : map (λ (x : Bor (List ℕ)). x.now) c.deref.result.now ≡ lines_of c.args.text.now = ap (map (λ (x : Bor (List ℕ)). x.now)) c.deref.ensures.value ∙ c.in_ok-lines.ensures in
    let says = rw c.in-Ok-None.field-0-is at c.in-Ok-None.ensures in
    text_read c.args.specs c.args.items c.in-Some.all_items c.args.text.now (map (λ (x : Bor (List ℕ)). x.now) c.deref.result.now) c.in_ok-reading.reading c.add_lines.new.reading
    c.finished.result.sound c.finished.result.certificates.items all lines c.in_ok-reading.ensures says.says says.closed c.finished.ensures.0 c.finished.ensures.1
