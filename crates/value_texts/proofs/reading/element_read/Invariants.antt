-- No element so far is told so.
use Rattle.std.proofs.Common.{◌≡◌, false, take}
use Rattle.std.specs.List.{list_any}
use Rattle.value_texts.specs.Read.{is_element_told}
use Rattle.value_texts.proofs.reading.element_read.Given as goal

abbrev pub invariant-loop-e : goal.invariant-loop-e
invariant-loop-e l = list_any (is_element_told l.symbols.names.now l.text) (take l.e-index l.elements) ≡ false
