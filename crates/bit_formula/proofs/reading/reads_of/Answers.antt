-- Where no input is read, none is listed.
use Rattle.std.proofs.Common.{◌≡◌, ◌∙◌, false}
use Rattle.std.specs.List.{list_any, range_with_len}
use Rattle.smv_slots.specs.Slots.{slots_of}
use Rattle.smv_formulas.specs.Says.{atom_parts}
use Rattle.bit_formula.specs.Coding.{input_count}
use Rattle.bit_formula.specs.Reading.{is_some_input, reads_slot}
use Rattle.bit_formula.proofs.Outcomes.{none_listed}
use Rattle.bit_formula.proofs.reading.reads_of.Goals as goal

pub returns-else-read : goal.returns-else-read
returns-else-read c =
    let typed = c.args.typed.now in
    let p = typed.scope.program in
    let parts = atom_parts typed.nodes c.args.atoms.now in
    let none : list_any (reads_slot is_some_input (slots_of p)) parts ≡ false = cc (c.slots-slots.ensures, c.as_slice-nodes.ensures, c.in_ok-read.ensures, c.if-read.false) in
    c.new.ensures.items ∙ none_listed (slots_of p) parts (range_with_len 0 (input_count p)) none
