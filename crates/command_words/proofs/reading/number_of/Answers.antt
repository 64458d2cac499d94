-- The text that `clap` gives is the first of its row, and is read as the number that the option has.
use Rattle.std.proofs.Common.{◌≡◌, ◌∙◌, arith, sym}
use Rattle.clap.specs.Words.{found_of}
use Rattle.clap.proofs.WalkLemmas.{first_value-rows}
use Rattle.command_words.proofs.Found.{number_read, text_given}
use Rattle.command_words.proofs.reading.number_of.Goals as goal

pub unreachable-requires : goal.unreachable-requires
unreachable-requires c =
    let given = text_given (found_of c.args.found.now) c.args.word.now c.args.least c.args.greatest c.requires.0 c.requires.1 _ (rw c.in_default.is at c.get_str.ensures) in
    let no_text = given.1 in
    cc

pub unreachable-requires-in_default-parse : goal.unreachable-requires-in_default-parse
unreachable-requires-in_default-parse c =
    let read = number_read (found_of c.args.found.now) c.args.word.now c.args.least c.args.greatest c.requires.0 c.requires.1 c.in-Some.text.now (rw c.in-Some.is at c.get_str.ensures) c.parse.result c.parse.ensures.value.0 in
    let within = c.requires.1.within in
    elim c.in_default-parse.branch [
      | goal.in_default-parse-via-in-Ok+else-least-number w ↦
          let both = sym w.in-Ok.is ∙ read in
          let same : w.in-Ok.number ≡ c.requires.0 = cc in
          omega (arith, w.if-least-number.false, same, c.requires.1.enough)
      | goal.in_default-parse-via-in-Ok+then-least-number+else-number-greatest w ↦
          let both = sym w.in-Ok.is ∙ read in
          let same : w.in-Ok.number ≡ c.requires.0 = cc in
          omega (arith, w.if-number-greatest.false, same, within)
      | goal.in_default-parse-via-in_default-parse w ↦ w.in_default-parse.not-Ok c.requires.0 read
    ]

pub returns : goal.returns
returns c = record {
  text = c.in-Some.text.now;
  given = sym (first_value-rows (found_of c.args.found.now) c.args.word.now) ∙ sym (rw c.in-Some.is at c.get_str.ensures);
  read = c.in-Ok.ensures.value.0;
  enough = c.if-least-number.true;
  within = c.if-number-greatest.true;
}
