-- The text that `clap` reads for a flag is one of the two texts of a flag.
use Rattle.std.proofs.Common.{◌≡◌, ◌∙◌, Bool, true, false, Some, subst, sym}
use Rattle.clap.specs.Words.{found_of, one_text, rows_of}
use Rattle.clap.proofs.WalkLemmas.{one_text-rows}
use Rattle.command_words.specs.Grammar.{HasFlag, flag_text}
use Rattle.command_words.proofs.reading.flag_of.Goals as goal

pub returns : goal.returns
returns c =
    let found = found_of c.args.found.now in
    let word = c.args.word.now in
    let read : one_text found word ≡ Some (flag_text c.requires.0) = one_text-rows found word ∙ c.requires.1 in
    let same : (b : Bool) → one_text found word ≡ Some (flag_text b) → c.get_flag.result ≡ b = λ b. elim b as (λ x. one_text found word ≡ Some (flag_text x) → c.get_flag.result ≡ x) [ true ↦ c.get_flag.ensures.value | false ↦ c.get_flag.ensures.other ] in
    subst (λ (b : Bool). HasFlag (rows_of found) word b) (sym (same c.requires.0 read)) c.requires.1
