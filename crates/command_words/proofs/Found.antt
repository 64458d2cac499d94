-- What a command line says is found: its command, and the number of each option.
use Rattle.std.proofs.Common.{◌≡◌, ℕ, List, [], Option, Some, true, Result, Ok, Err, refl, sym, subst, ap, ◌∙◌}
use Rattle.std.specs.Str.Parse.{ParsesUnsigned}
use Rattle.clap.specs.declared.parser.matches.ArgMatches.{ArgMatches}
use Rattle.clap.specs.declared.parser.matches.Found.{Found}
use Rattle.clap.specs.Words.{App, HasMatchesOf, Row, Text, first_value, fault_of, is_simple_and_free, rows_of, subcommand_rows_of}
use Rattle.clap.proofs.WalkLemmas.{first_value-rows}
use Rattle.command_words.specs.declared.command.Command.{Command}
use Rattle.command_words.specs.Grammar.{HasNumber, IsCommandLine, Tells, program}
use Rattle.command_words.proofs.Said.{is_said}

module _ (found : Found) (word : Text) (least most : ℕ) where
  -- an option that has a number has a text
  pub text_given : (n : ℕ) → HasNumber (rows_of found) word least most n → (text : Option Text) → text ≡ first_value found word → (t : Text) × (text ≡ Some t)
  text_given n h text e = (h.text, e ∙ first_value-rows found word ∙ h.given)

  -- that text is read as this number
  pub number_read : {E : Type 0} (n : ℕ) → HasNumber (rows_of found) word least most n → (text : Text) → Some text ≡ first_value found word → (r : Result ℕ E) → ParsesUnsigned 64 10 text r → r ≡ Ok n
  number_read n h text e (Ok m) read =
      let both : Some text ≡ Some h.text = e ∙ first_value-rows found word ∙ h.given in
      let same : text ≡ h.text = cc in
      let again : (let number : Result ℕ ℕ = Ok n in ParsesUnsigned 64 10 text number) = subst (λ (t : Text). (let number : Result ℕ ℕ = Ok n in ParsesUnsigned 64 10 t number)) (sym same) h.read in
      ap Ok (read.1 ∙ sym again.1)
  number_read n h text e (Err x) read =
      let both : Some text ≡ Some h.text = e ∙ first_value-rows found word ∙ h.given in
      let same : text ≡ h.text = cc in
      let again : (let number : Result ℕ ℕ = Ok n in ParsesUnsigned 64 10 text number) = subst (λ (t : Text). (let number : Result ℕ ℕ = Ok n in ParsesUnsigned 64 10 t number)) (sym same) h.read in
      absurd (read again.0)

-- where the words are read, what is found says a command
pub found_told : (app : App) → app ≡ program → (words : List Text) (m : ArgMatches) → HasMatchesOf app words m → (is_simple_and_free app ≡ true → fault_of app words ≡ []) → (command : Command) × Tells (subcommand_rows_of m) command
found_told app e words m matches free =
    let of_program : HasMatchesOf program words m = subst (λ (a : App). HasMatchesOf a words m) e matches in
    let inside : is_simple_and_free program ≡ true → IsCommandLine words = subst (λ (a : App). is_simple_and_free a ≡ true → fault_of a words ≡ []) e free in
    let said = is_said words (inside refl) in
    (said.0, subst (λ (found : Option (Text × List Row)). Tells found said.0) (sym (of_program refl).1) said.1.1)
