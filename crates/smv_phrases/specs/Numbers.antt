-- What integers and word constants are worth.
use Rattle.std.specs.Prelude.{ℕ, false, Option, unwrap_or, pos}
use Rattle.plain_text.specs.Decimals.{number_up_to}
use Rattle.smv_tree.specs.declared.token.Token.{Token}
use Rattle.smv_value.specs.declared.value.Value.{Value}
use Rattle.smv_value.specs.declared.value.Value.TheVariants as value
use Rattle.smv_text.specs.Written.{word_written}

-- the greatest number that an integer token writes
abbrev pub greatest_number : ℕ
greatest_number = 2147483647

-- the number that an integer token writes; where its text writes none up to the greatest, the greatest
abbrev pub number_of : Token → ℕ
number_of t = unwrap_or (number_up_to greatest_number t.text) greatest_number

abbrev pub integer_value : Token → Value
integer_value t = value.Int (pos (number_of t))

-- the word that a word constant writes; where its text writes none, the bit 0
abbrev pub word_value : Token → Value
word_value t = unwrap_or (word_written t.text) (value.Word false 1 0)
