-- What may stand in a trace as a name and as a value: finite automata over bytes. An own choice of this project, after
-- the language's identifiers, integers and word constants (NuSMV 2.6 User Manual, 2.1, Lexical Structure).
use Rattle.std.specs.Prelude.{ℕ, ◌==◌, nat_le, Bool, true, false, ◌&&◌, ◌||◌, if◌then◌else◌, List, fold}
use Rattle.std.specs.Char.{is_ascii_alphabetic, is_ascii_alphanumeric, is_ascii_digit}
use Rattle.trace_replay.specs.declared.forms.NameState.{NameState}
use Rattle.trace_replay.specs.declared.forms.NameState.TheVariants as name
use Rattle.trace_replay.specs.declared.forms.ValueState.{ValueState}
use Rattle.trace_replay.specs.declared.forms.ValueState.TheVariants as value

-- an identifier begins with a letter or "_", and goes on with letters, digits, "_", "$", "#" and "-"
abbrev pub begins_identifier : ℕ → Bool
begins_identifier b = is_ascii_alphabetic b || b == 95

abbrev pub in_identifier : ℕ → Bool
in_identifier b = is_ascii_alphanumeric b || b == 95 || b == 36 || b == 35 || b == 45

-- a digit but 0
abbrev pub begins_number : ℕ → Bool
begins_number b = nat_le 49 b && nat_le b 57

-- A name: identifiers with dots between, each perhaps with subscripts, integers in brackets.

-- behind an identifier or a subscript
abbrev pub behind_part : ℕ → NameState
behind_part b = if b == 46 then name.Start else if b == 91 then name.Open else name.Wrong

abbrev pub name_after : NameState → ℕ → NameState
name_after name.Start b = if begins_identifier b then name.Identifier else name.Wrong
name_after name.Identifier b = if in_identifier b then name.Identifier else behind_part b
name_after name.Open b = if b == 48 then name.Zero else if b == 45 then name.Minus else if begins_number b then name.Digits else name.Wrong
name_after name.Minus b = if begins_number b then name.Digits else name.Wrong
name_after name.Digits b = if is_ascii_digit b then name.Digits else if b == 93 then name.Closed else name.Wrong
name_after name.Zero b = if b == 93 then name.Closed else name.Wrong
name_after name.Closed b = behind_part b
name_after name.Wrong b = name.Wrong

abbrev pub ends_name : NameState → Bool
ends_name name.Identifier = true
ends_name name.Closed = true
ends_name other = false

abbrev pub is_name : List ℕ → Bool
is_name text = ends_name (fold name_after name.Start text)

-- A value: an identifier, as TRUE, FALSE and the symbols are; an integer without leading zeros; or a word constant as
-- 0ud8_255 and 0sd8_255.

-- a number without leading zeros
abbrev pub number_from : ValueState → ValueState → ℕ → ValueState
number_from zero digits b = if b == 48 then zero else if begins_number b then digits else value.Wrong

abbrev pub value_after : ValueState → ℕ → ValueState
value_after value.Start b = if begins_identifier b then value.Identifier else if b == 45 then value.Minus else number_from value.Zero value.Digits b
value_after value.Identifier b = if in_identifier b then value.Identifier else value.Wrong
value_after value.Minus b = if begins_number b then value.Digits else value.Wrong
value_after value.Digits b = if is_ascii_digit b then value.Digits else value.Wrong
value_after value.Zero b = if b == 117 || b == 115 then value.Sign else value.Wrong
value_after value.Sign b = if b == 100 then value.Base else value.Wrong
value_after value.Base b = if begins_number b then value.Width else value.Wrong
value_after value.Width b = if is_ascii_digit b then value.Width else if b == 95 then value.Bar else value.Wrong
value_after value.Bar b = number_from value.NoBits value.Digits b
value_after value.NoBits b = value.Wrong
value_after value.Wrong b = value.Wrong

abbrev pub ends_value : ValueState → Bool
ends_value value.Identifier = true
ends_value value.Digits = true
ends_value value.Zero = true
ends_value value.NoBits = true
ends_value other = false

abbrev pub is_value : List ℕ → Bool
is_value text = ends_value (fold value_after value.Start text)
