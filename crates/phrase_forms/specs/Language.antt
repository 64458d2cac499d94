-- What is read where a phrase is to have all of the tokens.
use Rattle.std.specs.Prelude.{List, [], ◌∷◌, Result, Ok, Err}
use Rattle.phrase_forms.specs.declared.fault.Fault.{Fault}
use Rattle.phrase_forms.specs.declared.fault.Fault.TheVariants.{Unexpected}
use Rattle.phrase_forms.specs.Forms.{Form, Read}

-- a phrase to which all of the tokens belong
abbrev pub ended : {T A : Type 0} → Read T A → Result A (Fault × List T)
ended (Err e) = Err e
ended (Ok (value, [])) = Ok value
ended (Ok (value, token ∷ rest)) = Err (Unexpected, token ∷ rest)

-- what is read from all of the tokens: a value, or a fault and the tokens from the bad one on
abbrev pub read_all : {T A : Type 0} → Form T A → List T → Result A (Fault × List T)
read_all form tokens = ended (form.parse tokens)
