-- What the reading of a phrase answers.
use Rattle.std.specs.Prelude.{◌≡◌, List, Result, Ok, Err}
use Rattle.phrase_forms.specs.declared.fault.Fault.{Fault}
use Rattle.smv_tree.specs.declared.token.Token.{Token}
use Rattle.smv_phrases.specs.declared.reading.Stop.{Stop}
use Rattle.smv_phrases.specs.declared.reading.Stop.TheVariants.{Refused, NoMemory}

-- a phrase is refused by this fault from these tokens on; or memory was refused, which may come at any time
abbrev pub Stops : {B : Type 0} → Stop → Result B (Fault × List Token) → Type 0
Stops NoMemory read = Unit {0}
Stops (Refused fault rest) read = read ≡ Err (fault, rest.now)

-- what the code returns, as its view, is what the form reads
abbrev pub Gives : {A B : Type 0} → (A → B) → Result A Stop → Result B (Fault × List Token) → Type 0
Gives view (Ok x) read = read ≡ Ok (view x)
Gives view (Err e) read = Stops e read
