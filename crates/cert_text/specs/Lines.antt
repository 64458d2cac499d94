-- What the words of a line say: literals, hints, parts, the first line of a certificate.
use Rattle.std.specs.Prelude.{ℕ, ◌-◌, ◌==◌, Bool, true, false, ◌&&◌, if◌then◌else◌, List, [], ◌∷◌, length, nat_le, Option, None, Some}
use Rattle.clause_core.specs.declared.literal.Lit.{Lit}
use Rattle.cert_core.specs.declared.form.Form.{Form}
use Rattle.cert_core.specs.declared.form.Form.TheVariants.{Plain, Hinted}
use Rattle.cert_core.specs.declared.form.Part.TheVariants as part
use Rattle.cert_core.specs.declared.form.Part.{Part}
use Rattle.cert_core.specs.declared.form.TheConstants.{MAX_VARS, MAX_COUNTER}
use Rattle.cert_text.specs.declared.token.Token.{Token}
use Rattle.cert_text.specs.declared.token.Token.TheVariants.{Spec, Counter, NoCounter, Item, Shared, First, Kept, Safe, Number, Past, Negative}
use Rattle.cert_text.specs.declared.line.Head.{Head}
use Rattle.cert_text.specs.Tokens.{and_then, greatest}

-- the number that the word is
abbrev pub number_in : Token → Option ℕ
number_in (Number n) = Some n
number_in other = None

-- whether the word ends a list
abbrev pub is_zero : Token → Bool
is_zero (Number n) = n == 0
is_zero other = false

-- the literal of the variable with this number, which counts from 1
abbrev pub literal : ℕ → Bool → Option Lit
literal n positive = if nat_le n MAX_VARS then Some record { var = n - 1; positive = positive } else None

abbrev pub literal_of : Token → Option Lit
literal_of (Number n) = literal n true
literal_of (Negative n) = literal n false
literal_of other = None

-- literals, and the words behind the zero that ends them
pub record Literals : Type 0 where
  pub lits : List Lit
  pub rest : List Token

abbrev pub literal_before : Option Lit → Option Literals → Option Literals
literal_before None more = None
literal_before (Some l) None = None
literal_before (Some l) (Some more) = Some record { lits = l ∷ more.lits; rest = more.rest }

abbrev pub literals_of : List Token → Option Literals
literals_of [] = None
literals_of (t ∷ ts) = if is_zero t then Some record { lits = []; rest = ts } else literal_before (literal_of t) (literals_of ts)

-- nothing stands behind these literals
abbrev pub alone : Option Literals → Option (List Lit)
alone None = None
alone (Some l) = if length l.rest == 0 then Some l.lits else None

-- the hint with this number, which counts from 1; one past 64 bits counts as the greatest
abbrev pub hint_of : Token → Option ℕ
hint_of (Number n) = Some (n - 1)
hint_of Past = Some greatest
hint_of other = None

-- hints, and a zero with nothing behind it
abbrev pub hints_of : List Token → Option (List ℕ)
hints_of [] = None
hints_of (t ∷ ts) = if is_zero t then (if length ts == 0 then Some [] else None) else and_then (hint_of t) (hints_of ts)

-- a step and its hints
pub record Step : Type 0 where
  pub lits : List Lit
  pub hints : List ℕ

abbrev pub hinted : List Lit → Option (List ℕ) → Option Step
hinted lits None = None
hinted lits (Some hints) = Some record { lits = lits; hints = hints }

abbrev pub step_from : Form → Option Literals → Option Step
step_from form None = None
step_from Plain (Some l) = if length l.rest == 0 then Some record { lits = l.lits; hints = [] } else None
step_from Hinted (Some l) = hinted l.lits (hints_of l.rest)

-- the step that these words are, in a certificate of this form
abbrev pub step_of : Form → List Token → Option Step
step_of form ts = step_from form (literals_of ts)

-- the part of this name and number
abbrev pub part_named : Token → ℕ → Option Part
part_named Shared n = if n == 0 then Some part.Shared else None
part_named First n = if n == 0 then None else Some (part.First (n - 1))
part_named Kept n = if n == 0 then None else Some (part.Kept (n - 1))
part_named Safe n = if n == 0 then Some part.Safe else None
part_named other n = None

abbrev pub part_at : Token → Option ℕ → Option Part
part_at name None = None
part_at name (Some n) = part_named name n

-- a name and a number
abbrev pub part_of_words : List Token → Option Part
part_of_words (name ∷ n ∷ []) = part_at name (number_in n)
part_of_words other = None

abbrev pub item_named : Token → Option ℕ → Option ℕ
item_named Item n = n
item_named other n = None

abbrev pub item_of_words : List Token → Option ℕ
item_of_words (name ∷ n ∷ []) = item_named name (number_in n)
item_of_words other = None

-- the form with this number
abbrev pub form_of : Option ℕ → Option Form
form_of None = None
form_of (Some n) = if n == 1 then Some Plain else if n == 2 then Some Hinted else None

-- `none`, or a number that is not too large
abbrev pub counter_of : Token → Option (Option ℕ)
counter_of NoCounter = Some None
counter_of (Number n) = if nat_le n MAX_COUNTER then Some (Some n) else None
counter_of other = None

abbrev pub head_from : Option Form → Option ℕ → Option (Option ℕ) → Option Head
head_from None spec counter = None
head_from (Some form) None counter = None
head_from (Some form) (Some spec) None = None
head_from (Some form) (Some spec) (Some counter) = Some record { form = form; spec = spec; counter = counter }

abbrev pub is_spec : Token → Bool
is_spec Spec = true
is_spec other = false

abbrev pub is_counter : Token → Bool
is_counter Counter = true
is_counter other = false

-- the words behind `cert`: the form, `spec`, the specification's number, `counter`, and the counter
abbrev pub head_of : List Token → Option Head
head_of (form ∷ spec ∷ i ∷ counter ∷ k ∷ []) =
    if is_spec spec && is_counter counter then head_from (form_of (number_in form)) (number_in i) (counter_of k) else None
head_of other = None
