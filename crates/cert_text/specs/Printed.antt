-- The text of a certificate and of a sound block.
use Rattle.std.specs.Prelude.{ℕ, ◌+◌, Bool, true, false, List, [], ◌∷◌, ◌++◌, Option, None, Some, codes}
use Rattle.std.specs.Fmt.{decimal}
use Rattle.clause_core.specs.declared.literal.Lit.{Lit}
use Rattle.hinted_log.specs.Hints.{HintedLog}
use Rattle.cert_core.specs.declared.form.Form.{Form}
use Rattle.cert_core.specs.declared.form.Form.TheVariants.{Plain, Hinted}
use Rattle.cert_core.specs.Blocks.{Block}

abbrev pub line_end : List ℕ
line_end = 10 ∷ []

-- a literal is the number of its variable, counted from 1, with a minus sign if it is negated
abbrev pub sign_text : Bool → List ℕ
sign_text true = []
sign_text false = codes "-"

abbrev pub literal_text : Lit → List ℕ
literal_text l = sign_text l.positive ++ decimal (l.var + 1) ++ codes " "

-- literals, and the zero that ends them
abbrev pub literals_text : List Lit → List ℕ
literals_text [] = codes "0"
literals_text (l ∷ ls) = literal_text l ++ literals_text ls

abbrev pub hint_text : ℕ → List ℕ
hint_text h = decimal (h + 1) ++ codes " "

-- hints, counted from 1, and the zero that ends them
abbrev pub hints_text : List ℕ → List ℕ
hints_text [] = codes "0"
hints_text (h ∷ hs) = hint_text h ++ hints_text hs

abbrev pub hints_behind : Form → List ℕ → List ℕ
hints_behind Plain hints = []
hints_behind Hinted hints = codes " " ++ hints_text hints

abbrev pub clause_line_text : List Lit → List ℕ
clause_line_text c = codes "--% clause " ++ literals_text c ++ line_end

abbrev pub step_line_text : Form → List Lit → List ℕ → List ℕ
step_line_text form step hints = codes "--% step " ++ literals_text step ++ hints_behind form hints ++ line_end

abbrev pub clauses_text : List (List Lit) → List ℕ
clauses_text [] = []
clauses_text (c ∷ cs) = clause_line_text c ++ clauses_text cs

-- steps and their hints; there are as many of both
abbrev pub steps_text : Form → List (List Lit) → List (List ℕ) → List ℕ
steps_text form [] hints = []
steps_text form (s ∷ ss) [] = []
steps_text form (s ∷ ss) (h ∷ hs) = step_line_text form s h ++ steps_text form ss hs

-- the line of a part, and its steps; nothing where it is missing
abbrev pub part_text : Form → List ℕ → ℕ → Option HintedLog → List ℕ
part_text form name n None = []
part_text form name n (Some log) = (codes "--% part " ++ name ++ codes " " ++ decimal n ++ line_end) ++ steps_text form log.steps log.hints

-- parts of one name, numbered from n on
abbrev pub parts_text : Form → List ℕ → ℕ → List (Option HintedLog) → List ℕ
parts_text form name n [] = []
parts_text form name n (p ∷ ps) = part_text form name n p ++ parts_text form name (n + 1) ps

abbrev pub form_text : Form → List ℕ
form_text Plain = codes "1"
form_text Hinted = codes "2"

abbrev pub counter_text : Option ℕ → List ℕ
counter_text None = codes "none"
counter_text (Some k) = decimal k

-- the first line of the certificate of this specification, counted from 1
abbrev pub head_text : ℕ → Block → List ℕ
head_text spec b = codes "--% cert " ++ form_text b.form ++ codes " spec " ++ decimal spec ++ codes " counter " ++ counter_text b.counter ++ line_end

abbrev pub end_text : List ℕ
end_text = codes "--% end" ++ line_end

-- the certificate of this specification, counted from 1
abbrev pub certificate_text : ℕ → Block → List ℕ
certificate_text spec b =
    head_text spec b ++ clauses_text b.clauses ++ part_text b.form (codes "shared") 0 b.shared ++ parts_text b.form (codes "first") 1 b.first
    ++ parts_text b.form (codes "kept") 1 b.kept ++ part_text b.form (codes "safe") 0 b.safe ++ end_text

-- a sound block
abbrev pub sound_text : List (Option HintedLog) → List ℕ
sound_text items = codes "--% sound" ++ line_end ++ parts_text Plain (codes "item") 0 items ++ end_text
