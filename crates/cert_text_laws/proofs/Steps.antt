-- What the printed lines of steps and parts say.
use Rattle.std.proofs.Common.{◌≡◌, ℕ, ◌≤◌, List, [], ◌∷◌, ◌++◌, Some, codes, refl, sym, subst, ap, ◌∙◌, append_assoc, append-nil}
use Rattle.std.specs.Fmt.{decimal}
use Rattle.std.specs.List.{All}
use Rattle.clause_core.specs.declared.literal.Lit.{Lit}
use Rattle.clause_core.specs.Literals.{Within}
use Rattle.cert_core.specs.declared.form.Form.{Form}
use Rattle.cert_core.specs.declared.form.Form.TheVariants.{Plain, Hinted}
use Rattle.cert_core.specs.declared.form.TheConstants.{MAX_VARS}
use Rattle.cert_text.specs.declared.token.Token.{Token}
use Rattle.cert_text.specs.declared.token.Token.TheVariants.{Mark, Clause, Part, Step as StepWord, Number}
use Rattle.cert_text.specs.Tokens.{greatest}
use Rattle.cert_text.specs.Lines.{alone, hinted, literals_of, step_from, step_of}
use Rattle.cert_text.specs.Printed.{hints_behind, hints_text, literals_text}
use Rattle.cert_text_laws.proofs.Lines.{IsWord, Says, hints_read, hints_said, last_word, literals_read, literals_said, literals_said_before, next_word, number_word, tokens_of_hints, tokens_of_literals}

pub mark_word : IsWord (codes "--%") Mark
mark_word = record { token = refl; no_space = refl; no_feed = refl }

-- the mark, a keyword and more words
pub line_said : (w rest : List ℕ) (t : Token) (ts : List Token) → IsWord w t → Says rest ts → Says (codes "--% " ++ (w ++ 32 ∷ rest)) (Mark ∷ t ∷ ts)
line_said w rest t ts h s = next_word (codes "--%") (w ++ 32 ∷ rest) Mark (t ∷ ts) mark_word (next_word w rest t ts h s)

-- Clauses.

pub clause_said : (c : List Lit) → Within MAX_VARS c → Says (codes "--% clause " ++ literals_text c) (Mark ∷ Clause ∷ tokens_of_literals c)
clause_said c h = line_said (codes "clause") (literals_text c) Clause (tokens_of_literals c) (record { token = refl; no_space = refl; no_feed = refl }) (literals_said c h)

only_literals : (c : List Lit) → Within MAX_VARS c → literals_of (tokens_of_literals c) ≡ Some record { lits = c; rest = [] }
only_literals c h = ap literals_of (sym (append-nil (tokens_of_literals c))) ∙ literals_read c [] h

pub clause_read : (c : List Lit) → Within MAX_VARS c → alone (literals_of (tokens_of_literals c)) ≡ Some c
clause_read c h = ap alone (only_literals c h)

-- Steps.

abbrev pub tokens_of_step : Form → List Lit → List ℕ → List Token
tokens_of_step Plain s hs = tokens_of_literals s
tokens_of_step Hinted s hs = tokens_of_literals s ++ tokens_of_hints hs

step_word : IsWord (codes "step") StepWord
step_word = record { token = refl; no_space = refl; no_feed = refl }

pub step_said : (form : Form) (s : List Lit) (hs : List ℕ) → Within MAX_VARS s → All (λ h. h ≤ greatest) hs
    → Says (codes "--% step " ++ literals_text s ++ hints_behind form hs) (Mark ∷ StepWord ∷ tokens_of_step form s hs)
step_said Plain s hs h small =
    subst (λ (l : List ℕ). Says l (Mark ∷ StepWord ∷ tokens_of_literals s)) (sym (append-nil (codes "--% step " ++ literals_text s)))
    (line_said (codes "step") (literals_text s) StepWord (tokens_of_literals s) step_word (literals_said s h))
step_said Hinted s hs h small =
    line_said (codes "step") (literals_text s ++ (codes " " ++ hints_text hs)) StepWord (tokens_of_literals s ++ tokens_of_hints hs) step_word
    (literals_said_before s (hints_text hs) (tokens_of_hints hs) h (hints_said hs small))

-- in the plain form there are none
abbrev pub NoneIfPlain : Form → List ℕ → Type 0
NoneIfPlain form hs = form ≡ Plain → hs ≡ []

pub step_read : (form : Form) (s : List Lit) (hs : List ℕ) → Within MAX_VARS s → NoneIfPlain form hs → All (λ h. h ≤ greatest) hs → step_of form (tokens_of_step form s hs) ≡ Some record { lits = s; hints = hs }
step_read Plain s hs h none small =
    ap (step_from Plain) (only_literals s h) ∙ ap (λ (l : List ℕ). Some record { lits = s; hints = l }) (sym (none refl))
step_read Hinted s hs h none small =
    ap (step_from Hinted) (literals_read s (tokens_of_hints hs) h) ∙ ap (hinted s) (hints_read hs small)

-- Parts.

pub part_said : (name : List ℕ) (t : Token) (n : ℕ) → IsWord name t → n ≤ greatest → Says (codes "--% part " ++ name ++ codes " " ++ decimal n) (Mark ∷ Part ∷ t ∷ Number n ∷ [])
part_said name t n h few =
    let part : IsWord (codes "part") Part = record { token = refl; no_space = refl; no_feed = refl } in
    subst (λ (l : List ℕ). Says l (Mark ∷ Part ∷ t ∷ Number n ∷ [])) (sym (append_assoc (codes "--% part " ++ name) (codes " ") (decimal n) ∙ append_assoc (codes "--% part ") name (codes " " ++ decimal n)))
    (line_said (codes "part") (name ++ 32 ∷ decimal n) Part (t ∷ Number n ∷ []) part (next_word name (decimal n) t (Number n ∷ []) h (last_word (decimal n) (Number n) (number_word n few))))
