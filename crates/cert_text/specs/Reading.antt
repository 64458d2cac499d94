-- What was read of a text, what each line adds to it, and which line is the first that is not as it should be.
use Rattle.std.specs.Prelude.{◌≡◌, ⊤, ℕ, ◌+◌, ◌-◌, ◌==◌, Bool, true, false, ◌&&◌, if◌then◌else◌, List, [], ◌∷◌, length, nat_lt, nat_le, nat_eq, Option, None, Some, Result, Ok, Err, replicate, codes, slice_index_or, slice_set}
use Rattle.std.specs.Option.{is_none}
use Rattle.std.specs.List.{starts_with}
use Rattle.clause_core.specs.declared.literal.Lit.{Lit}
use Rattle.hinted_log.specs.Hints.{HintedLog}
use Rattle.cert_core.specs.declared.form.Form.TheVariants.{Plain}
use Rattle.cert_core.specs.Blocks.{Block, empty_block}
use Rattle.smv_tree.specs.declared.refusal.Refusal.{Refusal}
use Rattle.smv_tree.specs.declared.refusal.Rule.TheVariants.{BadCertificate}
use Rattle.smv_tree.specs.declared.refusal.TextStop.{TextStop}
use Rattle.smv_tree.specs.declared.refusal.TextStop.TheVariants.{Refused, NoMemory}
use Rattle.cert_text.specs.declared.token.Token.{Token}
use Rattle.cert_text.specs.declared.token.Token.TheVariants as word
use Rattle.cert_text.specs.declared.line.Head.{Head}
use Rattle.cert_text.specs.declared.reading.Open.{Open}
use Rattle.cert_text.specs.declared.reading.Open.TheVariants.{Nothing, Certificate, Sound}
use Rattle.cert_text.specs.Tokens.{tokens_of, words_of, pieces_of}
use Rattle.cert_text.specs.Lines.{alone, literals_of, step_of, part_of_words, item_of_words, head_of}
use Rattle.cert_text.specs.Open.{OpenBlock, OpenItems, no_steps, closed, closed_items, clause_line, part_line, step_line, item_line, item_step_line}

-- the sound block and the certificates that were read, one place for each specification, and the block that is open
pub record ReadSoFar : Type 0 where
  pub sound : Option (List (Option HintedLog))
  pub certificates : List (Option Block)
  pub block : Open

-- nothing was read, of a text for so many specifications
abbrev pub nothing_read : ℕ → ReadSoFar
nothing_read specs = record { sound = None; certificates = replicate specs None; block = Nothing }

-- no block is open
abbrev pub nothing : Open
nothing = Nothing

abbrev pub is_closed : Open → Bool
is_closed Nothing = true
is_closed (Certificate o) = false
is_closed (Sound o) = false

-- there is a specification with this number, counted from 1, and no certificate of it yet
abbrev pub is_free : List (Option Block) → ℕ → Bool
is_free certificates n = nat_lt 0 n && (nat_le n (length certificates) && is_none (slice_index_or certificates (n - 1) None))

-- the first line of a certificate
abbrev pub certificate_begun : ReadSoFar → Option Head → Option ReadSoFar
certificate_begun r None = None
certificate_begun r (Some h) =
    if is_closed r.block && is_free r.certificates h.spec
    then Some (record r { block = Certificate record { spec = h.spec - 1; block = empty_block h.form h.counter; part = None; steps = no_steps } })
    else None

-- the first line of a sound block for so many items
abbrev pub sound_begun : ℕ → ReadSoFar → List Token → Option ReadSoFar
sound_begun items r rest =
    if length rest == 0 && (is_closed r.block && is_none r.sound)
    then Some (record r { block = Sound record { items = replicate items None; item = None; steps = no_steps } })
    else None

abbrev pub certificate_open : Option OpenBlock → Option Open
certificate_open None = None
certificate_open (Some o) = Some (Certificate o)

abbrev pub sound_open : Option OpenItems → Option Open
sound_open None = None
sound_open (Some o) = Some (Sound o)

-- a clause, a part or a step in the block that is open
abbrev pub clause_added : Open → Option (List Lit) → Option Open
clause_added Nothing c = None
clause_added (Certificate o) c = certificate_open (clause_line o c)
clause_added (Sound o) c = None

abbrev pub part_added : Open → List Token → Option Open
part_added Nothing rest = None
part_added (Certificate o) rest = certificate_open (part_line o (part_of_words rest))
part_added (Sound o) rest = sound_open (item_line o (item_of_words rest))

abbrev pub step_added : Open → List Token → Option Open
step_added Nothing rest = None
step_added (Certificate o) rest = certificate_open (step_line o (step_of o.block.form rest))
step_added (Sound o) rest = sound_open (item_step_line o (step_of Plain rest))

abbrev pub with_block : ReadSoFar → Option Open → Option ReadSoFar
with_block r None = None
with_block r (Some o) = Some (record r { block = o })

-- the last line of a block
abbrev pub block_closed : ReadSoFar → Open → Option ReadSoFar
block_closed r Nothing = None
block_closed r (Certificate o) = Some record { sound = r.sound; certificates = slice_set r.certificates o.spec (Some (closed o)); block = Nothing }
block_closed r (Sound o) = Some record { sound = Some (closed_items o); certificates = r.certificates; block = Nothing }

-- a line by the word behind the mark
abbrev pub line_added : ℕ → ReadSoFar → Token → List Token → Option ReadSoFar
line_added items r word.Cert rest = certificate_begun r (head_of rest)
line_added items r word.Sound rest = sound_begun items r rest
line_added items r word.Clause rest = with_block r (clause_added r.block (alone (literals_of rest)))
line_added items r word.Part rest = with_block r (part_added r.block rest)
line_added items r word.Step rest = with_block r (step_added r.block rest)
line_added items r word.End rest = if length rest == 0 then block_closed r r.block else None
line_added items r other rest = None

abbrev pub is_mark : Token → Bool
is_mark word.Mark = true
is_mark other = false

-- a line as its words: what is read with it, or none if it is not as it should be
abbrev pub added : ℕ → ReadSoFar → List Token → Option ReadSoFar
added items r [] = None
added items r (begin ∷ []) = None
added items r (begin ∷ kind ∷ rest) = if is_mark begin then line_added items r kind rest else None

abbrev pub added_tokens : ℕ → ReadSoFar → Option (List Token) → Option ReadSoFar
added_tokens items r None = None
added_tokens items r (Some tokens) = added items r tokens

abbrev pub added_line : ℕ → ReadSoFar → List ℕ → Option ReadSoFar
added_line items r line = added_tokens items r (tokens_of (words_of line))

-- lines that begin so are of certificates, wherever they stand; all others are not looked at
abbrev pub is_certificate_line : List ℕ → Bool
is_certificate_line line = starts_with nat_eq line (codes "--%")

-- the reading goes on, or this line is refused
abbrev pub and_on : Option ReadSoFar → ℕ → (ReadSoFar → Result ReadSoFar ℕ) → Result ReadSoFar ℕ
and_on None n more = Err n
and_on (Some r) n more = more r

-- what is read of these lines, the first of which has number n; or the number of the first line that is not as it
-- should be. A block that is open at the end is refused at `last`, its last line.
abbrev pub read_from : ℕ → ℕ → ℕ → ReadSoFar → List (List ℕ) → Result ReadSoFar ℕ
read_from items n last r [] = if is_closed r.block then Ok r else Err last
read_from items n last r (line ∷ lines) =
    if is_certificate_line line
    then and_on (added_line items r line) n (λ s. read_from items (n + 1) n s lines)
    else read_from items (n + 1) last r lines

-- the lines of a text, which end at line feeds
abbrev pub lines_of : List ℕ → List (List ℕ)
lines_of text = pieces_of 10 text

-- what is read of a text for so many specifications and items; or the number of its first line that is refused
abbrev pub read_text : ℕ → ℕ → List ℕ → Result ReadSoFar ℕ
read_text specs items text = read_from (items + specs) 1 1 (nothing_read specs) (lines_of text)

-- the text is refused at the line with this number, at its first byte
abbrev pub refusal_at : ℕ → Refusal
refusal_at n = record { rule = BadCertificate; place = record { line = n; column = 1 }; detail = None }

-- the text is refused at this line, which is the first that is not as it should be; or memory was refused
abbrev pub IsStopped : Result ReadSoFar ℕ → TextStop → Type 0
IsStopped what (Refused refusal) = (n : ℕ) × (what ≡ Err n) × (refusal ≡ refusal_at n)
IsStopped what NoMemory = ⊤
