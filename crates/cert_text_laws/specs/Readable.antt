-- What can be read back, and what it means that a text leads from one reading to another.
use Rattle.std.specs.Prelude.{◌≡◌, ℕ, ◌+◌, ◌-◌, ◌<◌, ◌≤◌, false, List, [], ◌∷◌, ◌++◌, length, All, Option, None, Some, slice_index_or, slice_set}
use Rattle.std.specs.Option.{ForSome}
use Rattle.hinted_log.specs.Hints.{HintedLog}
use Rattle.cert_core.specs.declared.form.Form.TheVariants.{Plain}
use Rattle.cert_core.specs.Blocks.{Block, IsBlock, PartFits}
use Rattle.cert_text.specs.Printed.{certificate_text, sound_text}
use Rattle.cert_text.specs.Reading.{ReadSoFar, is_certificate_line, lines_of, nothing, read_from}
use Rattle.cert_text.specs.Tokens.{greatest}

-- as many hints as steps, as the type of derivations keeps it, and each is a number of 64 bits
pub record AreReadableHints (log : HintedLog) : Type 0 where
  pub count : length log.hints ≡ length log.steps
  pub small : All (λ hs. All (λ h. h ≤ greatest) hs) log.hints

abbrev pub IsReadablePart : Option HintedLog → Type 0
IsReadablePart part = ForSome part AreReadableHints

-- a block as the type of certificates keeps it, with no number that is past those of a text
pub record IsReadable (b : Block) : Type 0 where
  pub block : IsBlock b
  pub few : length b.clauses ≤ greatest
  pub shared : IsReadablePart b.shared
  pub first : All IsReadablePart b.first
  pub kept : All IsReadablePart b.kept
  pub safe : IsReadablePart b.safe

-- the same of a sound block
pub record AreReadable (items : List (Option HintedLog)) : Type 0 where
  pub fits : All (PartFits Plain) items
  pub few : length items ≤ greatest
  pub parts : All IsReadablePart items

-- no block is open; there is a specification with this number, counted from 0, that a text can say, and no certificate
-- of it yet
pub record IsFree (r : ReadSoFar) (s : ℕ) : Type 0 where
  pub closed : r.block ≡ nothing
  pub within : s < length r.certificates
  pub few : s < greatest
  pub none : slice_index_or r.certificates s None ≡ None

abbrev pub with_certificate : ReadSoFar → ℕ → Block → ReadSoFar
with_certificate r s b = record r { certificates = slice_set r.certificates s (Some b) }

-- no block is open, and no sound block was read
pub record HasNoSound (r : ReadSoFar) : Type 0 where
  pub closed : r.block ≡ nothing
  pub none : r.sound ≡ None

abbrev pub with_sound : ReadSoFar → List (Option HintedLog) → ReadSoFar
with_sound r items = record r { sound = Some items }

-- how many lines of the text end at a line feed
abbrev pub ended_lines : List ℕ → ℕ
ended_lines text = length (lines_of text) - 1

-- wherever the text stands, and whatever stands behind it: read from r, its lines lead to s
abbrev pub LeadsTo : ℕ → List ℕ → ReadSoFar → ReadSoFar → Type 0
LeadsTo items text r s = (n last : ℕ) (behind : List ℕ) →
    read_from items n last r (lines_of (text ++ behind)) ≡ read_from items (n + ended_lines text) (n + ended_lines text - 1) s (lines_of behind)

-- the text of a sound block, if there is one
abbrev pub sound_texts : Option (List (Option HintedLog)) → List ℕ
sound_texts None = []
sound_texts (Some items) = sound_text items

-- the texts of the certificates that are there, the first of which is that of specification number n
abbrev pub certificate_texts : ℕ → List (Option Block) → List ℕ
certificate_texts n [] = []
certificate_texts n (None ∷ bs) = certificate_texts (n + 1) bs
certificate_texts n (Some b ∷ bs) = certificate_text n b ++ certificate_texts (n + 1) bs

-- a sound block, if there is one, and the certificates of some specifications, as a text for so many items has them
pub record AreBlocks (items : ℕ) (sound : Option (List (Option HintedLog))) (certificates : List (Option Block)) : Type 0 where
  pub count : ForSome sound (λ parts. length parts ≡ items + length certificates)
  pub parts : ForSome sound AreReadable
  pub blocks : All (λ b. ForSome b IsReadable) certificates
  pub few : length certificates ≤ greatest

abbrev pub blocks_text : Option (List (Option HintedLog)) → List (Option Block) → List ℕ
blocks_text sound certificates = sound_texts sound ++ certificate_texts 1 certificates

-- these were read, and no block is open
abbrev pub only : Option (List (Option HintedLog)) → List (Option Block) → ReadSoFar
only sound certificates = record { sound = sound; certificates = certificates; block = nothing }

-- no line of the text is a certificate's
abbrev pub HasOtherLines : List ℕ → Type 0
HasOtherLines text = All (λ line. is_certificate_line line ≡ false) (lines_of text)
