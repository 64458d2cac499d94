-- The words of a line: keywords and numbers.
use Rattle.std.specs.Prelude.{ℕ, ◌+◌, ◌-◌, ◌*◌, ◌==◌, Bool, not, ◌&&◌, ◌||◌, if◌then◌else◌, List, [], ◌∷◌, length, nat_le, nat_lt, min, Option, None, Some, codes, bytes_eq, slice_index}
use Rattle.std.specs.List.{slice_split, list_all}
use Rattle.std.specs.Char.{is_ascii_digit}
use Rattle.cert_text.specs.declared.token.Token.{Token}
use Rattle.cert_text.specs.declared.token.Token.TheVariants.{Mark, Cert, Spec, Counter, NoCounter, Sound, Clause, Part, Item, Shared, First, Kept, Safe, Step, End, Number, Past, Negative}

-- the greatest number of 64 bits
abbrev pub greatest : ℕ
greatest = 18446744073709551615

-- the greatest number of 128 bits
abbrev pub ceiling : ℕ
ceiling = 340282366920938463463374607431768211455

-- the number, or the greatest one of 128 bits
abbrev pub capped : ℕ → ℕ
capped n = min n ceiling

-- the number that these digits write behind those of n
abbrev pub number_after : ℕ → List ℕ → ℕ
number_after n [] = n
number_after n (c ∷ cs) = number_after (capped (n * 10 + (c - 48))) cs

-- digits, with no leading zero
abbrev pub is_number : List ℕ → Bool
is_number word = list_all is_ascii_digit word && (length word == 1 || (nat_lt 1 (length word) && not (slice_index word 0 == 48)))

abbrev pub number_of : List ℕ → Option ℕ
number_of word = if is_number word then Some (number_after 0 word) else None

-- a number of 64 bits, or one past them
abbrev pub number_token : ℕ → Token
number_token n = if nat_le n greatest then Number n else Past

-- a number of 64 bits behind a minus sign
abbrev pub negative_of : Option ℕ → Option Token
negative_of None = None
negative_of (Some n) = if n == 0 then None else if nat_le n greatest then Some (Negative n) else None

-- the keywords that tell what a line is
abbrev pub kind_of : List ℕ → Option Token
kind_of word =
    if bytes_eq word (codes "step") then Some Step else
    if bytes_eq word (codes "clause") then Some Clause else
    if bytes_eq word (codes "part") then Some Part else
    if bytes_eq word (codes "cert") then Some Cert else
    if bytes_eq word (codes "sound") then Some Sound else
    if bytes_eq word (codes "end") then Some End else
    None

-- the keywords of parts
abbrev pub part_word : List ℕ → Option Token
part_word word =
    if bytes_eq word (codes "item") then Some Item else
    if bytes_eq word (codes "shared") then Some Shared else
    if bytes_eq word (codes "first") then Some First else
    if bytes_eq word (codes "kept") then Some Kept else
    if bytes_eq word (codes "safe") then Some Safe else
    None

-- the keywords of a certificate's first line, and the word with which each line begins
abbrev pub head_word : List ℕ → Option Token
head_word word =
    if bytes_eq word (codes "--%") then Some Mark else
    if bytes_eq word (codes "spec") then Some Spec else
    if bytes_eq word (codes "counter") then Some Counter else
    if bytes_eq word (codes "none") then Some NoCounter else
    None

-- the first of two that is there
abbrev pub either : Option Token → Option Token → Option Token
either (Some t) other = Some t
either None other = other

abbrev pub keyword_of : List ℕ → Option Token
keyword_of word = either (kind_of word) (either (part_word word) (head_word word))

-- a number, a number behind a minus sign, or else a keyword
abbrev pub number_or : Option ℕ → Option Token → Option Token
number_or (Some n) other = Some (number_token n)
number_or None other = other

abbrev pub signed_or : List ℕ → Option Token → Option Token
signed_or [] other = other
signed_or (c ∷ cs) other = if c == 45 then either (negative_of (number_of cs)) other else other

abbrev pub token_of : List ℕ → Option Token
token_of word = number_or (number_of word) (signed_or word (keyword_of word))

-- one more in front of a list, where both are there
abbrev pub and_then : {A : Type 0} → Option A → Option (List A) → Option (List A)
and_then None rest = None
and_then (Some t) None = None
and_then (Some t) (Some ts) = Some (t ∷ ts)

-- each word as a token, where all are tokens
abbrev pub tokens_of : List (List ℕ) → Option (List Token)
tokens_of [] = Some []
tokens_of (w ∷ ws) = and_then (token_of w) (tokens_of ws)

-- what stands between the bytes that equal `by`
abbrev pub pieces_of : ℕ → List ℕ → List (List ℕ)
pieces_of by bytes = slice_split (λ b. b == by) bytes

-- the words of a line: what stands between its spaces
abbrev pub words_of : List ℕ → List (List ℕ)
words_of line = pieces_of 32 line
