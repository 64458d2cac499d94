-- A text read line by line.
use Rattle.std.proofs.Common.{◌≡◌, ℕ, ◌+◌, ◌<◌, Bool, true, false, cond, List, Option, None, Some, Result, Ok, Err, length, get_or, drop, sym, ap, ◌∙◌}
use Rattle.hinted_log.specs.Hints.{HintedLog}
use Rattle.cert_core.specs.Blocks.{Block}
use Rattle.cert_text.specs.declared.reading.Open.{Open}
use Rattle.cert_text.specs.Open.{Makes}
use Rattle.cert_text.specs.Reading.{ReadSoFar, added_line, is_certificate_line, and_on, nothing, nothing_read, lines_of, read_from, read_text}
use Rattle.cert_text.proofs.Scans.{drop_at}

pub read_skip : (items n last : ℕ) (r : ReadSoFar) (ls : List (List ℕ)) (i : ℕ) (l : List ℕ) → i < length ls → l ≡ get_or ls i l → is_certificate_line l ≡ false →
    read_from items n last r (drop i ls) ≡ read_from items (n + 1) last r (drop (i + 1) ls)
read_skip items n last r ls i l lt at skip =
    let rest = drop (i + 1) ls in
    drop_at (read_from items n last r) ls i l lt at
    ∙ ap (λ b. cond b (and_on (added_line items r l) n (λ s. read_from items (n + 1) n s rest)) (read_from items (n + 1) last r rest)) skip

pub read_add : (items n last : ℕ) (r s : ReadSoFar) (ls : List (List ℕ)) (i : ℕ) (l : List ℕ) → i < length ls → l ≡ get_or ls i l → is_certificate_line l ≡ true →
    added_line items r l ≡ Some s → read_from items n last r (drop i ls) ≡ read_from items (n + 1) n s (drop (i + 1) ls)
read_add items n last r s ls i l lt at mark e =
    let rest = drop (i + 1) ls in
    let more : ReadSoFar → Result ReadSoFar ℕ = λ w. read_from items (n + 1) n w rest in
    drop_at (read_from items n last r) ls i l lt at
    ∙ (ap (λ b. cond b (and_on (added_line items r l) n more) (read_from items (n + 1) last r rest)) mark ∙ ap (λ o. and_on o n more) e)

pub read_stop : (items n last : ℕ) (r : ReadSoFar) (ls : List (List ℕ)) (i : ℕ) (l : List ℕ) → i < length ls → l ≡ get_or ls i l → is_certificate_line l ≡ true →
    added_line items r l ≡ None → read_from items n last r (drop i ls) ≡ Err n
read_stop items n last r ls i l lt at mark e =
    let rest = drop (i + 1) ls in
    let more : ReadSoFar → Result ReadSoFar ℕ = λ w. read_from items (n + 1) n w rest in
    drop_at (read_from items n last r) ls i l lt at
    ∙ (ap (λ b. cond b (and_on (added_line items r l) n more) (read_from items (n + 1) last r rest)) mark ∙ ap (λ o. and_on o n more) e)

pub read_made : (items n last : ℕ) (r s : ReadSoFar) (ls : List (List ℕ)) (i : ℕ) (l : List ℕ) (b : Bool) → i < length ls → l ≡ get_or ls i l → is_certificate_line l ≡ true →
    Makes (added_line items r l) s b → b ≡ true → read_from items n last r (drop i ls) ≡ read_from items (n + 1) n s (drop (i + 1) ls)
read_made items n last r s ls i l true lt at mark m e = read_add items n last r s ls i l lt at mark m
read_made items n last r s ls i l false lt at mark m e = cc

pub read_ended : (items n last : ℕ) (r s : ReadSoFar) (ls : List (List ℕ)) (i : ℕ) (l : List ℕ) (b : Bool) → i < length ls → l ≡ get_or ls i l → is_certificate_line l ≡ true →
    Makes (added_line items r l) s b → b ≡ false → read_from items n last r (drop i ls) ≡ Err n
read_ended items n last r s ls i l true lt at mark m e = cc
read_ended items n last r s ls i l false lt at mark m e = read_stop items n last r ls i l lt at mark m

-- what the lines of a text say is what is read of it
pub text_read : (specs items all : ℕ) (text : List ℕ) (lines : List (List ℕ)) (r s : ReadSoFar) (sound : Option (List (Option HintedLog))) (certs : List (Option Block)) →
    all ≡ items + specs → lines ≡ lines_of text → r ≡ nothing_read specs → read_from all 1 1 r lines ≡ Ok s → s.block ≡ nothing → sound ≡ s.sound → certs ≡ s.certificates →
    read_text specs items text ≡ Ok record { sound = sound; certificates = certs; block = nothing }
text_read specs items all text lines r s sound certs a l e read none p q =
    let closed : Open → ReadSoFar = λ w. record { sound = s.sound; certificates = s.certificates; block = w } in
    let sounded : Option (List (Option HintedLog)) → ReadSoFar = λ w. record { sound = w; certificates = s.certificates; block = nothing } in
    let certified : List (Option Block) → ReadSoFar = λ w. record { sound = sound; certificates = w; block = nothing } in
    let same : s ≡ record { sound = sound; certificates = certs; block = nothing } = ap closed none ∙ (ap sounded (sym p) ∙ ap certified (sym q)) in
    let given : read_text specs items text ≡ read_from all 1 1 r lines = cc in
    given ∙ (read ∙ ap (λ w. Ok w) same)
