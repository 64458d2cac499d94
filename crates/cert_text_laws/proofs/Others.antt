-- Lines that are no certificate's.
use Rattle.std.proofs.Common.{◌≡◌, inl, inr, ℕ, suc, ◌+◌, ◌<◌, false, cond, List, [], ◌∷◌, ◌++◌, length, Result, refl, ap, ◌∙◌, arith, append_assoc, length-append, eqb}
use Rattle.std.specs.List.{All, onto_first}
use Rattle.std.proofs.lemmas.Bool.{cases_Bool}
use Rattle.std.proofs.lemmas.List.Elements.{All-head, All-tail}
use Rattle.cert_text.specs.Printed.{line_end}
use Rattle.cert_text.specs.Reading.{ReadSoFar, added_line, and_on, is_certificate_line, lines_of, read_from}
use Rattle.cert_text_laws.specs.Readable.{HasOtherLines}
use Rattle.cert_text_laws.proofs.Leading.{Leads}

onto_more : (x : ℕ) (ls rest : List (List ℕ)) → 0 < length ls → onto_first x (ls ++ rest) ≡ onto_first x ls ++ rest
onto_more x [] rest h = absurd (let never : ⊥ = omega (arith, h) in never)
onto_more x (l ∷ ls) rest h = refl

onto_some : (x : ℕ) (ls : List (List ℕ)) → 0 < length (onto_first x ls)
onto_some x [] = omega arith
onto_some x (l ∷ ls) = omega arith

some_line : (text : List ℕ) → 0 < length (lines_of text)
some_line [] = omega arith
some_line (x ∷ text) = elim (cases_Bool (eqb x 10)) [
  | inl feed ↦ rw feed (omega arith)
  | inr other ↦ rw other (onto_some x (lines_of text))
]

-- the lines of two texts with a line feed between
lines_joined : (text behind : List ℕ) → lines_of (text ++ 10 ∷ behind) ≡ lines_of text ++ lines_of behind
lines_joined [] behind = refl
lines_joined (x ∷ text) behind = elim (cases_Bool (eqb x 10)) [
  | inl feed ↦ rw feed (ap (λ (l : List (List ℕ)). [] ∷ l) (lines_joined text behind))
  | inr other ↦ rw other (ap (onto_first x) (lines_joined text behind) ∙ onto_more x (lines_of text) (lines_of behind) (some_line text))
]

others_read : (items : ℕ) (r : ReadSoFar) (ls rest : List (List ℕ)) (n last : ℕ) → All (λ l. is_certificate_line l ≡ false) ls → read_from items n last r (ls ++ rest) ≡ read_from items (n + length ls) last r rest
others_read items r [] rest n last all = ap (λ m. read_from items m last r rest) (let is : n ≡ n + 0 = omega arith in is)
others_read items r (l ∷ ls) rest n last all =
    let more : ReadSoFar → Result ReadSoFar ℕ = λ s. read_from items (n + 1) n s (ls ++ rest) in
    ap (λ b. cond b (and_on (added_line items r l) n more) (read_from items (n + 1) last r (ls ++ rest))) (All-head (λ m. is_certificate_line m ≡ false) l ls all)
    ∙ others_read items r ls rest (n + 1) last (All-tail (λ m. is_certificate_line m ≡ false) l ls all)
    ∙ ap (λ m. read_from items m last r rest) (let is : n + 1 + length ls ≡ n + suc (length ls) = omega arith in is)

pub others_lead : (items : ℕ) (r : ReadSoFar) (text : List ℕ) → HasOtherLines text → Leads items (text ++ line_end) r r
others_lead items r text all = record {
  count = length (lines_of text);
  final = λ n last. last;
  lines = λ behind. ap (λ (l : List ℕ). length (lines_of l)) (append_assoc text line_end behind) ∙ ap (λ (l : List (List ℕ)). length l) (lines_joined text behind) ∙ length-append (lines_of text) (lines_of behind);
  read = λ n last behind. ap (λ (l : List ℕ). read_from items n last r (lines_of l)) (append_assoc text line_end behind) ∙ ap (read_from items n last r) (lines_joined text behind) ∙ others_read items r (lines_of text) (lines_of behind) n last all;
}

pub others_passed : (items n last : ℕ) (r : ReadSoFar) (text behind : List ℕ) → HasOtherLines text
    → read_from items n last r (lines_of (text ++ line_end ++ behind)) ≡ read_from items (n + length (lines_of text)) last r (lines_of behind)
unfolding others_lead
others_passed items n last r text behind all = (others_lead items r text all).read n last behind
