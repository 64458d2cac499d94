-- Texts that lead from one reading to another, one behind the other.
use Rattle.std.proofs.Common.{◌≡◌, ℕ, suc, ◌+◌, ◌-◌, true, cond, List, [], ◌++◌, length, Some, Result, subst, ap, ◌∙◌, arith, append_assoc, append-nil}
use Rattle.cert_text.specs.declared.token.Token.{Token}
use Rattle.cert_text.specs.Printed.{line_end}
use Rattle.cert_text.specs.Reading.{ReadSoFar, added, added_line, added_tokens, and_on, is_certificate_line, lines_of, read_from}
use Rattle.cert_text_laws.specs.Readable.{LeadsTo, ended_lines}
use Rattle.cert_text_laws.proofs.Lines.{Says, line_cut}

-- the text has this many lines, which lead from r to s, and `final` is the number of the last that is a certificate's,
-- of those that begin at line n
pub record Leads (items : ℕ) (text : List ℕ) (r s : ReadSoFar) : Type 0 where
  pub count : ℕ
  pub final : ℕ → ℕ → ℕ
  pub lines : (behind : List ℕ) → length (lines_of (text ++ behind)) ≡ count + length (lines_of behind)
  pub read : (n last : ℕ) (behind : List ℕ) → read_from items n last r (lines_of (text ++ behind)) ≡ read_from items (n + count) (final n last) s (lines_of behind)

pub leads_none : (items : ℕ) (r : ReadSoFar) → Leads items [] r r
leads_none items r = record {
  count = 0;
  final = λ n last. last;
  lines = λ behind. let is : length (lines_of behind) ≡ 0 + length (lines_of behind) = omega arith in is;
  read = λ n last behind. ap (λ m. read_from items m last r (lines_of behind)) (let is : n ≡ n + 0 = omega arith in is);
}

pub leads_then : (items : ℕ) (a b : List ℕ) (r s t : ReadSoFar) → Leads items a r s → Leads items b s t → Leads items (a ++ b) r t
leads_then items a b r s t p q = record {
  count = p.count + q.count;
  final = λ n last. q.final (n + p.count) (p.final n last);
  lines = λ behind.
      ap (λ (l : List ℕ). length (lines_of l)) (append_assoc a b behind)
      ∙ (let front = p.lines (b ++ behind) in let rest = q.lines behind in let is : length (lines_of (a ++ (b ++ behind))) ≡ p.count + q.count + length (lines_of behind) = omega (arith, front, rest) in is);
  read = λ n last behind.
      let final = q.final (n + p.count) (p.final n last) in
      ap (λ (l : List ℕ). read_from items n last r (lines_of l)) (append_assoc a b behind)
      ∙ p.read n last (b ++ behind)
      ∙ q.read (n + p.count) (p.final n last) behind
      ∙ ap (λ m. read_from items m final t (lines_of behind)) (let is : n + p.count + q.count ≡ n + (p.count + q.count) = omega arith in is);
}

pub leads_line : (items : ℕ) (text : List ℕ) (ts : List Token) (r s : ReadSoFar) → Says text ts → is_certificate_line text ≡ true → added items r ts ≡ Some s → Leads items (text ++ line_end) r s
leads_line items text ts r s says mark adds = record {
  count = 1;
  final = λ n last. n;
  lines = λ behind. ap (λ (l : List (List ℕ)). length l) (line_cut text behind says.no_feed) ∙ (let is : suc (length (lines_of behind)) ≡ 1 + length (lines_of behind) = omega arith in is);
  read = λ n last behind.
      let rest = lines_of behind in
      let more : ReadSoFar → Result ReadSoFar ℕ = λ w. read_from items (n + 1) n w rest in
      ap (read_from items n last r) (line_cut text behind says.no_feed)
      ∙ ap (λ b. cond b (and_on (added_line items r text) n more) (read_from items (n + 1) last r rest)) mark
      ∙ ap (λ o. and_on (added_tokens items r o) n more) says.tokens
      ∙ ap (λ o. and_on o n more) adds;
}

pub leads_same : (items : ℕ) (text : List ℕ) (r s t : ReadSoFar) → s ≡ t → Leads items text r s → Leads items text r t
leads_same items text r s t e h = subst (λ (w : ReadSoFar). Leads items text r w) e h

-- the same of a text whose last line is a certificate's
pub record Ends (items : ℕ) (text : List ℕ) (r s : ReadSoFar) : Type 0 where
  pub leads : Leads items text r s
  pub last : (n last : ℕ) → leads.final n last ≡ n + leads.count - 1

pub ends_line : (items : ℕ) (text : List ℕ) (ts : List Token) (r s : ReadSoFar) → Says text ts → is_certificate_line text ≡ true → added items r ts ≡ Some s → Ends items (text ++ line_end) r s
unfolding leads_line
ends_line items text ts r s says mark adds = record {
  leads = leads_line items text ts r s says mark adds;
  last = λ n last. let is : n ≡ n + 1 - 1 = omega arith in is;
}

pub ends_then : (items : ℕ) (a b : List ℕ) (r s t : ReadSoFar) → Leads items a r s → Ends items b s t → Ends items (a ++ b) r t
unfolding leads_then
ends_then items a b r s t p q = record {
  leads = leads_then items a b r s t p q.leads;
  last = λ n last. q.last (n + p.count) (p.final n last) ∙ (let is : n + p.count + q.leads.count - 1 ≡ n + (p.count + q.leads.count) - 1 = omega arith in is);
}

pub leads_to : (items : ℕ) (text : List ℕ) (r s : ReadSoFar) → Ends items text r s → LeadsTo items text r s
leads_to items text r s h n last behind =
    let all = h.leads.lines [] in
    let count : h.leads.count ≡ ended_lines text =
    (let is : h.leads.count ≡ length (lines_of (text ++ [])) - 1 = omega (arith, all) in is) ∙ ap (λ (l : List ℕ). length (lines_of l) - 1) (append-nil text) in
    h.leads.read n last behind
    ∙ ap (λ m. read_from items (n + h.leads.count) m s (lines_of behind)) (h.last n last)
    ∙ ap (λ m. read_from items (n + m) (n + m - 1) s (lines_of behind)) count
