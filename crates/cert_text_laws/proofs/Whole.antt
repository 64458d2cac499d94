-- A whole certificate, line by line.
use Rattle.std.proofs.Common.{◌≡◌, ℕ, suc, ◌+◌, ◌-◌, ◌<◌, ◌≤◌, true, cond, ◌&&◌, List, [], ◌∷◌, ◌++◌, length, get_or, set, replicate, Option, None, Some, codes, refl, sym, subst, ap, ap₂, ◌∙◌, arith, append_assoc, append-nil, ltb, leb, eqb}
use Rattle.std.specs.Fmt.{decimal}
use Rattle.std.specs.Option.{ForSome, is_none}
use Rattle.std.proofs.lemmas.Bool.{and_from, cond-false, cond-true, le-leb, lt-ltb, ne_eqb}
use Rattle.std.proofs.lemmas.List.{replicate_more}
use Rattle.clause_core.specs.declared.literal.Lit.{Lit}
use Rattle.hinted_log.specs.Hints.{HintedLog}
use Rattle.cert_core.specs.declared.form.Form.{Form}
use Rattle.cert_core.specs.declared.form.Form.TheVariants.{Plain, Hinted}
use Rattle.cert_core.specs.declared.form.Part.TheVariants.{Shared, First, Kept, Safe}
use Rattle.cert_core.specs.declared.form.TheConstants.{MAX_COUNTER}
use Rattle.cert_core.specs.Blocks.{Block, IsBlock, PartFits, empty_block}
use Rattle.cert_text.specs.declared.token.Token.{Token}
use Rattle.cert_text.specs.declared.token.Token.TheVariants as word
use Rattle.cert_text.specs.declared.reading.Open.{Open}
use Rattle.cert_text.specs.Tokens.{greatest}
use Rattle.cert_text.specs.Lines.{counter_of, head_from, head_of}
use Rattle.cert_text.specs.Open.{OpenBlock, is_hinted}
use Rattle.cert_text.specs.Printed.{certificate_text, clauses_text, counter_text, end_text, form_text, head_text, part_text, parts_text}
use Rattle.cert_text.specs.Reading.{ReadSoFar, certificate_begun, is_closed, is_free, nothing}
use Rattle.cert_text_laws.specs.Readable.{IsFree, IsReadable, IsReadablePart, LeadsTo, with_certificate}
use Rattle.cert_text_laws.proofs.Leading.{Ends, Leads, ends_line, ends_then, leads_line, leads_same, leads_then, leads_to}
use Rattle.cert_text_laws.proofs.Lines.{IsWord, Says, last_word, next_word, number_word}
use Rattle.cert_text_laws.proofs.Steps.{line_said}
use Rattle.cert_text_laws.proofs.Certificates.{AreParts, IsAt, Reaches, all_reached, clauses_lead, missing, part_reaches, reaches_none, later, missing_are, with_clauses, with_open, without_part}

-- The first line.

abbrev form_token : Form → Token
form_token Plain = word.Number 1
form_token Hinted = word.Number 2

form_word : (form : Form) → IsWord (form_text form) (form_token form)
form_word Plain = record { token = refl; no_space = refl; no_feed = refl }
form_word Hinted = record { token = refl; no_space = refl; no_feed = refl }

abbrev counter_token : Option ℕ → Token
counter_token None = word.NoCounter
counter_token (Some k) = word.Number k

counter_word : (counter : Option ℕ) → ForSome counter (λ k. k ≤ MAX_COUNTER) → IsWord (counter_text counter) (counter_token counter)
counter_word None h = record { token = refl; no_space = refl; no_feed = refl }
counter_word (Some k) h = let few = h k refl in number_word k (omega (arith, few))

counter_read : (counter : Option ℕ) → ForSome counter (λ k. k ≤ MAX_COUNTER) → counter_of (counter_token counter) ≡ Some counter
counter_read None h = refl
counter_read (Some k) h = cond-true (leb k MAX_COUNTER) (Some (Some k)) None (le-leb k MAX_COUNTER (h k refl))

abbrev head_tokens : Form → ℕ → Option ℕ → List Token
head_tokens form n counter = form_token form ∷ word.Spec ∷ word.Number n ∷ word.Counter ∷ counter_token counter ∷ []

head_said : (form : Form) (n : ℕ) (counter : Option ℕ) → n ≤ greatest → ForSome counter (λ k. k ≤ MAX_COUNTER)
    → Says (codes "--% cert " ++ form_text form ++ codes " spec " ++ decimal n ++ codes " counter " ++ counter_text counter) (word.Mark ∷ word.Cert ∷ head_tokens form n counter)
head_said form n counter few h =
    let a = codes "--% cert " ++ form_text form in
    let k = counter_text counter in
    let flat : a ++ codes " spec " ++ decimal n ++ codes " counter " ++ k ≡ codes "--% cert " ++ (form_text form ++ (codes " spec " ++ (decimal n ++ (codes " counter " ++ k)))) =
    append_assoc (a ++ codes " spec " ++ decimal n) (codes " counter ") k
    ∙ append_assoc (a ++ codes " spec ") (decimal n) (codes " counter " ++ k)
    ∙ append_assoc a (codes " spec ") (decimal n ++ (codes " counter " ++ k))
    ∙ append_assoc (codes "--% cert ") (form_text form) (codes " spec " ++ (decimal n ++ (codes " counter " ++ k))) in
    subst (λ (l : List ℕ). Says l (word.Mark ∷ word.Cert ∷ head_tokens form n counter)) (sym flat)
    (line_said (codes "cert") (form_text form ++ (codes " spec " ++ (decimal n ++ (codes " counter " ++ k)))) word.Cert (head_tokens form n counter) (record { token = refl; no_space = refl; no_feed = refl })
    (next_word (form_text form) (codes "spec" ++ (32 ∷ (decimal n ++ (codes " counter " ++ k)))) (form_token form) (word.Spec ∷ word.Number n ∷ word.Counter ∷ counter_token counter ∷ []) (form_word form)
    (next_word (codes "spec") (decimal n ++ (codes " counter " ++ k)) word.Spec (word.Number n ∷ word.Counter ∷ counter_token counter ∷ []) (record { token = refl; no_space = refl; no_feed = refl })
    (next_word (decimal n) (codes "counter" ++ (32 ∷ k)) (word.Number n) (word.Counter ∷ counter_token counter ∷ []) (number_word n few)
    (next_word (codes "counter") k word.Counter (counter_token counter ∷ []) (record { token = refl; no_space = refl; no_feed = refl }) (last_word k (counter_token counter) (counter_word counter h)))))))

head_with : (form : Form) (n : ℕ) (counter : Option ℕ) → ForSome counter (λ k. k ≤ MAX_COUNTER) → head_of (head_tokens form n counter) ≡ Some record { form = form; spec = n; counter = counter }
head_with Plain n counter h = ap (head_from (Some Plain) (Some n)) (counter_read counter h)
head_with Hinted n counter h = ap (head_from (Some Hinted) (Some n)) (counter_read counter h)

free : (certificates : List (Option Block)) (s : ℕ) → s < length certificates → get_or certificates s None ≡ None → is_free certificates (s + 1) ≡ true
free certificates s within none =
    let back : s + 1 - 1 ≡ s = omega arith in
    and_from (ltb 0 (s + 1)) _ (lt-ltb 0 (s + 1) (omega arith))
    (and_from (leb (s + 1) (length certificates)) _ (le-leb (s + 1) (length certificates) (omega (arith, within)))
    (ap (λ m. is_none (get_or certificates m None)) back ∙ ap (λ (o : Option Block). is_none o) none))

begun : (r : ReadSoFar) (s : ℕ) (form : Form) (counter : Option ℕ) → IsFree r s → certificate_begun r (Some record { form = form; spec = s + 1; counter = counter }) ≡ Some (with_open r (without_part s (empty_block form counter)))
begun r s form counter h =
    let back : s + 1 - 1 ≡ s = omega arith in
    let may : is_closed r.block && is_free r.certificates (s + 1) ≡ true = and_from (is_closed r.block) (is_free r.certificates (s + 1)) (ap is_closed h.closed) (free r.certificates s h.within h.none) in
    cond-true (is_closed r.block && is_free r.certificates (s + 1)) (Some (with_open r (without_part (s + 1 - 1) (empty_block form counter)))) None may
    ∙ ap (λ m. Some (with_open r (without_part m (empty_block form counter)))) back

-- The clauses.

-- a block of which these parts were read
abbrev staged : Block → Option HintedLog → List (Option HintedLog) → List (Option HintedLog) → Option HintedLog → Block
staged b shared first kept safe = record { form = b.form; counter = b.counter; clauses = b.clauses; shared = shared; first = first; kept = kept; safe = safe }

abbrev clauses_alone : Form → Option ℕ → List (List Lit) → ℕ → Block
clauses_alone form counter cs n = record { form = form; counter = counter; clauses = cs; shared = None; first = replicate n None; kept = replicate n None; safe = None }

all_clauses : (form : Form) (counter : Option ℕ) (cs done : List (List Lit)) (n : ℕ) → with_clauses (clauses_alone form counter done n) cs ≡ clauses_alone form counter (done ++ cs) (n + length cs)
all_clauses form counter [] done n = ap₂ (clauses_alone form counter) (sym (append-nil done)) (let is : n ≡ n + 0 = omega arith in is)
all_clauses form counter (c ∷ cs) done n =
    let more : List (Option HintedLog) → Block = λ l. record { form = form; counter = counter; clauses = done ++ c ∷ []; shared = None; first = l; kept = l; safe = None } in
    ap (λ (l : List (Option HintedLog)). with_clauses (more l) cs) (replicate_more n None)
    ∙ all_clauses form counter cs (done ++ c ∷ []) (n + 1)
    ∙ ap₂ (clauses_alone form counter) (append_assoc done (c ∷ []) cs) (let is : n + 1 + length cs ≡ n + suc (length cs) = omega arith in is)

only_clauses : (b : Block) → IsBlock b → with_clauses (empty_block b.form b.counter) b.clauses ≡ staged b None (missing b.first) (missing b.kept) None
only_clauses b h =
    all_clauses b.form b.counter b.clauses [] 0
    ∙ ap₂ (λ (x y : List (Option HintedLog)). staged b None x y None)
    (ap (λ n. replicate n None) ((let is : 0 + length b.clauses ≡ length b.clauses = omega arith in is) ∙ sym h.first_count) ∙ missing_are b.first)
    (ap (λ n. replicate n None) ((let is : 0 + length b.clauses ≡ length b.clauses = omega arith in is) ∙ sym h.kept_count) ∙ missing_are b.kept)

-- The parts.

hinted_form : (form : Form) (log : HintedLog) → (form ≡ Plain → Some log ≡ None) → is_hinted form ≡ true
hinted_form Plain log h = absurd (let clash : Some log ≡ None = h refl in let never : ⊥ = cc in never)
hinted_form Hinted log h = refl

shared_reached : (items s : ℕ) (r : ReadSoFar) (b : Block) (o : OpenBlock) (first kept : List (Option HintedLog)) (p : Option HintedLog) → (b.form ≡ Plain → p ≡ None) → PartFits b.form p → IsReadablePart p
    → IsAt s 0 (staged b None first kept None) o → Reaches items (part_text b.form (codes "shared") 0 p) r o s 0 (staged b p first kept None)
shared_reached items s r b o first kept None plain fits hints at = reaches_none items r o s 0 _ at
shared_reached items s r b o first kept (Some log) plain fits hints at =
    part_reaches items s 0 r (staged b None first kept None) o Shared (codes "shared") word.Shared 0 log at (omega arith) (hinted_form b.form log plain) refl
    (record { token = refl; no_space = refl; no_feed = refl }) (omega arith) refl (fits log refl) (hints log refl)

safe_reached : (items s : ℕ) (r : ReadSoFar) (b : Block) (o : OpenBlock) (p : Option HintedLog) → PartFits b.form p → IsReadablePart p
    → IsAt s 3 (staged b b.shared b.first b.kept None) o → Reaches items (part_text b.form (codes "safe") 0 p) r o s 3 (staged b b.shared b.first b.kept p)
safe_reached items s r b o None fits hints at = reaches_none items r o s 3 _ at
safe_reached items s r b o (Some log) fits hints at =
    part_reaches items s 3 r (staged b b.shared b.first b.kept None) o Safe (codes "safe") word.Safe 0 log at (omega arith) refl refl
    (record { token = refl; no_space = refl; no_feed = refl }) (omega arith) refl (fits log refl) (hints log refl)

numbered : {A : Type 0} (f : ℕ → A) (i : ℕ) → cond (eqb (i + 1) 0) None (Some (f (i + 1 - 1))) ≡ Some (f i)
numbered f i =
    let back : i + 1 - 1 ≡ i = omega arith in
    cond-false (eqb (i + 1) 0) None (Some (f (i + 1 - 1))) (ne_eqb (i + 1) 0 (λ e. let never : ⊥ = omega (arith, e) in never)) ∙ ap (λ m. Some (f m)) back

are_first : (b : Block) → AreParts b.form (length b.clauses) 1 (codes "first") word.First First (λ xs. staged b b.shared xs (missing b.kept) None)
are_first b = record {
  is = record { token = refl; no_space = refl; no_feed = refl };
  says = numbered First;
  ranked = λ i. refl;
  formed = λ xs. refl;
  placed = λ xs i h. lt-ltb i (length b.clauses) h;
  got = λ xs i. refl;
  given = λ xs i log. refl;
}

are_kept : (b : Block) → AreParts b.form (length b.clauses) 2 (codes "kept") word.Kept Kept (λ xs. staged b b.shared b.first xs None)
are_kept b = record {
  is = record { token = refl; no_space = refl; no_feed = refl };
  says = numbered Kept;
  ranked = λ i. refl;
  formed = λ xs. refl;
  placed = λ xs i h. lt-ltb i (length b.clauses) h;
  got = λ xs i. refl;
  given = λ xs i log. refl;
}

-- All of it.

certificate_closes : (items s k : ℕ) (r : ReadSoFar) (b : Block) (o : OpenBlock) → IsAt s k b o → IsFree r s → Ends items end_text (with_open r o) (with_certificate r s b)
certificate_closes items s k r b o at place =
    ends_line items (codes "--% end") (word.Mark ∷ word.End ∷ []) (with_open r o) (with_certificate r s b) (record { tokens = refl; no_feed = refl }) refl
    (ap₂ (λ (m : ℕ) (c : Block). Some record { sound = r.sound; certificates = set r.certificates m (Some c); block = nothing }) at.spec at.all
    ∙ ap (λ (w : Open). Some record { sound = r.sound; certificates = set r.certificates s (Some b); block = w }) (sym place.closed))

pub certificate_ends : (items s : ℕ) (r : ReadSoFar) (b : Block) → IsReadable b → IsFree r s → Ends items (certificate_text (s + 1) b) r (with_certificate r s b)
certificate_ends items s r b readable place =
    let block = readable.block in
    let start = with_open r (without_part s (empty_block b.form b.counter)) in
    let few : length b.clauses ≤ greatest = readable.few in
    let opened : OpenBlock = without_part s (staged b None (missing b.first) (missing b.kept) None) in
    let at : IsAt s 0 (staged b None (missing b.first) (missing b.kept) None) opened = record { spec = refl; all = refl; form = refl; clauses = refl; order = λ part h. refl } in
    let head : Leads items (head_text (s + 1) b) r start =
    leads_line items _ (word.Mark ∷ word.Cert ∷ head_tokens b.form (s + 1) b.counter) r start (head_said b.form (s + 1) b.counter (let is = place.few in omega (arith, is)) block.counter) refl
    (ap (certificate_begun r) (head_with b.form (s + 1) b.counter block.counter) ∙ begun r s b.form b.counter place) in
    let clauses : Leads items (clauses_text b.clauses) start (with_open r opened) =
    leads_same items (clauses_text b.clauses) start _ _ (ap (λ (c : Block). with_open r (without_part s c)) (only_clauses b block)) (clauses_lead items s r (empty_block b.form b.counter) b.clauses block.vars) in
    let shared = shared_reached items s r b opened (missing b.first) (missing b.kept) b.shared block.plain block.shared readable.shared at in
    let first = all_reached items s r b.form (length b.clauses) 1 few (codes "first") word.First First (λ xs. staged b b.shared xs (missing b.kept) None) (are_first b)
    b.first [] shared.next (let is = block.first_count in omega (arith, is)) block.first readable.first (later s 0 1 _ shared.next (omega arith) shared.at) in
    let kept = all_reached items s r b.form (length b.clauses) 2 few (codes "kept") word.Kept Kept (λ xs. staged b b.shared b.first xs None) (are_kept b)
    b.kept [] first.next (let is = block.kept_count in omega (arith, is)) block.kept readable.kept (later s 1 2 _ first.next (omega arith) first.at) in
    let safe = safe_reached items s r b kept.next b.safe block.safe readable.safe (later s 2 3 _ kept.next (omega arith) kept.at) in
    let closes = certificate_closes items s 3 r b safe.next safe.at place in
    let t0 = head_text (s + 1) b in
    let t1 = t0 ++ clauses_text b.clauses in
    let t2 = t1 ++ part_text b.form (codes "shared") 0 b.shared in
    let t3 = t2 ++ parts_text b.form (codes "first") 1 b.first in
    let t4 = t3 ++ parts_text b.form (codes "kept") 1 b.kept in
    let t5 = t4 ++ part_text b.form (codes "safe") 0 b.safe in
    let h1 = leads_then items t0 (clauses_text b.clauses) r start (with_open r opened) head clauses in
    let h2 = leads_then items t1 (part_text b.form (codes "shared") 0 b.shared) r (with_open r opened) (with_open r shared.next) h1 shared.leads in
    let h3 = leads_then items t2 (parts_text b.form (codes "first") 1 b.first) r (with_open r shared.next) (with_open r first.next) h2 first.leads in
    let h4 = leads_then items t3 (parts_text b.form (codes "kept") 1 b.kept) r (with_open r first.next) (with_open r kept.next) h3 kept.leads in
    let h5 = leads_then items t4 (part_text b.form (codes "safe") 0 b.safe) r (with_open r kept.next) (with_open r safe.next) h4 safe.leads in
    ends_then items t5 end_text r (with_open r safe.next) (with_certificate r s b) h5 closes

pub certificate_read : (items s : ℕ) (r : ReadSoFar) (b : Block) → IsReadable b → IsFree r s → LeadsTo items (certificate_text (s + 1) b) r (with_certificate r s b)
certificate_read items s r b readable place = leads_to items (certificate_text (s + 1) b) r (with_certificate r s b) (certificate_ends items s r b readable place)
