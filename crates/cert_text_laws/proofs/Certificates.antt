-- The lines of a certificate's parts, one part after another.
use Rattle.std.proofs.Common.{◌≡◌, ℕ, ◌+◌, ◌<◌, ◌≤◌, true, ◌&&◌, List, [], ◌∷◌, ◌++◌, length, get_or, set, replicate, Option, None, Some, refl, sym, subst, ap, ap₂, ◌∙◌, arith, append_assoc, ltb}
use Rattle.std.specs.List.{All}
use Rattle.std.specs.Option.{is_none}
use Rattle.std.proofs.lemmas.Bool.{and_from, cond-true, le-leb}
use Rattle.std.proofs.lemmas.List.{get_or_at, length_push, set_at}
use Rattle.std.proofs.lemmas.List.Elements.{All-head, All-tail}
use Rattle.clause_core.specs.declared.literal.Lit.{Lit}
use Rattle.clause_core.specs.Literals.{Within}
use Rattle.hinted_log.specs.Hints.{HintedLog}
use Rattle.cert_core.specs.declared.form.Form.{Form}
use Rattle.cert_core.specs.declared.form.Part.{Part}
use Rattle.cert_core.specs.declared.form.Part.TheVariants.{Shared, First, Kept, Safe}
use Rattle.cert_core.specs.declared.form.TheConstants.{MAX_VARS}
use Rattle.cert_core.specs.Blocks.{Block, LogFits, PartFits, part_of, with_clause, with_part}
use Rattle.cert_text.specs.declared.token.Token.{Token}
use Rattle.cert_text.specs.declared.token.Token.TheVariants as word
use Rattle.cert_text.specs.declared.reading.Open.TheVariants.{Certificate}
use Rattle.cert_text.specs.Tokens.{greatest}
use Rattle.cert_text.specs.Lines.{Step, part_of_words, step_of}
use Rattle.cert_text.specs.Open.{OpenBlock, clause_line, closed, has_place, is_in_order, may_begin, no_steps, part_line, rank, step_line, with_begun, with_step}
use Rattle.cert_text.specs.Printed.{clauses_text, part_text, parts_text, steps_text}
use Rattle.cert_text.specs.Reading.{ReadSoFar, added, certificate_open, with_block}
use Rattle.cert_text_laws.specs.Readable.{AreReadableHints, IsReadablePart}
use Rattle.cert_text_laws.proofs.Leading.{Leads, leads_line, leads_none, leads_then}
use Rattle.cert_text_laws.proofs.Lines.{IsWord, tokens_of_literals}
use Rattle.cert_text_laws.proofs.Logs.{steps_lead}
use Rattle.cert_text_laws.proofs.Steps.{clause_read, clause_said, part_said}

abbrev pub with_open : ReadSoFar → OpenBlock → ReadSoFar
with_open r o = record r { block = Certificate o }

-- Clauses.

-- none of its parts is being read
abbrev pub without_part : ℕ → Block → OpenBlock
without_part s b = record { spec = s; block = b; part = None; steps = no_steps }

abbrev pub with_clauses : Block → List (List Lit) → Block
with_clauses b [] = b
with_clauses b (c ∷ cs) = with_clauses (with_clause b c) cs

pub clauses_lead : (items s : ℕ) (r : ReadSoFar) (b : Block) (cs : List (List Lit)) → All (Within MAX_VARS) cs
    → Leads items (clauses_text cs) (with_open r (without_part s b)) (with_open r (without_part s (with_clauses b cs)))
clauses_lead items s r b [] all = leads_none items (with_open r (without_part s b))
clauses_lead items s r b (c ∷ cs) all =
    let within : Within MAX_VARS c = All-head (Within MAX_VARS) c cs all in
    let here = with_open r (without_part s b) in
    let next = with_open r (without_part s (with_clause b c)) in
    leads_then items _ (clauses_text cs) here next (with_open r (without_part s (with_clauses b (c ∷ cs))))
    (leads_line items _ (word.Mark ∷ word.Clause ∷ tokens_of_literals c) here next (clause_said c within) refl
    (ap (λ (o : Option (List Lit)). with_block here (certificate_open (clause_line (without_part s b) o))) (clause_read c within)))
    (clauses_lead items s r (with_clause b c) cs (All-tail (Within MAX_VARS) c cs all))

-- Steps.

-- the steps of this part are being read
abbrev pub in_part : ℕ → Block → Part → HintedLog → OpenBlock
in_part s b part steps = record { spec = s; block = b; part = Some part; steps = steps }

step_adds : (items s : ℕ) (r : ReadSoFar) (b : Block) (part : Part) (log : HintedLog) (ts : List Token) (x : Step) → step_of b.form ts ≡ Some x
    → added items (with_open r (in_part s b part log)) (word.Mark ∷ word.Step ∷ ts) ≡ Some (with_open r (in_part s b part (with_step log x)))
step_adds items s r b part log ts x e = ap (λ (o : Option Step). with_block (with_open r (in_part s b part log)) (certificate_open (step_line (in_part s b part log) o))) e

-- Parts.

-- what is read of specification s is b, and the part that is read has this rank at most
pub record IsAt (s k : ℕ) (b : Block) (o : OpenBlock) : Type 0 where
  pub spec : o.spec ≡ s
  pub all : closed o ≡ b
  pub form : o.block.form ≡ b.form
  pub clauses : o.block.clauses ≡ b.clauses
  pub order : (part : Part) → k ≤ rank part → is_in_order o.part part ≡ true

-- the text leads on to b
pub record Reaches (items : ℕ) (text : List ℕ) (r : ReadSoFar) (o : OpenBlock) (s k : ℕ) (b : Block) : Type 0 where
  pub next : OpenBlock
  pub at : IsAt s k b next
  pub leads : Leads items text (with_open r o) (with_open r next)

pub reaches_none : (items : ℕ) (r : ReadSoFar) (o : OpenBlock) (s k : ℕ) (b : Block) → IsAt s k b o → Reaches items [] r o s k b
reaches_none items r o s k b at = record { next = o; at = at; leads = leads_none items (with_open r o) }

pub later : (s j k : ℕ) (b : Block) (o : OpenBlock) → j ≤ k → IsAt s j b o → IsAt s k b o
later s j k b o le at = record { spec = at.spec; all = at.all; form = at.form; clauses = at.clauses; order = λ part h. at.order part (omega (arith, le, h)) }

form_kept : (b : Block) (part : Part) (log : HintedLog) → b.form ≡ (with_part b part log).form
form_kept b Shared log = refl
form_kept b (First k) log = refl
form_kept b (Kept k) log = refl
form_kept b Safe log = refl

clauses_kept : (b : Block) (part : Part) (log : HintedLog) → b.clauses ≡ (with_part b part log).clauses
clauses_kept b Shared log = refl
clauses_kept b (First k) log = refl
clauses_kept b (Kept k) log = refl
clauses_kept b Safe log = refl

place_same : (b c : Block) (part : Part) → b.form ≡ c.form → b.clauses ≡ c.clauses → has_place b part ≡ has_place c part
place_same b c Shared e f = rw e
place_same b c (First k) e f = ap (λ (l : List (List Lit)). ltb k (length l)) f
place_same b c (Kept k) e f = ap (λ (l : List (List Lit)). ltb k (length l)) f
place_same b c Safe e f = refl

pub part_reaches : (items s j : ℕ) (r : ReadSoFar) (b : Block) (o : OpenBlock) (part : Part) (name : List ℕ) (t : Token) (n : ℕ) (log : HintedLog)
    → IsAt s j b o → j ≤ rank part → has_place b part ≡ true → part_of b part ≡ None
    → IsWord name t → n ≤ greatest → part_of_words (t ∷ word.Number n ∷ []) ≡ Some part → LogFits b.form log → AreReadableHints log
    → Reaches items (part_text b.form name n (Some log)) r o s (rank part) (with_part b part log)
part_reaches items s j r b o part name t n log at le place none is few says fits hints =
    let here = with_open r o in
    let begun = with_open r (in_part s b part no_steps) in
    let ended = with_open r (in_part s b part log) in
    let may : may_begin o part ≡ true =
    and_from (has_place o.block part && is_in_order o.part part) (is_none (part_of (closed o) part))
    (and_from (has_place o.block part) (is_in_order o.part part) (place_same o.block b part at.form at.clauses ∙ place) (at.order part le))
    (ap (λ (c : Block). is_none (part_of c part)) at.all ∙ ap (λ (p : Option HintedLog). is_none p) none) in
    let same : with_begun o part ≡ in_part s b part no_steps = ap₂ (λ (m : ℕ) (c : Block). in_part m c part no_steps) at.spec at.all in
    record {
      next = in_part s b part log;
      at = record {
        spec = refl;
        all = refl;
        form = form_kept b part log;
        clauses = clauses_kept b part log;
        order = λ q h. le-leb (rank part) (rank q) h;
      };
      leads =
          leads_then items _ (steps_text b.form log.steps log.hints) here begun ended
          (leads_line items _ (word.Mark ∷ word.Part ∷ t ∷ word.Number n ∷ []) here begun (part_said name t n is few) refl
          (ap (λ (p : Option Part). with_block here (certificate_open (part_line o p))) says
          ∙ ap (λ (x : Option OpenBlock). with_block here (certificate_open x)) (cond-true (may_begin o part) (Some (with_begun o part)) None may)
          ∙ ap (λ (x : OpenBlock). Some (with_open r x)) same))
          (steps_lead items b.form (λ l. with_open r (in_part s b part l)) (step_adds items s r b part) log fits hints);
    }

pub reaches_then : (items s j k : ℕ) (r : ReadSoFar) (x y : List ℕ) (o : OpenBlock) (b c : Block) (p : Reaches items x r o s j b) → Reaches items y r p.next s k c → Reaches items (x ++ y) r o s k c
reaches_then items s j k r x y o b c p q = record { next = q.next; at = q.at; leads = leads_then items x y (with_open r o) (with_open r p.next) (with_open r q.next) p.leads q.leads }

pub reaches_same : (items s k : ℕ) (r : ReadSoFar) (x : List ℕ) (o : OpenBlock) (b c : Block) → b ≡ c → Reaches items x r o s k b → Reaches items x r o s k c
reaches_same items s k r x o b c e h = subst (λ (d : Block). Reaches items x r o s k d) e h

-- Parts that stand in the order of the clauses.

-- as many that are missing
abbrev pub missing : {A : Type 0} → List (Option A) → List (Option A)
missing [] = []
missing (p ∷ ps) = None ∷ missing ps

pub missing_are : {A : Type 0} (ps : List (Option A)) → replicate (length ps) None ≡ missing ps
missing_are [] = refl
missing_are {A} (p ∷ ps) = ap (λ (l : List (Option A)). None ∷ l) (missing_are ps)

-- the parts of one name in a block of this form and so many clauses; `put` gives all of them
pub record AreParts (form : Form) (clauses k : ℕ) (name : List ℕ) (t : Token) (part : ℕ → Part) (put : List (Option HintedLog) → Block) : Type 0 where
  pub is : IsWord name t
  pub says : (i : ℕ) → part_of_words (t ∷ word.Number (i + 1) ∷ []) ≡ Some (part i)
  pub ranked : (i : ℕ) → rank (part i) ≡ k
  pub formed : (xs : List (Option HintedLog)) → (put xs).form ≡ form
  pub placed : (xs : List (Option HintedLog)) (i : ℕ) → i < clauses → has_place (put xs) (part i) ≡ true
  pub got : (xs : List (Option HintedLog)) (i : ℕ) → part_of (put xs) (part i) ≡ get_or xs i None
  pub given : (xs : List (Option HintedLog)) (i : ℕ) (log : HintedLog) → with_part (put xs) (part i) log ≡ put (set xs i (Some log))

module _ (items s : ℕ) (r : ReadSoFar) (form : Form) (clauses k : ℕ) (few : clauses ≤ greatest) (name : List ℕ) (t : Token) (part : ℕ → Part) (put : List (Option HintedLog) → Block) (are : AreParts form clauses k name t part put) where
  one_reached : (done ps : List (Option HintedLog)) (p : Option HintedLog) (o : OpenBlock) → length done < clauses → PartFits form p → IsReadablePart p → IsAt s k (put (done ++ None ∷ ps)) o
      → Reaches items (part_text form name (length done + 1) p) r o s k (put ((done ++ p ∷ []) ++ ps))
  one_reached done ps None o within fits hints at =
      reaches_same items s k r [] o _ _ (ap put (sym (append_assoc done (None ∷ []) ps))) (reaches_none items r o s k (put (done ++ None ∷ ps)) at)
  one_reached done ps (Some log) o within fits hints at =
      let i = length done in
      let xs = done ++ None ∷ ps in
      let reached = part_reaches items s k r (put xs) o (part i) name t (i + 1) log at (let is = are.ranked i in omega (arith, is)) (are.placed xs i within) (are.got xs i ∙ get_or_at done None ps None i refl)
      are.is (omega (arith, within, few)) (are.says i) (subst (λ (f : Form). LogFits f log) (sym (are.formed xs)) (fits log refl)) (hints log refl) in
      let sorted = subst (λ m. Reaches items (part_text (put xs).form name (i + 1) (Some log)) r o s m (with_part (put xs) (part i) log)) (are.ranked i) reached in
      let shaped = subst (λ (f : Form). Reaches items (part_text f name (i + 1) (Some log)) r o s k (with_part (put xs) (part i) log)) (are.formed xs) sorted in
      reaches_same items s k r (part_text form name (i + 1) (Some log)) o _ _
      (are.given xs i log ∙ ap put (set_at done None ps (Some log) i refl ∙ sym (append_assoc done (Some log ∷ []) ps))) shaped

  pub all_reached : (ps done : List (Option HintedLog)) (o : OpenBlock) → length done + length ps ≤ clauses → All (PartFits form) ps → All IsReadablePart ps → IsAt s k (put (done ++ missing ps)) o
      → Reaches items (parts_text form name (length done + 1) ps) r o s k (put (done ++ ps))
  all_reached [] done o within fits hints at = reaches_none items r o s k (put (done ++ [])) at
  all_reached (p ∷ ps) done o within fits hints at =
      let first = one_reached done (missing ps) p o (omega (arith, within)) (All-head (PartFits form) p ps fits) (All-head IsReadablePart p ps hints) at in
      let more = done ++ p ∷ [] in
      let long : length more ≡ length done + 1 = length_push done p in
      let rest = all_reached ps more first.next (omega (arith, within, long)) (All-tail (PartFits form) p ps fits) (All-tail IsReadablePart p ps hints) first.at in
      let numbered = subst (λ m. Reaches items (parts_text form name (m + 1) ps) r first.next s k (put (more ++ ps))) long rest in
      reaches_same items s k r (parts_text form name (length done + 1) (p ∷ ps)) o _ _ (ap put (append_assoc done (p ∷ []) ps))
      (reaches_then items s k k r (part_text form name (length done + 1) p) (parts_text form name (length done + 1 + 1) ps) o (put (more ++ missing ps)) (put (more ++ ps)) first numbered)
