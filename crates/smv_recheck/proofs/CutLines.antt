-- Lines up to the first that is not ASCII.
use Rattle.std.proofs.Common.{◌≡◌, ◌∙◌, ℕ, zero, suc, ◌+◌, ◌<◌, ◌≤◌, Bool, true, false, cond, List, [], ◌∷◌, ◌++◌, length, map, take, drop, get_or, slice_get, Option, None, Some, refl, sym, ap, subst, arith, append_assoc}
use Rattle.std.specs.List.{list_all}
use Rattle.std.specs.Bool.{MatchBool}
use Rattle.std.specs.Str.{IsAscii, IsNotAscii}
use Rattle.std.proofs.lemmas.Bool.{and_parts, cond-true, cond-false}
use Rattle.std.proofs.lemmas.List.{drop_more}
use Rattle.std.proofs.lemmas.Option.{slice_get_within}
use Rattle.smv_tree.specs.declared.refusal.Refusal.{Refusal}
use Rattle.smv_tree.specs.declared.refusal.TextStop.{TextStop}
use Rattle.smv_tree.specs.declared.refusal.TextStop.TheVariants.{NoMemory, Refused}
use Rattle.trace_replay.specs.declared.entry.TraceLine.{TraceLine}
use Rattle.trace_replay.specs.declared.source.Line.{Line}
use Rattle.trace_replay.specs.declared.trace.Trace.{Trace}
use Rattle.trace_replay.specs.Lines.{entry_text}
use Rattle.trace_replay.specs.Reading.{Holds, IsLinesStop, IsRefusedAt, in_form, refusal_at, texts}
use Rattle.smv_recheck.specs.Cutting.{BreaksAt, IsCutAt}
use Rattle.smv_recheck.specs.Lines.{is_trace_line, trace_lines_from}
use Rattle.smv_recheck.proofs.Ascii.{entry_ascii}

-- One line more.

abbrev from : ℕ → List (List ℕ) → List Line
from n ls = trace_lines_from n ls

line_here : (n : ℕ) (ls : List (List ℕ)) (i : ℕ) (l : List ℕ) → i < length ls → l ≡ get_or ls i l →
    from n (drop i ls) ≡ cond (is_trace_line l) (record { number = n; text = l } ∷ from (n + 1) (drop (i + 1) ls)) (from (n + 1) (drop (i + 1) ls))
line_here n ls i l lt at = ap (from n) (drop_more ls i l lt ∙ ap (λ (x : List ℕ). x ∷ drop (i + 1) ls) (sym at))

pub line_found : (n : ℕ) (ls : List (List ℕ)) (i : ℕ) (l : List ℕ) → i < length ls → l ≡ get_or ls i l → is_trace_line l ≡ true →
    from n (drop i ls) ≡ record { number = n; text = l } ∷ from (n + 1) (drop (i + 1) ls)
line_found n ls i l lt at mark = line_here n ls i l lt at ∙ cond-true (is_trace_line l) (record { number = n; text = l } ∷ from (n + 1) (drop (i + 1) ls)) (from (n + 1) (drop (i + 1) ls)) mark

pub line_passed : (n : ℕ) (ls : List (List ℕ)) (i : ℕ) (l : List ℕ) → i < length ls → l ≡ get_or ls i l → is_trace_line l ≡ false →
    from n (drop i ls) ≡ from (n + 1) (drop (i + 1) ls)
line_passed n ls i l lt at mark = line_here n ls i l lt at ∙ cond-false (is_trace_line l) (record { number = n; text = l } ∷ from (n + 1) (drop (i + 1) ls)) (from (n + 1) (drop (i + 1) ls)) mark

-- Fronts of lines.

front_taken : (front rest : List Line) (i : ℕ) → i ≤ length front → take i (texts (front ++ rest)) ≡ take i (texts front)
front_taken front rest zero h = refl
front_taken [] rest (suc i) h = absurd (let never : ⊥ = omega (arith, h) in never)
front_taken (l ∷ front) rest (suc i) h = ap (λ (ls : List (List ℕ)). l.text ∷ ls) (front_taken front rest i (omega (arith, h)))

all_taken : (front rest : List Line) → take (length front) (texts (front ++ rest)) ≡ texts front
all_taken [] rest = refl
all_taken (l ∷ front) rest = ap (λ (ls : List (List ℕ)). l.text ∷ ls) (all_taken front rest)

one_more : (front : List Line) (line : Line) (rest : List Line) → take (suc (length front)) (texts (front ++ line ∷ rest)) ≡ texts front ++ line.text ∷ []
one_more [] line rest = refl
one_more (l ∷ front) line rest = ap (λ (ls : List (List ℕ)). l.text ∷ ls) (one_more front line rest)

here_front : (front rest : List Line) (i : ℕ) (line : Line) → slice_get front i ≡ Some line → slice_get (front ++ rest) i ≡ Some line
here_front [] rest i line h = absurd (let never : ⊥ = cc in never)
here_front (l ∷ front) rest zero line h = h
here_front (l ∷ front) rest (suc i) line h = here_front front rest i line h

here_next : (front : List Line) (line : Line) (rest : List Line) → slice_get (front ++ line ∷ rest) (length front) ≡ Some line
here_next [] line rest = refl
here_next (l ∷ front) line rest = here_next front line rest

-- what is refused of a front is refused of all lines
front_refused : (specs : ℕ) (front rest : List Line) (r : Refusal) → IsRefusedAt specs front r → IsRefusedAt specs (front ++ rest) r
front_refused specs front rest r h =
    let within : h.before < length front = slice_get_within front h.before h.line h.here in
    record {
      before = h.before;
      line = h.line;
      here = here_front front rest h.before h.line h.here;
      traces = h.traces;
      good = subst (λ (ls : List (List ℕ)). Holds specs ls h.traces) (sym (front_taken front rest h.before (omega (arith, within)))) h.good;
      bad = λ ts held. h.bad ts (subst (λ (ls : List (List ℕ)). Holds specs ls ts) (front_taken front rest (h.before + 1) (omega (arith, within))) held);
      told = h.told;
    }

-- the last of lines in form is ASCII
last_ascii : (front : List (List ℕ)) (text : List ℕ) (es : List TraceLine) → list_all in_form es ≡ true → front ++ text ∷ [] ≡ map entry_text es → IsAscii text
last_ascii [] text [] h e = absurd (let never : ⊥ = cc in never)
last_ascii [] text (x ∷ es) h e = let same : text ≡ entry_text x = cc in subst IsAscii (sym same) (entry_ascii x (and_parts (in_form x) (list_all in_form es) h).0)
last_ascii (l ∷ front) text [] h e = absurd (let never : ⊥ = cc in never)
last_ascii (l ∷ front) text (x ∷ es) h e =
    let rest : front ++ text ∷ [] ≡ map entry_text es = cc in
    last_ascii front text es (and_parts (in_form x) (list_all in_form es) h).1 rest

broken_held : (specs : ℕ) (front : List (List ℕ)) (text : List ℕ) (traces : List (Option Trace)) → (IsAscii text → ⊥) → Holds specs (front ++ text ∷ []) traces → ⊥
broken_held specs front text traces other held = other (last_ascii front text held.entries held.formed held.text)

next_refused : (specs : ℕ) (front : List Line) (line : Line) (rest : List Line) (traces : List (Option Trace)) → (IsAscii line.text → ⊥) → Holds specs (texts front) traces
    → IsRefusedAt specs (front ++ line ∷ rest) (refusal_at line.number)
next_refused specs front line rest traces other held =
    let more : length front + 1 ≡ suc (length front) = omega arith in
    record {
      before = length front;
      line = line;
      here = here_next front line rest;
      traces = traces;
      good = subst (λ (ls : List (List ℕ)). Holds specs ls traces) (sym (all_taken front (line ∷ rest))) held;
      bad = λ ts h. broken_held specs (texts front) line.text ts other
          (subst (λ (ls : List (List ℕ)). Holds specs ls ts) (ap (λ (k : ℕ). take k (texts (front ++ line ∷ rest))) more ∙ one_more front line rest) h);
      told = refl;
    }

-- What is read of lines that are cut.

pub cut_stopped : (specs : ℕ) (all front : List Line) (broken : Option ℕ) (stop : TextStop) → IsCutAt all front broken → IsLinesStop specs front stop → IsLinesStop specs all stop
cut_stopped specs all front broken NoMemory cut h = tt
cut_stopped specs all front None (Refused r) cut h = subst (λ (ls : List Line). IsRefusedAt specs ls r) (sym cut) h
cut_stopped specs all front (Some n) (Refused r) cut h =
    subst (λ (ls : List Line). IsRefusedAt specs ls r) (sym cut.split) (front_refused specs front (cut.line ∷ cut.rest) r h)

pub cut_whole : (specs : ℕ) (all front : List Line) (traces : List (Option Trace)) → all ≡ front → Holds specs (texts front) traces → Holds specs (texts all) traces
cut_whole specs all front traces same h = subst (λ (ls : List Line). Holds specs (texts ls) traces) (sym same) h

pub cut_refused : (specs : ℕ) (all front : List Line) (n : ℕ) (traces : List (Option Trace)) → BreaksAt all front n → Holds specs (texts front) traces → IsRefusedAt specs all (refusal_at n)
cut_refused specs all front n traces cut h =
    subst (λ (k : ℕ). IsRefusedAt specs all (refusal_at k)) cut.numbered
    (subst (λ (ls : List Line). IsRefusedAt specs ls (refusal_at cut.line.number)) (sym cut.split) (next_refused specs front cut.line cut.rest traces cut.other h))

-- One step of the cutting.

pub line_pushed : (ls : List (List ℕ)) (i : ℕ) (l : List ℕ) (found now : List Line) → i < length ls → l ≡ get_or ls i l → is_trace_line l ≡ true → from 1 ls ≡ found ++ from (i + 1) (drop i ls)
    → now ≡ found ++ record { number = i + 1; text = l } ∷ [] → from 1 ls ≡ now ++ from (i + 1 + 1) (drop (i + 1) ls)
line_pushed ls i l found now lt at mark before is =
    let here : Line = record { number = i + 1; text = l } in
    let rest = from (i + 1 + 1) (drop (i + 1) ls) in
    before ∙ ap (λ (xs : List Line). found ++ xs) (line_found (i + 1) ls i l lt at mark) ∙ sym (append_assoc found (here ∷ []) rest) ∙ ap (λ (xs : List Line). xs ++ rest) (sym is)

pub line_skipped : (ls : List (List ℕ)) (i : ℕ) (l : List ℕ) (found now : List Line) → i < length ls → l ≡ get_or ls i l → is_trace_line l ≡ false → from 1 ls ≡ found ++ from (i + 1) (drop i ls)
    → now ≡ found → from 1 ls ≡ now ++ from (i + 1 + 1) (drop (i + 1) ls)
line_skipped ls i l found now lt at mark before is =
    let rest = from (i + 1 + 1) (drop (i + 1) ls) in
    before ∙ ap (λ (xs : List Line). found ++ xs) (line_passed (i + 1) ls i l lt at mark) ∙ ap (λ (xs : List Line). xs ++ rest) (sym is)

not_ascii : (l : List ℕ) (b : Bool) → MatchBool b (IsAscii l) (IsNotAscii l) → b ≡ false → IsAscii l → ⊥
not_ascii l true h no_ascii ascii = cc
not_ascii l false h no_ascii ascii = omega (arith, h.1, ascii h.0)

pub breaks_here : (ls : List (List ℕ)) (i : ℕ) (l : List ℕ) (found : List Line) (b : Bool) → i < length ls → l ≡ get_or ls i l → is_trace_line l ≡ true → MatchBool b (IsAscii l) (IsNotAscii l) → b ≡ false
    → from 1 ls ≡ found ++ from (i + 1) (drop i ls) → BreaksAt (from 1 ls) found (i + 1)
breaks_here ls i l found b lt at mark cases no_ascii before = record {
  line = record { number = i + 1; text = l };
  rest = from (i + 1 + 1) (drop (i + 1) ls);
  split = before ∙ ap (λ (xs : List Line). found ++ xs) (line_found (i + 1) ls i l lt at mark);
  numbered = refl;
  other = not_ascii l b cases no_ascii;
}
