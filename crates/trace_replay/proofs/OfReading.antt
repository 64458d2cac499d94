-- A line says one thing at most; what lines say is read line by line.
use Rattle.std.proofs.Common.{◌≡◌, ℕ, ◌+◌, ◌<◌, ◌^◌, true, List, [], ◌∷◌, ◌++◌, length, map, take, get_or, codes, Option, None, Some, Result, Ok, Err, IfOk, refl, sym, subst, ap, ◌∙◌, arith}
use Rattle.std.specs.Fmt.{decimal}
use Rattle.std.specs.List.{list_all}
use Rattle.std.specs.Option.{option_map}
use Rattle.std.proofs.lemmas.Bool.{and_from, and_parts, ltb-true}
use Rattle.std.proofs.lemmas.Fmt.{decimal_injective}
use Rattle.std.proofs.lemmas.Grind.{fold-append}
use Rattle.std.proofs.lemmas.List.{length-map, map-append, take_more}
use Rattle.std.proofs.lemmas.List.Folds.{list_all-append}
use Rattle.std.proofs.Math.ListN.{get_or-map}
use Rattle.std.proofs.lemmas.Option.{slice_get-get_or}
use Rattle.smv_tree.specs.declared.refusal.Refusal.{Refusal}
use Rattle.trace_replay.specs.declared.entry.Binding.{Binding}
use Rattle.trace_replay.specs.declared.entry.TraceLine.{TraceLine}
use Rattle.trace_replay.specs.declared.entry.TraceLine.TheVariants as entry
use Rattle.trace_replay.specs.declared.reading.Reading.{Reading}
use Rattle.trace_replay.specs.declared.source.Line.{Line}
use Rattle.trace_replay.specs.declared.trace.Trace.{Trace}
use Rattle.trace_replay.specs.Lines.{entry_text}
use Rattle.trace_replay.specs.Reading.{Holds, IsRefusedAt, all_read, closed, followed, followed_by, in_form, is_binding, is_small, nothing_read, refusal_at, texts}
use Rattle.trace_replay.specs.Steps.{Follows, IsAfter, IsRead}
use Rattle.trace_replay.specs.Words.{binding_words, bindings_in, entry_words, without_last, words}
use Rattle.trace_replay.proofs.OfTexts.{words_of}
use Rattle.trace_replay.proofs.OfWords.{apart, behind_third, second, third, without_last-push, words_back}

-- One entry for one line.

some_is : {A : Type 0} (a b : A) → Some a ≡ Some b → a ≡ b
some_is a b e = cc

same_numbered : (i j : ℕ) → i < 2 ^ 64 → j < 2 ^ 64 → decimal i ++ codes ":" ≡ decimal j ++ codes ":" → i ≡ j
same_numbered i j h k e = decimal_injective i j h k (some_is _ _ (sym (without_last-push 58 (decimal i)) ∙ ap (without_last 58) e ∙ without_last-push 58 (decimal j)))

same_bindings : (xs ys : List Binding) → list_all is_binding xs ≡ true → list_all is_binding ys ≡ true → binding_words xs ≡ binding_words ys → xs ≡ ys
same_bindings xs ys h k e = some_is _ _ (sym (words_back xs h) ∙ ap bindings_in e ∙ words_back ys k)

same_words : (e f : TraceLine) → in_form e ≡ true → in_form f ≡ true → entry_words e ≡ entry_words f → e ≡ f
same_words (entry.Spec n) (entry.Spec m) h k is = ap entry.Spec (decimal_injective n m (ltb-true n (2 ^ 64) h) (ltb-true m (2 ^ 64) k) (third _ _ _ _ _ _ _ _ is))
same_words (entry.Spec n) (entry.State i bs) h k is = absurd (apart (codes "spec") (codes "state") refl (second _ _ _ _ _ _ is))
same_words (entry.Spec n) (entry.Input i bs) h k is = absurd (apart (codes "spec") (codes "input") refl (second _ _ _ _ _ _ is))
same_words (entry.Spec n) (entry.Loop m) h k is = absurd (apart (codes "spec") (codes "loop") refl (second _ _ _ _ _ _ is))
same_words (entry.State i bs) (entry.Spec n) h k is = absurd (apart (codes "state") (codes "spec") refl (second _ _ _ _ _ _ is))
same_words (entry.State i bs) (entry.State j cs) h k is =
    let a = and_parts (is_small i) (list_all is_binding bs) h in
    let b = and_parts (is_small j) (list_all is_binding cs) k in
    ap (λ n. entry.State n bs) (same_numbered i j (ltb-true i (2 ^ 64) a.0) (ltb-true j (2 ^ 64) b.0) (third _ _ _ _ _ _ _ _ is))
    ∙ ap (λ (l : List Binding). entry.State j l) (same_bindings bs cs a.1 b.1 (behind_third _ _ _ _ _ _ _ _ is))
same_words (entry.State i bs) (entry.Input j cs) h k is = absurd (apart (codes "state") (codes "input") refl (second _ _ _ _ _ _ is))
same_words (entry.State i bs) (entry.Loop m) h k is = absurd (apart (codes "state") (codes "loop") refl (second _ _ _ _ _ _ is))
same_words (entry.Input i bs) (entry.Spec n) h k is = absurd (apart (codes "input") (codes "spec") refl (second _ _ _ _ _ _ is))
same_words (entry.Input i bs) (entry.State j cs) h k is = absurd (apart (codes "input") (codes "state") refl (second _ _ _ _ _ _ is))
same_words (entry.Input i bs) (entry.Input j cs) h k is =
    let a = and_parts (is_small i) (list_all is_binding bs) h in
    let b = and_parts (is_small j) (list_all is_binding cs) k in
    ap (λ n. entry.Input n bs) (same_numbered i j (ltb-true i (2 ^ 64) a.0) (ltb-true j (2 ^ 64) b.0) (third _ _ _ _ _ _ _ _ is))
    ∙ ap (λ (l : List Binding). entry.Input j l) (same_bindings bs cs a.1 b.1 (behind_third _ _ _ _ _ _ _ _ is))
same_words (entry.Input i bs) (entry.Loop m) h k is = absurd (apart (codes "input") (codes "loop") refl (second _ _ _ _ _ _ is))
same_words (entry.Loop n) (entry.Spec m) h k is = absurd (apart (codes "loop") (codes "spec") refl (second _ _ _ _ _ _ is))
same_words (entry.Loop n) (entry.State i bs) h k is = absurd (apart (codes "loop") (codes "state") refl (second _ _ _ _ _ _ is))
same_words (entry.Loop n) (entry.Input i bs) h k is = absurd (apart (codes "loop") (codes "input") refl (second _ _ _ _ _ _ is))
same_words (entry.Loop n) (entry.Loop m) h k is = ap entry.Loop (decimal_injective n m (ltb-true n (2 ^ 64) h) (ltb-true m (2 ^ 64) k) (third _ _ _ _ _ _ _ _ is))

head_is : {A : Type 0} (a b : A) (xs ys : List A) → a ∷ xs ≡ b ∷ ys → a ≡ b
head_is a b xs ys e = cc

tail_is : {A : Type 0} (a b : A) (xs ys : List A) → a ∷ xs ≡ b ∷ ys → xs ≡ ys
tail_is a b xs ys e = cc

pub same_entry : (e f : TraceLine) → in_form e ≡ true → in_form f ≡ true → entry_text e ≡ entry_text f → e ≡ f
same_entry e f h k is = same_words e f h k (sym (words_of e h) ∙ ap words is ∙ words_of f k)

pub same_entries : (es fs : List TraceLine) → list_all in_form es ≡ true → list_all in_form fs ≡ true → map entry_text es ≡ map entry_text fs → es ≡ fs
same_entries [] [] h k is = refl
same_entries [] (f ∷ fs) h k is = absurd (let never : ⊥ = cc in never)
same_entries (e ∷ es) [] h k is = absurd (let never : ⊥ = cc in never)
same_entries (e ∷ es) (f ∷ fs) h k is =
    let a = and_parts (in_form e) (list_all in_form es) h in
    let b = and_parts (in_form f) (list_all in_form fs) k in
    let heads : entry_text e ≡ entry_text f = head_is _ _ _ _ is in
    let tails : map entry_text es ≡ map entry_text fs = tail_is _ _ _ _ is in
    ap (λ (x : TraceLine). x ∷ es) (same_entry e f a.0 b.0 heads) ∙ ap (λ (l : List TraceLine). f ∷ l) (same_entries es fs a.1 b.1 tails)

-- What a line says, and what is read then.
pub after_if_ok : {E : Type 0} (r : Reading) (text : List ℕ) (e : TraceLine) (o : Result (Option Reading) E) → in_form e ≡ true → text ≡ entry_text e → IfOk o (λ s. s ≡ followed r e) → IfOk o (IsAfter r text)
after_if_ok r text e (Ok None) formed is h = λ f k same. ap (followed r) (same_entry f e k formed (sym same ∙ is)) ∙ sym h
after_if_ok r text e (Ok (Some s)) formed is h = record { entry = e; formed = formed; is = is; read = sym h }
after_if_ok r text e (Err x) formed is h = h

-- One line more.
all_more : (specs : ℕ) (es : List TraceLine) (e : TraceLine) → all_read specs (es ++ e ∷ []) ≡ followed_by (all_read specs es) e
all_more specs es e = fold-append followed_by (Some (nothing_read specs)) es (e ∷ [])

pub read_none : (specs : ℕ) (r : Reading) → r ≡ nothing_read specs → IsRead specs [] r
read_none specs r is = record { entries = []; formed = refl; text = refl; read = ap (λ (x : Reading). Some x) (sym is) }

pub read_more : (specs : ℕ) (lines : List (List ℕ)) (text : List ℕ) (r s : Reading) → IsRead specs lines r → Follows r text s → IsRead specs (lines ++ text ∷ []) s
read_more specs lines text r s before next = record {
  entries = before.entries ++ next.entry ∷ [];
  formed = list_all-append in_form before.entries (next.entry ∷ []) ∙ and_from (list_all in_form before.entries) (list_all in_form (next.entry ∷ [])) before.formed (and_from (in_form next.entry) true next.formed refl);
  text = ap (λ (l : List (List ℕ)). l ++ text ∷ []) before.text ∙ ap (λ (l : List ℕ). map entry_text before.entries ++ l ∷ []) next.is ∙ sym (map-append entry_text before.entries (next.entry ∷ []));
  read = all_more specs before.entries next.entry ∙ ap (λ (o : Option Reading). followed_by o next.entry) before.read ∙ next.read;
}

pub held : (specs : ℕ) (lines : List (List ℕ)) (r : Reading) (traces : List (Option Trace)) → IsRead specs lines r → traces ≡ closed r → Holds specs lines traces
held specs lines r traces h is = record {
  entries = h.entries;
  formed = h.formed;
  text = h.text;
  told = ap (option_map closed) h.read ∙ ap (λ (l : List (Option Trace)). Some l) (sym is);
}

pub record IsPushed (es : List TraceLine) (front : List (List ℕ)) (text : List ℕ) : Type 0 where
  pub before : List TraceLine
  pub last : TraceLine
  pub all : es ≡ before ++ last ∷ []
  pub texts_before : map entry_text before ≡ front
  pub text_last : entry_text last ≡ text

pushed_from : (es : List TraceLine) (front : List (List ℕ)) (text : List ℕ) → map entry_text es ≡ front ++ text ∷ [] → IsPushed es front text
pushed_from [] [] text is = absurd (let never : ⊥ = cc in never)
pushed_from [] (f ∷ front) text is = absurd (let never : ⊥ = cc in never)
pushed_from (e ∷ []) [] text is = record { before = []; last = e; all = refl; texts_before = refl; text_last = head_is _ _ _ _ is }
pushed_from (e ∷ d ∷ es) [] text is = absurd (let rest = tail_is _ _ _ _ is in let never : ⊥ = cc in never)
pushed_from (e ∷ es) (f ∷ front) text is =
    let more = pushed_from es front text (tail_is _ _ _ _ is) in
    record {
      before = e ∷ more.before;
      last = more.last;
      all = ap (λ (l : List TraceLine). e ∷ l) more.all;
      texts_before = ap (λ (l : List ℕ). l ∷ map entry_text more.before) (head_is _ _ _ _ is) ∙ ap (λ (l : List (List ℕ)). f ∷ l) more.texts_before;
      text_last = more.text_last;
    }

-- with a line that may not follow, the lines hold no traces
pub none_held : (specs : ℕ) (lines : List (List ℕ)) (text : List ℕ) (r : Reading) → IsRead specs lines r → IsAfter r text None → (ts : List (Option Trace)) → Holds specs (lines ++ text ∷ []) ts → ⊥
none_held specs lines text r before stop ts h =
    let parts = pushed_from h.entries lines text (sym h.text) in
    let formed = and_parts (list_all in_form parts.before) (list_all in_form (parts.last ∷ [])) (sym (list_all-append in_form parts.before (parts.last ∷ [])) ∙ ap (list_all in_form) (sym parts.all) ∙ h.formed) in
    let last = (and_parts (in_form parts.last) true formed.1).0 in
    let same : parts.before ≡ before.entries = same_entries parts.before before.entries formed.0 before.formed (parts.texts_before ∙ before.text) in
    let none : all_read specs h.entries ≡ None =
    ap (all_read specs) parts.all ∙ all_more specs parts.before parts.last
    ∙ ap (λ (o : Option Reading). followed_by o parts.last) (ap (all_read specs) same ∙ before.read)
    ∙ stop parts.last last (sym parts.text_last) in
    let clash : None ≡ Some ts = ap (option_map closed) (sym none) ∙ h.told in
    let never : ⊥ = cc in never

pub texts_more : (lines : List Line) (i : ℕ) (line : Line) → i < length lines → line ≡ get_or lines i line → take (i + 1) (texts lines) ≡ take i (texts lines) ++ line.text ∷ []
texts_more lines i line within is =
    let long = length-map lines (λ (l : Line). l.text) in
    take_more (texts lines) i line.text (omega (arith, within, long))
    ∙ ap (λ (l : List ℕ). take i (texts lines) ++ l ∷ []) (get_or-map (λ (l : Line). l.text) lines i line ∙ ap (λ (l : Line). l.text) (sym is))

pub refused_at : (specs : ℕ) (lines : List Line) (i : ℕ) (line : Line) (r : Reading) (refusal : Refusal) → i < length lines → line ≡ get_or lines i line
    → IsRead specs (take i (texts lines)) r → IsAfter r line.text None → refusal ≡ refusal_at line.number → IsRefusedAt specs lines refusal
refused_at specs lines i line r refusal within is before stop told = record {
  before = i;
  line = line;
  here = slice_get-get_or lines i line within ∙ ap (λ (x : Line). Some x) (sym is);
  traces = closed r;
  good = held specs (take i (texts lines)) r (closed r) before refl;
  bad = λ ts h.
      none_held specs (take i (texts lines)) line.text r before stop ts
      (subst (λ (l : List (List ℕ)). Holds specs l ts) (texts_more lines i line within is) h);
  told = told;
}
