-- A whole sound block, line by line.
use Rattle.std.proofs.Common.{◌≡◌, ℕ, ◌+◌, ◌<◌, ◌≤◌, true, ◌&&◌, List, [], ◌∷◌, ◌++◌, length, get_or, set, replicate, Option, None, Some, codes, refl, sym, subst, ap, ◌∙◌, arith, append_assoc, ltb}
use Rattle.std.specs.List.{All}
use Rattle.std.specs.Option.{is_none}
use Rattle.std.proofs.lemmas.Bool.{and_from, cond-true, lt-ltb}
use Rattle.std.proofs.lemmas.List.{get_or_at, length-append, length-set, length_push, set_at}
use Rattle.std.proofs.lemmas.List.Elements.{All-head, All-tail}
use Rattle.hinted_log.specs.Hints.{HintedLog}
use Rattle.cert_core.specs.declared.form.Form.TheVariants.{Plain}
use Rattle.cert_core.specs.Blocks.{LogFits, PartFits}
use Rattle.cert_text.specs.declared.token.Token.{Token}
use Rattle.cert_text.specs.declared.token.Token.TheVariants as word
use Rattle.cert_text.specs.declared.reading.Open.{Open}
use Rattle.cert_text.specs.declared.reading.Open.TheVariants.{Sound}
use Rattle.cert_text.specs.Tokens.{greatest}
use Rattle.cert_text.specs.Lines.{Step, step_of}
use Rattle.cert_text.specs.Open.{OpenItems, closed_items, item_step_line, no_steps, with_step}
use Rattle.cert_text.specs.Printed.{end_text, line_end, part_text, parts_text, sound_text, steps_text}
use Rattle.cert_text.specs.Reading.{ReadSoFar, added, is_closed, nothing, sound_open, with_block}
use Rattle.cert_text_laws.specs.Readable.{AreReadable, AreReadableHints, HasNoSound, IsReadablePart, LeadsTo, with_sound}
use Rattle.cert_text_laws.proofs.Leading.{Ends, Leads, ends_line, ends_then, leads_line, leads_none, leads_then, leads_to}
use Rattle.cert_text_laws.proofs.Logs.{steps_lead}
use Rattle.cert_text_laws.proofs.Steps.{part_said}
use Rattle.cert_text_laws.proofs.Certificates.{missing, missing_are}

abbrev with_items : ReadSoFar → OpenItems → ReadSoFar
with_items r o = record r { block = Sound o }

-- the steps of this item are being read
abbrev in_item : List (Option HintedLog) → ℕ → HintedLog → OpenItems
in_item xs i steps = record { items = xs; item = Some i; steps = steps }

step_adds : (items : ℕ) (r : ReadSoFar) (xs : List (Option HintedLog)) (i : ℕ) (log : HintedLog) (ts : List Token) (x : Step) → step_of Plain ts ≡ Some x
    → added items (with_items r (in_item xs i log)) (word.Mark ∷ word.Step ∷ ts) ≡ Some (with_items r (in_item xs i (with_step log x)))
step_adds items r xs i log ts x e = ap (λ (o : Option Step). with_block (with_items r (in_item xs i log)) (sound_open (item_step_line (in_item xs i log) o))) e

-- what is read is xs
record IsAt (xs : List (Option HintedLog)) (o : OpenItems) : Type 0 where
  all : closed_items o ≡ xs
  count : length o.items ≡ length xs

record Reaches (items : ℕ) (text : List ℕ) (r : ReadSoFar) (o : OpenItems) (xs : List (Option HintedLog)) : Type 0 where
  next : OpenItems
  at : IsAt xs next
  leads : Leads items text (with_items r o) (with_items r next)

reaches_none : (items : ℕ) (r : ReadSoFar) (o : OpenItems) (xs : List (Option HintedLog)) → IsAt xs o → Reaches items [] r o xs
reaches_none items r o xs at = record { next = o; at = at; leads = leads_none items (with_items r o) }

reaches_same : (items : ℕ) (r : ReadSoFar) (x : List ℕ) (o : OpenItems) (xs ys : List (Option HintedLog)) → xs ≡ ys → Reaches items x r o xs → Reaches items x r o ys
reaches_same items r x o xs ys e h = subst (λ (l : List (Option HintedLog)). Reaches items x r o l) e h

item_reaches : (items : ℕ) (r : ReadSoFar) (xs : List (Option HintedLog)) (o : OpenItems) (i : ℕ) (log : HintedLog) → IsAt xs o → i < length xs → i ≤ greatest → get_or xs i None ≡ None → LogFits Plain log → AreReadableHints log
    → Reaches items (part_text Plain (codes "item") i (Some log)) r o (set xs i (Some log))
item_reaches items r xs o i log at within few none fits hints =
    let here = with_items r o in
    let begun = with_items r (in_item xs i no_steps) in
    let ended = with_items r (in_item xs i log) in
    let may : ltb i (length o.items) && is_none (get_or (closed_items o) i None) ≡ true =
    and_from (ltb i (length o.items)) (is_none (get_or (closed_items o) i None)) (lt-ltb i (length o.items) (let is = at.count in omega (arith, is, within)))
    (ap (λ (l : List (Option HintedLog)). is_none (get_or l i None)) at.all ∙ ap (λ (p : Option HintedLog). is_none p) none) in
    record {
      next = in_item xs i log;
      at = record { all = refl; count = sym (length-set xs i (Some log)) };
      leads =
          leads_then items _ (steps_text Plain log.steps log.hints) here begun ended
          (leads_line items _ (word.Mark ∷ word.Part ∷ word.Item ∷ word.Number i ∷ []) here begun (part_said (codes "item") word.Item i (record { token = refl; no_space = refl; no_feed = refl }) few) refl
          (ap (λ (x : Option OpenItems). with_block here (sound_open x)) (cond-true (ltb i (length o.items) && is_none (get_or (closed_items o) i None)) (Some (in_item (closed_items o) i no_steps)) None may)
          ∙ ap (λ (l : List (Option HintedLog)). Some (with_items r (in_item l i no_steps))) at.all))
          (steps_lead items Plain (λ l. with_items r (in_item xs i l)) (step_adds items r xs i) log fits hints);
    }

one_reached : (items : ℕ) (r : ReadSoFar) (done ps : List (Option HintedLog)) (p : Option HintedLog) (o : OpenItems) → length done < greatest → PartFits Plain p → IsReadablePart p → IsAt (done ++ None ∷ ps) o
    → Reaches items (part_text Plain (codes "item") (length done) p) r o ((done ++ p ∷ []) ++ ps)
one_reached items r done ps None o few fits hints at =
    reaches_same items r [] o _ _ (sym (append_assoc done (None ∷ []) ps)) (reaches_none items r o (done ++ None ∷ ps) at)
one_reached items r done ps (Some log) o few fits hints at =
    let i = length done in
    reaches_same items r (part_text Plain (codes "item") i (Some log)) o _ _ (set_at done None ps (Some log) i refl ∙ sym (append_assoc done (Some log ∷ []) ps))
    (item_reaches items r (done ++ None ∷ ps) o i log at (let long = length-append done (None ∷ ps) in omega (arith, long)) (omega (arith, few)) (get_or_at done None ps None i refl) (fits log refl) (hints log refl))

all_reached : (items : ℕ) (r : ReadSoFar) (ps done : List (Option HintedLog)) (o : OpenItems) → length done + length ps ≤ greatest → All (PartFits Plain) ps → All IsReadablePart ps → IsAt (done ++ missing ps) o
    → Reaches items (parts_text Plain (codes "item") (length done) ps) r o (done ++ ps)
all_reached items r [] done o few fits hints at = reaches_none items r o (done ++ []) at
all_reached items r (p ∷ ps) done o few fits hints at =
    let first = one_reached items r done (missing ps) p o (omega (arith, few)) (All-head (PartFits Plain) p ps fits) (All-head IsReadablePart p ps hints) at in
    let more = done ++ p ∷ [] in
    let long : length more ≡ length done + 1 = length_push done p in
    let rest = all_reached items r ps more first.next (omega (arith, few, long)) (All-tail (PartFits Plain) p ps fits) (All-tail IsReadablePart p ps hints) first.at in
    let numbered = subst (λ m. Reaches items (parts_text Plain (codes "item") m ps) r first.next (more ++ ps)) long rest in
    reaches_same items r (parts_text Plain (codes "item") (length done) (p ∷ ps)) o _ _ (append_assoc done (p ∷ []) ps)
    (record {
      next = numbered.next;
      at = numbered.at;
      leads = leads_then items (part_text Plain (codes "item") (length done) p) (parts_text Plain (codes "item") (length done + 1) ps) (with_items r o) (with_items r first.next) (with_items r numbered.next) first.leads numbered.leads;
    })

sound_closes : (items : ℕ) (r : ReadSoFar) (xs : List (Option HintedLog)) (o : OpenItems) → IsAt xs o → HasNoSound r → Ends items end_text (with_items r o) (with_sound r xs)
sound_closes items r xs o at none =
    ends_line items (codes "--% end") (word.Mark ∷ word.End ∷ []) (with_items r o) (with_sound r xs) (record { tokens = refl; no_feed = refl }) refl
    (ap (λ (l : List (Option HintedLog)). Some record { sound = Some l; certificates = r.certificates; block = nothing }) at.all
    ∙ ap (λ (w : Open). Some record { sound = Some xs; certificates = r.certificates; block = w }) (sym none.closed))

pub sound_ends : (r : ReadSoFar) (xs : List (Option HintedLog)) → AreReadable xs → HasNoSound r → Ends (length xs) (sound_text xs) r (with_sound r xs)
sound_ends r xs readable none =
    let items = length xs in
    let opened : OpenItems = record { items = replicate items None; item = None; steps = no_steps } in
    let begun : Leads items (codes "--% sound" ++ line_end) r (with_items r opened) =
    leads_line items (codes "--% sound") (word.Mark ∷ word.Sound ∷ []) r (with_items r opened) (record { tokens = refl; no_feed = refl }) refl
    (cond-true (is_closed r.block && is_none r.sound) (Some (with_items r opened)) None
    (and_from (is_closed r.block) (is_none r.sound) (ap is_closed none.closed) (ap (λ (o : Option (List (Option HintedLog))). is_none o) none.none))) in
    let at : IsAt (missing xs) opened = record { all = missing_are xs; count = ap (λ (l : List (Option HintedLog)). length l) (missing_are xs) } in
    let few = readable.few in
    let parts = all_reached items r xs [] opened (omega (arith, few)) readable.fits readable.parts at in
    let closes = sound_closes items r xs parts.next parts.at none in
    let t0 = codes "--% sound" ++ line_end in
    let t1 = parts_text Plain (codes "item") 0 xs in
    let h1 = leads_then items t0 t1 r (with_items r opened) (with_items r parts.next) begun parts.leads in
    ends_then items (t0 ++ t1) end_text r (with_items r parts.next) (with_sound r xs) h1 closes

pub sound_read : (r : ReadSoFar) (xs : List (Option HintedLog)) → AreReadable xs → HasNoSound r → LeadsTo (length xs) (sound_text xs) r (with_sound r xs)
sound_read r xs readable none = leads_to (length xs) (sound_text xs) r (with_sound r xs) (sound_ends r xs readable none)
