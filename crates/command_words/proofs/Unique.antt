-- Words say one command.
use Rattle.std.proofs.Common.{◌≡◌, ℕ, Bool, true, false, List, Option, Some, None, refl, sym, ap, ap₂, ◌∙◌, codes}
use Rattle.std.specs.Str.{bytes_eq}
use Rattle.std.specs.Str.Parse.{digits_value, without_leading_plus}
use Rattle.clap.specs.Words.{Row, Text, subcommand_of}
use Rattle.command_words.specs.declared.command.Command.{Command}
use Rattle.command_words.specs.declared.command.Command.TheVariants.{Check, Recheck, Flat, Ring}
use Rattle.command_words.specs.declared.command.Effort.{Effort}
use Rattle.command_words.specs.declared.command.Ring.{Ring as RingOf}
use Rattle.command_words.specs.Grammar.{HasEffort, HasFlag, HasNumber, HasRing, Tells, Says, check_row, flat_row, program, recheck_row, ring_row}

same_number : (rows : List Row) (word : Text) (least most n m : ℕ) → HasNumber rows word least most n → HasNumber rows word least most m → n ≡ m
same_number rows word least most n m a b =
    let same : a.text ≡ b.text = cc in
    a.read.1 ∙ ap (λ (t : Text). digits_value 10 (without_leading_plus t)) same ∙ sym b.read.1

same_flag : (rows : List Row) (word : Text) (a b : Bool) → HasFlag rows word a → HasFlag rows word b → a ≡ b
same_flag rows word true true x y = refl
same_flag rows word false false x y = refl
same_flag rows word true false x y = let e : Some (codes "true") ≡ Some (codes "false") = sym x ∙ y in cc
same_flag rows word false true x y = let e : Some (codes "false") ≡ Some (codes "true") = sym x ∙ y in cc

abbrev effort_with : ℕ → ℕ → ℕ → ℕ → ℕ → Bool → Bool → Effort
effort_with workers conflicts bound frames counter together cert =
    record { workers = workers; conflicts = conflicts; bound = bound; frames = frames; counter = counter; together = together; cert = cert }

same_effort : (rows : List Row) (a b : Effort) → HasEffort rows a → HasEffort rows b → a ≡ b
same_effort rows a b h k =
    ap (λ (n : ℕ). effort_with n a.conflicts a.bound a.frames a.counter a.together a.cert) (same_number rows _ _ _ a.workers b.workers h.workers k.workers)
    ∙ ap₂ (λ (n m : ℕ). effort_with b.workers n m a.frames a.counter a.together a.cert) (same_number rows _ _ _ a.conflicts b.conflicts h.conflicts k.conflicts) (same_number rows _ _ _ a.bound b.bound h.bound k.bound)
    ∙ ap₂ (λ (n m : ℕ). effort_with b.workers b.conflicts b.bound n m a.together a.cert) (same_number rows _ _ _ a.frames b.frames h.frames k.frames) (same_number rows _ _ _ a.counter b.counter h.counter k.counter)
    ∙ ap₂ (λ (t u : Bool). effort_with b.workers b.conflicts b.bound b.frames b.counter t u) (same_flag rows _ a.together b.together h.together k.together) (same_flag rows _ a.cert b.cert h.cert k.cert)

abbrev ring_with : ℕ → ℕ → ℕ → RingOf
ring_with cells seed workers = record { cells = cells; seed = seed; workers = workers }

same_ring : (rows : List Row) (a b : RingOf) → HasRing rows a → HasRing rows b → a ≡ b
same_ring rows a b h k =
    ap₂ (λ (n m : ℕ). ring_with n m a.workers) (same_number rows _ _ _ a.cells b.cells h.cells k.cells) (same_number rows _ _ _ a.seed b.seed h.seed k.seed)
    ∙ ap (ring_with b.cells b.seed) (same_number rows _ _ _ a.workers b.workers h.workers k.workers)

-- the word `self` is that of no other command
ring_apart : (word : Text) → word ≡ ring_row.word → (word ≡ check_row.word → ⊥) × (word ≡ recheck_row.word → ⊥) × (word ≡ flat_row.word → ⊥)
ring_apart word e = (
  λ f. let no : true ≡ false = ap (bytes_eq check_row.word) (sym f ∙ e) in cc,
  λ f. let no : true ≡ false = ap (bytes_eq recheck_row.word) (sym f ∙ e) in cc,
  λ f. let no : true ≡ false = ap (bytes_eq flat_row.word) (sym f ∙ e) in cc,
)

same_command : (found : Option (Text × List Row)) (a b : Command) → Tells found a → Tells found b → a ≡ b
same_command None a b h k = absurd h
same_command (Some found) (Check a) (Check b) (e, h) (f, k) = ap Check (same_effort found.1 a b h k)
same_command (Some found) (Recheck a) (Recheck b) (e, h) (f, k) = ap Recheck (same_flag found.1 _ a b h k)
same_command (Some found) Flat Flat e f = refl
same_command (Some found) (Check a) Flat (e, h) f = cc
same_command (Some found) Flat (Check a) f (e, h) = cc
same_command (Some found) (Check a) (Recheck b) (e, h) (f, k) = cc
same_command (Some found) (Recheck b) (Check a) (f, k) (e, h) = cc
same_command (Some found) (Recheck a) Flat (e, h) f = cc
same_command (Some found) Flat (Recheck a) f (e, h) = cc
same_command (Some found) (Ring a) (Ring b) (e, h) (f, k) = ap Ring (same_ring found.1 a b h k)
same_command (Some found) (Ring a) (Check b) (e, h) (f, k) = absurd ((ring_apart found.0 e).0 f)
same_command (Some found) (Check b) (Ring a) (f, k) (e, h) = absurd ((ring_apart found.0 e).0 f)
same_command (Some found) (Ring a) (Recheck b) (e, h) (f, k) = absurd ((ring_apart found.0 e).1 f)
same_command (Some found) (Recheck b) (Ring a) (f, k) (e, h) = absurd ((ring_apart found.0 e).1 f)
same_command (Some found) (Ring a) Flat (e, h) f = absurd ((ring_apart found.0 e).2 f)
same_command (Some found) Flat (Ring a) f (e, h) = absurd ((ring_apart found.0 e).2 f)

pub said_once : (words : List Text) (first second : Command) → Says words first → Says words second → first ≡ second
said_once words first second (e, h) (f, k) = same_command (subcommand_of program words) first second h k
