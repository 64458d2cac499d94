-- Bytes that a command takes get their report.
use Rattle.std.proofs.Common.{◌≡◌, ◌⊎◌, inl, inr, ℕ, ◌≤◌, Bool, true, false, List, sym, subst, ◌∙◌, arith, refl, Some, None, IfSome}
use Rattle.std.specs.Prelude.{if◌then◌else◌}
use Rattle.std.specs.declared.option.Option.{Option}
use Rattle.hinted_log.specs.Hints.{HintedLog}
use Rattle.cert_core.specs.Blocks.{Block}
use Rattle.command_words.specs.declared.command.Command.{Command}
use Rattle.command_words.specs.declared.command.Command.TheVariants.{Check, Recheck, Flat, Ring}
use Rattle.command_words.specs.Grammar.{Says}
use Rattle.command_words.proofs.Unique.{said_once}
use Rattle.smv_tree.specs.declared.refusal.Refusal.{Refusal}
use Rattle.smv_tree.specs.declared.tree.Program.{Program}
use Rattle.smv_front.proofs.OfSources.{never_both, program_once}
use Rattle.trace_replay.specs.declared.trace.Trace.{Trace}
use Rattle.trace_replay.proofs.LawsOfReading.{held_or_refused}
use Rattle.smv_recheck.specs.declared.judgement.Record.{Record as JudgedAgain}
use Rattle.smv_recheck.specs.Checking.{status_of as status_again}
use Rattle.smv_recheck.specs.Lines.{trace_lines}
use Rattle.smv_recheck.specs.Refusing.{Holdings, IsRefusedBeside, as_model, beside, certificate, spec_count, trace}
use Rattle.smv_cli.specs.declared.record.Record.{Record}
use Rattle.smv_cli.specs.Records.{status_of}
use Rattle.smv_cli.specs.declared.preparing.Preparation.{Preparation}
use Rattle.smv_cli.specs.declared.preparing.Preparation.TheVariants.{Sound, Spent}
use Rattle.smv_cli.specs.Prepared.{IsRefusedOrFaulty, status_by}
use Rattle.smv_cli.proofs.OfPreparing.{never_faulty}
use Rattle.smv_meaning.specs.Faults.{IsFaultFree}
use Rattle.smv_cli.specs.Report.{IsFaultFreeModel, IsRefusedIn, IsTaken, input_of, CommandReport, CommandStage, nothing, refused, judging, judged, rechecked, listed, Stage, begun, said, usage, WritesReport}

-- lines that are as they should be are not refused
beside_apart : (p : Program) (text : List ℕ) (traces : List (Option Trace)) (sound : Option (List (Option HintedLog))) (certificates : List (Option Block)) (r : Refusal)
    → Holdings p text traces sound certificates → IsRefusedBeside p text r → ⊥
beside_apart p text traces sound certificates r held (trace h earlier) = held_or_refused (spec_count p) (trace_lines text) traces r held.traced h
beside_apart p text traces sound certificates r held (certificate line e earlier is) = cc (held.certified, e)

-- a model of which no item faults is refused by no rule, and not since an item faults
neither : (bytes : List ℕ) (r : Refusal) → IsFaultFreeModel bytes → IsRefusedOrFaulty bytes r → ⊥
neither bytes r (p, model, free) (inl h) = never_both bytes p r model h
neither bytes r (p, model, free) (inr h) =
    let same : p ≡ h.program = program_once bytes p h.program model h.model in
    never_faulty h.program r (subst IsFaultFree same free) h.faulty

not_refused : (command : Command) (bytes : List ℕ) (r : Refusal) → IsTaken command bytes → IsRefusedIn command bytes r → ⊥
not_refused (Check effort) bytes r taken h = neither bytes r taken h
not_refused (Recheck upgrade) bytes r taken (as_model h) = never_both bytes taken.program r taken.model h
not_refused (Recheck upgrade) bytes r taken (beside p model h) =
    let same : p ≡ taken.program = program_once bytes p taken.program model taken.model in
    beside_apart taken.program bytes taken.traces taken.sound taken.certificates r taken.held (subst (λ (q : Program). IsRefusedBeside q bytes r) same h)
not_refused Flat bytes r (p, model) h = never_both bytes p r model h
not_refused (Ring ring) bytes r taken h = neither bytes r taken h

status_by_small : (a b : Bool) → (if a then 1 else if b then 2 else 0) ≤ 2
status_by_small true b = omega arith
status_by_small false true = omega arith
status_by_small false false = omega arith

status_small : (rs : List Record) → status_of rs ≤ 2
status_small rs = status_by_small _ _

status_by_how_small : (how : Preparation) (rs : List Record) → status_by how rs ≤ 2
status_by_how_small (Sound parts) rs = status_small rs
status_by_how_small (Spent drawn budget) rs = omega arith

pub status_again_small : (rs : List JudgedAgain) → status_again rs ≤ 2
status_again_small rs = status_by_small _ _

module _ (bytes t : List ℕ) (s : Option ℕ) (n : ℕ) where
  command_status : (command : Command) → s ≡ Some n → IsTaken command bytes → CommandStage command bytes t s → n ≤ 2
  command_status command e taken (nothing a b) = let h : None ≡ Some n = sym b ∙ e in cc
  command_status command e taken (refused r h a b) = absurd (not_refused command bytes r taken h)
  command_status command e taken (judging effort p how records is j a b) = let h : None ≡ Some n = sym b ∙ e in cc
  command_status command e taken (judged effort p how records is j k a b) =
      let h : status_by how records ≡ n = cc in
      subst (λ (m : ℕ). m ≤ 2) h (status_by_how_small how records)
  command_status command e taken (rechecked upgrade c is again a b) =
      let h : status_again c.records ≡ n = cc in
      subst (λ (m : ℕ). m ≤ 2) h (status_again_small c.records)
  command_status command e taken (listed p is m a b) = let h : Some 0 ≡ Some n = sym b ∙ e in let same : 0 ≡ n = cc in omega (arith, same)

module _ (bytes t : List ℕ) (s : Option ℕ) (n : ℕ) where
  words_status : (words : List (List ℕ)) (command : Command) → s ≡ Some n → Says words command → IsTaken command (input_of command bytes) → Stage words bytes t s → n ≤ 2
  words_status words command e says taken (begun a b) = let h : None ≡ Some n = sym b ∙ e in cc
  words_status words command e says taken (said other also stage) =
      command_status (input_of command bytes) t s n command e taken (subst (λ (c : Command). CommandReport c bytes t s) (said_once words other command also says) stage)
  words_status words command e says taken (usage outside a b) = absurd (outside says.0)

answered_status : (words : List (List ℕ)) (command : Command) (bytes : List ℕ) (before now : Option (List ℕ)) (n : ℕ) → Says words command → IsTaken command (input_of command bytes)
    → WritesReport (Stage words) (Some bytes) before now n → n ≤ 2
answered_status words command bytes before now n says taken a =
    words_status bytes a.text (Some n) n words command refl says taken (subst (λ (b : List ℕ). Stage words b a.text (Some n)) a.held a.whole)

pub complete : (words : List (List ℕ)) (command : Command) (left before now : Option (List ℕ)) (n : ℕ) → Says words command → n ≤ 7 → (n ≡ 5 → ⊥) → (n ≡ 6 → ⊥)
    → (n ≤ 4 → WritesReport (Stage words) left before now n) → IfSome left (λ bytes. IsTaken command (input_of command bytes) → (n ≤ 2) ⊎ (n ≡ 7))
complete words command None before now n says h five six answered = tt
complete words command (Some bytes) before now n says h five six answered = λ taken.
    let split : (n ≤ 4) ⊎ (n ≡ 7) = grind arith in
    elim split [ inl small ↦ inl (answered_status words command bytes before now n says taken (answered small)) | inr seven ↦ inr seven ]
