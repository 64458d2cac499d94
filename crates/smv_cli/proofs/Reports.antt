-- From what the calls below say to a report.
use Rattle.std.proofs.Common.{◌≡◌, ℕ, ◌≤◌, ◌<◌, Bool, List, [], ◌++◌, length, take, sym, ap, subst, ◌∙◌, arith, refl, append_assoc, length-take, take_all, Some, None, Result, Ok, Err, IfOk, inl, inr}
use Rattle.command_words.specs.declared.command.Command.{Command}
use Rattle.command_words.specs.declared.command.Command.TheVariants.{Check, Recheck, Flat, Ring}
use Rattle.command_words.specs.declared.command.Effort.{Effort}
use Rattle.command_words.specs.Grammar.{IsCommandLine, Says}
use Rattle.outside.specs.declared.Stop.{Stop}
use Rattle.std.specs.declared.option.Option.{Option}
use Rattle.std.specs.List.{flat_map}
use Rattle.std.proofs.KnownBytes.{Appends-nil, Appends-trans}
use Rattle.std.specs.Io.KnownBytes.{Appends}
use Rattle.smv_tree.specs.declared.place.Place.{Place}
use Rattle.smv_tree.specs.declared.refusal.Rule.{Rule}
use Rattle.smv_tree.specs.declared.refusal.Refusal.{Refusal}
use Rattle.smv_tree.specs.declared.tree.Program.{Program}
use Rattle.smv_tree.specs.Texts.{refusal_text}
use Rattle.smv_text.specs.Texts.{IsBrokenAt, IsBrokenFirst}
use Rattle.smv_front.specs.Sources.{IsModel, IsRefusedBy, in_text, in_grammar, in_types, in_assignments, in_bits}
use Rattle.smv_recheck.specs.declared.checking.Checked.{Checked}
use Rattle.smv_recheck.specs.Checking.{status_of as status_again}
use Rattle.smv_recheck.specs.Printed.{report_text}
use Rattle.smv_recheck.specs.Refusing.{IsRefused, as_model, beside}
use Rattle.smv_cli.specs.declared.record.Record.{Record}
use Rattle.smv_cli.specs.Streams.{AppendsFront, ReadsFirst}
use Rattle.smv_cli.specs.Listing.{listing_text}
use Rattle.smv_cli.specs.Texts.{record_text, usage_text}
use Rattle.smv_cli.specs.Report.{IsJudged, IsJudgedAgain, IsRefusedIn, effort_of, heading, input_of, CommandReport, CommandStage, nothing, refused, judging, judged, rechecked, listed, Stage, begun, said, usage, SourceHeld, WritesReport, WritesBeginning}
use Rattle.smv_cli.specs.declared.preparing.Preparation.{Preparation}
use Rattle.smv_cli.specs.Prepared.{IsPreparedWith, IsRefusedAsFaulty, IsRefusedOrFaulty, block_text}
use Rattle.smv_cli.specs.Written.{CommandDone, CommandPart, IsInput, WritesModelReport, WritesPartOfModelReport}
use Rattle.smv_cli.proofs.Recording.{AppendsFront-after}
use Rattle.smv_cli.proofs.OfPreparing.{AppendsFront-more, none_right}

-- a command that decides specifications refuses what is no model, and a model of which an item faults
pub refused_on_check : (command : Command) (effort : Effort) (bytes : List ℕ) (r : Refusal) → effort_of command ≡ Some effort → IsRefusedOrFaulty bytes r → IsRefusedIn command bytes r
refused_on_check (Check e) effort bytes r is h = h
refused_on_check (Recheck upgrade) effort bytes r is h = cc
refused_on_check Flat effort bytes r is h = cc
refused_on_check (Ring ring) effort bytes r is h = h

-- a status of records is one of a report
pub small_enough : (result : Result ℕ Stop) → IfOk result (λ (status : ℕ). status ≤ 2) → IfOk result (λ (status : ℕ). status ≤ 3)
small_enough (Ok status) small = omega (arith, small)
small_enough (Err stop) small = tt

module _ (command : Command) where
  pub refused-done : (bytes : List ℕ) (r : Refusal) (old new : Option (List ℕ)) → IsRefusedIn command bytes r → Appends old new (refusal_text r) → CommandDone command bytes old new 3
  refused-done bytes r old new h took = record { text = refusal_text r; took = took; stage = refused r h refl refl }

  pub refused-part : (bytes : List ℕ) (r : Refusal) (old new : Option (List ℕ)) → IsRefusedIn command bytes r → AppendsFront old new (refusal_text r) → CommandPart command bytes old new
  refused-part bytes r old new h took = record { text = refusal_text r; status = Some 3; took = took; stage = refused r h refl refl }

  pub judged-done : (effort : Effort) → effort_of command ≡ Some effort → (bytes : List ℕ) (p : Program) (how : Preparation) (old mid new : Option (List ℕ)) (status : ℕ) → IsModel bytes p
      → IsPreparedWith p effort how → Appends old mid (heading command p) → WritesModelReport p effort how mid new status → CommandDone command bytes old new status
  judged-done effort is bytes p how old mid new status model prepared above made =
      let front = heading command p in
      let block = block_text effort p how in
      let said = flat_map record_text made.records in
      record {
        text = front ++ block ++ said;
        took = subst (Appends old new) (sym (append_assoc front block said)) (Appends-trans old mid new front (block ++ said) above made.took);
        stage = judged effort p how made.records is (record { model = model; prepared = prepared; right = made.right }) made.each refl (ap Some made.worst);
      }

  pub judged-part : (effort : Effort) → effort_of command ≡ Some effort → (bytes : List ℕ) (p : Program) (how : Preparation) (old mid new : Option (List ℕ)) → IsModel bytes p
      → IsPreparedWith p effort how → Appends old mid (heading command p) → WritesPartOfModelReport p effort how mid new → CommandPart command bytes old new
  judged-part effort is bytes p how old mid new model prepared above made =
      let front = heading command p in
      let block = block_text effort p how in
      let said = flat_map record_text made.records in
      record {
        text = front ++ block ++ said;
        status = None;
        took = subst (AppendsFront old new) (sym (append_assoc front block said)) (AppendsFront-after old mid new front (block ++ said) above made.took);
        stage = judging effort p how made.records is (record { model = model; prepared = prepared; right = made.right }) refl refl;
      }

  -- no record is written yet, nor perhaps the whole heading
  pub heading-part : (effort : Effort) → effort_of command ≡ Some effort → (bytes : List ℕ) (p : Program) (how : Preparation) (old new : Option (List ℕ)) → IsModel bytes p
      → IsPreparedWith p effort how → AppendsFront old new (heading command p) → CommandPart command bytes old new
  heading-part effort is bytes p how old new model prepared took =
      let front = heading command p in
      let block = block_text effort p how in
      record {
        text = front ++ block ++ [];
        status = None;
        took = AppendsFront-more old new (front ++ block) [] (AppendsFront-more old new front block took);
        stage = judging effort p how [] is (record { model = model; prepared = prepared; right = none_right p effort how }) refl refl;
      }

  pub listed-part : command ≡ Flat → (bytes : List ℕ) (p : Program) (old new : Option (List ℕ)) → IsModel bytes p → AppendsFront old new (listing_text p) → CommandPart command bytes old new
  listed-part is bytes p old new model took = record { text = listing_text p; status = Some 0; took = took; stage = listed p is model refl refl }

  pub rechecked-part : (upgrade : Bool) → command ≡ Recheck upgrade → (bytes : List ℕ) (c : Checked) (old new : Option (List ℕ)) → IsJudgedAgain bytes upgrade c
      → AppendsFront old new (report_text c) → CommandPart command bytes old new
  rechecked-part upgrade is bytes c old new again took =
      record { text = report_text c; status = Some (status_again c.records); took = took; stage = rechecked upgrade c is again refl refl }

  pub nothing-part : (bytes : List ℕ) (old : Option (List ℕ)) → CommandPart command bytes old old
  nothing-part bytes old = record { text = []; status = None; took = (0, Appends-nil old); stage = nothing refl refl }

  pub judged-result : (effort : Effort) → effort_of command ≡ Some effort → (bytes : List ℕ) (p : Program) (how : Preparation) (old mid new : Option (List ℕ)) (result : Result ℕ Stop) → IsModel bytes p
      → IsPreparedWith p effort how → Appends old mid (heading command p) → IfOk result (λ status. WritesModelReport p effort how mid new status) → IfOk result (λ status. CommandDone command bytes old new status)
  judged-result effort is bytes p how old mid new (Ok status) model prepared above made = judged-done effort is bytes p how old mid new status model prepared above made
  judged-result effort is bytes p how old mid new (Err e) model prepared above made = tt

  pub listed-result : command ≡ Flat → (bytes : List ℕ) (p : Program) (old new : Option (List ℕ)) (result : Result ℕ Stop) → IsModel bytes p
      → IfOk result (λ status. (status ≡ 0) × Appends old new (listing_text p)) → IfOk result (λ status. CommandDone command bytes old new status)
  listed-result is bytes p old new (Ok status) model (zero_is, took) =
      subst (λ (n : ℕ). CommandDone command bytes old new n) (sym zero_is) (record { text = listing_text p; took = took; stage = listed p is model refl refl })
  listed-result is bytes p old new (Err e) model made = tt

  pub rechecked-result : (upgrade : Bool) → command ≡ Recheck upgrade → (bytes : List ℕ) (c : Checked) (old new : Option (List ℕ)) (result : Result ℕ Stop) → IsJudgedAgain bytes upgrade c
      → IfOk result (λ status. (status ≡ status_again c.records) × Appends old new (report_text c)) → IfOk result (λ status. CommandDone command bytes old new status)
  rechecked-result upgrade is bytes c old new (Ok status) again (same, took) =
      record { text = report_text c; took = took; stage = rechecked upgrade c is again refl (ap Some same) }
  rechecked-result upgrade is bytes c old new (Err e) again made = tt

  pub refused-result : (bytes : List ℕ) (r : Refusal) (old new : Option (List ℕ)) (result : Result ℕ Stop) → IsRefusedIn command bytes r
      → IfOk result (λ status. (status ≡ 3) × Appends old new (refusal_text r)) → IfOk result (λ status. CommandDone command bytes old new status)
  refused-result bytes r old new (Ok status) h (three, took) = subst (λ (n : ℕ). CommandDone command bytes old new n) (sym three) (refused-done bytes r old new h took)
  refused-result bytes r old new (Err e) h made = tt

-- a text that was read up to one byte past the limit deserves what the whole deserves
same_text : (text all : List ℕ) → text ≡ take 16777217 all → length text ≤ 16777216 → text ≡ all
same_text text all e h = e ∙ take_all 16777217 all (omega (arith, ap length e, length-take 16777217 all))

longer : (text all : List ℕ) → text ≡ take 16777217 all → 16777216 < length text → 16777216 < length all
longer text all e h = omega (arith, ap length e, length-take 16777217 all)

same_bytes : (P : List ℕ → Type 0) (text all : List ℕ) → text ≡ take 16777217 all → length text ≤ 16777216 → P text → P all
same_bytes P text all e h x = subst P (same_text text all e h) x

flawed-whole : (text all : List ℕ) (rule : Rule) (place : Place) → text ≡ take 16777217 all → IsBrokenAt text rule place → IsBrokenAt all rule place
flawed-whole text all rule place e (inl (h, k, l)) = inl (longer text all e h, k, l)
flawed-whole text all rule place e (inr (h, k)) = inr (same_bytes (λ t. (length t ≤ 16777216) × IsBrokenFirst t rule place) text all e h (h, k))

refused-whole : (text all : List ℕ) (r : Refusal) → text ≡ take 16777217 all → IsRefusedBy text r → IsRefusedBy all r
refused-whole text all r e (in_text h) = in_text (record { broken = flawed-whole text all r.rule r.place e h.broken; no_detail = h.no_detail })
refused-whole text all r e (in_grammar tokens t h) = same_bytes (λ b. IsRefusedBy b r) text all e t.0 (in_grammar tokens t h)
refused-whole text all r e (in_types tokens p s h) = same_bytes (λ b. IsRefusedBy b r) text all e s.text.0 (in_types tokens p s h)
refused-whole text all r e (in_assignments tokens p s n h) = same_bytes (λ b. IsRefusedBy b r) text all e s.text.0 (in_assignments tokens p s n h)
refused-whole text all r e (in_bits tokens p s n a w h) = same_bytes (λ b. IsRefusedBy b r) text all e s.text.0 (in_bits tokens p s n a w h)

faulty-whole : (text all : List ℕ) (r : Refusal) → text ≡ take 16777217 all → IsRefusedOrFaulty text r → IsRefusedOrFaulty all r
faulty-whole text all r e (inl h) = inl (refused-whole text all r e h)
faulty-whole text all r e (inr h) = inr (same_bytes (λ b. IsRefusedAsFaulty b r) text all e h.model.spelled.text.0 h)

refused-in-whole : (command : Command) (text all : List ℕ) (r : Refusal) → text ≡ take 16777217 all → IsRefusedIn command text r → IsRefusedIn command all r
refused-in-whole (Check effort) text all r e h = faulty-whole text all r e h
refused-in-whole (Recheck upgrade) text all r e (as_model h) = as_model (refused-whole text all r e h)
refused-in-whole (Recheck upgrade) text all r e (beside p model h) = same_bytes (λ b. IsRefused b r) text all e model.spelled.text.0 (beside p model h)
refused-in-whole Flat text all r e h = refused-whole text all r e h
refused-in-whole (Ring ring) text all r e h = faulty-whole text all r e h

-- what the source held, as far as it tells, else what was read
unfoldable held : Option (List ℕ) → List ℕ → List ℕ
held None text = text
held (Some all) text = all

is_held : (left : Option (List ℕ)) (text : List ℕ) → SourceHeld left (held left text)
unfolding held
is_held None text = tt
is_held (Some all) text = refl

module _ (command : Command) where
  judged-whole : (effort : Effort) (text all : List ℕ) (p : Program) (how : Preparation) (records : List Record) → text ≡ take 16777217 all → IsJudged text p effort how records → IsJudged all p effort how records
  judged-whole effort text all p how records e j = same_bytes (λ t. IsJudged t p effort how records) text all e j.model.spelled.text.0 j

  stage-whole : (text all t : List ℕ) (s : Option ℕ) → text ≡ take 16777217 all → CommandStage command text t s → CommandStage command all t s
  stage-whole text all t s e (nothing a b) = nothing a b
  stage-whole text all t s e (refused r h a b) = refused r (refused-in-whole command text all r e h) a b
  stage-whole text all t s e (judging effort p how records is j a b) = judging effort p how records is (judged-whole effort text all p how records e j) a b
  stage-whole text all t s e (judged effort p how records is j n a b) = judged effort p how records is (judged-whole effort text all p how records e j) n a b
  stage-whole text all t s e (rechecked upgrade c is again a b) =
      rechecked upgrade c is (same_bytes (λ x. IsJudgedAgain x upgrade c) text all e again.checked.model.spelled.text.0 again) a b
  stage-whole text all t s e (listed p is model a b) = listed p is (same_bytes (λ x. IsModel x p) text all e model.spelled.text.0 model) a b

  stage-held : (left : Option (List ℕ)) (text t : List ℕ) (s : Option ℕ) → ReadsFirst 16777217 left text → CommandStage command text t s → CommandStage command (held left text) t s
  unfolding held
  stage-held None text t s r h = h
  stage-held (Some all) text t s r h = stage-whole text all t s r h

-- what was read or made is what the command works on
input-held : (command : Command) (left : Option (List ℕ)) (text t : List ℕ) (s : Option ℕ) → IsInput command left text → CommandStage command text t s → CommandReport command (held left text) t s
input-held (Check effort) left text t s r h = stage-held (Check effort) left text t s r h
input-held (Recheck upgrade) left text t s r h = stage-held (Recheck upgrade) left text t s r h
input-held Flat left text t s r h = stage-held Flat left text t s r h
input-held (Ring ring) left text t s made h = subst (λ (bytes : List ℕ). CommandStage (Ring ring) bytes t s) made h

module _ (command : Command) where
  pub done-answered : (left old new : Option (List ℕ)) (text : List ℕ) (status : ℕ) → IsInput command left text → CommandDone command text old new status
      → WritesReport (CommandReport command) left old new status
  done-answered left old new text status r done = record {
    bytes = held left text;
    held = is_held left text;
    text = done.text;
    took = done.took;
    whole = input-held command left text done.text (Some status) r done.stage;
  }

  pub part-begun : (left old new : Option (List ℕ)) (text : List ℕ) → IsInput command left text → CommandPart command text old new → WritesBeginning (CommandReport command) left old new
  part-begun left old new text r done = record {
    bytes = held left text;
    held = is_held left text;
    text = done.text;
    status = done.status;
    took = done.took;
    part = input-held command left text done.text done.status r done.stage;
  }

  pub nothing-begun : (left old : Option (List ℕ)) → WritesBeginning (CommandReport command) left old old
  nothing-begun left old = record {
    bytes = held left [];
    held = is_held left [];
    text = [];
    status = None;
    took = (0, Appends-nil old);
    part = nothing refl refl;
  }

module _ (words : List (List ℕ)) (left old : Option (List ℕ)) where
  -- a report of the command that the words say
  pub said-answered : (command : Command) (new : Option (List ℕ)) (status : ℕ) → Says words command → WritesReport (CommandReport command) left old new status → WritesReport (Stage words) left old new status
  said-answered command new status says done = record { bytes = done.bytes; held = done.held; text = done.text; took = done.took; whole = said command says done.whole }

  pub said-begun : (command : Command) (new : Option (List ℕ)) → Says words command → WritesBeginning (CommandReport command) left old new → WritesBeginning (Stage words) left old new
  said-begun command new says done = record { bytes = done.bytes; held = done.held; text = done.text; status = done.status; took = done.took; part = said command says done.part }

  pub unread-begun : WritesBeginning (Stage words) left old old
  unread-begun = record {
    bytes = held left [];
    held = is_held left [];
    text = [];
    status = None;
    took = (0, Appends-nil old);
    part = begun refl refl;
  }

  pub usage-answered : (new : Option (List ℕ)) (status : ℕ) → (IsCommandLine words → ⊥) → status ≡ 4 → Appends old new usage_text → WritesReport (Stage words) left old new status
  usage-answered new status n four took = record {
    bytes = held left [];
    held = is_held left [];
    text = usage_text;
    took = took;
    whole = usage n refl (ap Some four);
  }

  pub usage-begun : (new : Option (List ℕ)) → (IsCommandLine words → ⊥) → AppendsFront old new usage_text → WritesBeginning (Stage words) left old new
  usage-begun new n took = record {
    bytes = held left [];
    held = is_held left [];
    text = usage_text;
    status = Some 4;
    took = took;
    part = usage n refl refl;
  }

-- a report of all bytes to an empty sink is what the sink then has
pub whole-report : (words : List (List ℕ)) (source before after bytes out : List ℕ) (status : ℕ) → source ≡ bytes → before ≡ [] → out ≡ after
    → WritesReport (Stage words) (Some source) (Some before) (Some after) status → Stage words bytes out (Some status)
whole-report words source before after bytes out status all empty all_out done =
    let printed : out ≡ done.text = all_out ∙ done.took ∙ ap (λ (front : List ℕ). front ++ done.text) empty in
    subst (λ (text : List ℕ). Stage words bytes text (Some status)) (sym printed) (subst (λ (b : List ℕ). Stage words b done.text (Some status)) (done.held ∙ all) done.whole)
