-- What preparing gives, and what is written of it.
use Rattle.std.proofs.Common.{◌≡◌, ◌∙◌, take_all, ℕ, zero, suc, ◌+◌, ◌<◌, ◌≤◌, ◌⊎◌, inl, inr, Bool, true, false, ◌&&◌, List, [], ◌∷◌, ◌++◌, length, take, drop, map, append-nil, append_assoc, refl, sym, subst, ap, arith, Some, None, IfOk, Result, Ok, Err}
use Rattle.std.specs.Prelude.{cond, filter, not, option_map, slice_get}
use Rattle.std.specs.declared.option.Option.{Option}
use Rattle.std.specs.List.{flat_map, list_all}
use Rattle.std.specs.Option.{is_none}
use Rattle.std.specs.Io.KnownBytes.{Appends}
use Rattle.std.proofs.KnownBytes.{Appends-nil, Appends-trans}
use Rattle.std.proofs.lemmas.Bool.{and_from, and_parts}
use Rattle.std.proofs.lemmas.List.Folds.{list_all-append}
use Rattle.std.proofs.lemmas.List.{length-map, take-append-le}
use Rattle.std.proofs.Math.Seq.{take-append_seam}
use Rattle.outside.specs.declared.Stop.{Stop}
use Rattle.hinted_log.specs.Hints.{HintedLog}
use Rattle.command_words.specs.declared.command.Effort.{Effort}
use Rattle.effort_purse.specs.Drawing.{numbers_below}
use Rattle.smv_tree.specs.declared.refusal.Refusal.{Refusal}
use Rattle.smv_tree.specs.declared.refusal.TextStop.{TextStop}
use Rattle.smv_tree.specs.declared.refusal.TextStop.TheVariants.{NoMemory, Refused}
use Rattle.smv_tree.specs.declared.tree.Program.{Program}
use Rattle.smv_front.specs.Sources.{IsModel, IsSourceStop}
use Rattle.smv_resolve.specs.declared.item.Item.{Item}
use Rattle.smv_resolve.specs.Items.{ResolvedItem}
use Rattle.smv_layout.specs.Layout.{items_of}
use Rattle.smv_slots.specs.Slots.{slots_of, types_of}
use Rattle.smv_meaning.specs.Faults.{IsFaultFree, item_fault}
use Rattle.smv_meaning.specs.Runs.{is_claim, specifications_of}
use Rattle.bit_faults.specs.Questions.{judged_items}
use Rattle.effort_purse.specs.declared.plain.PlainPurse.{PlainPurse}
use Rattle.effort_purse.specs.Plain.{plain_budget, plain_count, plain_spent}
use Rattle.fault_search.specs.Paying.{PaysOpen}
use Rattle.smv_prepare.specs.declared.preparing.Prepared.{Prepared}
use Rattle.smv_prepare.specs.declared.preparing.Prepared.TheVariants as given
use Rattle.smv_prepare.specs.Preparing.{IsPrepared, IsRefusedByFaults}
use Rattle.smv_cli.specs.declared.checking.Checking.{Checking}
use Rattle.smv_cli.specs.declared.preparing.Preparation.{Preparation}
use Rattle.smv_cli.specs.declared.preparing.Preparation.TheVariants.{Sound, Spent}
use Rattle.smv_cli.specs.Prepared.{AreRight, IsCheckStop, IsFaultStop, IsPreparedWith, block_text, sound_block}
use Rattle.smv_cli.specs.Streams.{AppendsFront}
use Rattle.smv_cli.specs.Texts.{record_text}
use Rattle.smv_cli.specs.Written.{WritesOpenRecords, WritesSomeOpenRecords, WritesRecords, WritesSomeRecords, WritesModelReport, WritesPartOfModelReport, item_in, program_in}
use Rattle.smv_cli.proofs.Recording.{AppendsFront-after, AppendsFront-whole}

-- ---- where no item faults none is refused so

none_told : {A B : Type 0} (f : A → B) (o : Option A) (b : B) → is_none o ≡ true → option_map f o ≡ Some b → ⊥
none_told f None b none told = cc
none_told f (Some a) b none told = cc

all_at : (test : ResolvedItem → Bool) (xs : List ResolvedItem) (i : ℕ) (x : ResolvedItem) → list_all test xs ≡ true → slice_get xs i ≡ Some x → test x ≡ true
all_at test [] i x all at = let never : ⊥ = cc in absurd never
all_at test (y ∷ ys) zero x all at = let same : y ≡ x = cc in subst (λ (z : ResolvedItem). test z ≡ true) same (and_parts (test y) (list_all test ys) all).0
all_at test (y ∷ ys) (suc i) x all at = all_at test ys i x (and_parts (test y) (list_all test ys) all).1 at

abbrev is_other : ResolvedItem → Bool
is_other x = not (is_claim x.kind)

kept : (test keep : ResolvedItem → Bool) (xs : List ResolvedItem) → list_all test xs ≡ true → list_all test (filter keep xs) ≡ true
kept test keep [] all = refl
kept test keep (x ∷ xs) all =
    let both = and_parts (test x) (list_all test xs) all in
    let later = kept test keep xs both.1 in
    elim (keep x) as (λ b. list_all test (cond b (x ∷ filter keep xs) (filter keep xs)) ≡ true)
    [ true ↦ and_from (test x) (list_all test (filter keep xs)) both.0 later | false ↦ later ]

-- what passes of each item passes of each that is judged
judged_pass : (test : ResolvedItem → Bool) (p : Program) → list_all test (items_of p) ≡ true → list_all test (judged_items p) ≡ true
judged_pass test p all =
    list_all-append test (filter is_other (items_of p)) (specifications_of p)
    ∙ and_from (list_all test (filter is_other (items_of p))) (list_all test (specifications_of p)) (kept test is_other (items_of p) all) (kept test (λ (x : ResolvedItem). is_claim x.kind) (items_of p) all)

pub never_faulty : (p : Program) (r : Refusal) → IsFaultFree p → IsRefusedByFaults p r → ⊥
never_faulty p r free h =
    let f = h.told in
    let test = λ (x : ResolvedItem). is_none (item_fault (types_of p) (slots_of p) f.s f.u f.t x) in
    let all = judged_pass test p (free f.s f.u f.t f.state f.inputs f.next) in
    none_told _ (item_fault (types_of p) (slots_of p) f.s f.u f.t h.item) r (all_at test (judged_items p) h.number h.item all h.judged) f.told

-- ---- what preparing gives

module _ (p : Program) (effort : Effort) (old new : PlainPurse) (full : plain_budget old ≡ effort.conflicts) (fresh : plain_count old ≡ 0) (same : plain_budget new ≡ plain_budget old)
    (made : Prepared) (prepared : IsPrepared p (plain_budget old) (plain_spent new) (numbers_below (plain_count old)) (numbers_below (plain_count new)) made) where
  abbrev Is : Prepared → Type 0
  Is = IsPrepared p (plain_budget old) (plain_spent new) (numbers_below (plain_count old)) (numbers_below (plain_count new))

  pub prepared_sound : (parts : List (Option HintedLog)) → made ≡ given.Sound parts → IsPreparedWith p effort (Sound parts)
  prepared_sound parts e = (subst Is e prepared).0

  pub prepared_faulty : (r : Refusal) → made ≡ given.Faulty r → IsRefusedByFaults p r
  prepared_faulty r e = (subst Is e prepared).0

  pub prepared_spent : (drawn budget : ℕ) → made ≡ given.Spent drawn budget → IsPreparedWith p effort (Spent drawn budget)
  prepared_spent drawn budget e =
      let h = subst Is e prepared in
      let all : plain_count new ≡ effort.conflicts = new.used_up h.spent.over_now ∙ same ∙ full in
      record {
        questions = h.questions;
        asked = h.asked;
        paid = subst (λ (n : ℕ). PaysOpen h.questions (numbers_below 0) (numbers_below n)) all (subst (λ (n : ℕ). PaysOpen h.questions (numbers_below n) (numbers_below (plain_count new))) fresh h.paid);
        spent = record { drawn_all = h.spent.drawn_all ∙ full; of_budget = h.spent.of_budget ∙ full; over_now = refl };
      }

-- ---- why a model is not checked

pub source_stop : (bytes : List ℕ) (stop : TextStop) → IsSourceStop bytes stop → IsCheckStop bytes stop
source_stop bytes (Refused r) h = inl h
source_stop bytes NoMemory h = h

pub fault_stop : (bytes : List ℕ) (p : Program) (stop : TextStop) → IsModel bytes p → IsFaultStop p stop → IsCheckStop bytes stop
fault_stop bytes p (Refused r) model h = inr (record { program = p; model = model; faulty = h })
fault_stop bytes p NoMemory model h = h

-- ---- parts of a text

-- a front of the first part is one of the whole
pub AppendsFront-more : (old new : Option (List ℕ)) (first rest : List ℕ) → AppendsFront old new first → AppendsFront old new (first ++ rest)
AppendsFront-more old new first rest (n, took) =
    let split : (n ≤ length first) ⊎ (length first < n) = grind arith in
    elim split as (λ _. AppendsFront old new (first ++ rest)) [
      | inl le ↦ (n, subst (Appends old new) (sym (take-append-le n first rest le)) took)
      | inr lt ↦ (length first, subst (Appends old new) (take_all n first (omega (arith, lt)) ∙ sym (take-append_seam first rest)) took)
    ]

-- nothing is written
pub AppendsFront-none : (old : Option (List ℕ)) (text : List ℕ) → AppendsFront old old text
AppendsFront-none old text = (0, Appends-nil old)

pub none_right : (p : Program) (effort : Effort) (how : Preparation) → AreRight p effort how []
none_right p effort (Sound parts) = tt
none_right p effort (Spent drawn budget) = tt

pub WritesPartOfModelReport-none : (p : Program) (effort : Effort) (how : Preparation) (old : Option (List ℕ)) → WritesPartOfModelReport p effort how old old
WritesPartOfModelReport-none p effort how old = record { records = []; right = none_right p effort how; took = AppendsFront-none old (block_text effort p how ++ []) }

-- ---- the records of a model of which no item faults

pub counted_specs : (model : Checking) (specs : List Item) → map (item_in model) specs ≡ specifications_of (program_in model) → length specs ≡ length (specifications_of (program_in model))
counted_specs model specs listed = sym (length-map specs (item_in model)) ∙ ap length listed

module _ (p : Program) (effort : Effort) (parts : List (Option HintedLog)) (count : ℕ) (counted : count ≡ length (specifications_of p)) where
  block_is : sound_block effort count parts ≡ block_text effort p (Sound parts)
  block_is = ap (λ (n : ℕ). sound_block effort n parts) counted

  pub block-part : (old new : Option (List ℕ)) → AppendsFront old new (sound_block effort count parts) → WritesPartOfModelReport p effort (Sound parts) old new
  block-part old new took = record {
    records = [];
    right = tt;
    took = AppendsFront-more old new (block_text effort p (Sound parts)) [] (subst (AppendsFront old new) block_is took);
  }

  pub block-alone : (old new : Option (List ℕ)) → Appends old new (sound_block effort count parts) → WritesPartOfModelReport p effort (Sound parts) old new
  block-alone old new took = block-part old new (AppendsFront-whole old new (sound_block effort count parts) took)

  pub sound-result : (old mid new : Option (List ℕ)) (result : Result ℕ Stop) → Appends old mid (sound_block effort count parts)
      → IfOk result (λ status. WritesRecords p effort (specifications_of p) mid new status) → IfOk result (λ status. WritesModelReport p effort (Sound parts) old new status)
  sound-result old mid new (Ok status) above made = record {
    records = made.records;
    right = made.right;
    each = made.each;
    took = Appends-trans old mid new (block_text effort p (Sound parts)) (flat_map record_text made.records) (subst (Appends old mid) block_is above) made.took;
    worst = made.worst;
  }
  sound-result old mid new (Err e) above made = tt

  pub sound-part : (old mid new : Option (List ℕ)) → Appends old mid (sound_block effort count parts) → WritesSomeRecords p effort (specifications_of p) mid new → WritesPartOfModelReport p effort (Sound parts) old new
  sound-part old mid new above made = record {
    records = made.records;
    right = made.right;
    took = AppendsFront-after old mid new (block_text effort p (Sound parts)) (flat_map record_text made.records) (subst (Appends old mid) block_is above) made.took;
  }

-- ---- the records where preparing spent the effort

module _ (p : Program) (effort : Effort) (drawn budget : ℕ) where
  pub open-result : (old new : Option (List ℕ)) (result : Result ℕ Stop)
      → IfOk result (λ status. (status ≡ 2) × WritesOpenRecords drawn budget (specifications_of p) old new) → IfOk result (λ status. WritesModelReport p effort (Spent drawn budget) old new status)
  open-result old new (Ok status) (two, made) = record { records = made.1.records; right = made.1.right; each = made.1.each; took = made.1.took; worst = two }
  open-result old new (Err e) made = tt

  pub open-part : (old new : Option (List ℕ)) → WritesSomeOpenRecords drawn budget (specifications_of p) old new → WritesPartOfModelReport p effort (Spent drawn budget) old new
  open-part old new made = record { records = made.records; right = made.right; took = made.took }
