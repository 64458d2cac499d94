-- The lines of a report on a text: an own choice of this project. Each is a comment of the language, and ends with a line feed.
use Rattle.std.specs.Prelude.{ℕ, ◌+◌, List, [], ◌++◌, codes, Option, None, Some}
use Rattle.std.specs.Fmt.{decimal}
use Rattle.std.specs.List.{flat_map}
use Rattle.hinted_log.specs.Hints.{HintedLog}
use Rattle.cert_core.specs.Blocks.{Block}
use Rattle.cert_core.specs.declared.form.Part.{Part}
use Rattle.cert_core.specs.declared.form.Part.TheVariants.{Shared, First, Kept, Safe}
use Rattle.cert_text.specs.Printed.{certificate_text, sound_text}
use Rattle.smv_tree.specs.Texts.{kind_text, line_end}
use Rattle.trace_replay.specs.declared.rule.ReplayRule.{ReplayRule}
use Rattle.trace_replay.specs.Tests.{rule_text}
use Rattle.smv_recheck.specs.declared.judgement.Judgement.{Judgement}
use Rattle.smv_recheck.specs.declared.judgement.Judgement.TheVariants.{ShownTrue, ShownFalse, ItemRejected, PartRejected, TestRejected, NothingShown}
use Rattle.smv_recheck.specs.declared.judgement.Record.{Record}
use Rattle.smv_recheck.specs.declared.checking.Checked.{Checked}

-- a number that is counted from 0, counted from 1
abbrev pub number_text : ℕ → List ℕ
number_text k = decimal (k + 1)

-- a part as it is named in a report
abbrev pub part_name : Part → List ℕ
part_name Shared = codes "shared 0"
part_name (First k) = codes "first " ++ number_text k
part_name (Kept k) = codes "kept " ++ number_text k
part_name Safe = codes "safe 0"

-- the certificate of this specification, where one is printed again
abbrev pub again_text : ℕ → Option Block → List ℕ
again_text number None = []
again_text number (Some cert) = certificate_text number cert

abbrev pub true_text : ℕ → Option Block → List ℕ
true_text number again = codes "is shown true" ++ line_end ++ again_text number again

abbrev pub false_text : List ℕ
false_text = codes "is shown false" ++ line_end

abbrev pub part_rejected_text : Part → List ℕ
part_rejected_text part = codes "is rejected: part " ++ part_name part ++ line_end

-- items are counted from 0
abbrev pub item_rejected_text : ℕ → List ℕ
item_rejected_text item = codes "is rejected: part item " ++ decimal item ++ line_end

abbrev pub test_rejected_text : ReplayRule → ℕ → List ℕ
test_rejected_text rule at = codes "is rejected: trace " ++ rule_text rule ++ codes " " ++ decimal at ++ line_end

abbrev pub nothing_text : List ℕ
nothing_text = codes "has nothing shown" ++ line_end

-- what follows `-- spec I KIND `
abbrev pub judgement_text : ℕ → Judgement → List ℕ
judgement_text number (ShownTrue again) = true_text number again
judgement_text number ShownFalse = false_text
judgement_text number (ItemRejected item) = item_rejected_text item
judgement_text number (PartRejected part) = part_rejected_text part
judgement_text number (TestRejected rule at) = test_rejected_text rule at
judgement_text number NothingShown = nothing_text

abbrev pub record_text : Record → List ℕ
record_text r = codes "-- spec " ++ decimal r.number ++ codes " " ++ kind_text r.kind ++ codes " " ++ judgement_text r.number r.judgement

-- the sound block, where one is printed again
abbrev pub sound_again_text : Option (List (Option HintedLog)) → List ℕ
sound_again_text None = []
sound_again_text (Some items) = sound_text items

-- the whole report
abbrev pub report_text : Checked → List ℕ
report_text c = sound_again_text c.sound ++ flat_map record_text c.records
