-- How places, rules and refusals are printed: an own choice of this project.
use Rattle.std.specs.Prelude.{ℕ, List, [], ◌∷◌, ◌++◌, codes, Option, None, Some}
use Rattle.std.specs.Fmt.{decimal}
use Rattle.smv_tree.specs.declared.place.Place.{Place}
use Rattle.smv_tree.specs.declared.refusal.Rule.{Rule}
use Rattle.smv_tree.specs.declared.refusal.Rule.TheVariants.{SourceTooLarge, BadByte, OpenComment, BadWordConstant, IntTooLarge, Unexpected, TooDeep, Unsupported, NoMain, MainHasParameters, DuplicateModule, UnknownName, DuplicateName, UnknownModule, ArgumentCount, ModuleCycle, DefineCycle, UnfoldedDepth, TooManyInstances, TooManySlots, TypeMismatch, WordWidth, EmptyRange, NotConstant, SetHere, NextHere, InputHere, TemporalHere, IntWidth, DuplicateElement, NotAssignable, BadSelection, BadBound, AssignedTwice, AssignCycle, TooManyBits, CaseOpen, OutOfRange, IndexOutside, DivisorZero, ShiftTooFar, BadCertificate, BadTrace}
use Rattle.smv_tree.specs.declared.refusal.Refusal.{Refusal}
use Rattle.smv_tree.specs.declared.tree.SpecificationKind.{SpecificationKind}
use Rattle.smv_tree.specs.declared.tree.SpecificationKind.TheVariants.{Invariant, Temporal}

-- a line of a report ends with this byte
abbrev pub line_end : List ℕ
line_end = 10 ∷ []

abbrev pub place_text : Place → List ℕ
place_text p = decimal p.line ++ codes ":" ++ decimal p.column

abbrev pub rule_text : Rule → List ℕ
rule_text SourceTooLarge = codes "105 SourceTooLarge"
rule_text BadByte = codes "101 BadByte"
rule_text OpenComment = codes "102 OpenComment"
rule_text BadWordConstant = codes "103 BadWordConstant"
rule_text IntTooLarge = codes "104 IntTooLarge"
rule_text Unexpected = codes "201 Unexpected"
rule_text TooDeep = codes "202 TooDeep"
rule_text Unsupported = codes "203 Unsupported"
rule_text NoMain = codes "301 NoMain"
rule_text MainHasParameters = codes "302 MainHasParameters"
rule_text DuplicateModule = codes "303 DuplicateModule"
rule_text UnknownName = codes "304 UnknownName"
rule_text DuplicateName = codes "305 DuplicateName"
rule_text UnknownModule = codes "306 UnknownModule"
rule_text ArgumentCount = codes "307 ArgumentCount"
rule_text ModuleCycle = codes "308 ModuleCycle"
rule_text DefineCycle = codes "309 DefineCycle"
rule_text UnfoldedDepth = codes "310 UnfoldedDepth"
rule_text TooManyInstances = codes "311 TooManyInstances"
rule_text TooManySlots = codes "312 TooManySlots"
rule_text TypeMismatch = codes "401 TypeMismatch"
rule_text WordWidth = codes "402 WordWidth"
rule_text EmptyRange = codes "403 EmptyRange"
rule_text NotConstant = codes "404 NotConstant"
rule_text SetHere = codes "405 SetHere"
rule_text NextHere = codes "406 NextHere"
rule_text InputHere = codes "407 InputHere"
rule_text TemporalHere = codes "408 TemporalHere"
rule_text IntWidth = codes "409 IntWidth"
rule_text DuplicateElement = codes "410 DuplicateElement"
rule_text NotAssignable = codes "411 NotAssignable"
rule_text BadSelection = codes "412 BadSelection"
rule_text BadBound = codes "413 BadBound"
rule_text AssignedTwice = codes "501 AssignedTwice"
rule_text AssignCycle = codes "502 AssignCycle"
rule_text TooManyBits = codes "511 TooManyBits"
rule_text CaseOpen = codes "601 CaseOpen"
rule_text OutOfRange = codes "602 OutOfRange"
rule_text IndexOutside = codes "603 IndexOutside"
rule_text DivisorZero = codes "604 DivisorZero"
rule_text ShiftTooFar = codes "605 ShiftTooFar"
rule_text BadCertificate = codes "701 BadCertificate"
rule_text BadTrace = codes "702 BadTrace"

abbrev pub kind_text : SpecificationKind → List ℕ
kind_text Invariant = codes "INVARSPEC"
kind_text Temporal = codes "LTLSPEC"

-- a detail stands behind a colon
abbrev pub detail_text : Option (List ℕ) → List ℕ
detail_text None = []
detail_text (Some detail) = codes ": " ++ detail

abbrev pub refusal_text : Refusal → List ℕ
refusal_text r = codes "-- refused " ++ rule_text r.rule ++ codes " at " ++ place_text r.place ++ detail_text r.detail ++ line_end
