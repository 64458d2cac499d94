-- What is told and noted of nodes, with one node more.
use Rattle.std.proofs.Common.{◌≡◌, ℕ, zero, suc, ◌+◌, ◌-◌, ◌<◌, ◌≤◌, List, map, [], ◌∷◌, ◌++◌, length, drop, take, slice_index_or, None, false, refl, sym, ap, subst, ◌∙◌, arith, length-append}
use Rattle.std.proofs.lemmas.List.{map-append, take-map}
use Rattle.smv_tree.specs.declared.place.Place.{Place}
use Rattle.smv_tree.specs.declared.refusal.Refusal.{Refusal}
use Rattle.std.proofs.Common.{Bool, Option, Some, true}
use Rattle.std.specs.Option.{is_some}
use Rattle.smv_value.specs.declared.operator.Operator.{Operator}
use Rattle.smv_value.specs.declared.operator.Operator.TheVariants as operator
use Rattle.smv_value.specs.declared.value.FaultRule.TheVariants as fault
use Rattle.value_types.specs.declared.value_type.ValueType.{ValueType}
use Rattle.smv_declared.specs.declared.constant.Constant.{Constant}
use Rattle.smv_declared.specs.declared.constant.Constant.TheVariants.{NotConstant}
use Rattle.smv_declared.specs.Constants.{constant_of, constants_of}
use Rattle.smv_declared.proofs.Found.{constants_same, found_at, last_mapped}
use Rattle.smv_kinds.specs.declared.kind.Operand.{Operand}
use Rattle.smv_slots.specs.declared.slot.Slot.{Slot}
use Rattle.smv_resolve.specs.declared.node.ExprNode.{ExprNode}
use Rattle.smv_resolve.specs.Resolved.{Resolved, last_of, operands_of, part_at, parts_of, resolved_by}
use Rattle.smv_resolve.proofs.Parts.{parts_of-next, parts_of-take}
use Rattle.smv_verdicts.specs.Verdicts.{or_else}
use Rattle.smv_types.specs.declared.judged.Indexing.{Indexing}
use Rattle.smv_types.specs.declared.judged.Judged.{Judged}
use Rattle.smv_types.specs.declared.judged.Notes.{Notes}
use Rattle.smv_kinds.specs.Constants.{constant_given}
use Rattle.smv_kinds.specs.Kinds.{kind_given}
use Rattle.smv_tree.specs.declared.tree.AssignmentKind.TheVariants as side
use Rattle.smv_types.specs.Kinds.{Context, all_told, chosen_refusal, defined_refusal, indexing_of, inner_refusal, is_assignable, is_window, kind_in, kind_refusal, of_kind, place_of, operands_refusal, told, under_operand, unless_bound, waiting_refusal}
use Rattle.smv_types.specs.Judged.{AreJudged, AreNotes, IsJudged, Tells, judged_at, no_indexing, nothing, told_at}

-- what is told, as a list

module _ (slots : List Slot) (types : List ValueType) where
  abbrev of_part : Resolved → Operand
  of_part r = told slots types r

  pub told_part : (parts : List Resolved) (k : ℕ) → told_at (map of_part parts) k ≡ of_part (part_at parts k)
  told_part [] k = refl
  told_part (r ∷ parts) zero = refl
  told_part (r ∷ parts) (suc k) = told_part parts k

  pub all_told_same : (rs : List Resolved) → all_told slots types (operands_of rs) ≡ map of_part rs
  all_told_same [] = refl
  all_told_same (r ∷ rs) = ap (λ xs. of_part r ∷ xs) (all_told_same rs)

  drop-told : (k : ℕ) (rs : List Resolved) → drop k (map of_part rs) ≡ map of_part (drop k rs)
  drop-told zero rs = refl
  drop-told (suc k) [] = refl
  drop-told (suc k) (r ∷ rs) = drop-told k rs

  length-told : (rs : List Resolved) → length (map of_part rs) ≡ length rs
  length-told [] = refl
  length-told (r ∷ rs) = ap (λ n. suc n) (length-told rs)

  pub last_told : (count : ℕ) (rs : List Resolved) → last_of count (map of_part rs) ≡ map of_part (last_of count rs)
  last_told count rs = ap (λ n. drop (n - count) (map of_part rs)) (length-told rs) ∙ drop-told (length rs - count) rs

  -- what is told of an operator
  abbrev pub applied : Operator → List Operand → Operand
  applied o xs = record { kind = kind_in (kind_given o xs); constant = constant_given o xs }

  pub applied_last : (o : Operator) (count : ℕ) (parts : List Resolved) (table xs : List Operand) → xs ≡ last_of count table → table ≡ map of_part parts →
      applied o xs ≡ applied o (all_told slots types (operands_of (last_of count parts)))
  applied_last o count parts table xs is h = ap (applied o) (is ∙ ap (last_of count) h ∙ last_told count parts ∙ sym (all_told_same (last_of count parts)))

  pub applied_two : (o : Operator) (parts : List Resolved) (table : List Operand) (a b : ℕ) (x y : Operand) → x ≡ told_at table a → y ≡ told_at table b → table ≡ map of_part parts →
      applied o (x ∷ y ∷ []) ≡ applied o (of_part (part_at parts a) ∷ of_part (part_at parts b) ∷ [])
  applied_two o parts table a b x y e f h =
      let left : x ≡ of_part (part_at parts a) = e ∙ ap (λ xs. told_at xs a) h ∙ told_part parts a in
      let right : y ≡ of_part (part_at parts b) = f ∙ ap (λ xs. told_at xs b) h ∙ told_part parts b in
      ap (λ z. applied o (z ∷ y ∷ [])) left ∙ ap (λ z. applied o (of_part (part_at parts a) ∷ z ∷ [])) right

-- what is said of an index, over its first operand

abbrev pub subscript_indexing : Bool → Indexing → Indexing
subscript_indexing constant first = record { by_constant = constant; passed = first.passed; asked = false; within = false }

abbrev pub equal_indexing : Indexing → Indexing
equal_indexing first = record { by_constant = first.by_constant; passed = first.passed; asked = true; within = false }

-- what is noted, by numbers

-- what holds at each number holds with one element more
each_more : {A B : Type 0} (R : A → B → Type 0) (xs : List A) (ys : List B) (d : A) (e : B) (x : A) (y : B) → length ys ≡ length xs
    → R d e → ((k : ℕ) → R (slice_index_or xs k d) (slice_index_or ys k e)) → R x y
    → (k : ℕ) → R (slice_index_or (xs ++ x ∷ []) k d) (slice_index_or (ys ++ y ∷ []) k e)
each_more R [] [] d e x y same none each last zero = last
each_more R [] [] d e x y same none each last (suc k) = none
each_more R [] (b ∷ ys) d e x y same none each last k = absurd (omega (arith, same))
each_more R (a ∷ xs) [] d e x y same none each last k = absurd (omega (arith, same))
each_more R (a ∷ xs) (b ∷ ys) d e x y same none each last zero = each zero
each_more R (a ∷ xs) (b ∷ ys) d e x y same none each last (suc k) = each_more R xs ys d e x y (omega (arith, same)) none (λ i. each (suc i)) last k

no_refusals : (slots : List Slot) (types : List ValueType) (c : Context) → kind_refusal slots types c Resolved.Stuck ≡ None
no_refusals slots types c = refl

of_nothing : (slots : List Slot) (types : List ValueType) → IsJudged slots types Resolved.Stuck nothing
of_nothing slots types = record {
  place = refl;
  notes = record { step = refl; step_set = refl; name = refl; name_set = refl; state = refl; state_set = refl; path = refl };
  inner = refl;
  defined = refl;
  indexing = refl;
  window = refl;
  init = refl;
  later = refl;
}

pub none_told : (slots : List Slot) (types : List ValueType) → Tells slots types (parts_of []) [] []
unfolding parts_of
none_told slots types = record { kinds = refl; judged = record { long = refl; each = λ k. of_nothing slots types } }

pub one_more : (slots : List Slot) (types : List ValueType) (nodes : List ExprNode) (i : ℕ) (d : ExprNode) (operands : List Operand) (table : List Judged) (x : Operand) (j : Judged) → i < length nodes →
    Tells slots types (parts_of (take i nodes)) operands table
    → ((parts : List Resolved) → operands ≡ map (told slots types) parts → x ≡ told slots types (resolved_by parts (slice_index_or nodes i d)))
    → (Tells slots types (parts_of (take i nodes)) operands table → IsJudged slots types (resolved_by (parts_of (take i nodes)) (slice_index_or nodes i d)) j)
    → Tells slots types (parts_of (take (i + 1) nodes)) (operands ++ x ∷ []) (table ++ j ∷ [])
one_more slots types nodes i d operands table x j within h of_kind more =
    let n = slice_index_or nodes i d in
    let parts = parts_of (take i nodes) in
    let next : parts_of (take (i + 1) nodes) ≡ parts ++ resolved_by parts n ∷ [] = parts_of-next nodes i d within in
    let long : length (table ++ j ∷ []) ≡ length (parts ++ resolved_by parts n ∷ []) =
    length-append table (j ∷ []) ∙ ap (λ a. a + 1) h.judged.long ∙ sym (length-append parts (resolved_by parts n ∷ [])) in
    let kinds : operands ++ x ∷ [] ≡ map (told slots types) (parts ++ resolved_by parts n ∷ []) =
    ap (λ y. operands ++ y ∷ []) (of_kind parts h.kinds) ∙ ap (λ ys. ys ++ told slots types (resolved_by parts n) ∷ []) h.kinds
    ∙ sym (map-append (told slots types) parts (resolved_by parts n ∷ [])) in
    rw next (record {
      kinds = kinds;
      judged = record {
        long = long;
        each = each_more (IsJudged slots types) parts table Resolved.Stuck nothing (resolved_by parts n) j h.judged.long (of_nothing slots types) h.judged.each (more h);
      };
    })

-- the constants of all nodes are those of the nodes before one
pub constants_before : (nodes : List ExprNode) (i : ℕ) (all before : List Constant) → i ≤ length nodes → all ≡ map constant_of (parts_of nodes) → before ≡ take i all →
    before ≡ map constant_of (parts_of (take i nodes))
constants_before nodes i all before within are is = is ∙ ap (take i) are ∙ take-map constant_of i (parts_of nodes) ∙ ap (map constant_of) (parts_of-take nodes i within)

-- those of the last parts, and of two
pub last_constants : (count : ℕ) (parts : List Resolved) (constants : List Constant) → constants ≡ map constant_of parts → last_of count constants ≡ constants_of (operands_of (last_of count parts))
last_constants count parts constants are = ap (last_of count) are ∙ last_mapped constant_of count parts ∙ sym (constants_same (last_of count parts))

pub two_constants : (parts : List Resolved) (constants : List Constant) (a b : ℕ) → constants ≡ map constant_of parts →
    slice_index_or constants a NotConstant ∷ slice_index_or constants b NotConstant ∷ [] ≡ constants_of (operands_of (part_at parts a ∷ part_at parts b ∷ []))
two_constants parts constants a b are =
    ap (λ c. c ∷ slice_index_or constants b NotConstant ∷ []) (found_at parts constants a are) ∙ ap (λ c. constant_of (part_at parts a) ∷ c ∷ []) (found_at parts constants b are)

-- operands

tail_judged : (slots : List Slot) (types : List ValueType) (r : Resolved) (rs : List Resolved) (j : Judged) (js : List Judged) → AreJudged slots types (r ∷ rs) (j ∷ js) → AreJudged slots types rs js
tail_judged slots types r rs j js h = record { long = omega (arith, h.long); each = λ k. h.each (suc k) }

drop_judged : (slots : List Slot) (types : List ValueType) (k : ℕ) (rs : List Resolved) (js : List Judged) → AreJudged slots types rs js → AreJudged slots types (drop k rs) (drop k js)
drop_judged slots types zero rs js h = h
drop_judged slots types (suc k) [] [] h = h
drop_judged slots types (suc k) [] (j ∷ js) h = absurd (omega (arith, h.long))
drop_judged slots types (suc k) (r ∷ rs) [] h = absurd (omega (arith, h.long))
drop_judged slots types (suc k) (r ∷ rs) (j ∷ js) h = drop_judged slots types k rs js (tail_judged slots types r rs j js h)

last_judged : (slots : List Slot) (types : List ValueType) (count : ℕ) (rs : List Resolved) (js : List Judged) → AreJudged slots types rs js → AreJudged slots types (last_of count rs) (last_of count js)
last_judged slots types count rs js h =
    let P : ℕ → Type 0 = λ n. AreJudged slots types (last_of count rs) (drop (n - count) js) in
    subst P (sym h.long) (drop_judged slots types (length rs - count) rs js h)

default_same : {A : Type 0} (xs : List A) (k : ℕ) (d e : A) → k < length xs → slice_index_or xs k d ≡ slice_index_or xs k e
default_same [] k d e l = absurd (omega arith)
default_same (x ∷ xs) zero d e l = refl
default_same (x ∷ xs) (suc k) d e l = default_same xs k d e (omega arith)

-- what is read at a number that is there
pub judged_any : (slots : List Slot) (types : List ValueType) (rs : List Resolved) (js : List Judged) → AreJudged slots types rs js → (k : ℕ) (d : Judged) → k < length js →
    IsJudged slots types (part_at rs k) (slice_index_or js k d)
judged_any slots types rs js h k d within = rw (default_same js k d nothing within) (h.each k)

-- what cannot be assigned
pub unassigned : (slots : List Slot) (types : List ValueType) (r : Resolved) (j : Judged) (place : Place) (notes : Notes) →
    j ≡ record { place = place; notes = notes; inner = None; defined = None; indexing = no_indexing; is_window = false; takes_init = false; takes_later = false } → place ≡ place_of r → AreNotes (λ c. kind_refusal slots types c r) notes →
    inner_refusal slots types r ≡ None → defined_refusal slots types r ≡ None → indexing_of slots types r ≡ no_indexing → is_window r ≡ false → is_assignable slots side.Init r ≡ false →
    is_assignable slots side.Next r ≡ false → IsJudged slots types r j
unassigned slots types r j place notes is at noted inner defined indexing window init later =
    rw is (record { place = at; notes = noted; inner = sym inner; defined = sym defined; indexing = sym indexing; window = sym window; init = sym init; later = sym later })

-- what is told of all is told of the last
pub last_tells : (slots : List Slot) (types : List ValueType) (count : ℕ) (rs : List Resolved) (xs : List Operand) (js : List Judged) → Tells slots types rs xs js →
    Tells slots types (last_of count rs) (last_of count xs) (last_of count js)
last_tells slots types count rs xs js h = record {
  kinds = ap (last_of count) h.kinds ∙ last_told slots types count rs;
  judged = last_judged slots types count rs js h.judged;
}

two_judged : (slots : List Slot) (types : List ValueType) (r s : Resolved) (i j : Judged) → IsJudged slots types r i → IsJudged slots types s j → AreJudged slots types (r ∷ s ∷ []) (i ∷ j ∷ [])
two_judged slots types r s i j a b = record { long = refl; each = each }
  where
    each : (k : ℕ) → IsJudged slots types (slice_index_or (r ∷ s ∷ []) k Resolved.Stuck) (slice_index_or (i ∷ j ∷ []) k nothing)
    each zero = a
    each (suc zero) = b
    each (suc (suc k)) = of_nothing slots types

-- what is told at a number is told of the part of this number
pub told_is : (slots : List Slot) (types : List ValueType) (parts : List Resolved) (xs : List Operand) (js : List Judged) → Tells slots types parts xs js → (k : ℕ) → told_at xs k ≡ told slots types (part_at parts k)
told_is slots types parts xs js h k = ap (λ ys. told_at ys k) h.kinds ∙ told_part slots types parts k

pub judged_is : (slots : List Slot) (types : List ValueType) (parts : List Resolved) (xs : List Operand) (js : List Judged) → Tells slots types parts xs js → (k : ℕ) → IsJudged slots types (part_at parts k) (judged_at js k)
judged_is slots types parts xs js h k = h.judged.each k

pub two_tell : (slots : List Slot) (types : List ValueType) (parts : List Resolved) (xs : List Operand) (js : List Judged) → Tells slots types parts xs js → (a b : ℕ) →
    Tells slots types (part_at parts a ∷ part_at parts b ∷ []) (told_at xs a ∷ told_at xs b ∷ []) (judged_at js a ∷ judged_at js b ∷ [])
two_tell slots types parts xs js h a b =
    let left : told_at xs a ≡ told slots types (part_at parts a) = told_is slots types parts xs js h a in
    let right : told_at xs b ≡ told slots types (part_at parts b) = told_is slots types parts xs js h b in
    record {
      kinds = ap (λ x. x ∷ told_at xs b ∷ []) left ∙ ap (λ x. told slots types (part_at parts a) ∷ x ∷ []) right;
      judged = two_judged slots types (part_at parts a) (part_at parts b) (judged_at js a) (judged_at js b) (h.judged.each a) (h.judged.each b);
    }

-- what an operator says of an index is what its first operand does

pub subscript_says : (slots : List Slot) (types : List ValueType) (place : Place) (rs : List Resolved) →
    subscript_indexing (is_some (told slots types (part_at rs 0)).constant) (indexing_of slots types (part_at rs 0)) ≡ indexing_of slots types (Resolved.Apply place operator.Subscript (operands_of rs))
subscript_says slots types place [] = refl
subscript_says slots types place (r ∷ rs) = refl

pub equal_says : (slots : List Slot) (types : List ValueType) (place : Place) (rs : List Resolved) →
    equal_indexing (indexing_of slots types (part_at rs 0)) ≡ indexing_of slots types (Resolved.Apply place operator.Equal (operands_of rs))
equal_says slots types place [] = refl
equal_says slots types place (r ∷ rs) = refl

-- what operands break on a left side

module _ (slots : List Slot) (types : List ValueType) (place : Place) where
  pub index_few : (rs : List Resolved) → length rs < 2 → inner_refusal slots types (Resolved.Apply place operator.Index (operands_of rs)) ≡ None
  index_few [] l = refl
  index_few (r ∷ []) l = refl
  index_few (r ∷ s ∷ rs) l = absurd (omega arith)

  pub index_both : (rs : List Resolved) → 2 ≤ length rs →
      or_else (defined_refusal slots types (part_at rs 0)) (or_else (inner_refusal slots types (part_at rs 0)) (waiting_refusal slots types place (part_at rs 0) (part_at rs 1)))
      ≡ inner_refusal slots types (Resolved.Apply place operator.Index (operands_of rs))
  index_both [] l = absurd (omega arith)
  index_both (r ∷ []) l = absurd (omega arith)
  index_both (r ∷ s ∷ rs) l = refl

  pub choice_few : (rs : List Resolved) → length rs < 2 → inner_refusal slots types (Resolved.Apply place (operator.Choice fault.IndexOutside) (operands_of rs)) ≡ None
  choice_few [] l = refl
  choice_few (r ∷ []) l = refl
  choice_few (r ∷ s ∷ rs) l = absurd (omega arith)

  pub choice_both : (rs : List Resolved) → 2 ≤ length rs →
      chosen_refusal slots types place (part_at rs 0) (inner_refusal slots types (part_at rs 1)) ≡ inner_refusal slots types (Resolved.Apply place (operator.Choice fault.IndexOutside) (operands_of rs))
  choice_both [] l = absurd (omega arith)
  choice_both (r ∷ []) l = absurd (omega arith)
  choice_both (r ∷ s ∷ rs) l = refl

pub one_of_three : {a b c x y z : Option Refusal} → a ≡ x → b ≡ y → c ≡ z → or_else a (or_else b c) ≡ or_else x (or_else y z)
one_of_three e f g = rw (e, f, g) refl

-- the first refusal of operands, with one more

or_else_both : (a b c : Option Refusal) → or_else a (or_else b c) ≡ or_else (or_else a b) c
or_else_both None b c = refl
or_else_both (Some r) b c = refl

last_of_all : (a : Option Refusal) → or_else a None ≡ a
last_of_all None = refl
last_of_all (Some r) = refl

module _ (slots : List Slot) (types : List ValueType) (o : Operator) (c : Context) where
  -- what an operand of this number breaks
  abbrev broken : ℕ → Resolved → Option Refusal
  broken n r = unless_bound o n (kind_refusal slots types (under_operand o n c) r)

  operand_more : (n : ℕ) (rs : List Resolved) (k : ℕ) → k < length rs →
      operands_refusal slots types o n c (operands_of (take (k + 1) rs)) ≡ or_else (operands_refusal slots types o n c (operands_of (take k rs))) (broken (n + k) (part_at rs k))
  operand_more n [] k l = absurd (omega arith)
  operand_more n (r ∷ rs) zero l =
      let here : n ≡ n + 0 = omega arith in
      last_of_all (broken n r) ∙ ap (λ m. broken m r) here
  operand_more n (r ∷ rs) (suc k) l =
      let here : n + 1 + k ≡ n + suc k = omega arith in
      let up : suc k + 1 ≡ suc (k + 1) = omega arith in
      ap (λ m. operands_refusal slots types o n c (operands_of (take m (r ∷ rs)))) up
      ∙ ap (or_else (broken n r)) (operand_more (n + 1) rs k (omega arith))
      ∙ or_else_both (broken n r) (operands_refusal slots types o (n + 1) c (operands_of (take k rs))) (broken (n + 1 + k) (part_at rs k))
      ∙ ap (λ m. or_else (operands_refusal slots types o n c (operands_of (take (suc k) (r ∷ rs)))) (broken m (part_at rs k))) here

-- notes of what is the same in each context
pub notes_same : (f g : Context → Option Refusal) (n : Notes) → ((c : Context) → f c ≡ g c) → AreNotes f n → AreNotes g n
notes_same f g n same h = record {
  step = h.step ∙ same _;
  step_set = h.step_set ∙ same _;
  name = h.name ∙ same _;
  name_set = h.name_set ∙ same _;
  state = h.state ∙ same _;
  state_set = h.state_set ∙ same _;
  path = h.path ∙ same _;
}

pub notes_more : (slots : List Slot) (types : List ValueType) (o : Operator) (rs : List Resolved) (k : ℕ) (new : Notes) → k < length rs →
    AreNotes (λ c. or_else (operands_refusal slots types o 0 c (operands_of (take k rs))) (unless_bound o k (kind_refusal slots types (under_operand o k c) (part_at rs k)))) new →
    AreNotes (λ c. operands_refusal slots types o 0 c (operands_of (take (k + 1) rs))) new
notes_more slots types o rs k new within h =
    notes_same (λ c. or_else (operands_refusal slots types o 0 c (operands_of (take k rs))) (unless_bound o k (kind_refusal slots types (under_operand o k c) (part_at rs k))))
    (λ c. operands_refusal slots types o 0 c (operands_of (take (k + 1) rs))) new
    (λ c. let zero_first : 0 + k ≡ k = omega arith in
    ap (λ m. or_else (operands_refusal slots types o 0 c (operands_of (take k rs))) (unless_bound o m (kind_refusal slots types (under_operand o m c) (part_at rs k)))) (sym zero_first)
    ∙ sym (operand_more slots types o c 0 rs k within)) h
