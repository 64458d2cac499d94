-- What stands beside a model, and the first line of it that is refused.
use Rattle.std.proofs.Common.{◌≡◌, ◌∙◌, ℕ, suc, ◌<◌, ◌≤◌, Bool, true, false, cond, not, List, [], ◌∷◌, length, map, Option, Result, Ok, Err, refl, sym, ap, subst, arith, inl, inr}
use lib.Dec.{ltb}
use Rattle.std.specs.List.{count_by, filter}
use Rattle.std.proofs.lemmas.Bool.{cases_Bool, ltb-false, ltb-true, cond-true, cond-false}
use Rattle.std.proofs.lemmas.List.Sums.{length-filter}
use Rattle.hinted_log.specs.Hints.{HintedLog}
use Rattle.cert_core.specs.Blocks.{Block}
use Rattle.cert_text.specs.Reading.{IsStopped, ReadSoFar, nothing, read_text, refusal_at}
use Rattle.smv_tree.specs.declared.refusal.Refusal.{Refusal}
use Rattle.smv_tree.specs.declared.refusal.TextStop.{TextStop}
use Rattle.smv_tree.specs.declared.refusal.TextStop.TheVariants.{NoMemory, Refused}
use Rattle.smv_tree.specs.declared.tree.Program.{Program}
use Rattle.smv_resolve.specs.declared.item.Item.{Item}
use Rattle.smv_resolve.specs.declared.node.ExprNode.{ExprNode}
use Rattle.smv_resolve.specs.Items.{ResolvedItem, item_by}
use Rattle.smv_layout.specs.Layout.{items_of}
use Rattle.smv_meaning.specs.Runs.{is_claim}
use Rattle.smv_front.specs.Sources.{IsModel, IsSourceStop}
use Rattle.trace_replay.specs.declared.trace.Trace.{Trace}
use Rattle.trace_replay.specs.Reading.{Holds, IsLinesStop, IsRefusedAt, texts}
use Rattle.smv_recheck.specs.Lines.{trace_lines}
use Rattle.smv_recheck.specs.Refusing.{Holdings, IsStop, IsStopBeside, all, as_model, beside, certificate, certificates_read, earlier, item_count, spec_count, till, trace}

-- How many items are no specifications.

abbrev is_other : ResolvedItem → Bool
is_other x = not (is_claim x.kind)

longer_if : {A B : Type 0} (b : Bool) (x : A) (xs : List A) (y : B) (ys : List B) → length xs ≡ length ys → length (cond b (x ∷ xs) xs) ≡ length (cond b (y ∷ ys) ys)
longer_if true x xs y ys e = ap suc e
longer_if false x xs y ys e = e

others_mapped : (nodes : List ExprNode) (items : List Item) → length (filter (λ (x : Item). not (is_claim x.kind)) items) ≡ length (filter is_other (map (item_by nodes) items))
others_mapped nodes [] = refl
others_mapped nodes (x ∷ xs) =
    longer_if (not (is_claim x.kind)) x (filter (λ (y : Item). not (is_claim y.kind)) xs) (item_by nodes x) (filter is_other (map (item_by nodes) xs)) (others_mapped nodes xs)

pub others_counted : (p : Program) (nodes : List ExprNode) (items : List Item) → map (item_by nodes) items ≡ items_of p → count_by (λ (x : Item). not (is_claim x.kind)) items ≡ item_count p
others_counted p nodes items resolved =
    sym (length-filter (λ (x : Item). not (is_claim x.kind)) items) ∙ others_mapped nodes items ∙ ap (λ (xs : List ResolvedItem). length (filter is_other xs)) resolved

-- What is read.

pub certificates_as : (p : Program) (text : List ℕ) (specs items : ℕ) → specs ≡ spec_count p → items ≡ item_count p → read_text specs items text ≡ certificates_read p text
certificates_as p text specs items a b = ap (λ (n : ℕ). read_text n items text) a ∙ ap (λ (n : ℕ). read_text (spec_count p) n text) b

pub held_beside : (p : Program) (text : List ℕ) (specs items : ℕ) (traces : List (Option Trace)) (sound : Option (List (Option HintedLog))) (certificates : List (Option Block)) → specs ≡ spec_count p → items ≡ item_count p
    → Holds specs (texts (trace_lines text)) traces → read_text specs items text ≡ Ok record { sound = sound; certificates = certificates; block = nothing } → Holdings p text traces sound certificates
held_beside p text specs items traces sound certificates a b held read = record {
  traced = subst (λ (n : ℕ). Holds n (texts (trace_lines text)) traces) a held;
  certified = sym (certificates_as p text specs items a b) ∙ read;
}

-- What is refused.

err_is : {A : Type 0} (r : Result A ℕ) (m n : ℕ) → r ≡ Err m → r ≡ Err n → m ≡ n
err_is r m n a b = cc

never_both : {A : Type 0} (r : Result A ℕ) (x : A) (n : ℕ) → r ≡ Ok x → r ≡ Err n → ⊥
never_both r x n a b = cc

pub traces_stopped : (p : Program) (text : List ℕ) (stop : TextStop) (s : ReadSoFar) → IsLinesStop (spec_count p) (trace_lines text) stop → certificates_read p text ≡ Ok s → IsStopBeside p text stop
traces_stopped p text NoMemory s h read = tt
traces_stopped p text (Refused r) s h read = trace h (λ n e. absurd (never_both (certificates_read p text) s n read e))

pub certificates_stopped : (p : Program) (text : List ℕ) (stop : TextStop) (traces : List (Option Trace)) → IsStopped (certificates_read p text) stop → Holds (spec_count p) (texts (trace_lines text)) traces → IsStopBeside p text stop
certificates_stopped p text NoMemory traces h held = tt
certificates_stopped p text (Refused r) traces h held = certificate h.0 h.1 (all traces held) h.2

line_of : (r : Refusal) (n : ℕ) → r ≡ refusal_at n → r.place.line ≡ n
line_of r n e = ap (λ (s : Refusal). s.place.line) e

both_refused : (p : Program) (text : List ℕ) (a b : Refusal) → IsRefusedAt (spec_count p) (trace_lines text) a → IsStopped (certificates_read p text) (Refused b) → IsStopBeside p text (earlier (Refused a) (Refused b))
both_refused p text a b h k = elim (cases_Bool (ltb a.place.line b.place.line)) [
  | inl first ↦
      let before : a.place.line < b.place.line = ltb-true a.place.line b.place.line first in
      let passes : (n : ℕ) → certificates_read p text ≡ Err n → a.place.line ≤ n =
      λ n e. (let same : n ≡ k.0 = err_is (certificates_read p text) n k.0 e k.1 in omega (arith, before, same, line_of b k.0 k.2)) in
      subst (IsStopBeside p text) (sym (cond-true (ltb a.place.line b.place.line) (Refused a) (Refused b) first)) (trace h passes)
  | inr second ↦
      let after : b.place.line ≤ a.place.line = ltb-false a.place.line b.place.line second in
      let from : k.0 ≤ a.place.line = omega (arith, after, line_of b k.0 k.2) in
      subst (IsStopBeside p text) (sym (cond-false (ltb a.place.line b.place.line) (Refused a) (Refused b) second)) (certificate k.0 k.1 (till a h from) k.2)
]

pub both_stopped : (p : Program) (text : List ℕ) (a b : TextStop) → IsLinesStop (spec_count p) (trace_lines text) a → IsStopped (certificates_read p text) b → IsStopBeside p text (earlier a b)
both_stopped p text NoMemory b h k = tt
both_stopped p text (Refused a) NoMemory h k = tt
both_stopped p text (Refused a) (Refused b) h k = both_refused p text a b h k

-- the same of a whole text
pub stopped_beside : (p : Program) (text : List ℕ) (stop : TextStop) → IsModel text p → IsStopBeside p text stop → IsStop text stop
stopped_beside p text NoMemory model h = tt
stopped_beside p text (Refused r) model h = beside p model h

pub stopped_before : (text : List ℕ) (stop : TextStop) → IsSourceStop text stop → IsStop text stop
stopped_before text NoMemory h = tt
stopped_before text (Refused r) h = as_model h
