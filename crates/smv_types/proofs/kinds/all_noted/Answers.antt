-- One operand more.
use Rattle.std.proofs.Common.{◌≡◌, ℕ, zero, suc, ◌<◌, ◌≤◌, length, List, [], ◌∷◌, take, refl, sym, ap, subst, arith}
use Rattle.smv_resolve.specs.Resolved.{Resolved, operands_of, part_at}
use Rattle.smv_types.specs.declared.judged.Judged.{Judged}
use Rattle.smv_types.specs.Judged.{AreNotes}
use Rattle.smv_types.specs.Kinds.{kind_refusal, operands_refusal, under_operand, unless_bound}
use Rattle.smv_types.proofs.Judging.{judged_any, notes_more}
use Rattle.smv_types.proofs.kinds.all_noted.Goals as goal

take_whole : (k : ℕ) (rs : List Resolved) → length rs ≤ k → take k rs ≡ rs
take_whole zero [] l = refl
take_whole zero (r ∷ rs) l = absurd (omega arith)
take_whole (suc k) [] l = refl
take_whole (suc k) (r ∷ rs) l = ap (λ xs. r ∷ xs) (take_whole k rs (omega arith))

pub loop-k-preserved : goal.loop-k-preserved
loop-k-preserved c = λ slots types rs h.
    let k = c.loop-k.k in
    let o = c.args.operator in
    let within : k < length rs = omega (arith, h.long, c.loop-k-test.true) in
    let item = c.index-table-k.result in
    let here = judged_any slots types rs c.args.table.now h k item c.loop-k-test.true in
    let N : Judged → Type 0 = λ j. AreNotes (λ x. kind_refusal slots types x (part_at rs k)) j.notes in
    notes_more slots types o rs k c.both-all.result within
    (c.both-all.ensures (λ x. operands_refusal slots types o 0 x (operands_of (take k rs))) (λ x. unless_bound o k (kind_refusal slots types (under_operand o k x) (part_at rs k)))
    (c.loop-k.invariant slots types rs h) (c.as_operand.ensures (λ x. kind_refusal slots types x (part_at rs k)) (subst N (sym c.index-table-k.is) here.notes)))

pub returns : goal.returns
returns c = λ slots types rs h.
    let whole : take c.loop-k.k rs ≡ rs = take_whole c.loop-k.k rs (omega (arith, h.long, c.loop-k-test.false)) in
    let P : List Resolved → Type 0 = λ xs. AreNotes (λ x. operands_refusal slots types c.args.operator 0 x (operands_of xs)) c.loop-k.all in
    subst P whole (c.loop-k.invariant slots types rs h)
