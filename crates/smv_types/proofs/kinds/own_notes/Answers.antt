-- A temporal operator is misplaced, or breaks a rule of its kind; another breaks one of its kind alone.
use Rattle.std.proofs.Common.{◌≡◌, ◌∙◌, Bool, true, false, Option, sym, ap}
use Rattle.smv_kinds.specs.Contexts.{kind_in_context}
use Rattle.smv_meaning.specs.Formulas.{is_temporal}
use Rattle.smv_tree.specs.declared.refusal.Refusal.{Refusal}
use Rattle.smv_verdicts.specs.Verdicts.{or_else}
use Rattle.smv_types.specs.Judged.{read_bounds}
use Rattle.smv_types.specs.Kinds.{kinds_broken, temporal_here}
use Rattle.smv_types.proofs.Bounds.{none_temporal}
use Rattle.smv_types.proofs.Judging.{notes_same}
use Rattle.smv_types.proofs.kinds.own_notes.Goals as goal

pub returns-then-is_temporal : goal.returns-then-is_temporal
returns-then-is_temporal c =
    let o = c.args.operator in
    let is : is_temporal o ≡ true = sym c.is_temporal.ensures ∙ c.if-is_temporal.true in
    c.temporal_here.ensures o (λ set. kinds_broken c.args.place o (read_bounds c.args.bounds) (kind_in_context set o c.args.operands.now)) is c.timed_broken.ensures

pub returns-else-is_temporal : goal.returns-else-is_temporal
returns-else-is_temporal c =
    let o = c.args.operator in
    let is : is_temporal o ≡ false = sym c.is_temporal.ensures ∙ c.if-is_temporal.false in
    let broken : Bool → Option Refusal = λ set. kinds_broken c.args.place o (read_bounds c.args.bounds) (kind_in_context set o c.args.operands.now) in
    notes_same (λ x. broken x.set) (λ x. or_else (temporal_here x c.args.place o) (broken x.set)) c.by_sets.result
    (λ x. sym (ap (λ r. or_else r (broken x.set)) (none_temporal x c.args.place o is)))
    (c.by_sets.ensures broken (c.kinds_broken.ensures (read_bounds c.args.bounds) is) (c.kinds_broken-else-is_temporal.ensures (read_bounds c.args.bounds) is))
