-- `next` breaks what its operand does, or else a rule of its own.
use Rattle.std.proofs.Common.{◌∙◌, refl, ap}
use Rattle.smv_kinds.specs.Kinds.{next_kind}
use Rattle.smv_resolve.specs.Resolved.{Resolved}
use Rattle.smv_verdicts.specs.Verdicts.{or_else}
use Rattle.smv_types.specs.Judged.{as_refusal}
use Rattle.smv_types.specs.Kinds.{kind_refusal, next_broken, next_here, told, under_next}
use Rattle.smv_types.proofs.Judging.{notes_same, unassigned}
use Rattle.smv_types.proofs.kinds.judge_next.Goals as goal

pub returns : goal.returns
returns c = λ slots types r h k.
    let broken = next_broken c.args.place (next_kind (told slots types r).kind) in
    let whole = notes_same (λ x. as_refusal c.next_broken.result) (λ x. broken) c.everywhere-whole.result
    (λ x. c.next_broken.ensures ∙ ap (λ j. next_broken c.args.place (next_kind j)) k) c.everywhere-whole.ensures in
    let own = c.both.ensures (λ x. next_here x c.args.place) (λ x. broken) c.next_here.ensures whole in
    unassigned slots types (Resolved.Next c.args.place r) c.noted.result c.args.place c.both-2.result c.noted.ensures refl
    (c.both-2.ensures (λ x. kind_refusal slots types (under_next x) r) (λ x. or_else (next_here x c.args.place) broken) (c.under_next.ensures (λ x. kind_refusal slots types x r) h.notes) own)
    refl refl refl refl refl refl
