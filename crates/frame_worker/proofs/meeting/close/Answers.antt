use Rattle.std.proofs.Common.{ℕ, ◌∙◌, ◌-◌, ◌^◌, ap}
use Rattle.std.specs.Prelude.{min}
use Rattle.frame_worker.proofs.meeting.close.Goals as goal

pub returns-clause-settled : goal.returns-clause-settled
returns-clause-settled g c =
    c.args.account.now.counted ∙ ap (λ (n : ℕ). min n (2 ^ 64 - 1)) (c.audit.ensures.whole c.requires.parts ∙ c.into_parts-frames.ensures.total)
