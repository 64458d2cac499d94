use Rattle.std.proofs.Common.{◌≡◌, ◌-◌, Bool, List, refl, subst, ◌∙◌, arith}
use Rattle.clause_core.specs.Assignments.{assignment_of}
use Rattle.frame_core.specs.Facts.{FoundStep}
use Rattle.frame_core.specs.FrameLaw.{FrameState, MeetsFrom}
use Rattle.frame_book.proofs.Accepted.{left_is}
use Rattle.frame_book.proofs.settling.leave.Goals as goal

pub returns-then-meets_from : goal.returns-then-meets_from
returns-then-meets_from c =
    let f : FrameState = c.args.levels.now in
    let s : FoundStep = c.args.step in
    let vs : c.as_slice.result.now ≡ s.values = c.as_slice.ensures ∙ c.values.ensures in
    let meets : MeetsFrom f.lemmas (c.args.made.now.level - 1) (assignment_of s.values) =
    subst (λ (v : List Bool). MeetsFrom f.lemmas (c.args.made.now.level - 1) (assignment_of v)) vs
    (c.meets_from.ensures.0 c.if-meets_from.true) in
    let above = c.requires.above in
    record {
      accepted = left_is f c.args.made.now c.args.n (c.args.made.now.level - 1) s c.requires.subject (omega arith) (omega arith)
          c.system-system.ensures.shown c.requires.same c.requires.leaves meets;
      tells = tt;
      changes = refl;
    }
