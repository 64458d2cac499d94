-- A value, or an integer of a run.
use Rattle.std.proofs.Common.{◌∙◌, rules}
use Rattle.std.proofs.lemmas.Int.{to_z-of_z}
use mir.Syntax.{w64}
use mir.Val.{SFits}
use Rattle.value_types.specs.Types.{is_between}
use Rattle.bit_outcomes.proofs.OfMembers.{here_run, here_value}
use Rattle.bit_outcomes.proofs.members.is_here.Goals as goal

pub returns-in_ok-here-in-Some-clause-value : goal.returns-in_ok-here-in-Some-clause-value
returns-in_ok-here-in-Some-clause-value c = λ v w h dx there.
    let before = c.in_ok-here-in-Some.ensures.extends.kept v h in
    let same = rw c.in-Some.is at c.in_ok-same-in-Value.ensures.value in
    here_value v w c.args.member.now c.in-Value.value c.in_ok-here-in-Some.here c.in-Some.same c.in-Value.is there (λ z dz. same v w z before dx dz)
    (c.in_ok-here-in-Some.ensures.value v h)

pub returns-in_ok-here-in-Run-clause-value : goal.returns-in_ok-here-in-Run-clause-value
returns-in_ok-here-in-Run-clause-value c = λ v w h dx there.
    let before = c.in_ok-here-in-Run.ensures.extends.kept v h in
    let low = c.in-Run.low in
    let high = c.in-Run.high in
    let f : SFits w64 c.in-Run.low = search rules in
    let g : SFits w64 c.in-Run.high = search rules in
    here_run v w c.args.member.now low high c.in_ok-here-in-Run.here c.in_ok-within-in-Run.within c.in-Run.is
    (c.in_ok-within-in-Run.ensures.value v w before dx ∙ (λ i. is_between (to_z-of_z w64 low f i) (to_z-of_z w64 high g i) w))
    (c.in_ok-here-in-Run.ensures.value v h)
