use Rattle.std.proofs.Common.{◌<◌, List, length, sym, subst}
use Rattle.clause_core.specs.Systems.{TransitionSystem}
use Rattle.prove_ltl.specs.LtlAnswers.{limits_of}
use Rattle.prove_ltl.proofs.Stepping.{same_after}
use Rattle.prove_ltl.proofs.following.explore_one.Goals as goal

pub verdict-verdict-requires : goal.verdict-verdict-requires
verdict-verdict-requires g c =
    let f = c.args.frames in
    let same = same_after f.systems (limits_of c.args.effort.now) f.lemmas c.in_ok-frames.field-0.history.items c.in_ok-frames.field-0.frames _ _ _ c.in_ok-frames.ensures.explored in
    subst (λ (z : List TransitionSystem). 0 < length z) (sym same) c.requires.some

pub returns-clause-systems : goal.returns-clause-systems
returns-clause-systems g c =
    let f = c.args.frames in
    same_after f.systems (limits_of c.args.effort.now) f.lemmas c.in_ok-frames.field-0.history.items c.in_ok-frames.field-0.frames _ _ _ c.in_ok-frames.ensures.explored
