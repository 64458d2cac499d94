use Rattle.std.proofs.Common.{◌∙◌, sym}
use Rattle.prove_ltl.proofs.Early.{found_for}
use Rattle.prove_ltl.proofs.proving.prove_early.Goals as goal

pub returns : goal.returns
returns g c =
    let less = c.less_effort-less in
    let known = sym c.is_unknown.ensures ∙ c.if-is_unknown.false in
    found_for c.args.system.now less.result c.args.effort.now c.args.monitored.now.system c.in_ok-done.done
    less.ensures.bound less.ensures.frames less.ensures.counter known c.in_ok-done.ensures
