use Rattle.std.proofs.Common.{◌≡◌, ◌∙◌, false, true, sym}
use Rattle.prove_ltl.proofs.Early.{found_for}
use Rattle.prove_ltl.proofs.less_effort.search_early.Goals as goal

pub returns-else-is_unknown : goal.returns-else-is_unknown
returns-else-is_unknown g c =
    let less = c.less_effort-less in
    let sys = c.args.system.now in
    let m = c.args.monitored.now.system in
    let done = c.in-Some.done in
    let known : _ ≡ false = sym c.is_unknown.ensures ∙ c.if-is_unknown.false in
    let begins = rw c.in-Some.is at c.in_ok-first.ensures.begins in
    found_for sys less.result c.args.effort.now m done less.ensures.bound less.ensures.frames less.ensures.counter known
    (begins (λ unknown. absurd (let h : false ≡ true = sym known ∙ unknown in let never : ⊥ = cc in never)))
