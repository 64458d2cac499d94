use Rattle.std.proofs.Common.{◌≡◌, ◌<◌, ◌∷◌, [], ◌∙◌, length, get_or, None, Some, sym, subst, arith}
use Rattle.std.proofs.lemmas.List.{get_or_read}
use Rattle.clause_core.specs.Systems.{TransitionSystem}
use Rattle.frame_solver.specs.Firsts.{AllFirstsMeet}
use Rattle.frame_solver.proofs.Recalled.{fixed_meets}
use Rattle.frame_solver.proofs.recalling.Known.is_met.Goals as goal

pub returns-in-Some : goal.returns-in-Some
returns-in-Some c agrees =
    let table = c.self.inside.fixed.items in
    let l = c.args.l in
    let lt : l.var < length table = omega (arith, c.if-l-len.false, c.len.ensures) in
    let is : get_or table l.var None ≡ Some c.in-Some.value = sym (get_or_read table l.var c.index.result.now lt c.index.ensures None) ∙ c.in-Some.is in
    let P : TransitionSystem → Type 0 = λ s. AllFirstsMeet s (l ∷ []) in
    subst P c.self.view_is (fixed_meets c.self.inside.system.now table l c.in-Some.value c.self.invariant.fixed is agrees)
