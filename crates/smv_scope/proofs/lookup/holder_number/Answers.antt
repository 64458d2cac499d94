use Rattle.std.proofs.Common.{◌≡◌, ℕ, ◌+◌, Some, None, sym, ap, ◌∙◌, arith}
use Rattle.smv_tree.specs.declared.tree.Program.{Program}
use Rattle.smv_scope.specs.Instances.{module_at}
use Rattle.smv_scope.specs.Holders.{held_before, holder_number, number_in, rank_of}
use Rattle.smv_scope.proofs.Counting.{first_is}
use Rattle.smv_scope.proofs.lookup.holder_number.Goals as goal

numbered : (p : Program) (at v m first rank : ℕ) → module_at p at ≡ Some m → Some first ≡ Some (held_before p at) → rank ≡ rank_of p m v → Some (first + rank) ≡ holder_number p at v
numbered p at v m first rank e f r =
    let same : first ≡ held_before p at = cc in
    rw (same, r) (ap (number_in p at v) (sym e))

pub returns-in_err-first : goal.returns-in_err-first
returns-in_err-first c =
    let scope = c.args.scope.now in
    let first = first_is scope.program c.args.instance c.in_ok-m.m scope.tree scope.first_holders scope.unfolded scope.counted (sym c.module_at.ensures ∙ c.in_ok-m.was) in
    let none : None ≡ Some (held_before scope.program c.args.instance) = sym c.in_err-first.was ∙ c.copied.ensures ∙ c.get.ensures.value ∙ first.0 in
    absurd cc

pub overflow_add-result : goal.overflow_add-result
overflow_add-result c =
    let scope = c.args.scope.now in
    let first = first_is scope.program c.args.instance c.in_ok-m.m scope.tree scope.first_holders scope.unfolded scope.counted (sym c.module_at.ensures ∙ c.in_ok-m.was) in
    let is : Some c.in_ok-first.first ≡ Some (held_before scope.program c.args.instance) = sym c.in_ok-first.was ∙ c.copied.ensures ∙ c.get.ensures.value ∙ first.0 in
    let same : c.in_ok-first.first ≡ held_before scope.program c.args.instance = cc in
    omega (arith, same, first.1, c.rank_of.ensures.few, scope.few)

pub returns : goal.returns
returns c =
    let scope = c.args.scope.now in
    let first = first_is scope.program c.args.instance c.in_ok-m.m scope.tree scope.first_holders scope.unfolded scope.counted (sym c.module_at.ensures ∙ c.in_ok-m.was) in
    numbered scope.program c.args.instance c.args.variable c.in_ok-m.m c.in_ok-first.first c.rank_of.result (sym c.module_at.ensures ∙ c.in_ok-m.was)
    (sym c.in_ok-first.was ∙ c.copied.ensures ∙ c.get.ensures.value ∙ first.0) c.rank_of.ensures.rank
