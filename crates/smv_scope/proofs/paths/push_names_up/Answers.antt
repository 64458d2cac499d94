use Rattle.std.proofs.Common.{◌≡◌, ℕ, ◌+◌, ◌-◌, ◌<◌, length, reverse, sym, ap, ◌∙◌, arith}
use Rattle.std.specs.List.{fold}
use Rattle.smv_scope.specs.Instances.{instances_of}
use Rattle.smv_scope.specs.Paths.{joined, path_within, variable_name}
use Rattle.smv_scope.proofs.Pathways.{lent_names, last_first, path_of_none, path_of_some, path_within-none}
use Rattle.smv_scope.proofs.paths.push_names_up.Goals as goal

pub returns-in_default : goal.returns-in_default
returns-in_default c =
    let p = c.args.scope.now.program in
    let long : c.len-level-end.result ≡ length (instances_of p) = c.len-level-end.ensures ∙ ap length c.args.scope.now.unfolded in
    let some : 0 < length (instances_of p) - c.loop-level.level = omega arith in
    ap (λ path. fold joined path (reverse (lent_names c.loop-level.names.items)))
    (sym (path_of_none p (length (instances_of p) - c.loop-level.level) c.loop-level.here some (sym c.parent_at.ensures ∙ c.in_default.is)))
    ∙ c.loop-level.invariant

pub loop-level-preserved : goal.loop-level-preserved
loop-level-preserved c =
    let p = c.args.scope.now.program in
    let parent = c.in-Some.parent in
    let most : ℕ = length (instances_of p) in
    let long : c.len-level-end.result ≡ length (instances_of p) = c.len-level-end.ensures ∙ ap length c.args.scope.now.unfolded in
    let some : 0 < length (instances_of p) - c.loop-level.level = omega arith in
    let less : length (instances_of p) - (c.loop-level.level + 1) ≡ length (instances_of p) - c.loop-level.level - 1 = omega arith in
    last_first (path_within p (most - (c.loop-level.level + 1)) parent.instance) c.push.new.self.items c.loop-level.names.items c.variable_name.result c.in_ok-push.ensures.items
    ∙ ap (λ path. fold joined path (reverse (lent_names c.loop-level.names.items)))
    (ap (joined (path_within p (most - (c.loop-level.level + 1)) parent.instance)) c.variable_name.ensures
    ∙ ap (λ n. joined (path_within p n parent.instance) (variable_name p parent.instance parent.variable)) less
    ∙ sym (path_of_some p (most - c.loop-level.level) c.loop-level.here parent some (sym c.in-Some.ensures)))
    ∙ c.loop-level.invariant

pub returns : goal.returns
returns c =
    let p = c.args.scope.now.program in
    let long : c.len-level-end.result ≡ length (instances_of p) = c.len-level-end.ensures ∙ ap length c.args.scope.now.unfolded in
    let none = path_within-none p (length (instances_of p) - c.loop-level.level) c.loop-level.here (omega arith) in
    ap (λ path. fold joined path (reverse (lent_names c.loop-level.names.items))) (sym none) ∙ c.loop-level.invariant
