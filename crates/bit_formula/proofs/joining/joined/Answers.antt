-- The parts are a system's.
use Rattle.std.proofs.Common.{◌≡◌, ◌∙◌, List, [], ◌∷◌, ◌++◌, ap, subst, sym}
use Rattle.clause_core.specs.declared.literal.Lit.{Lit}
use Rattle.clause_core.specs.Systems.{IsSystem}
use Rattle.bit_formula.proofs.Systems.{is_system}
use Rattle.bit_formula.proofs.joining.joined.Goals as goal

pub new-system-requires : goal.new-system-requires
new-system-requires c =
    let width = c.args.width in
    let steps = c.args.steps in
    let side = c.args.side in
    let bad : c.push.new.self ≡ [] ∷ [] = c.in_ok-push.ensures.done ∙ ap (λ (cs : List (List Lit)). cs ++ [] ∷ []) c.new-bad.ensures in
    subst
    (λ (cs : List (List Lit)). IsSystem record { state_bits = width; all_bits = side.vars; init = side.init; step = steps.clauses; bad = cs; good = c.new.result; fair = side.fair; defs = side.defs })
    (sym bad)
    (subst
    (λ (cs : List (List Lit)). IsSystem record { state_bits = width; all_bits = side.vars; init = side.init; step = steps.clauses; bad = [] ∷ []; good = cs; fair = side.fair; defs = side.defs })
    (sym c.new.ensures) (is_system width steps side c.requires))
