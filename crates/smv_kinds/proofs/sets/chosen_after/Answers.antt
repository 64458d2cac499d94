use Rattle.std.proofs.Common.{◌≡◌, ◌∙◌, ◌-◌, ◌≤◌, refl, true, None, get_or, length, rules, arith}
use Rattle.smv_kinds.specs.declared.kind.Operand.{Operand}
use Rattle.smv_kinds.specs.declared.kind.Kind.TheVariants as kind
use Rattle.smv_kinds.specs.Kinds.{is_boolean}
use Rattle.smv_kinds.proofs.Choosing.{chosen_step}
use Rattle.smv_kinds.proofs.sets.chosen_after.Goals as goal

abbrev none : Operand
none = record { kind = kind.Boolean; constant = None }

pub loop-rest-preserved : goal.loop-rest-preserved
loop-rest-preserved c =
    let xs = c.loop-rest.rest.now in
    let two : 2 ≤ length xs = omega arith in
    let boolean : is_boolean (get_or xs 0 none).kind ≡ true = search rules in
    chosen_step c.loop-rest.kind c.joined-kind.result xs (length xs - 2) none none two refl boolean c.joined-kind.ensures ∙ c.loop-rest.invariant
