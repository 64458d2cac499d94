use Rattle.std.proofs.Common.{◌≡◌, ◌<◌, ℕ, List, false, length, take, get_or, arith, subst, sym, ◌∙◌}
use Rattle.std.specs.List.{All}
use Rattle.std.proofs.lemmas.List.{take_all}
use Rattle.std.proofs.lemmas.List.Elements.{All-more}
use Rattle.clause_core.specs.declared.literal.Lit.{Lit}
use Rattle.clause_core.specs.Literals.{negate, none_lit}
use Rattle.clause_core.specs.Values.{holds}
use Rattle.sat_prop.specs.Trails.{among}
use Rattle.sat_core.proofs.refute.false_assumption.Goals as goal

pub loop-j-preserved : goal.loop-j-preserved
loop-j-preserved c =
    let t = c.args.trail.now in
    let asked = c.args.assumptions.now in
    let j = c.loop-j.j in
    let a = get_or asked j none_lit in
    let lt : j < length asked = omega arith in
    let P : List ℕ → Type 0 = λ v. holds v (negate a) ≡ false in
    let off : among t.literals.items (negate a) ≡ false =
    t.values_ok (negate a) ∙ subst P c.deref.ensures.value (sym c.is_false.ensures ∙ c.if-is_false.false) in
    All-more (λ b. among t.literals.items (negate b) ≡ false) asked j none_lit lt c.loop-j.invariant off

pub returns : goal.returns
returns c =
    let asked = c.args.assumptions.now in
    let all : take c.loop-j.j asked ≡ asked = take_all c.loop-j.j asked (omega arith) in
    let P : List Lit → Type 0 = All (λ a. among c.args.trail.now.literals.items (negate a) ≡ false) in
    subst P all c.loop-j.invariant
