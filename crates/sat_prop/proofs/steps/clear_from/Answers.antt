use Rattle.std.proofs.Common.{◌≡◌, ◌<◌, ◌+◌, ◌-◌, ℕ, length, take, arith, subst, sym, length-set, ◌∙◌, refl, List}
use Rattle.std.proofs.lemmas.List.{take_all}
use Rattle.clause_core.specs.declared.literal.Lit.{Lit}
use Rattle.clause_core.specs.Literals.{at, none_lit}
use Rattle.sat_prop.specs.Trails.{ValuesMatch}
use Rattle.sat_prop.proofs.Ways.{values_pop}
use Rattle.sat_prop.proofs.steps.clear_from.Goals as goal

pub loop-p-init : goal.loop-p-init
loop-p-init c =
    let tr = c.args.literals.now in
    let e : take (length tr) tr ≡ tr = take_all (length tr) tr (omega arith) in
    let P : List Lit → Type 0 = ValuesMatch c.args.values.now.items in
    record { values = subst P (sym e) c.requires.values; vars = refl; low = c.requires.low }

pub loop-p-preserved : goal.loop-p-preserved
loop-p-preserved c =
    let p = c.loop-p.p - 1 in
    let tr = c.args.literals.now in
    let v = c.loop-p.values.items in
    let lt : p < length tr = omega arith in
    let e : c.loop-p.p ≡ p + 1 = omega arith in
    let P : ℕ → Type 0 = λ n. ValuesMatch v (take n tr) in
    let vals : P (p + 1) = subst P e c.loop-p.invariant.values in
    let in_v : (at tr p).var < length v = omega (arith, c.requires.within p none_lit lt, c.loop-p.invariant.vars) in
    record { values = values_pop v c.args.positions.now tr p lt c.requires.placed in_v vals; vars = length-set _ _ _ ∙ c.loop-p.invariant.vars; low = omega arith }

pub returns-clause-values : goal.returns-clause-values
returns-clause-values c =
    let P : ℕ → Type 0 = λ n. ValuesMatch c.loop-p.values.items (take n c.args.literals.now) in
    let e : c.loop-p.p ≡ c.args.n = omega arith in
    subst P e c.loop-p.invariant.values
