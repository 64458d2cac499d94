use Rattle.std.proofs.Common.{◌≡◌, ◌<◌, ℕ, List, false, length, get_or, arith, refl, sym, subst, ◌∙◌}
use Rattle.std.proofs.lemmas.List.{get_or_read_under}
use Rattle.clause_core.specs.Literals.{negate}
use Rattle.clause_core.specs.Values.{holds}
use Rattle.sat_prop.proofs.Attaching.{not_before, not_in_take}
use Rattle.sat_prop.proofs.acts.open_until.Goals as goal

pub returns-then-q-n-clause-open : goal.returns-then-q-n-clause-open
returns-then-q-n-clause-open c =
    let t = c.args.trail.now in
    let v = c.args.l.var in
    let lv : v < length t.positions.items = omega (arith, c.requires.in_range, t.places_len) in
    let e : c.index-q.result.now ≡ get_or t.positions.items v 0 = get_or_read_under t.positions.items v (length t.positions.items) c.index-q.result.now 0 c.index-q.ensures lv refl in
    not_before t c.args.l c.index-q.result.now (omega (arith, c.requires.low)) (omega (arith, e))

pub returns-else-q-n-clause-open : goal.returns-else-q-n-clause-open
returns-else-q-n-clause-open c =
    let t = c.args.trail.now in
    let v = c.args.l.var in
    let lv : v < length t.positions.items = omega (arith, c.requires.in_range, t.places_len) in
    let e : c.index-q.result.now ≡ get_or t.positions.items v 0 = get_or_read_under t.positions.items v (length t.positions.items) c.index-q.result.now 0 c.index-q.ensures lv refl in
    not_before t c.args.l c.args.n c.requires.low (omega (arith, e))

pub returns-else-is_false-clause-open : goal.returns-else-is_false-clause-open
returns-else-is_false-clause-open c =
    let t = c.args.trail.now in
    let n = negate c.args.l in
    let H : List ℕ → Type 0 = λ v. holds v n ≡ false in
    let off : H c.deref.result.now = sym c.is_false.ensures ∙ c.if-is_false.false in
    not_in_take t.literals.items n c.args.n c.requires.low (t.values_ok n ∙ subst H c.deref.ensures.value off)
