-- The first integer of a run, and the others.
use Rattle.std.proofs.Common.{◌≡◌, ◌∙◌, Bool, ℤ, sym, ap, arith, pos, ◌+ℤ◌, ◌<ℤ◌, ◌≤ℤ◌, to_z, of_z, w64}
use Rattle.std.specs.List.{list_all}
use Rattle.std.proofs.lemmas.Int.{ints, to_z-of_z}
use Rattle.value_types.specs.declared.value_type.ValueType.{ValueType}
use Rattle.value_types.specs.Types.{is_of_type}
use Rattle.value_sets.specs.Members.{run}
use Rattle.value_sets.proofs.Runs.{run_ends, run_fails, run_goes, run_past}
use Rattle.value_sets.proofs.spans.each_is_of.Goals as goal

abbrev all_from : ValueType → ℤ → ℤ → Bool
all_from t low high = list_all (λ v. is_of_type v t) (run low high)

pub returns-then-not-contains : goal.returns-then-not-contains
returns-then-not-contains c =
    let t = c.args.t.now in
    let z = to_z w64 c.loop-z.z-bits in
    let high = to_z-of_z w64 c.args.high c.ranges.high in
    let low = to_z-of_z w64 c.args.low c.ranges.low in
    let within : z ≤ℤ c.args.high = omega (arith, ints, high) in
    sym (run_fails t z c.args.high within c.if-not-contains.ensures)
    ∙ ap (λ (h : ℤ). all_from t z h) (sym high)
    ∙ c.loop-z.invariant
    ∙ ap (λ (h : ℤ). all_from t (to_z w64 (of_z w64 c.args.low)) h) high
    ∙ ap (λ (i : ℤ). all_from t i c.args.high) low

pub loop-z-preserved : goal.loop-z-preserved
loop-z-preserved c =
    let t = c.args.t.now in
    let z = to_z w64 c.loop-z.z-bits in
    let high = to_z-of_z w64 c.args.high c.ranges.high in
    let within : z ≤ℤ c.args.high = omega (arith, ints, high) in
    let next : to_z w64 (of_z w64 (z +ℤ pos 1)) ≡ z +ℤ pos 1 = grind (arith, ints, to_z-of_z) in
    ap (λ (i : ℤ). all_from t i (to_z w64 (of_z w64 c.args.high))) next
    ∙ ap (λ (h : ℤ). all_from t (z +ℤ pos 1) h) high
    ∙ sym (run_goes t z c.args.high within c.if-not-contains.ensures)
    ∙ ap (λ (h : ℤ). all_from t z h) (sym high)
    ∙ c.loop-z.invariant

pub returns-then-high-z : goal.returns-then-high-z
returns-then-high-z c =
    let t = c.args.t.now in
    let z = to_z w64 c.loop-z.z-bits in
    let high = to_z-of_z w64 c.args.high c.ranges.high in
    let low = to_z-of_z w64 c.args.low c.ranges.low in
    let within : z ≤ℤ c.args.high = omega (arith, ints, high) in
    let last : c.args.high ≤ℤ z = omega (arith, ints, high) in
    run_ends t z c.args.high within last c.if-not-contains.ensures
    ∙ ap (λ (h : ℤ). all_from t z h) (sym high)
    ∙ c.loop-z.invariant
    ∙ ap (λ (h : ℤ). all_from t (to_z w64 (of_z w64 c.args.low)) h) high
    ∙ ap (λ (i : ℤ). all_from t i c.args.high) low

pub returns : goal.returns
returns c =
    let t = c.args.t.now in
    let z = to_z w64 c.loop-z.z-bits in
    let high = to_z-of_z w64 c.args.high c.ranges.high in
    let low = to_z-of_z w64 c.args.low c.ranges.low in
    let past : c.args.high <ℤ z = omega (arith, ints, high) in
    run_past t z c.args.high past
    ∙ ap (λ (h : ℤ). all_from t z h) (sym high)
    ∙ c.loop-z.invariant
    ∙ ap (λ (h : ℤ). all_from t (to_z w64 (of_z w64 c.args.low)) h) high
    ∙ ap (λ (i : ℤ). all_from t i c.args.high) low
