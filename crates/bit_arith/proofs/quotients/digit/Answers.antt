use Rattle.std.proofs.Common.{arith, ◌≡◌, ◌+◌, ◌*◌, ◌^◌, ◌<◌, ◌≤◌, ◌%◌, ◌∷◌, ◌∙◌, ap, sym, length, cond, subst, ℕ}
use Rattle.std.proofs.Math.Nat.{pow-suc}
use Rattle.std.proofs.lemmas.List.Elements.{All-cons, All-take}
use Rattle.bit_graph.specs.Meaning.{edge_value, Stands}
use Rattle.bit_arith.specs.Number.{bit, number_of}
use Rattle.bit_arith.proofs.Numbers.{bit-le, number-lt, AllStand-extends}
use Rattle.bit_arith.proofs.Horner.{number_of-chosen, number-take_mod}
use Rattle.bit_arith.proofs.Digits.{takes}
use Rattle.bit_arith.proofs.quotients.digit.Goals as goal

pub returns-clause-value : goal.returns-clause-value
returns-clause-value c = λ v h.
    let diff = c.in_ok-difference.ensures.value v (c.in_ok-chosen.ensures.extends.kept v h) in
    let part = number_of-chosen v (edge_value v c.in_ok-difference.fits) c.in_ok-chosen.chosen.items c.deref-2.result.now c.deref-3.result.now (c.in_ok-chosen.ensures.value v h) in
    let n = length c.args.rest.now in
    let p = 2 ^ n in
    let w = bit (edge_value v c.args.low) + 2 * number_of v c.args.rest.now in
    let list : c.deref.result.now ≡ c.args.low ∷ c.args.rest.now = c.deref.ensures.value ∙ c.in_ok-whole.ensures in
    let list3 : c.deref-3.result.now ≡ c.args.low ∷ c.args.rest.now = c.deref-3.ensures.value ∙ c.in_ok-whole.ensures in
    let size : 2 ^ length c.deref.result.now ≡ 2 * p = ap (λ l. 2 ^ length l) list ∙ pow-suc 2 n ∙ omega arith in
    let whole : number_of v c.deref.result.now ≡ w = ap (number_of v) list in
    let whole3 : number_of v c.deref-3.result.now ≡ w = ap (number_of v) list3 in
    let diff2 : number_of v c.deref-2.result.now ≡ number_of v c.in_ok-difference.difference.items = ap (number_of v) c.deref-2.ensures.value in
    let small : number_of v c.in_ok-difference.difference.items < 2 * p =
    (let P : ℕ → Type 0 = λ m. number_of v c.in_ok-difference.difference.items < m in
    subst P (ap (λ l. 2 ^ l) c.in_ok-difference.ensures.length ∙ size) (number-lt (edge_value v) c.in_ok-difference.difference.items)) in
    let d : number_of v c.in_ok-difference.difference.items + (2 * p) * bit (edge_value v c.in_ok-difference.fits) + number_of v c.args.divisor.now ≡ w + 2 * p =
    (λ i. number_of v c.in_ok-difference.difference.items + sym size i * bit (edge_value v c.in_ok-difference.fits) + number_of v c.args.divisor.now) ∙ diff ∙ (λ i. whole i + size i) in
    let chosen : number_of v c.in_ok-chosen.chosen.items ≡ cond (edge_value v c.in_ok-difference.fits) (number_of v c.in_ok-difference.difference.items) w =
    part ∙ (λ i. cond (edge_value v c.in_ok-difference.fits) (diff2 i) (whole3 i)) in
    let list4 : c.deref-4.result.now ≡ c.in_ok-chosen.chosen.items = c.deref-4.ensures.value in
    let long : n ≤ length c.deref-4.result.now = omega (arith, ap length list4, c.in_ok-chosen.ensures.length, ap length c.deref-2.ensures.value, c.in_ok-difference.ensures.length, ap length list) in
    let next : number_of v c.in_ok-kept.kept.items ≡ number_of v c.in_ok-chosen.chosen.items % p =
    ap (number_of v) c.in_ok-kept.ensures.items ∙ number-take_mod (edge_value v) n c.deref-4.result.now long ∙ ap (λ l. number_of v l % p) list4 in
    takes n (number_of v c.args.rest.now) (bit (edge_value v c.args.low)) (number_of v c.args.divisor.now) (number_of v c.in_ok-difference.difference.items)
    (number_of v c.in_ok-chosen.chosen.items) (number_of v c.in_ok-kept.kept.items) (edge_value v c.in_ok-difference.fits) (bit-le (edge_value v c.args.low))
    (number-lt (edge_value v) c.args.rest.now) d small chosen next

pub subtract_carry-requires-clause-a_stand : goal.subtract_carry-requires-clause-a_stand
subtract_carry-requires-clause-a_stand c =
    rw (c.deref.ensures.value, c.in_ok-whole.ensures) (All-cons (Stands c.args.graph.now) c.args.low c.args.rest.now c.requires.low_stands c.requires.rest_stand)

pub select-requires-clause-a_stand : goal.select-requires-clause-a_stand
select-requires-clause-a_stand c = rw c.deref-2.ensures.value c.in_ok-difference.ensures.stands.0

pub select-requires-clause-b_stand : goal.select-requires-clause-b_stand
select-requires-clause-b_stand c =
    rw (c.deref-3.ensures.value, c.in_ok-whole.ensures)
    (AllStand-extends c.args.graph.now c.subtract_carry.new.graph (c.args.low ∷ c.args.rest.now) c.in_ok-difference.ensures.extends
    (All-cons (Stands c.args.graph.now) c.args.low c.args.rest.now c.requires.low_stands c.requires.rest_stand))

pub returns-clause-stands : goal.returns-clause-stands
returns-clause-stands c = (
  omega (arith, c.in_ok-difference.ensures.stands.1, c.in_ok-chosen.ensures.extends.longer),
  rw (c.in_ok-kept.ensures.items, c.deref-4.ensures.value) (All-take (Stands c.select.new.graph) (length c.args.rest.now) c.in_ok-chosen.chosen.items c.in_ok-chosen.ensures.stands),
)
