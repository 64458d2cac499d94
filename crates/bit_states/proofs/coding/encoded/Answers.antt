-- The bits of one value more.
use Rattle.std.proofs.Common.{arith, ◌∙◌, ◌++◌, Bool, List, ap, sym}
use Rattle.bit_states.specs.Values.{encoded_all}
use Rattle.bit_states.proofs.Walking.{encoded_next, encoded_short, none_of}
use Rattle.bit_states.proofs.coding.encoded.Goals as goal

pub returns-in_default : goal.returns-in_default
returns-in_default c =
    let types = c.args.types.now in
    let values = c.args.values.now in
    encoded_short types values c.loop-i.i c.loop-i.bits.items (encoded_all types values) (sym c.value_at.ensures ∙ none_of c.value_at.result c.in_default.not-Some) c.loop-i.invariant

pub loop-i-preserved : goal.loop-i-preserved
loop-i-preserved c =
    let types = c.args.types.now in
    let values = c.args.values.now in
    let made = c.loop-i.bits.items in
    let new_is = c.in_ok-extend_from_slice.ensures.items ∙ ap (λ (l : List Bool). made ++ l) (c.deref.ensures.value ∙ c.in_ok-more.ensures) in
    encoded_next types values c.loop-i.i c.index-types-i.result c.in-Some.value made c.extend_from_slice.new.self.items (encoded_all types values) (omega arith) c.index-types-i.is
    (sym c.in-Some.ensures) new_is c.loop-i.invariant
