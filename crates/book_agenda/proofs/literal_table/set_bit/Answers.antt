use Rattle.std.proofs.Common.{ℕ, ◌%◌, ◌*◌, ◌^◌, ◌<◌, length, ap, ◌∙◌, w64, arith, get_or-set_same}
use Rattle.std.specs.Prelude.{bit_or}
use Rattle.std.specs.Int.{bit_at}
use Rattle.std.proofs.lemmas.List.{get_or_read}
use Rattle.std.proofs.lemmas.Nat.Bits.{bit_at_set_other}
use Rattle.book_agenda.proofs.literal_table.set_bit.Goals as goal

pub returns-clause-here : goal.returns-clause-here
returns-clause-here c = λ b other.
    let words = c.args.words.now.items in
    let old = c.index_mut.result.now in
    let n = c.args.place in
    let many = c.args.words.now.ok.0 in
    let in' : n < length words = let lt = c.requires.place in omega arith in
    let is = get_or_read words n old in' c.index_mut.ensures.value 0 in
    ap (λ (w : ℕ). bit_at w b) (get_or-set_same words n (bit_or old (1 * 2 ^ c.args.bit % 2 ^ 64)) 0 in')
    ∙ bit_at_set_other w64 old c.args.bit c.requires.bit b other
    ∙ ap (λ (w : ℕ). bit_at w b) is
