use Rattle.std.proofs.Common.{◌≡◌, ℕ, ◌+◌, ◌%◌, get_or, subst}
use Rattle.std.specs.Int.{bit_at}
use Rattle.book_agenda.specs.Tables.{place_of}
use Rattle.book_agenda.proofs.Tabled.{set_more, place_low}
use Rattle.book_agenda.proofs.literal_table.set.Goals as goal

pub returns-then-l-width-clause-set : goal.returns-then-l-width-clause-set
returns-then-l-width-clause-set c =
    let l = c.args.l in
    let ws = c.args.words.now.items in
    let vs = c.set_bit.new.words.items in
    let begin = c.args.begin in
    let bit = c.args.row % 64 in
    let is : c.place.result ≡ place_of l = c.place.ensures in
    let Here : ℕ → Type 0 = λ p. (b : ℕ) → (b ≡ bit → ⊥) → bit_at (get_or vs (begin + p) 0) b ≡ bit_at (get_or ws (begin + p) 0) b in
    let Others : ℕ → Type 0 = λ p. (k : ℕ) → (k ≡ begin + p → ⊥) → get_or vs k 0 ≡ get_or ws k 0 in
    set_more c.args.width begin c.args.row ws vs l c.requires.begin (place_low l c.args.width c.if-l-width.true)
    (subst Here is c.set_bit.ensures.here) (subst Others is c.set_bit.ensures.others)
