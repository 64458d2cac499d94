use Rattle.std.proofs.Common.{◌≡◌, vec_len}
use Rattle.book_agenda.proofs.Tabled.{AddsFirst}
use Rattle.book_agenda.proofs.literal_table.set_literals.Given as goal

abbrev pub invariant-loop-l : goal.invariant-loop-l
invariant-loop-l l = (vec_len l.words ≡ vec_len l.initial.words) × AddsFirst l.width l.row l.lits l.l-index l.initial.words.items l.words.items
