-- One text more in a column.
use Rattle.std.proofs.Common.{◌≡◌, ℕ, ◌+◌, ◌<◌, List, length, drop, max, sym, ap, ◌∙◌, arith}
use Rattle.std.proofs.lemmas.List.{at_drop_more}
use Rattle.trace_lines.specs.declared.entry.Binding.{Binding}
use Rattle.trace_table.specs.Table.{cell, widest}

max_more : (m w r : ℕ) → max (max m w) r ≡ max m (max w r)
max_more m w r = omega arith

pub widest_more : (rows : List (List Binding)) (i j : ℕ) (bs : List Binding) (d : Binding) (m w : ℕ) → j < length bs → w ≡ length (cell rows i j) →
    max (max m w) (widest rows i (j + 1) (drop (j + 1) bs)) ≡ max m (widest rows i j (drop j bs))
widest_more rows i j bs d m w lt e =
    max_more m w (widest rows i (j + 1) (drop (j + 1) bs))
    ∙ ap (λ n. max m (max n (widest rows i (j + 1) (drop (j + 1) bs)))) e
    ∙ ap (max m) (sym (at_drop_more (widest rows i j) bs j d lt))
