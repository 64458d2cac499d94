-- Lines read one after another.
use Rattle.std.proofs.Common.{◌≡◌, ℕ, ◌+◌, ◌<◌, List, Option, None, Some, Err, length, get_or, drop, ap, ◌∙◌}
use Rattle.trace_lines.specs.declared.reading.Reading.{Reading}
use Rattle.trace_lines.specs.Reading.{and_then, lines_read, with_line}
use Rattle.trace_lines.proofs.OfEntries.{drop_at}

module _ (ls : List (List ℕ)) (i : ℕ) (r : Reading) (l : List ℕ) (within : i < length ls) (at : l ≡ get_or ls i l) where
  pub lines_more : (s : Reading) → with_line r l ≡ Some s → lines_read i r (drop i ls) ≡ lines_read (i + 1) s (drop (i + 1) ls)
  lines_more s e = drop_at (lines_read i r) ls i l within at ∙ ap (λ (o : Option Reading). and_then (i + 1) o (λ u. lines_read (i + 1) u (drop (i + 1) ls))) e

  pub lines_stop : with_line r l ≡ None → lines_read i r (drop i ls) ≡ Err (i + 1)
  lines_stop e = drop_at (lines_read i r) ls i l within at ∙ ap (λ (o : Option Reading). and_then (i + 1) o (λ u. lines_read (i + 1) u (drop (i + 1) ls))) e
