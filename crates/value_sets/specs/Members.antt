-- The members of sets of values.
use Rattle.std.specs.Prelude.{◌≡◌, ℕ, zero, suc, ◌≤◌, List, [], ◌∷◌, length, Option, None, Some, ℤ, pos, ◌+ℤ◌, ◌-ℤ◌}
use Rattle.std.specs.List.{flat_map}
use Rattle.smv_value.specs.declared.value.Value.{Value}
use Rattle.smv_value.specs.declared.value.Value.TheVariants as value
use Rattle.smv_value.specs.Results.{natural}
use Rattle.value_sets.specs.declared.sets.Kept.{Kept}
use Rattle.value_sets.specs.declared.sets.Kept.TheVariants as kept
use Rattle.value_sets.specs.declared.spans.Few.{Few}
use Rattle.value_sets.specs.declared.spans.Few.TheVariants as few
use Rattle.value_sets.specs.declared.spans.Span.{Span}
use Rattle.value_sets.specs.declared.spans.Span.TheVariants as span

-- so many integers, from this one on
abbrev pub counted_up : ℤ → ℕ → List Value
counted_up z zero = []
counted_up z (suc n) = value.Int z ∷ counted_up (z +ℤ pos 1) n

-- the integers from the first to the last; none where the last is less
abbrev pub run : ℤ → ℤ → List Value
run low high = counted_up low (natural (high +ℤ pos 1 -ℤ low))

-- the only one, if there is just one
abbrev pub only : List Value → Option Value
only (v ∷ []) = Some v
only other = None

abbrev pub span_values : Span → List Value
span_values (span.One v) = v ∷ []
span_values (span.Run low high) = run low high

abbrev pub kept_values : Kept → List Value
kept_values (kept.One v) = v ∷ []
kept_values (kept.Spans spans) = flat_map span_values spans

-- how many values there are
abbrev pub IsFew : Few → List Value → Type 0
IsFew few.Nothing vs = vs ≡ []
IsFew (few.One v) vs = vs ≡ v ∷ []
IsFew few.More vs = 2 ≤ length vs

-- how many there are in two lists together
abbrev pub together : Few → Few → Few
together few.Nothing b = b
together (few.One v) few.Nothing = few.One v
together (few.One v) (few.One w) = few.More
together (few.One v) few.More = few.More
together few.More b = few.More
