use Rattle.std.specs.Prelude.{ℕ, Bool, List, ◌<◌, false, length, slice_index_or, Contains, MatchBool}
use Rattle.clause_core.specs.declared.literal.Lit.{Lit}

-- each mark, for a variable, says whether the list has the literal of this sign
abbrev pub AreSigned : Bool → List Lit → List Bool → Type 0
AreSigned sign literals marks =
    (v : ℕ) → v < length marks →
    MatchBool (slice_index_or marks v false) (Contains literals (record { var = v; positive = sign })) (Contains literals (record { var = v; positive = sign }) → ⊥)
