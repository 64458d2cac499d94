-- Bindings of the columns and values that are left.
use Rattle.std.proofs.Common.{◌≡◌, ℕ, zero, suc, ◌≤◌, min, List, [], ◌∷◌, length, drop, refl, arith}
use Rattle.smv_value.specs.declared.value.Value.{Value}
use Rattle.trace_replay.specs.declared.columns.Column.{Column}
use Rattle.trace_replay.specs.Rows.{Terms, bindings_of}

bindings_of-nil : (terms : Terms) (cs : List Column) → bindings_of terms cs [] ≡ []
bindings_of-nil terms [] = refl
bindings_of-nil terms (c ∷ cs) = refl

pub bindings_done : (terms : Terms) (cs : List Column) (vs : List Value) (i : ℕ) → min (length cs) (length vs) ≤ i → bindings_of terms (drop i cs) (drop i vs) ≡ []
bindings_done terms [] vs zero h = refl
bindings_done terms (c ∷ cs) [] zero h = refl
bindings_done terms (c ∷ cs) (v ∷ vs) zero h = absurd (let no : ⊥ = omega (arith, h) in no)
bindings_done terms [] vs (suc i) h = refl
bindings_done terms (c ∷ cs) [] (suc i) h = bindings_of-nil terms (drop i cs)
bindings_done terms (c ∷ cs) (v ∷ vs) (suc i) h = bindings_done terms cs vs i (omega (arith, h))
