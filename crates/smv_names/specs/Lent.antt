-- Names and expressions as the code holds them: lent, in sets and in lists.
use Rattle.std.specs.Prelude.{ℕ, Bool, List, map, Option, None, Some, bytes_eq}
use Rattle.std.specs.HashSet.{HashSet, contains_by}
use denote.Ref.{Bor}
use Rattle.smv_tree.specs.declared.place.Place.{Place}
use Rattle.smv_names.specs.Declarations.{Named}

-- the set has this name
abbrev pub knows : {S : Type 0} → HashSet (Bor (List ℕ)) S → List ℕ → Bool
knows names name = contains_by (λ k. bytes_eq name k.now) names

-- the names, read
abbrev pub read_names : List (Place × Bor (List ℕ)) → List Named
read_names names = map (λ (x : Place × Bor (List ℕ)). (x.0, x.1.now)) names

-- what is lent, if it is there, read
abbrev pub read_some : {A : Type 0} → Option (Bor A) → Option A
read_some None = None
read_some (Some x) = Some x.now
