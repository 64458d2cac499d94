-- Paths, from an instance up.
use Rattle.std.proofs.Common.{◌≡◌, ℕ, zero, suc, ◌-◌, ◌<◌, List, [], ◌∷◌, ◌++◌, map, reverse, None, Some, Bor, refl, ap, ◌∙◌, arith}
use Rattle.std.proofs.lemmas.List.{reverse-append, map-append}
use Rattle.std.specs.List.{fold}
use Rattle.smv_tree.specs.declared.tree.Program.{Program}
use Rattle.smv_scope.specs.declared.instance.Parent.{Parent}
use Rattle.smv_scope.specs.Lookup.{parent_at}
use Rattle.smv_scope.specs.Paths.{joined, path_within, path_behind, variable_name}

-- names that are lent
abbrev pub lent_names : List (Bor (List ℕ)) → List (List ℕ)
lent_names xs = map (λ (x : Bor (List ℕ)). x.now) xs

-- the last of the names comes first behind the path
pub last_first : (path : List ℕ) (all names : List (Bor (List ℕ))) (x : Bor (List ℕ)) → all ≡ names ++ x ∷ [] → fold joined path (reverse (lent_names all)) ≡ fold joined (joined path x.now) (reverse (lent_names names))
last_first path all names x is =
    ap (λ (xs : List (Bor (List ℕ))). fold joined path (reverse (lent_names xs))) is
    ∙ ap (λ xs. fold joined path (reverse xs)) (map-append (λ (y : Bor (List ℕ)). y.now) names (x ∷ []))
    ∙ ap (fold joined path) (reverse-append (lent_names names) (x.now ∷ []))

-- the path of an instance ends with its own name
pub path_within-step : (p : Program) (most at : ℕ) → 0 < most → path_within p most at ≡ path_behind p (path_within p (most - 1)) (parent_at p at)
unfolding path_within
path_within-step p zero at h = absurd (omega arith)
path_within-step p (suc most) at h = let one : suc most - 1 ≡ most = omega arith in rw one refl

pub path_within-none : (p : Program) (most at : ℕ) → most ≡ 0 → path_within p most at ≡ []
unfolding path_within
path_within-none p most at none = rw none refl

-- an instance that is declared nowhere
pub path_of_none : (p : Program) (most at : ℕ) → 0 < most → parent_at p at ≡ None → path_within p most at ≡ []
path_of_none p most at h none = path_within-step p most at h ∙ ap (path_behind p (path_within p (most - 1))) none

-- one that is declared by another
pub path_of_some : (p : Program) (most at : ℕ) (parent : Parent) → 0 < most → parent_at p at ≡ Some parent → path_within p most at ≡ joined (path_within p (most - 1) parent.instance) (variable_name p parent.instance parent.variable)
path_of_some p most at parent h is = path_within-step p most at h ∙ ap (path_behind p (path_within p (most - 1))) is
