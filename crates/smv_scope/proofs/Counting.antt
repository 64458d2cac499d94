-- The variables that have values, counted.
use Rattle.std.proofs.Common.{◌≡◌, ℕ, zero, suc, ◌+◌, ◌<◌, ◌≤◌, cond, List, [], ◌∷◌, length, get_or, take, Option, Some, None, slice_get, refl, ap, ◌∙◌, arith}
use Rattle.std.specs.Option.{option_map, unwrap_or}
use Rattle.std.proofs.lemmas.List.Sums.{sum_by-cons, sum_by_more_le, sum_by-take-le}
use Rattle.std.proofs.lemmas.Option.{slice_get_within, get_or_from_slice_get, unwrap_or-slice_get}
use Rattle.smv_tree.specs.declared.tree.Program.{Program}
use Rattle.smv_tree.specs.declared.tree.Variable.{Variable}
use Rattle.smv_tree.specs.declared.tree.VariableKind.{VariableKind}
use Rattle.smv_scope.specs.declared.instance.Instance.{Instance}
use Rattle.smv_scope.specs.declared.symbols.SymbolTable.{SymbolTable}
use Rattle.smv_scope.specs.Modules.{parameters_of, sections_of, variables_of}
use Rattle.smv_scope.specs.Instances.{instances_of, module_in, module_at}
use Rattle.smv_scope.specs.Holders.{holds, held_by, held_in, held_before, rank_of}
use Rattle.smv_scope.specs.Symbols.{IsTableOf, ranks_by, holders_by, ranks_from, first_holders_from}

-- the rank of a variable; past the last, so many as have values
pub rank_at : (n v : ℕ) (xs : List (VariableKind × Variable)) → get_or (ranks_from n xs) v (n + held_by xs) ≡ n + held_by (take v xs)
rank_at n zero [] = refl
rank_at n (suc v) [] = refl
rank_at n zero (x ∷ xs) = omega arith
rank_at n (suc v) (x ∷ xs) =
    let k : ℕ = cond (holds x.1) 1 0 in
    let all : n + held_by (x ∷ xs) ≡ n + cond (holds x.1) 1 0 + held_by xs = omega (arith, sum_by-cons (λ (y : VariableKind × Variable). cond (holds y.1) 1 0) x xs) in
    let before : n + cond (holds x.1) 1 0 + held_by (take v xs) ≡ n + held_by (x ∷ take v xs) = omega (arith, sum_by-cons (λ (y : VariableKind × Variable). cond (holds y.1) 1 0) x (take v xs)) in
    ap (get_or (ranks_from (n + k) xs) v) all ∙ rank_at (n + k) v xs ∙ before

pub rank_few : (p : Program) (m v : ℕ) → rank_of p m v ≤ held_by (variables_of p m)
rank_few p m v = sum_by-take-le (λ (x : VariableKind × Variable). cond (holds x.1) 1 0) (variables_of p m) v

-- the rank that a table has
pub rank_told : (p : Program) (m v : ℕ) (o : Option SymbolTable) (table : SymbolTable) (r : Option ℕ) → Some table ≡ o → IsTableOf (parameters_of p m) (sections_of p m) o
    → r ≡ slice_get table.ranks v → unwrap_or r table.holders ≡ rank_of p m v
rank_told p m v o table r is right told =
    let xs = variables_of p m in
    let none : table.holders ≡ 0 + held_by (variables_of p m) = ap holders_by is ∙ right.6 ∙ (let z : held_by (variables_of p m) ≡ 0 + held_by (variables_of p m) = omega arith in z) in
    let last : 0 + held_by (take v (variables_of p m)) ≡ rank_of p m v = omega arith in
    ap (λ s. unwrap_or s table.holders) told
    ∙ unwrap_or-slice_get table.ranks v table.holders
    ∙ ap (λ ranks. get_or ranks v table.holders) (ap ranks_by is ∙ right.5)
    ∙ ap (get_or (ranks_from 0 xs) v) none
    ∙ rank_at 0 v xs ∙ last

-- how many variables have values before an instance
pub first_at : (p : Program) (n at : ℕ) (xs : List Instance) → slice_get (first_holders_from p n xs) at ≡ option_map (λ (x : Instance). n + held_in p (take at xs)) (slice_get xs at)
first_at p n at [] = refl
first_at p n zero (x ∷ xs) = let none : n ≡ n + 0 = omega arith in ap Some none
first_at p n (suc at) (x ∷ xs) =
    let k : ℕ = held_by (variables_of p x.of_module) in
    let f : Instance → ℕ = λ y. held_by (variables_of p y.of_module) in
    let same : n + held_by (variables_of p x.of_module) + held_in p (take at xs) ≡ n + held_in p (x ∷ take at xs) =
    omega (arith, sum_by-cons (λ (y : Instance). held_by (variables_of p y.of_module)) x (take at xs)) in
    first_at p (n + k) at xs ∙ ap (λ m. option_map (λ (y : Instance). m) (slice_get xs at)) same

-- what an instance of a module has
of_instance : (p : Program) (at m : ℕ) (firsts : List ℕ) (o : Option Instance) → slice_get (instances_of p) at ≡ o → firsts ≡ first_holders_from p 0 (instances_of p) → module_in o ≡ Some m
    → (slice_get firsts at ≡ Some (held_before p at)) × (held_before p at + held_by (variables_of p m) ≤ held_in p (instances_of p))
of_instance p at m firsts None is f e = absurd cc
of_instance p at m firsts (Some x) is f e =
    let tree = instances_of p in
    let same : x.of_module ≡ m = cc in
    let within : at < length tree = slice_get_within tree at x is in
    let none : 0 + held_before p at ≡ held_before p at = omega arith in
    let few = sum_by_more_le (λ (y : Instance). held_by (variables_of p y.of_module)) tree at x within in (
      ap (λ ys. slice_get ys at) f ∙ first_at p 0 at tree ∙ ap (option_map (λ (y : Instance). 0 + held_before p at)) is ∙ ap Some none,
      rw (← same) (rw (get_or_from_slice_get tree at x x is) at few),
    )

pub first_is : (p : Program) (at m : ℕ) (tree : List Instance) (firsts : List ℕ) → tree ≡ instances_of p → firsts ≡ first_holders_from p 0 tree → module_at p at ≡ Some m
    → (slice_get firsts at ≡ Some (held_before p at)) × (held_before p at + held_by (variables_of p m) ≤ held_in p tree)
first_is p at m tree firsts is f e =
    let r = of_instance p at m firsts (slice_get (instances_of p) at) refl (f ∙ ap (first_holders_from p 0) is) e in
    (r.0, rw is r.1)
