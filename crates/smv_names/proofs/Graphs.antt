-- The graph of modules leads to modules alone.
use Rattle.std.proofs.Common.{◌≡◌, inl, inr, ℕ, ◌<◌, ◌≤◌, Bool, true, false, if◌then◌else◌, List, [], ◌∷◌, length, get_or, map, refl, subst, arith, Option, Some, None, All, Contains, bytes_eq}
use Rattle.std.proofs.lemmas.List.{length-map}
use Rattle.std.specs.List.{flat_map}
use Rattle.std.proofs.lemmas.Bool.{cases_lt}
use Rattle.std.proofs.lemmas.List.{get_or-map, get_or_past}
use Rattle.std.proofs.lemmas.List.Elements.{All-append, All-contains, All-nil, All-cons}
use Rattle.std.proofs.lemmas.List.Quantifiers.{position-Some}
use Rattle.digraph.specs.Cycles.{Closed, successors}
use Rattle.smv_tree.specs.declared.tree.Program.{Program}
use Rattle.smv_tree.specs.declared.tree.Module.{Module}
use Rattle.smv_tree.specs.declared.tree.Section.{Section}
use Rattle.smv_tree.specs.declared.tree.Section.TheVariants as section
use Rattle.smv_tree.specs.declared.tree.TypeExpr.{TypeExpr}
use Rattle.smv_tree.specs.declared.tree.TypeExpr.TheVariants as written
use Rattle.smv_tree.specs.declared.tree.Variable.{Variable}
use Rattle.smv_scope.specs.Modules.{is_array, module_named}
use Rattle.smv_names.specs.Reached.{module_graph, module_of_type, module_of_variable, modules_in, modules_used, some_only}

-- a module that is named is one of the modules
pub named_within : (modules : List Module) (name : List ℕ) (n : ℕ) → module_named modules name ≡ Some n → n < length modules
named_within [] name n e = absurd (let f : None ≡ Some n = e in cc)
named_within (m ∷ ms) name n e = (position-Some (λ (x : Module). bytes_eq name x.name) (m ∷ ms) n m e).0

-- a number that may be there is below
pub some_within : (n : ℕ) (o : Option ℕ) → ((v : ℕ) → o ≡ Some v → v < n) → All (λ v. v < n) (some_only o)
some_within n None h = All-nil (λ v. v < n)
some_within n (Some v) h = All-cons (λ v. v < n) v [] (h v refl) (All-nil (λ v. v < n))

pub all_of : {X : Type 0} (n : ℕ) (f : X → List ℕ) (xs : List X) → ((x : X) → All (λ v. v < n) (f x)) → All (λ v. v < n) (flat_map f xs)
all_of n f [] h = All-nil (λ v. v < n)
all_of n f (x ∷ xs) h = All-append (λ v. v < n) (f x) (flat_map f xs) (h x) (all_of n f xs h)

type_within : (modules : List Module) (t : TypeExpr) → All (λ v. v < length modules) (module_of_type modules t)
type_within modules (written.Instance place name given) = some_within (length modules) (module_named modules name) (named_within modules name)
type_within modules other = All-nil (λ v. v < length modules)

variable_within : (modules : List Module) (v : Variable) → All (λ k. k < length modules) (module_of_variable modules v)
variable_within modules v = by (is_array v)
  where
    by : (b : Bool) → All (λ k. k < length modules) (if b then [] else module_of_type modules v.declared)
    by true = All-nil (λ k. k < length modules)
    by false = type_within modules v.declared

section_within : (modules : List Module) (s : Section) → All (λ v. v < length modules) (modules_in modules s)
section_within modules (section.Variables kind vs) = all_of (length modules) (module_of_variable modules) vs (variable_within modules)
section_within modules other = All-nil (λ v. v < length modules)

used_within : (modules : List Module) (m : Module) → All (λ v. v < length modules) (modules_used modules m)
used_within modules m = all_of (length modules) (modules_in modules) m.sections (section_within modules)

-- a node for each module
pub size : (p : Program) → length (module_graph p) ≡ length p.modules
size p = length-map p.modules (modules_used p.modules)

-- where all that elements lead to is below n, so is what their graph leads to
pub closed_from : {X : Type 0} (f : X → List ℕ) (n : ℕ) → ((x : X) → All (λ v. v < n) (f x)) → (xs : List X) (a v : ℕ) → Contains (successors (map f xs) a) v → v < n
closed_from f n each [] a v e = let lt : e.0 < 0 = e.1 in absurd (omega (arith, lt))
closed_from f n each (x ∷ xs) a v e =
    elim (cases_lt a (length (x ∷ xs))) [
      | inl lt ↦
          let y = get_or (x ∷ xs) a x in
          let is : successors (map f (x ∷ xs)) a ≡ f y = get_or-map f (x ∷ xs) a x [] lt in
          let P : List ℕ → Type 0 = λ vs. Contains vs v in
          All-contains (λ v. v < n) (f y) v (each y) (subst P is e)
      | inr le ↦
          let same : length (map f (x ∷ xs)) ≡ length (x ∷ xs) = length-map (x ∷ xs) f in
          let none : successors (map f (x ∷ xs)) a ≡ [] = get_or_past (map f (x ∷ xs)) a [] (let past : length (map f (x ∷ xs)) ≤ a = omega (arith, same, le) in past) in
          let P : List ℕ → Type 0 = λ vs. Contains vs v in
          let c = subst P none e in
          let lt : c.0 < 0 = c.1 in
          absurd (omega (arith, lt))
    ]

-- the modules are the nodes
pub closed : (p : Program) → Closed (module_graph p)
closed p a v e = let s = size p in let lt : v < length p.modules = closed_from (modules_used p.modules) (length p.modules) (used_within p.modules) p.modules a v e in omega (arith, s, lt)
