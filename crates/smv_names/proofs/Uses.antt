-- Where the graph of modules has no cycle, no module is an instance of itself.
use Rattle.std.proofs.Common.{◌≡◌, inl, inr, ℕ, suc, Bool, false, if◌then◌else◌, ◌+◌, ◌<◌, List, [], ◌∷◌, map, Option, Some, None, refl, ap, ◌∙◌, subst, arith, Contains}
use Rattle.std.specs.List.{flat_map}
use Rattle.std.proofs.lemmas.List.Elements.{Contains-append_left, Contains-append_right}
use Rattle.digraph.specs.Cycles.{Acyclic, Edge, successors}
use Rattle.smv_tree.specs.declared.tree.Program.{Program}
use Rattle.smv_tree.specs.declared.tree.Module.{Module}
use Rattle.smv_tree.specs.declared.tree.Section.{Section}
use Rattle.smv_tree.specs.declared.tree.Section.TheVariants as section
use Rattle.smv_tree.specs.declared.tree.Variable.{Variable}
use Rattle.smv_tree.specs.declared.tree.TypeExpr.{TypeExpr}
use Rattle.smv_tree.specs.declared.tree.TypeExpr.TheVariants as written
use Rattle.smv_scope.specs.Modules.{is_array, module_named}
use Rattle.smv_names.specs.declared.reached.UseRule.TheVariants as asked
use Rattle.smv_verdicts.specs.Verdicts.{Each}
use Rattle.smv_names.specs.Reached.{Reaches, ReachesFrom, module_graph, module_of_type, module_of_variable, modules_in, modules_used, some_only, use_verdict, section_verdict, modules_verdict, uses_verdict}

module _ (p : Program) (acyclic : Acyclic (module_graph p)) where
  -- a node does not reach one that leads to it
  no_way_back : (n k : ℕ) → Edge (module_graph p) n k → Reaches (module_graph p) k n → ⊥
  no_way_back n k edge (inl same) = let P : ℕ → Type 0 = λ v. Edge (module_graph p) n v in acyclic n ([], subst P same edge)
  no_way_back n k edge (inr (between, walk)) = acyclic n (k ∷ between, (edge, walk))

  module _ (n : ℕ) where
    -- these are some of the modules that the module of this number uses
    Used : List ℕ → Type 0
    Used ks = (k : ℕ) → Contains ks k → Edge (module_graph p) n k

    no_cycle : (o : Option ℕ) → Used (some_only o) → ReachesFrom (module_graph p) o n → ⊥
    unfolding Used
    no_cycle None used r = r
    no_cycle (Some k) used r = no_way_back n k (used k (0, (let lt : 0 < 1 = omega arith in lt), refl)) r

    -- no instance is judged cyclic, and no array is
    use_allowed : (v : Variable) (t : TypeExpr) → (is_array v ≡ false → Used (module_of_type p.modules t)) → use_verdict asked.Cyclic p n v t None
    use_allowed v (written.Instance place name given) used = λ h. no_cycle (module_named p.modules name) (used h.1) h.2
    use_allowed v other used = refl

    used_directly : (v : Variable) → Used (module_of_variable p.modules v) → is_array v ≡ false → Used (module_of_type p.modules v.declared)
    used_directly v used e = (let P : Bool → Type 0 = λ b. Used (if b then [] else module_of_type p.modules v.declared) in subst P e used)

    first_used : {A : Type 0} (f : A → List ℕ) (x : A) (xs : List A) → Used (flat_map f (x ∷ xs)) → Used (f x)
    unfolding Used
    first_used f x xs used k c = used k (Contains-append_left (f x) (flat_map f xs) k c)

    others_used : {A : Type 0} (f : A → List ℕ) (x : A) (xs : List A) → Used (flat_map f (x ∷ xs)) → Used (flat_map f xs)
    unfolding Used
    others_used f x xs used k c = used k (Contains-append_right (f x) (flat_map f xs) k c)

    variables_allowed : (vs : List Variable) → Used (flat_map (module_of_variable p.modules) vs) → Each (λ (v : Variable). use_verdict asked.Cyclic p n v v.declared) vs None
    variables_allowed [] used = refl
    variables_allowed (v ∷ vs) used = (
      use_allowed v v.declared (used_directly v (first_used (module_of_variable p.modules) v vs used)),
      variables_allowed vs (others_used (module_of_variable p.modules) v vs used),
    )

    section_allowed : (s : Section) → Used (modules_in p.modules s) → section_verdict asked.Cyclic p n s None
    section_allowed (section.Variables kind vs) used = variables_allowed vs used
    section_allowed other used = refl

    sections_allowed : (ss : List Section) → Used (flat_map (modules_in p.modules) ss) → Each (section_verdict asked.Cyclic p n) ss None
    sections_allowed [] used = refl
    sections_allowed (s ∷ ss) used = (section_allowed s (first_used (modules_in p.modules) s ss used), sections_allowed ss (others_used (modules_in p.modules) s ss used))

  -- what a module uses are the successors of its number
  used_here : (n : ℕ) (m : Module) → modules_used p.modules m ≡ successors (module_graph p) n → Used n (modules_used p.modules m)
  unfolding Used
  used_here n m is k c = let P : List ℕ → Type 0 = λ ks. Contains ks k in subst P is c

  modules_allowed : (n : ℕ) (ms : List Module) → ((i : ℕ) → successors (map (modules_used p.modules) ms) i ≡ successors (module_graph p) (n + i)) → modules_verdict asked.Cyclic p n ms None
  modules_allowed n [] is = refl
  modules_allowed n (m ∷ ms) is =
      let here : n + 0 ≡ n = omega arith in (
        sections_allowed n m.sections (used_here n m (is 0 ∙ ap (successors (module_graph p)) here)),
        modules_allowed (n + 1) ms (λ i. is (suc i) ∙ ap (successors (module_graph p)) (let next : n + suc i ≡ n + 1 + i = omega arith in next)),
      )

  pub none_cyclic : uses_verdict asked.Cyclic p None
  none_cyclic = modules_allowed 0 p.modules (λ i. ap (successors (module_graph p)) (let same : i ≡ 0 + i = omega arith in same))
