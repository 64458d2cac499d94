-- What the names of a module say of an instance, all of them and the open ones alone.
use Rattle.std.proofs.Common.{◌≡◌, ℕ, ◌+◌, ◌<◌, true, false, List, [], ◌∷◌, ◌++◌, map, length, get_or, take, Option, Some, slice_get, refl, sym, ap, subst, ◌∙◌, ⊎_elim, Bor}
use Rattle.std.specs.Prelude.{Vec, nat_eq}
use Rattle.std.specs.Map.{update}
use Rattle.std.specs.List.{flat_map}
use Rattle.std.proofs.lemmas.Bool.{eqb-true, cases_Bool}
use Rattle.std.proofs.lemmas.List.{map-append, take_more}
use Rattle.std.proofs.lemmas.Map.{update_same, update_other}
use Rattle.std.proofs.lemmas.Option.{same_Some, slice_get-get_or}
use Rattle.smv_tree.specs.declared.tree.Program.{Program}
use Rattle.smv_tree.specs.declared.tree.Section.{Section}
use Rattle.smv_tree.specs.declared.tree.Section.TheVariants as section
use Rattle.smv_tree.specs.declared.tree.Variable.{Variable}
use Rattle.smv_tree.specs.declared.tree.Definition.{Definition}
use Rattle.smv_tree.specs.declared.tree.Dimension.{Dimension}
use Rattle.smv_tree.specs.declared.tree.Assignment.{Assignment}
use Rattle.smv_tree.specs.declared.tree.TypeExpr.{TypeExpr}
use Rattle.smv_tree.specs.declared.tree.TypeExpr.TheVariants as written
use Rattle.smv_tree.specs.declared.tree.Expr.{Expr}
use Rattle.smv_tree.specs.declared.tree.Name.{Name}
use Rattle.smv_tree.specs.Occurring.{names_in, read}
use Rattle.smv_scope.specs.declared.instance.Instance.{Instance}
use Rattle.smv_scope.specs.Instances.{instances_of, module_at, module_in}
use Rattle.smv_scope.specs.Modules.{sections_of}
use Rattle.smv_verdicts.specs.Verdicts.{first_of, or_else}
use Rattle.smv_names.specs.Expressions.{in_assignment, in_dimension, in_section, in_type, in_variable}
use Rattle.smv_names.specs.Named.{unknown_identifier, unknown_in_assignment, unknown_in_dimension, unknown_in_expression, unknown_in_section, unknown_in_sections, unknown_in_type, unknown_in_variable}
use Rattle.smv_names.specs.OpenNames.{AreOpen, IsClosedName, SayAll, SayInModule, unknown_name}
use Rattle.smv_names.proofs.Firsts.{first_of-append, first_of-flat_map, first_of-last, first_of-map, first_of-two, or_else-none}

-- the expressions of sections say what the sections do

module _ (p : Program) (at : ℕ) where
  by_dimension : (d : Dimension) → first_of (unknown_in_expression p at) (in_dimension d) ≡ unknown_in_dimension p at d
  by_dimension d = first_of-two (unknown_in_expression p at) d.low d.high

  by_type : (t : TypeExpr) → first_of (unknown_in_expression p at) (in_type t) ≡ unknown_in_type p at t
  by_type (written.Boolean place) = refl
  by_type (written.Word place signed width) = or_else-none (unknown_in_expression p at width)
  by_type (written.Range place low high) = first_of-two (unknown_in_expression p at) low high
  by_type (written.Enumeration place elements) = refl
  by_type (written.Instance place name given) = refl

  by_variable : (v : Variable) → first_of (unknown_in_expression p at) (in_variable v) ≡ unknown_in_variable p at v
  by_variable v =
      first_of-append (unknown_in_expression p at) (flat_map in_dimension v.dimensions) (in_type v.declared)
      ∙ ap (λ r. or_else r (first_of (unknown_in_expression p at) (in_type v.declared))) (first_of-flat_map (unknown_in_expression p at) in_dimension (unknown_in_dimension p at) by_dimension v.dimensions)
      ∙ ap (or_else (first_of (unknown_in_dimension p at) v.dimensions)) (by_type v.declared)

  by_assignment : (a : Assignment) → first_of (unknown_in_expression p at) (in_assignment a) ≡ unknown_in_assignment p at a
  by_assignment a = first_of-two (unknown_in_expression p at) a.target a.value

  by_section : (s : Section) → first_of (unknown_in_expression p at) (in_section s) ≡ unknown_in_section p at s
  by_section (section.Variables kind vs) = first_of-flat_map (unknown_in_expression p at) in_variable (unknown_in_variable p at) by_variable vs
  by_section (section.Definitions ds) = first_of-map (unknown_in_expression p at) (λ (d : Definition). d.body) ds
  by_section (section.Constants symbols) = refl
  by_section (section.Assignments as') = first_of-flat_map (unknown_in_expression p at) in_assignment (unknown_in_assignment p at) by_assignment as'
  by_section (section.Constraint c) = or_else-none (unknown_in_expression p at c.formula)
  by_section (section.Specification s) = or_else-none (unknown_in_expression p at s.formula)

  by_names : (ss : List Section) → first_of (unknown_name p at) (flat_map names_in (flat_map in_section ss)) ≡ unknown_in_sections p at ss
  by_names ss =
      first_of-flat_map (unknown_name p at) names_in (unknown_in_expression p at) (λ e. refl) (flat_map in_section ss)
      ∙ first_of-flat_map (unknown_in_expression p at) in_section (unknown_in_section p at) by_section ss

-- the names that are open say it too, where they say what all names do
pub say_in_module : (p : Program) (from m : ℕ) (ss : List Section) (es : List Expr) (all again : List Name) → module_at p from ≡ Some m → ss ≡ sections_of p m → es ≡ flat_map in_section ss → all ≡ flat_map names_in es →
    SayAll p from all again → SayInModule p m again
say_in_module p from m ss es all again here sections expressions names say to there =
    say to (there ∙ sym here)
    ∙ ap (first_of (unknown_name p to)) (names ∙ ap (flat_map names_in) expressions)
    ∙ by_names p to ss
    ∙ ap (unknown_in_sections p to) sections

-- one name more, open or closed

pub say_more : (p : Program) (from : ℕ) (all again : List Name) (x : Name) → SayAll p from all again → SayAll p from (all ++ x ∷ []) (again ++ x ∷ [])
say_more p from all again x before to same =
    first_of-last (unknown_name p to) again x
    ∙ ap (λ r. or_else r (unknown_name p to x)) (before to same)
    ∙ sym (first_of-last (unknown_name p to) all x)

pub say_less : (p : Program) (from : ℕ) (all again : List Name) (x : Name) → IsClosedName p from x → SayAll p from all again → SayAll p from (all ++ x ∷ []) again
say_less p from all again x closed before to same =
    before to same
    ∙ sym (or_else-none (first_of (unknown_name p to) all))
    ∙ ap (λ o. or_else (first_of (unknown_name p to) all) (unknown_identifier o)) (sym (closed to same))
    ∙ sym (first_of-last (unknown_name p to) all x)

pub taken : {A B : Type 0} (f : A → B) (xs : List A) (i : ℕ) (x : A) → i < length xs → x ≡ get_or xs i x → map f (take (i + 1) xs) ≡ map f (take i xs) ++ f x ∷ []
taken {A} f xs i x within is =
    ap (map f) (take_more xs i x within ∙ ap (λ (y : A). take i xs ++ y ∷ []) (sym is)) ∙ map-append f (take i xs) (x ∷ [])

-- the names of one module more are noted
pub noted_more : {Z : Type 0} (p : Program) (old new : ℕ → Option (Vec (Bor Name) Z)) (m : ℕ) (again : Vec (Bor Name) Z) →
    ((q : ℕ) → new q ≡ update nat_eq old m (Some again) q) → SayInModule p m (read again.items) → AreOpen p old → AreOpen p new
noted_more {Z} p old new m again e here before q r is =
    ⊎_elim
    (λ (h : nat_eq m q ≡ true).
    let same : m ≡ q = eqb-true m q h in
    let one : Some again ≡ Some r = sym (update_same nat_eq old m (Some again) q h) ∙ sym (e q) ∙ is in
    let this : again ≡ r = same_Some again r one in
    let P : ℕ → Type 0 = λ k. SayInModule p k (read again.items) in
    let Q : Vec (Bor Name) Z → Type 0 = λ v. SayInModule p q (read v.items) in
    subst Q this (subst P same here))
    (λ (h : nat_eq m q ≡ false). before q r (sym (update_other nat_eq old m (Some again) q h) ∙ sym (e q) ∙ is))
    (cases_Bool (nat_eq m q))

-- the module of an instance of the tree
pub module_found : (p : Program) (tree items : List Instance) (i : ℕ) (d : Instance) → tree ≡ instances_of p → items ≡ tree → i < length items → module_at p i ≡ Some (get_or items i d).of_module
module_found p tree items i d of_program same within = sym (ap (λ (xs : List Instance). module_in (slice_get xs i)) (same ∙ of_program)) ∙ ap module_in (slice_get-get_or items i d within)
