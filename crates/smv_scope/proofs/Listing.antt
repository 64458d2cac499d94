-- The instantiations of the modules of a program, and the roots that come of them.
use Rattle.std.proofs.Common.{◌≡◌, ℕ, suc, ◌+◌, ◌-◌, ◌<◌, ◌≤◌, List, [], ◌∷◌, ◌++◌, length, get_or, drop, reverse, drop-cons, Option, Some, None, slice_get, refl, sym, ap, ◌∙◌, subst, ⊎_elim, arith, length-append}
use Rattle.std.specs.List.{flat_map}
use Rattle.std.proofs.lemmas.List.{reverse-append}
use Rattle.std.proofs.lemmas.Option.{slice_get_read, slice_get_past, slice_get_cases}
use Rattle.smv_tree.specs.declared.tree.Program.{Program}
use Rattle.smv_tree.specs.declared.tree.Module.{Module}
use Rattle.smv_tree.specs.declared.tree.Section.{Section}
use Rattle.smv_scope.specs.declared.instance.Instance.{Instance}
use Rattle.smv_scope.specs.declared.instances.Root.{Root}
use Rattle.smv_scope.specs.declared.instantiations.Instantiation.{Instantiation}
use Rattle.smv_scope.specs.Modules.{sections_in, sections_of, variables_in}
use Rattle.smv_scope.specs.Instances.{children_from}
use Rattle.smv_scope.specs.Instantiations.{instance_by, instances_by, listed_in, AreListed}
use Rattle.smv_scope.proofs.Preorder.{rooted}
use Rattle.smv_scope.proofs.Tables.{grown}

-- the list gives what each instance of a module with these sections declares
abbrev pub IsListOf : Program → List Section → Option (List Instantiation) → Type 0
IsListOf p sections list = (at : ℕ) → instances_by at (listed_in list) ≡ children_from p.modules at 0 (flat_map variables_in sections)

-- one module more
pub lists_next : (p : Program) (modules : List Module) (i : ℕ) (x : Module) (ss : List Section) (list : List Instantiation) (old new : List (List Instantiation)) →
    modules ≡ p.modules → i < length modules → x ≡ get_or modules i x → ss ≡ x.sections → length old ≡ i → new ≡ old ++ list ∷ [] → IsListOf p ss (Some list)
    → ((m : ℕ) → m < length old → IsListOf p (sections_of p m) (slice_get old m))
    → (length new ≡ i + 1) × ((m : ℕ) → m < length new → IsListOf p (sections_of p m) (slice_get new m))
lists_next p modules i x ss list old new same h is f long more right before =
    let here : slice_get p.modules (length old) ≡ Some x = ap (slice_get p.modules) long ∙ ap (λ (ms : List Module). slice_get ms i) (sym same) ∙ slice_get_read modules (length modules) i x refl h is in
    let Sections : List Section → Type 0 = λ ts. IsListOf p ts (Some list) in
    let P : ℕ → Option (List Instantiation) → Type 0 = λ m o. IsListOf p (sections_of p m) o in (
      ap length more ∙ length-append old (list ∷ []) ∙ ap (λ n. n + 1) long,
      grown P old new list more (subst Sections (f ∙ ap sections_in (sym here)) right) before,
    )

no_list : (p : Program) (ss : List Section) (o : Option (List Instantiation)) → ss ≡ [] → o ≡ None → IsListOf p ss o
no_list p ss o e f = rw (e, f) (λ at. refl)

-- no module is left
pub lists_end : (p : Program) (modules : List Module) (i : ℕ) (lists : List (List Instantiation)) → modules ≡ p.modules → length modules ≤ i → length lists ≡ i
    → ((m : ℕ) → m < length lists → IsListOf p (sections_of p m) (slice_get lists m)) → AreListed p lists
lists_end p modules i lists same past long right m =
    let few : length p.modules ≤ i = rw (← same) past in
    ⊎_elim
    (λ w. right m w.1)
    (λ w.
    let none : slice_get p.modules m ≡ None = slice_get_past p.modules m (omega (arith, w.0, few, long)) in
    no_list p (sections_of p m) (slice_get lists m) (ap sections_in none) w.1)
    (slice_get_cases lists m).1

-- one root more, from the last on
pub root_next : (list : List Instantiation) (k at d : ℕ) (other : Instantiation) (x : Instance) (old new first : List Root) → 0 < k → k ≤ length list → x ≡ instance_by at (get_or list (k - 1) other)
    → new ≡ old ++ record { instance = x; depth = d } ∷ [] → reverse old ≡ rooted d (instances_by at (drop k list)) ++ first
    → reverse new ≡ rooted d (instances_by at (drop (k - 1) list)) ++ first
root_next list k at d other x old new first some within is more before =
    let r : Root = record { instance = x; depth = d } in
    let split : drop (k - 1) list ≡ get_or list (k - 1) other ∷ drop k list =
    drop-cons list (k - 1) other (omega arith) ∙ ap (λ n. get_or list (k - 1) other ∷ drop n list) (let one : suc (k - 1) ≡ k = omega arith in one) in
    ap reverse more ∙ reverse-append old (r ∷ []) ∙ ap (λ rs. r ∷ rs) before
    ∙ ap (λ (y : Instance). record { instance = y; depth = d } ∷ rooted d (instances_by at (drop k list)) ++ first) is
    ∙ ap (λ ys. rooted d (instances_by at ys) ++ first) (sym split)
