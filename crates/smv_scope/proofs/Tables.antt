-- The symbol tables of the modules of a program.
use Rattle.std.proofs.Common.{◌≡◌, ℕ, ◌+◌, ◌<◌, ◌≤◌, List, [], ◌∷◌, ◌++◌, length, get_or, Option, Some, None, slice_get, refl, sym, ap, ◌∙◌, subst, ⊎_elim, arith, length-append}
use Rattle.std.proofs.lemmas.Bool.{cases_eq}
use Rattle.std.proofs.lemmas.Option.{slice_get_read, slice_get_past, slice_get_cases}
use Rattle.smv_tree.specs.declared.tree.Program.{Program}
use Rattle.smv_tree.specs.declared.tree.Module.{Module}
use Rattle.smv_tree.specs.declared.tree.Parameter.{Parameter}
use Rattle.smv_tree.specs.declared.tree.Section.{Section}
use Rattle.smv_scope.specs.declared.symbols.SymbolTable.{SymbolTable}
use Rattle.smv_scope.specs.Modules.{parameters_in, parameters_of, sections_in, sections_of}
use Rattle.smv_scope.specs.Symbols.{IsTableOf}
use Rattle.smv_scope.proofs.Indexing.{slice_get-append_here}
use Rattle.smv_scope.proofs.Spots.{stands_behind}

-- what holds of each element holds of one more
pub grown : {T : Type 0} (P : ℕ → Option T → Type 0) (old new : List T) (t : T) → new ≡ old ++ t ∷ [] → P (length old) (Some t) → ((m : ℕ) → m < length old → P m (slice_get old m))
    → (m : ℕ) → m < length new → P m (slice_get new m)
grown {T} P old new t e here before m h =
    let long : length new ≡ length old + 1 = ap length e ∙ length-append old (t ∷ []) in
    let last : slice_get new (length old) ≡ Some t = ap (λ (ys : List T). slice_get ys (length old)) e ∙ stands_behind old [] t in
    let Here : Option T → Type 0 = P (length old) in
    let There : Option T → Type 0 = P m in
    let At : ℕ → Type 0 = λ k. P k (slice_get new k) in
    ⊎_elim
    (λ same. subst At (sym same) (subst Here (sym last) here))
    (λ apart.
    let less : m < length old = omega (arith, apart) in
    subst There (sym (ap (λ (ys : List T). slice_get ys m) e ∙ slice_get-append_here old (t ∷ []) m less)) (before m less))
    (cases_eq m (length old))

-- one module more
pub tables_next : (p : Program) (modules : List Module) (i : ℕ) (x : Module) (ps : List Parameter) (ss : List Section) (table : SymbolTable) (old new : List SymbolTable) →
    modules ≡ p.modules → i < length modules → x ≡ get_or modules i x → ps ≡ x.parameters → ss ≡ x.sections → length old ≡ i → new ≡ old ++ table ∷ [] → IsTableOf ps ss (Some table)
    → ((m : ℕ) → m < length old → IsTableOf (parameters_of p m) (sections_of p m) (slice_get old m))
    → (length new ≡ i + 1) × ((m : ℕ) → m < length new → IsTableOf (parameters_of p m) (sections_of p m) (slice_get new m))
tables_next p modules i x ps ss table old new same h is e f long more right before =
    let here : slice_get p.modules (length old) ≡ Some x = ap (slice_get p.modules) long ∙ ap (λ (ms : List Module). slice_get ms i) (sym same) ∙ slice_get_read modules (length modules) i x refl h is in
    let Parameters : List Parameter → Type 0 = λ qs. IsTableOf qs ss (Some table) in
    let Sections : List Section → Type 0 = λ ts. IsTableOf (parameters_of p (length old)) ts (Some table) in
    let P : ℕ → Option SymbolTable → Type 0 = λ m o. IsTableOf (parameters_of p m) (sections_of p m) o in (
      ap length more ∙ length-append old (table ∷ []) ∙ ap (λ n. n + 1) long,
      grown P old new table more (subst Sections (f ∙ ap sections_in (sym here)) (subst Parameters (e ∙ ap parameters_in (sym here)) right)) before,
    )

no_table : (ps : List Parameter) (ss : List Section) (o : Option SymbolTable) → ps ≡ [] → ss ≡ [] → o ≡ None → IsTableOf ps ss o
no_table ps ss o e f g = rw (e, f, g) ((λ name. refl), (λ name. refl), (λ name. refl), refl, refl, refl, refl)

-- no module is left
pub tables_end : (p : Program) (modules : List Module) (i : ℕ) (tables : List SymbolTable) → modules ≡ p.modules → length modules ≤ i → length tables ≡ i
    → ((m : ℕ) → m < length tables → IsTableOf (parameters_of p m) (sections_of p m) (slice_get tables m))
    → (m : ℕ) → IsTableOf (parameters_of p m) (sections_of p m) (slice_get tables m)
tables_end p modules i tables same past long right m =
    let few : length p.modules ≤ i = rw (← same) past in
    ⊎_elim
    (λ w. right m w.1)
    (λ w.
    let none : slice_get p.modules m ≡ None = slice_get_past p.modules m (omega (arith, w.0, few, long)) in
    no_table (parameters_of p m) (sections_of p m) (slice_get tables m) (ap parameters_in none) (ap sections_in none) w.1)
    (slice_get_cases tables m).1
