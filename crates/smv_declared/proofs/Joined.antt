-- Types of one declaration more, and of one instance more.
use Rattle.std.proofs.Common.{◌≡◌, ℕ, zero, suc, ◌+◌, ◌<◌, List, [], ◌∷◌, ◌++◌, length, get_or, take, subst, refl, sym, ap, ◌∙◌, append_assoc, arith}
use Rattle.std.specs.Prelude.{Some, slice_get}
use Rattle.std.proofs.lemmas.Option.{slice_get-get_or}
use Rattle.std.specs.List.{flat_map}
use Rattle.std.proofs.lemmas.List.{append-nil, take_more}
use Rattle.std.proofs.lemmas.List.Sums.{sum_by-append}
use Rattle.std.proofs.lemmas.List.Concat.{flat_map-append}
use Rattle.smv_tree.specs.declared.tree.Program.{Program}
use Rattle.smv_tree.specs.declared.tree.Section.{Section}
use Rattle.smv_tree.specs.declared.tree.Variable.{Variable}
use Rattle.smv_tree.specs.declared.tree.VariableKind.{VariableKind}
use Rattle.smv_scope.specs.declared.instance.Instance.{Instance}
use Rattle.smv_scope.specs.Instances.{instances_of, module_at, module_in}
use Rattle.smv_scope.specs.Modules.{sections_of, variables_in}
use Rattle.smv_declared.specs.declared.variable_type.VariableType.{VariableType}
use Rattle.smv_declared.specs.declared.tally.Tally.{Tally}
use Rattle.smv_declared.specs.Types.{most_slots, size_of, slots_in, types_below, types_in, types_with}
use Rattle.smv_declared.specs.Tally.{Tallies}

-- the same types are counted
pub same_types : (a b : List VariableType) (t : Tally) → a ≡ b → Tallies a t → Tallies b t
same_types a b t e h = subst (λ (all : List VariableType). Tallies all t) e h

-- more types change nothing where there are too many slots
pub full_more : (all more : List VariableType) (t : Tally) → most_slots < t.slots → Tallies all t → Tallies (all ++ more) t
full_more all more t full h =
    let both : slots_in (all ++ more) ≡ slots_in all + slots_in more = sum_by-append (λ (t : VariableType). size_of t.dimensions) all more in
    let so_far = h.0 in
    (omega (arith, both, so_far, full), λ few. absurd (omega (arith, few, full)))

-- those of nothing
pub none_yet : {A : Type 0} (f : A → List VariableType) (xs : List A) (all : List VariableType) (t : Tally) → Tallies all t → Tallies (all ++ flat_map f (take 0 xs)) t
none_yet f xs all t h = same_types all (all ++ []) t (sym (append-nil all)) h

-- those of one more
pub one_further : {A : Type 0} (f : A → List VariableType) (xs : List A) (i : ℕ) (x : A) (all : List VariableType) (t : Tally) → i < length xs → x ≡ get_or xs i x →
    Tallies ((all ++ flat_map f (take i xs)) ++ f x) t → Tallies (all ++ flat_map f (take (i + 1) xs)) t
one_further f xs i x all t within is h =
    let one : flat_map f (take (i + 1) xs) ≡ flat_map f (take i xs) ++ f x =
    ap (flat_map f) (take_more xs i x within) ∙ flat_map-append f (take i xs) (get_or xs i x ∷ []) ∙ ap (λ ys. flat_map f (take i xs) ++ ys) (append-nil (f (get_or xs i x)))
    ∙ ap (λ y. flat_map f (take i xs) ++ f y) (sym is) in
    same_types ((all ++ flat_map f (take i xs)) ++ f x) (all ++ flat_map f (take (i + 1) xs)) t
    (append_assoc all (flat_map f (take i xs)) (f x) ∙ ap (λ ys. all ++ ys) (sym one)) h

-- the module of an instance
pub module_found : (p : Program) (tree items : List Instance) (i : ℕ) (d : Instance) → tree ≡ instances_of p → items ≡ tree → i < length items → module_at p i ≡ Some (get_or items i d).of_module
module_found p tree items i d of_program same within = sym (ap (λ (xs : List Instance). module_in (slice_get xs i)) (same ∙ of_program)) ∙ ap module_in (slice_get-get_or items i d within)

-- the types of one instance more

below_more : (p : Program) (n : ℕ) (xs : List Instance) (i : ℕ) (d : Instance) → i < length xs →
    types_below p n (take (i + 1) xs) ≡ types_below p n (take i xs) ++ flat_map (types_in p (n + i)) (sections_of p (get_or xs i d).of_module)
below_more p n [] i d within = absurd (omega arith)
below_more p n (y ∷ xs) zero d within =
    let at : n ≡ n + 0 = omega arith in
    append-nil (flat_map (types_in p n) (sections_of p y.of_module)) ∙ ap (λ k. flat_map (types_in p k) (sections_of p y.of_module)) at
below_more p n (y ∷ xs) (suc i) d within =
    let here = flat_map (types_in p n) (sections_of p y.of_module) in
    let sections = sections_of p (get_or xs i d).of_module in
    let shorter : i < length xs = omega arith in
    let one : suc i + 1 ≡ suc (i + 1) = omega arith in
    let at : n + 1 + i ≡ n + suc i = omega arith in
    ap (λ k. types_below p n (take k (y ∷ xs))) one ∙ ap (λ ts. here ++ ts) (below_more p (n + 1) xs i d shorter)
    ∙ sym (append_assoc here (types_below p (n + 1) (take i xs)) (flat_map (types_in p (n + 1 + i)) sections))
    ∙ ap (λ k. (here ++ types_below p (n + 1) (take i xs)) ++ flat_map (types_in p k) sections) at

pub instance_further : (p : Program) (tree items : List Instance) (i : ℕ) (d : Instance) (sections : List Section) (t : Tally) → i < length items → items ≡ tree →
    sections ≡ sections_of p (get_or items i d).of_module → Tallies (types_below p 0 (take i tree) ++ flat_map (types_in p i) sections) t →
    Tallies (types_below p 0 (take (i + 1) tree)) t
instance_further p tree items i d sections t within same found h =
    let here : i < length tree = (let sizes : length items ≡ length tree = ap length same in omega arith) in
    let at : 0 + i ≡ i = omega arith in
    let of_tree : sections ≡ sections_of p (get_or tree i d).of_module = found ∙ ap (λ xs. sections_of p (get_or xs i d).of_module) same in
    let before = types_below p 0 (take i tree) in
    let one : types_below p 0 (take (i + 1) tree) ≡ before ++ flat_map (types_in p i) sections =
    below_more p 0 tree i d here ∙ ap (λ k. before ++ flat_map (types_in p k) (sections_of p (get_or tree i d).of_module)) at
    ∙ ap (λ ss. before ++ flat_map (types_in p i) ss) (sym of_tree) in
    same_types (before ++ flat_map (types_in p i) sections) (types_below p 0 (take (i + 1) tree)) t (sym one) h

-- the types of the sections of a module are those of its variables
pub in_sections : (p : Program) (at : ℕ) (ss : List Section) →
    flat_map (types_in p at) ss ≡ flat_map (λ (x : VariableKind × Variable). types_with p at x.1) (flat_map variables_in ss)
in_sections p at [] = refl
in_sections p at (s ∷ ss) =
    ap (λ ts. types_in p at s ++ ts) (in_sections p at ss)
    ∙ sym (flat_map-append (λ (x : VariableKind × Variable). types_with p at x.1) (variables_in s) (flat_map variables_in ss))
