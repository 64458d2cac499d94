-- The graph of entries leads to entries alone, and where it has no cycle no definition is refused.
use Rattle.std.proofs.Common.{◌≡◌, ℕ, ◌+◌, ◌<◌, Bool, List, [], ◌∷◌, length, sym, ap, ◌∙◌, refl, arith, Some, None, All, position}
use Rattle.std.proofs.lemmas.List.{length-map}
use Rattle.std.proofs.lemmas.List.Quantifiers.{position-Some}
use Rattle.digraph.specs.Cycles.{Acyclic, Closed}
use Rattle.smv_tree.specs.declared.tree.Program.{Program}
use Rattle.smv_tree.specs.declared.tree.Name.{Name}
use Rattle.smv_scope.specs.Lookup.{Target, name_target}
use Rattle.smv_names.specs.declared.entries.DefinitionEntry.{DefinitionEntry}
use Rattle.smv_names.specs.Entries.{read_entry, read_entries}
use Rattle.smv_tree.specs.Occurring.{names_in}
use Rattle.smv_names.specs.Defined.{Entry, is_entry, body_of, owner_of, entries_of, entry_of_target, entries_named, entry_graph, entry_verdict, entries_verdict}
use Rattle.smv_names.proofs.Graphs.{some_within, all_of, closed_from}

-- what is found has a number below the length
position_within : {X : Type 0} (test : X → Bool) (xs : List X) (n : ℕ) → position test xs ≡ Some n → n < length xs
position_within test [] n e = absurd (let f : None ≡ Some n = e in cc)
position_within test (x ∷ xs) n e = (position-Some test (x ∷ xs) n x e).0

target_within : (p : Program) (target : Target) → All (λ v. v < length (entries_of p)) (entry_of_target p target)
target_within p target = some_within (length (entries_of p)) (position (is_entry target) (entries_of p)) (position_within (is_entry target) (entries_of p))

named_within : (p : Program) (x : Entry) → All (λ v. v < length (entries_of p)) (entries_named p x)
named_within p x =
    all_of (length (entries_of p)) (λ (name : Name). entry_of_target p (name_target p (owner_of x) name)) (names_in (body_of x)) (λ name. target_within p (name_target p (owner_of x) name))

-- a node for each entry
size : (p : Program) → length (entry_graph p) ≡ length (entries_of p)
unfolding entry_graph
size p = length-map (entries_of p) (entries_named p)

-- the entries are the nodes
pub entries_closed : (p : Program) → Closed (entry_graph p)
unfolding entry_graph
entries_closed p a v e =
    let s = size p in
    let lt : v < length (entries_of p) = closed_from (entries_named p) (length (entries_of p)) (named_within p) (entries_of p) a v e in
    omega (arith, s, lt)

pub same_size : (p : Program) (entries : List DefinitionEntry) (g : List (List ℕ)) → read_entries entries ≡ entries_of p → g ≡ entry_graph p → length entries ≡ length g
same_size p entries g read is = sym (length-map entries read_entry) ∙ ap length read ∙ sym (size p) ∙ ap length (sym is)

entry_allowed : (g : List (List ℕ)) → Acyclic g → (n : ℕ) (x : Entry) → entry_verdict g n x None
entry_allowed g acyclic n (Entry.Given at k owner e) = refl
entry_allowed g acyclic n (Entry.Defined at k d) = acyclic n

-- where the graph has no cycle, nothing is said
pub all_allowed : (g : List (List ℕ)) → Acyclic g → (n : ℕ) (xs : List Entry) → entries_verdict g n xs None
all_allowed g acyclic n [] = refl
all_allowed g acyclic n (x ∷ xs) = (entry_allowed g acyclic n x, all_allowed g acyclic (n + 1) xs)
