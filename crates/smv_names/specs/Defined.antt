-- The rule of definitions: none leads to itself (manual 2.3.2, DEFINE declarations).
use Rattle.std.specs.Prelude.{◌≡◌, ℕ, ◌+◌, ◌==◌, Bool, false, ◌&&◌, List, [], ◌∷◌, ◌++◌, map, Option, None, Some, position}
use Rattle.std.specs.List.{flat_map}
use Rattle.digraph.specs.Cycles.{Leads}
use Rattle.smv_tree.specs.declared.refusal.Rule.TheVariants as rule
use Rattle.smv_tree.specs.declared.tree.Program.{Program}
use Rattle.smv_tree.specs.declared.tree.Definition.{Definition}
use Rattle.smv_tree.specs.declared.tree.Name.{Name}
use Rattle.smv_tree.specs.declared.tree.Expr.{Expr}
use Rattle.smv_scope.specs.declared.instance.Instance.{Instance}
use Rattle.smv_scope.specs.declared.instance.Parent.{Parent}
use Rattle.smv_scope.specs.Modules.{definitions_of}
use Rattle.smv_scope.specs.Instances.{instances_of}
use Rattle.smv_scope.specs.Lookup.{Target, arguments_by, name_target}
use Rattle.smv_verdicts.specs.Verdicts.{Verdict, Claim, Then, detailed}
use Rattle.smv_names.specs.Reached.{some_only}
use Rattle.smv_tree.specs.Occurring.{names_in}

-- A word for an expression: what a parameter of an instance was given, in the instance that gives it; or a definition
-- of an instance. Each has its number there.
pub data Entry : Type 0 where
  Given : (at k owner : ℕ) → Expr → Entry
  Defined : (at k : ℕ) → Definition → Entry

-- what parameters of an instance were given, the first of which has number k
abbrev pub given_entries : ℕ → ℕ → ℕ → List Expr → List Entry
given_entries at owner k [] = []
given_entries at owner k (e ∷ es) = Entry.Given at k owner e ∷ given_entries at owner (k + 1) es

abbrev pub entries_by : Program → ℕ → Option Parent → List Entry
entries_by p at None = []
entries_by p at (Some parent) = given_entries at parent.instance 0 (arguments_by p parent)

-- definitions of an instance, the first of which has number k
abbrev pub defined_entries : ℕ → ℕ → List Definition → List Entry
defined_entries at k [] = []
defined_entries at k (d ∷ ds) = Entry.Defined at k d ∷ defined_entries at (k + 1) ds

-- the entries of these instances, the first of which has number n
abbrev pub entries_below : Program → ℕ → List Instance → List Entry
entries_below p n [] = []
entries_below p n (x ∷ xs) = entries_by p n x.parent ++ defined_entries n 0 (definitions_of p x.of_module) ++ entries_below p (n + 1) xs

-- the entries of a program
abbrev pub entries_of : Program → List Entry
entries_of p = entries_below p 0 (instances_of p)

-- the entry is what this parameter of this instance was given
abbrev pub is_given : ℕ → ℕ → Entry → Bool
is_given at k (Entry.Given i n owner e) = i == at && n == k
is_given at k (Entry.Defined i n d) = false

-- the entry is this definition of this instance
abbrev pub is_defined : ℕ → ℕ → Entry → Bool
is_defined at k (Entry.Given i n owner e) = false
is_defined at k (Entry.Defined i n d) = i == at && n == k

-- the target is this entry
abbrev pub is_entry : Target → Entry → Bool
is_entry (Target.Given at k owner e) x = is_given at k x
is_entry (Target.Defined at k e) x = is_defined at k x
is_entry other x = false

-- the number of the entry that a target is, if it is one
abbrev pub entry_of_target : Program → Target → List ℕ
entry_of_target p target = some_only (position (is_entry target) (entries_of p))

-- the instance in which the expression of an entry stands
abbrev pub owner_of : Entry → ℕ
owner_of (Entry.Given at k owner e) = owner
owner_of (Entry.Defined at k d) = at

abbrev pub body_of : Entry → Expr
body_of (Entry.Given at k owner e) = e
body_of (Entry.Defined at k d) = d.body

-- the entries that the expression of an entry names
abbrev pub entries_named : Program → Entry → List ℕ
entries_named p x = flat_map (λ (name : Name). entry_of_target p (name_target p (owner_of x) name)) (names_in (body_of x))

-- the graph of entries: each leads to those that it names
unfoldable pub entry_graph : Program → List (List ℕ)
entry_graph p = map (entries_named p) (entries_of p)

-- what is judged of the entry of this number in a graph of entries: a definition does not lead to itself
abbrev pub entry_verdict : List (List ℕ) → ℕ → Entry → Verdict
entry_verdict g n (Entry.Given at k owner e) r = r ≡ None
entry_verdict g n (Entry.Defined at k d) r = Claim (Leads g n n) (detailed rule.DefineCycle d.place d.name) r

-- the verdict on these entries, the first of which has number n
abbrev pub entries_verdict : List (List ℕ) → ℕ → List Entry → Verdict
entries_verdict g n [] r = r ≡ None
entries_verdict g n (x ∷ xs) r = Then (entry_verdict g n x) (entries_verdict g (n + 1) xs) r

-- no definition leads to itself: refused at the definition
abbrev pub definitions_verdict : Program → Verdict
definitions_verdict p = entries_verdict (entry_graph p) 0 (entries_of p)
