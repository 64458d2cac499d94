-- The lines of the command `flat`, the slots and the items of a model; and the line of `self` with how many these are.
-- An own choice of this project.
use Rattle.std.specs.Prelude.{ℕ, ◌+◌, List, [], ◌∷◌, ◌++◌, filter, length, codes, not, Option, None, Some, slice_get}
use Rattle.std.specs.Fmt.{decimal}
use Rattle.smv_tree.specs.declared.tree.Program.{Program}
use Rattle.smv_tree.specs.declared.tree.AssignmentKind.TheVariants as side
use Rattle.smv_tree.specs.declared.tree.ConstraintKind.TheVariants as asked
use Rattle.smv_tree.specs.declared.tree.VariableKind.{VariableKind}
use Rattle.smv_tree.specs.declared.tree.VariableKind.TheVariants as sort
use Rattle.smv_tree.specs.Texts.{kind_text, line_end, place_text}
use Rattle.smv_resolve.specs.declared.item.ItemKind.{ItemKind}
use Rattle.smv_resolve.specs.declared.item.ItemKind.TheVariants as item
use Rattle.smv_slots.specs.declared.slot.Slot.{Slot}
use Rattle.smv_scope.specs.Enumerated.{symbols_of}
use Rattle.value_types.specs.declared.value_type.ValueType.{ValueType}
use Rattle.value_types.specs.Shown.{type_text}
use Rattle.smv_resolve.specs.Items.{ResolvedItem}
use Rattle.smv_layout.specs.Layout.{items_of}
use Rattle.smv_scope.specs.Paths.{path_of, shown_path}
use Rattle.smv_slots.specs.Names.{slot_name}
use Rattle.smv_slots.specs.Slots.{slots_of, types_of}
use Rattle.smv_meaning.specs.Runs.{is_claim}

-- the kind of a slot
abbrev pub sort_text : VariableKind → List ℕ
sort_text sort.State = codes "state"
sort_text sort.Frozen = codes "frozen"
sort_text sort.Input = codes "input"

-- a declared type, where the table has the symbols' names
abbrev pub declared_text : List (List ℕ) → Option ValueType → List ℕ
declared_text names None = []
declared_text names (Some t) = type_text names t

-- the kind of an item
abbrev pub item_kind_text : ItemKind → List ℕ
item_kind_text (item.Constraint asked.Init) = codes "INIT"
item_kind_text (item.Constraint asked.Invar) = codes "INVAR"
item_kind_text (item.Constraint asked.Trans) = codes "TRANS"
item_kind_text (item.Constraint asked.Justice) = codes "JUSTICE"
item_kind_text (item.Assignment side.Init) = codes "init"
item_kind_text (item.Assignment side.Next) = codes "next"
item_kind_text (item.Assignment side.Current) = codes "now"
item_kind_text (item.Specification kind) = kind_text kind

-- the line of slot i
abbrev pub slot_line : Program → ℕ → Slot → List ℕ
slot_line p i slot = codes "-- slot " ++ decimal i ++ codes " " ++ sort_text slot.kind ++ codes " " ++ slot_name p slot ++ codes " : " ++ declared_text (symbols_of p) (slice_get (types_of p) slot.declared) ++ line_end

-- the line of item i
abbrev pub item_line : Program → ℕ → ResolvedItem → List ℕ
item_line p i x = codes "-- item " ++ decimal i ++ codes " " ++ item_kind_text x.kind ++ codes " at " ++ place_text x.place ++ codes " of " ++ shown_path (path_of p x.at) ++ line_end

-- the lines of these slots, numbered from i on
abbrev pub slots_text : Program → ℕ → List Slot → List ℕ
slots_text p i [] = []
slots_text p i (x ∷ xs) = slot_line p i x ++ slots_text p (i + 1) xs

-- the lines of these items, numbered from i on
abbrev pub items_text : Program → ℕ → List ResolvedItem → List ℕ
items_text p i [] = []
items_text p i (x ∷ xs) = item_line p i x ++ items_text p (i + 1) xs

-- the items but for specifications
abbrev pub listed_items : Program → List ResolvedItem
listed_items p = filter (λ (x : ResolvedItem). not (is_claim x.kind)) (items_of p)

-- the slots, and the items but for specifications
abbrev pub listing_text : Program → List ℕ
listing_text p = slots_text p 0 (slots_of p) ++ items_text p 0 (listed_items p)

-- how many slots there are, and how many items but for specifications
abbrev pub summary_text : Program → List ℕ
summary_text p = codes "-- model slots " ++ decimal (length (slots_of p)) ++ codes " items " ++ decimal (length (listed_items p)) ++ line_end
