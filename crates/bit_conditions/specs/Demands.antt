-- What items demand of the outcomes of what they assign and of their values.
use Rattle.std.specs.Prelude.{Bool, true, ◌&&◌, List}
use Rattle.std.specs.List.{list_all}
use Rattle.smv_tree.specs.declared.tree.AssignmentKind.TheVariants as side
use Rattle.smv_tree.specs.declared.tree.ConstraintKind.TheVariants as asked
use Rattle.smv_resolve.specs.declared.item.Item.{Item}
use Rattle.smv_resolve.specs.declared.item.ItemKind.{ItemKind}
use Rattle.smv_resolve.specs.declared.item.ItemKind.TheVariants as item
use Rattle.smv_meaning.specs.declared.outcome.Evaluation.{Evaluation}
use Rattle.smv_meaning.specs.Runs.{is_given, is_true, takes}
use Rattle.smv_meaning.specs.Tables.{outcome_at, target_at}
use Rattle.bit_conditions.specs.declared.demands.Demand.{Demand}
use Rattle.bit_conditions.specs.declared.demands.Demand.TheVariants.{Nothing, Takes, IsTrue}
use Rattle.bit_conditions.specs.declared.demands.When.{When}
use Rattle.bit_conditions.specs.declared.demands.When.TheVariants.{First, Always, Step}

-- by the kind of an item: of an initial state, of both states of a step, and of the step

abbrev pub first_demand : ItemKind → Demand
first_demand (item.Assignment side.Init) = Takes
first_demand (item.Assignment side.Current) = Takes
first_demand (item.Assignment side.Next) = Nothing
first_demand (item.Constraint asked.Init) = IsTrue
first_demand (item.Constraint asked.Invar) = IsTrue
first_demand (item.Constraint asked.Trans) = Nothing
first_demand (item.Constraint asked.Justice) = Nothing
first_demand (item.Specification kind) = Nothing

abbrev pub always_demand : ItemKind → Demand
always_demand (item.Assignment side.Init) = Nothing
always_demand (item.Assignment side.Current) = Takes
always_demand (item.Assignment side.Next) = Nothing
always_demand (item.Constraint asked.Init) = Nothing
always_demand (item.Constraint asked.Invar) = IsTrue
always_demand (item.Constraint asked.Trans) = Nothing
always_demand (item.Constraint asked.Justice) = Nothing
always_demand (item.Specification kind) = Nothing

abbrev pub step_demand : ItemKind → Demand
step_demand (item.Assignment side.Init) = Nothing
step_demand (item.Assignment side.Current) = Nothing
step_demand (item.Assignment side.Next) = Takes
step_demand (item.Constraint asked.Init) = Nothing
step_demand (item.Constraint asked.Invar) = Nothing
step_demand (item.Constraint asked.Trans) = IsTrue
step_demand (item.Constraint asked.Justice) = Nothing
step_demand (item.Specification kind) = Nothing

abbrev pub demand_of : When → ItemKind → Demand
demand_of First kind = first_demand kind
demand_of Always kind = always_demand kind
demand_of Step kind = step_demand kind

-- the outcomes of what is assigned and of the value are as demanded
abbrev pub is_met : Demand → Evaluation → Evaluation → Bool
is_met Nothing x e = true
is_met Takes x e = takes x e
is_met IsTrue x e = is_true e

-- the outcomes that are spoken of are values or faults
abbrev pub is_clear : Demand → Evaluation → Evaluation → Bool
is_clear Nothing x e = true
is_clear Takes x e = is_given x && is_given e
is_clear IsTrue x e = is_given e

-- the same of all items, where the nodes have these outcomes where what is assigned stands, and where the values do
abbrev pub all_met : When → List Evaluation → List Evaluation → List Item → Bool
all_met when there here items = list_all (λ (x : Item). is_met (demand_of when x.kind) (target_at there x.target) (outcome_at here x.value)) items

abbrev pub all_clear : When → List Evaluation → List Evaluation → List Item → Bool
all_clear when there here items = list_all (λ (x : Item). is_clear (demand_of when x.kind) (target_at there x.target) (outcome_at here x.value)) items
