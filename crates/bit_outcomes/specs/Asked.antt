-- What is asked of outcomes.
use Rattle.std.specs.Prelude.{ℕ, Bool, false, not, ◌&&◌, Option, None, Some}
use Rattle.std.specs.List.{list_all}
use Rattle.bit_graph.specs.Meaning.{edge_value}
use Rattle.smv_value.specs.declared.value.Value.{Value}
use Rattle.value_types.specs.declared.value_type.ValueType.{ValueType}
use Rattle.value_types.specs.Types.{is_of_type}
use Rattle.value_sets.specs.Members.{run}
use Rattle.smv_meaning.specs.declared.outcome.Evaluation.{Evaluation}
use Rattle.smv_meaning.specs.Outcomes.{truth}
use Rattle.bit_operators.specs.Denoting.{denoted}
use Rattle.bit_outcomes.specs.declared.told.Member.{Member}
use Rattle.bit_outcomes.specs.declared.told.Which.{Which}
use Rattle.bit_outcomes.specs.declared.told.Which.TheVariants as which

-- it is FALSE
abbrev pub is_untrue : Option Bool → Bool
is_untrue None = false
is_untrue (Some b) = not b

-- the outcome is FALSE; a fault is not
abbrev pub is_false : Evaluation → Bool
is_false o = is_untrue (truth o)

-- there is a value, and it is none of the type
abbrev pub is_strange : ValueType → Option Value → Bool
is_strange t None = false
is_strange t (Some w) = not (is_of_type w t)

-- what may be a member is none of the type, or one of the integers is
abbrev pub is_out_of : (ℕ → Bool) → ValueType → Which → Bool
is_out_of v t (which.Value s) = is_strange t (denoted v s)
is_out_of v t (which.Run low high) = not (list_all (λ w. is_of_type w t) (run low high))

-- so is a member that is there
abbrev pub is_out : (ℕ → Bool) → ValueType → Member → Bool
is_out v t m = edge_value v m.present && is_out_of v t m.which
