-- What is told in a graph is told as it grows.
use Rattle.std.proofs.Common.{ℕ, Bool, List, get_or}
use Rattle.bit_graph.specs.declared.edge.Edge.{Edge}
use Rattle.bit_graph.specs.declared.edge.GraphNode.{GraphNode}
use Rattle.bit_graph.specs.Growth.{Extends}
use Rattle.bit_arith.specs.Number.{AllStand}
use Rattle.bit_outcomes.specs.declared.told.Told.{Told}
use Rattle.bit_outcomes.proofs.Kept.{all_told_kept, edge_kept, symbolics_kept}
use Rattle.bit_clauses.specs.declared.either.Either.{Either}
use Rattle.bit_clauses.specs.Asserted.{EithersStand}
use Rattle.smv_tree.specs.declared.tree.Program.{Program}
use Rattle.smv_value.specs.declared.value.Value.{Value}
use Rattle.smv_meaning.specs.declared.typed.Typed.{Typed}
use Rattle.bit_conditions.specs.declared.told.ToldState.{ToldState}
use Rattle.bit_conditions.specs.declared.told.ToldInputs.{ToldInputs}
use Rattle.bit_conditions.specs.Told.{Tells, TellsInputs, TellsJust, TellsMoment, TellsNowhere, TellsState, TellsStep}

module _ (g h : List GraphNode) (extends : Extends g h) where
  pub edges_kept : (es : List Edge) → AllStand g es → AllStand h es
  edges_kept es s = λ i d lt. edge_kept g h extends (get_or es i d) (s i d lt)

  pub eithers_kept : (es : List Either) → EithersStand g es → EithersStand h es
  eithers_kept es s = λ i d lt.
      let both = s i d lt in
      (edge_kept g h extends (get_or es i d).one both.0, edge_kept g h extends (get_or es i d).other both.1)

  pub tells_kept : (es : List Either) (f : (ℕ → Bool) → Bool) → Tells g es f → Tells h es f
  tells_kept es f tells = record { stand = eithers_kept es tells.stand; holds = λ v c. tells.holds v (extends.kept v c) }

  pub tells_state_kept : (typed : Typed) (state : ToldState) → TellsState g typed state → TellsState h typed state
  tells_state_kept typed state tells = record {
    inputs = tells.inputs;
    bits = edges_kept state.bits tells.bits;
    width = tells.width;
    valid_stands = edge_kept g h extends state.valid tells.valid_stands;
    valid = λ v c. tells.valid v (extends.kept v c);
    values_stand = symbolics_kept g h extends state.values tells.values_stand;
    values = λ v c is. tells.values v (extends.kept v c) is;
    told_stand = all_told_kept g h extends state.told tells.told_stand;
    told = λ v c is. tells.told v (extends.kept v c) is;
  }

  pub tells_inputs_kept : (typed : Typed) (inputs : ToldInputs) → TellsInputs g typed inputs → TellsInputs h typed inputs
  tells_inputs_kept typed inputs tells = record {
    bits = edges_kept inputs.bits tells.bits;
    width = tells.width;
    valid_stands = edge_kept g h extends inputs.valid tells.valid_stands;
    valid = λ v c. tells.valid v (extends.kept v c);
    values_stand = symbolics_kept g h extends inputs.values tells.values_stand;
    values = λ v c are. tells.values v (extends.kept v c) are;
  }

  pub tells_nowhere_kept : (typed : Typed) (told : List Told) → TellsNowhere g typed told → TellsNowhere h typed told
  tells_nowhere_kept typed told tells = record { stand = all_told_kept g h extends told tells.stand; told = λ v c. tells.told v (extends.kept v c) }

  pub tells_step_kept : (typed : Typed) (from : ToldState) (inputs : ToldInputs) (to : ToldState) (told : List Told) → TellsStep g typed from inputs to told → TellsStep h typed from inputs to told
  tells_step_kept typed from inputs to told tells = record {
    stand = all_told_kept g h extends told tells.stand;
    told = λ v c is are next. tells.told v (extends.kept v c) is are next;
  }

  pub tells_moment_kept : (typed : Typed) (state : ToldState) (inputs : ToldInputs) (told : List Told) → TellsMoment g typed state inputs told → TellsMoment h typed state inputs told
  tells_moment_kept typed state inputs told tells = record {
    stand = all_told_kept g h extends told tells.stand;
    told = λ v c is are. tells.told v (extends.kept v c) is are;
  }

  pub tells_just_kept : (p : Program) (state : (ℕ → Bool) → List Value) (edges : List Edge) → TellsJust g p state edges → TellsJust h p state edges
  tells_just_kept p state edges tells = record { stand = edges_kept edges tells.stand; told = λ v c. tells.told v (extends.kept v c) }
