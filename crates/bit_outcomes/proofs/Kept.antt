-- What leads to nodes leads there as the graph grows.
use Rattle.std.proofs.Common.{List, get_or, arith}
use Rattle.std.specs.Prelude.{All}
use Rattle.bit_graph.specs.declared.edge.Edge.{Edge}
use Rattle.bit_graph.specs.declared.edge.GraphNode.{GraphNode}
use Rattle.bit_graph.specs.Growth.{Extends}
use Rattle.bit_graph.specs.Meaning.{Stands}
use Rattle.bit_operators.specs.declared.symbolic.Symbolic.{Symbolic}
use Rattle.bit_operators.specs.declared.symbolic.Symbolic.TheVariants as symbolic
use Rattle.bit_operators.specs.Denoting.{StandsIn}
use Rattle.bit_outcomes.specs.declared.told.Told.{Told}
use Rattle.bit_outcomes.specs.declared.told.Told.TheVariants as told
use Rattle.bit_outcomes.specs.declared.told.Member.{Member}
use Rattle.bit_outcomes.specs.declared.told.Which.{Which}
use Rattle.bit_outcomes.specs.declared.told.Which.TheVariants as which
use Rattle.bit_outcomes.specs.Telling.{AllTold, MemberStands, MembersStand, ToldStands, WhichStands}

pub extends_trans : (f g h : List GraphNode) → Extends f g → Extends g h → Extends f h
extends_trans f g h first second = record {
  longer = omega (arith, first.longer, second.longer);
  kept = λ v c. first.kept v (second.kept v c);
  values = λ a e b x. second.values a e b (first.values a e b x);
  inputs = λ n x. second.inputs n (first.inputs n x);
}

pub extends_refl : (g : List GraphNode) → Extends g g
extends_refl g = record { longer = omega arith; kept = λ v c. c; values = λ a e b x. x; inputs = λ n x. x }

module _ (g h : List GraphNode) (extends : Extends g h) where
  pub edge_kept : (e : Edge) → Stands g e → Stands h e
  edge_kept e s = omega (arith, s, extends.longer)

  pub symbolic_kept : (x : Symbolic) → StandsIn g x → StandsIn h x
  symbolic_kept (symbolic.Boolean e) s = edge_kept e s
  symbolic_kept (symbolic.Word signed bits) s = λ i d lt. edge_kept (get_or bits i d) (s i d lt)
  symbolic_kept (symbolic.Discrete d) s = record {
    is_symbol = edge_kept d.is_symbol s.is_symbol;
    number = λ i e lt. edge_kept (get_or d.number i e) (s.number i e lt);
    code = λ i e lt. edge_kept (get_or d.code i e) (s.code i e lt);
  }

  pub which_kept : (x : Which) → WhichStands g x → WhichStands h x
  which_kept (which.Value x) s = symbolic_kept x s
  which_kept (which.Run low high) s = s

  pub member_kept : (m : Member) → MemberStands g m → MemberStands h m
  member_kept m s = (edge_kept m.present s.0, which_kept m.which s.1)

  pub members_kept : (ms : List Member) → MembersStand g ms → MembersStand h ms
  members_kept ms s = λ i d lt. member_kept (get_or ms i d) (s i d lt)

  pub told_kept : (t : Told) → ToldStands g t → ToldStands h t
  told_kept told.Untold s = s
  told_kept (told.One fault x) s = (edge_kept fault s.0, symbolic_kept x s.1)
  told_kept (told.Set fault ms) s = (edge_kept fault s.0, members_kept ms s.1)

  pub all_told_kept : (ts : List Told) → AllTold g ts → AllTold h ts
  all_told_kept ts s = λ i d lt. told_kept (get_or ts i d) (s i d lt)

  pub symbolics_kept : (xs : List Symbolic) → All (StandsIn g) xs → All (StandsIn h) xs
  symbolics_kept xs s = λ i d lt. symbolic_kept (get_or xs i d) (s i d lt)
