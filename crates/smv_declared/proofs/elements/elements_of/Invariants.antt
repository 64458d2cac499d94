-- The set has the elements so far, none of which is wide, and what is left gives the refusal of all.
use Rattle.std.proofs.Common.{◌≡◌, None, [], map, take, drop}
use Rattle.std.specs.List.{list_any}
use Rattle.value_types.specs.declared.value_type.Element.{Element}
use Rattle.value_types.specs.Types.{element_value, is_element}
use Rattle.smv_verdicts.specs.Verdicts.{first_of}
use Rattle.smv_declared.specs.Types.{element_of}
use Rattle.smv_declared.specs.Refusals.{repeated, wide_element}
use Rattle.smv_declared.specs.Seen.{has_seen}
use Rattle.smv_declared.proofs.elements.elements_of.Given as goal

abbrev pub invariant-loop-x : goal.invariant-loop-x
invariant-loop-x l = record {
  seen : (e : Element) → has_seen l.seen e ≡ list_any (is_element (element_value e)) l.elements;
  all : l.elements ≡ map (element_of l.scope.program) (take l.x-index l.written);
  narrow : first_of wide_element (take l.x-index l.written) ≡ None;
  left : repeated (element_of l.scope.program) l.elements (drop l.x-index l.written) ≡ repeated (element_of l.scope.program) [] l.written;
}
