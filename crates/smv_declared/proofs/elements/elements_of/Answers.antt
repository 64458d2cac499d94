-- The set has one element more.
use Rattle.std.proofs.Common.{Bool, false, ◌≡◌, ◌||◌, ap, sym, ◌∙◌, arith}
use Rattle.std.proofs.lemmas.Grind.{common_steps}
use Rattle.std.specs.List.{list_any}
use Rattle.value_types.specs.Types.{element_value, is_element}
use Rattle.smv_declared.specs.Refusals.{wide_element}
use Rattle.smv_declared.specs.Types.{element_of}
use Rattle.smv_declared.proofs.Adding.{list_any-last, mapped_more, none_more, repeated_further}
use Rattle.smv_declared.proofs.elements.elements_of.Goals as goal

pub loop-x-preserved : goal.loop-x-preserved
loop-x-preserved c =
    let fresh : list_any (is_element (element_value c.in_ok-element.element)) c.loop-x.elements ≡ false = grind (arith, common_steps, c.loop-x.invariant.seen c.in_ok-element.element) in
    record {
      seen = λ e.
          c.in_ok-add.ensures.known e ∙ ap (λ (b : Bool). is_element (element_value e) c.in_ok-element.element || b) (c.loop-x.invariant.seen e)
          ∙ sym (ap (list_any (is_element (element_value e))) c.in_ok-push.ensures.ok ∙ list_any-last (is_element (element_value e)) c.loop-x.elements c.in_ok-element.element);
      all =
          mapped_more (element_of c.args.scope.now.program) c.args.written.now c.loop-x.elements c.push.new.self c.loop-x.x-index c.x-item.result c.in_ok-element.element c.loop-x-test.true c.x-item.is
          c.loop-x.invariant.all c.in_ok-element.ensures.element c.in_ok-push.ensures.ok;
      narrow = none_more wide_element c.args.written.now c.loop-x.x-index c.x-item.result c.loop-x-test.true c.x-item.is c.loop-x.invariant.narrow c.in_ok-element.ensures.narrow;
      left =
          repeated_further (element_of c.args.scope.now.program) c.loop-x.elements c.push.new.self c.args.written.now c.loop-x.x-index c.x-item.result c.in_ok-element.element _ c.loop-x-test.true
          c.x-item.is c.in_ok-element.ensures.element fresh c.in_ok-push.ensures.ok c.loop-x.invariant.left;
    }
