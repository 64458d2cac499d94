-- It is there, or it is pushed.
use Rattle.std.proofs.Common.{◌==◌, sym, ap, ◌∙◌}
use Rattle.std.specs.Prelude.{position}
use Rattle.bit_operators.specs.Lists.{is_distinct}
use Rattle.bit_choices.proofs.OfSymbols.{distinct_push, has_found, has_none}
use Rattle.bit_choices.proofs.symbols.push_new.Goals as goal

pub returns-in-Some-clause-new : goal.returns-in-Some-clause-new
returns-in-Some-clause-new c =
    has_found c.args.all.now.items c.args.symbol c.in-Some.field-0 (ap (position (λ s. s == c.args.symbol)) (sym c.deref.ensures.value) ∙ sym c.place.ensures ∙ c.in-Some.is)

pub returns-in_ok-push-in-None-clause-distinct : goal.returns-in_ok-push-in-None-clause-distinct
returns-in_ok-push-in-None-clause-distinct c =
    ap is_distinct c.in_ok-push-in-None.ensures.items
    ∙ distinct_push c.args.all.now.items c.args.symbol c.requires
    (has_none c.args.all.now.items c.args.symbol (ap (position (λ s. s == c.args.symbol)) (sym c.deref.ensures.value) ∙ sym c.place.ensures ∙ c.in-None.is))
