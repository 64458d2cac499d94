-- What the words of such a line say.
use Rattle.std.proofs.Common.{◌∙◌, ℕ, List, Some, sym, subst}
use Rattle.trace_replay.specs.Words.{IsNumbered}
use Rattle.trace_replay.proofs.OfWords.{state_bindings_none, state_some}
use Rattle.trace_replay.proofs.words.state_entry.Goals as goal

pub returns-in-None : goal.returns-in-None
returns-in-None c = state_bindings_none c.args.number.now c.args.more.now (sym c.in-None.is ∙ c.in_ok-bindings_in.ensures)

pub returns-in-Some-2 : goal.returns-in-Some-2
returns-in-Some-2 c = state_some c.args.number.now c.args.more.now c.in-Some.n c.in-Some-2.bindings (subst (λ (text : List ℕ). IsNumbered text (Some c.in-Some.n)) c.as_str.ensures (subst (IsNumbered c.as_str.result.now) c.in-Some.is c.in_ok-n.ensures)) (sym c.in-Some-2.is ∙ c.in_ok-bindings_in.ensures)
