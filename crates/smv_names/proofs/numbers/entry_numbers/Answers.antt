use Rattle.std.proofs.Common.{Bool, ap, sym, ◌∙◌, take_all}
use Rattle.smv_scope.proofs.Firsts.{first_next, first_all}
use Rattle.smv_scope.proofs.Indexing.{position-map}
use Rattle.smv_names.specs.declared.entries.DefinitionEntry.{DefinitionEntry}
use Rattle.smv_scope.specs.declared.target.Shared.{Shared}
use Rattle.smv_scope.specs.Targets.{shared_eq}
use Rattle.smv_names.specs.Entries.{is_keyed, read_entry}
use Rattle.smv_names.proofs.Numbered.{keyed}
use Rattle.smv_names.proofs.numbers.entry_numbers.Goals as goal

pub loop-n-preserved : goal.loop-n-preserved
loop-n-preserved c = λ q.
    let p : DefinitionEntry → Bool = λ x. is_keyed q (read_entry x) in
    let x = c.index-entries-n.result in
    first_next p c.args.entries.now c.loop-n.n x _ _ _ c.loop-n-test.true
    (ap (λ (key : Shared). shared_eq key q) c.key_of.ensures ∙ keyed q (read_entry x) ∙ ap p c.index-entries-n.is)
    (c.loop-n.invariant q) (c.in_ok-number_first.ensures q)

pub returns : goal.returns
returns c = λ q.
    let p : DefinitionEntry → Bool = λ x. is_keyed q (read_entry x) in
    first_all p c.args.entries.now c.loop-n.n _ (take_all c.loop-n.n c.args.entries.now c.loop-n-test.false) (c.loop-n.invariant q)
    ∙ sym (position-map (is_keyed q) read_entry c.args.entries.now)
