use Rattle.std.proofs.Common.{Bool, Bor, ap, sym, ◌∙◌, position, bytes_eq}
use Rattle.std.proofs.lemmas.Result.{on_ok_weaker}
use Rattle.smv_tree.specs.declared.tree.Variable.{Variable}
use Rattle.smv_tree.specs.declared.tree.VariableKind.{VariableKind}
use Rattle.smv_scope.proofs.Indexing.{position-map}
use Rattle.smv_scope.proofs.Variables.{lent}
use Rattle.smv_scope.proofs.symbols.note_variables.Goals as goal

pub returns : goal.returns
returns c = on_ok_weaker c.note_names.result (λ told name none.
    let p : VariableKind × Variable → Bool = λ x. bytes_eq name x.1.name in
    told name none
    ∙ sym (position-map p (λ (x : VariableKind × Bor Variable). (x.0, x.1.now)) c.as_slice.result.now)
    ∙ ap (position p) (ap lent c.as_slice.ensures.value ∙ c.in_ok-variables.ensures)) c.note_names.ensures
