use Rattle.std.proofs.Common.{◌≤◌, Bool, ℕ, List, bytes_eq, ap, subst, ◌∙◌, position}
use Rattle.smv_scope.specs.declared.instance.Parent.{Parent}
use Rattle.smv_scope.specs.declared.instance.Instance.{Instance}
use Rattle.smv_scope.specs.Instances.{is_declared_by}
use Rattle.smv_scope.specs.Enumerated.{symbols_from}
use Rattle.smv_scope.specs.Holders.{held_in}
use Rattle.smv_scope.specs.Symbols.{first_holders_from}
use Rattle.smv_scope.proofs.layout.scope_of.Goals as goal

pub invariant_of-result : goal.invariant_of-result
invariant_of-result c =
    let p = c.args.program in
    let Few : List Instance → Type 0 = λ xs. held_in p xs ≤ 18446744073709551615 in
    let is : Parent → Instance → Bool = λ x y. is_declared_by x.instance x.variable y.parent in
    let told = c.in_ok-tables.ensures in
    let symbols = ap (λ (xs : List Instance). symbols_from xs 0 p.modules) (c.as_slice.ensures ∙ c.requires) in
    let names : List ℕ → List ℕ → Bool = λ name symbol. bytes_eq name symbol in
    record {
      unfolded = c.requires;
      tabled = told.tabled;
      counted = told.counted ∙ ap (first_holders_from p 0) c.as_slice.ensures;
      few = subst Few c.as_slice.ensures told.few;
      children_numbered = λ x. told.children x ∙ ap (position (is x)) (c.as_slice.ensures ∙ c.requires);
      named = told.named ∙ symbols;
      symbols_numbered = λ name. told.numbered name ∙ ap (position (names name)) symbols;
    }
