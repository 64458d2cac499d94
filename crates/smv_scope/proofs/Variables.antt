-- What comes of variables one by one.
use Rattle.std.proofs.Common.{◌≡◌, ℕ, suc, ◌+◌, ◌<◌, ◌≤◌, List, [], ◌∷◌, ◌++◌, length, get_or, drop, map, Bor, sym, ap, ◌∙◌, append_assoc, append-nil, drop-cons, drop_of_length-le, add-one}
use Rattle.smv_tree.specs.declared.tree.Module.{Module}
use Rattle.smv_tree.specs.declared.tree.Variable.{Variable}
use Rattle.smv_tree.specs.declared.tree.VariableKind.{VariableKind}
use Rattle.smv_scope.specs.declared.instance.Instance.{Instance}
use Rattle.smv_scope.specs.Instances.{child, children_from}

-- variables that are lent
abbrev pub lent : List (VariableKind × Bor Variable) → List (VariableKind × Variable)
lent xs = map (λ (x : VariableKind × Bor Variable). (x.0, x.1.now)) xs

-- the first that is left
lent-drop : (xs : List (VariableKind × Bor Variable)) (k : ℕ) (x : VariableKind × Bor Variable) → k < length xs → x ≡ get_or xs k x → lent (drop k xs) ≡ (x.0, x.1.now) ∷ lent (drop (k + 1) xs)
lent-drop xs k x h e = rw (add-one, drop-cons xs k x) (ap (λ (y : VariableKind × Bor Variable). lent (y ∷ drop (suc k) xs)) (sym e))

lent-drop_past : (xs : List (VariableKind × Bor Variable)) (k : ℕ) → length xs ≤ k → lent (drop k xs) ≡ []
lent-drop_past xs k h = ap lent (drop_of_length-le xs h)

-- the child that a variable is stands
pub children_more : (modules : List Module) (at : ℕ) (all more : List Instance) (xs : List (VariableKind × Bor Variable)) (k : ℕ) (x : VariableKind × Bor Variable) → k < length xs → x ≡ get_or xs k x
    → more ≡ all ++ child modules at k x.1.now
    → more ++ children_from modules at (k + 1) (lent (drop (k + 1) xs)) ≡ all ++ children_from modules at k (lent (drop k xs))
children_more modules at all more xs k x h e is =
    ap (λ ys. ys ++ children_from modules at (k + 1) (lent (drop (k + 1) xs))) is
    ∙ append_assoc all (child modules at k x.1.now) _
    ∙ ap (λ ys. all ++ ys) (ap (children_from modules at k) (sym (lent-drop xs k x h e)))

pub children_done : (modules : List Module) (at : ℕ) (all : List Instance) (xs : List (VariableKind × Bor Variable)) (k : ℕ) → length xs ≤ k → all ≡ all ++ children_from modules at k (lent (drop k xs))
children_done modules at all xs k h = sym (append-nil all) ∙ ap (λ ys. all ++ ys) (ap (children_from modules at k) (sym (lent-drop_past xs k h)))
