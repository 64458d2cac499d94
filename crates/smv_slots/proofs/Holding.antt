-- What comes of variables one by one.
use Rattle.std.proofs.Common.{◌≡◌, ℕ, suc, ◌+◌, ◌<◌, ◌≤◌, List, ◌∷◌, ◌++◌, length, get_or, drop, map, Bor, sym, ap, ◌∙◌, append_assoc, append-nil, drop-cons, drop_of_length-le, add-one}
use Rattle.smv_tree.specs.declared.tree.Variable.{Variable}
use Rattle.smv_tree.specs.declared.tree.VariableKind.{VariableKind}
use Rattle.smv_slots.specs.declared.slot.Holder.{Holder}
use Rattle.smv_slots.specs.Slots.{holders_with, holders_from}

-- variables that are lent
abbrev pub lent : List (VariableKind × Bor Variable) → List (VariableKind × Variable)
lent xs = map (λ (x : VariableKind × Bor Variable). (x.0, x.1.now)) xs

-- the first that is left
lent-drop : (xs : List (VariableKind × Bor Variable)) (k : ℕ) (x : VariableKind × Bor Variable) → k < length xs → x ≡ get_or xs k x → lent (drop k xs) ≡ (x.0, x.1.now) ∷ lent (drop (k + 1) xs)
lent-drop xs k x h e = rw (add-one, drop-cons xs k x) (ap (λ (y : VariableKind × Bor Variable). lent (y ∷ drop (suc k) xs)) (sym e))

-- the holder that a variable is stands
pub holders_more : (at : ℕ) (all more : List Holder) (xs : List (VariableKind × Bor Variable)) (k : ℕ) (x : VariableKind × Bor Variable) → k < length xs → x ≡ get_or xs k x
    → more ≡ all ++ holders_with at k x.0 x.1.now
    → more ++ holders_from at (k + 1) (lent (drop (k + 1) xs)) ≡ all ++ holders_from at k (lent (drop k xs))
holders_more at all more xs k x h e is =
    ap (λ ys. ys ++ holders_from at (k + 1) (lent (drop (k + 1) xs))) is
    ∙ append_assoc all (holders_with at k x.0 x.1.now) _
    ∙ ap (λ ys. all ++ ys) (ap (holders_from at k) (sym (lent-drop xs k x h e)))

pub holders_done : (at : ℕ) (all : List Holder) (xs : List (VariableKind × Bor Variable)) (k : ℕ) → length xs ≤ k → all ≡ all ++ holders_from at k (lent (drop k xs))
holders_done at all xs k h = sym (append-nil all) ∙ ap (λ ys. all ++ ys) (ap (holders_from at k) (sym (ap lent (drop_of_length-le xs h))))
