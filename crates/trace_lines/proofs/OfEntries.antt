-- Bindings read one after another.
use Rattle.std.proofs.Common.{◌≡◌, ℕ, ◌+◌, ◌<◌, List, [], ◌∷◌, ◌++◌, Option, None, Some, length, get_or, drop, refl, sym, ap, ◌∙◌, append_assoc}
use Rattle.std.specs.Option.{option_map}
use Rattle.std.proofs.lemmas.List.{at_drop_more}
use Rattle.trace_lines.specs.declared.entry.Binding.{Binding}
use Rattle.trace_lines.specs.Lines.{binding_of, bindings_of, pieces, with_binding}

-- these in front of others that are there
abbrev pub behind : List Binding → Option (List Binding) → Option (List Binding)
behind xs o = option_map (λ ys. xs ++ ys) o

behind_more : (xs : List Binding) (t : Option Binding) (x : Binding) (o : Option (List Binding)) → t ≡ Some x → behind xs (with_binding t o) ≡ behind (xs ++ x ∷ []) o
behind_more xs None x o e = cc
behind_more xs (Some t) x None e = refl
behind_more xs (Some t) x (Some ys) e = let same : t ≡ x = cc in rw same (ap Some (sym (append_assoc xs (x ∷ []) ys)))

behind_none : (xs : List Binding) (t : Option Binding) (o : Option (List Binding)) → t ≡ None → behind xs (with_binding t o) ≡ None
behind_none xs None o e = refl
behind_none xs (Some t) o e = cc

-- the list from place i on begins with the element there
pub drop_at : {A B : Type 0} (f : List A → B) (xs : List A) (i : ℕ) (x : A) → i < length xs → x ≡ get_or xs i x → f (drop i xs) ≡ f (x ∷ drop (i + 1) xs)
drop_at f xs i x lt e = let g = at_drop_more f xs i x lt in let h = ap (λ w. f (w ∷ drop (i + 1) xs)) (sym e) in g ∙ h

pub bindings_more : (ps : List (List ℕ)) (i : ℕ) (xs : List Binding) (p : List ℕ) (x : Binding) → i < length ps → p ≡ get_or ps i p → Some x ≡ binding_of (pieces 32 p) →
    behind xs (bindings_of (drop i ps)) ≡ behind (xs ++ x ∷ []) (bindings_of (drop (i + 1) ps))
bindings_more ps i xs p x lt at e = ap (behind xs) (drop_at bindings_of ps i p lt at) ∙ behind_more xs (binding_of (pieces 32 p)) x (bindings_of (drop (i + 1) ps)) (sym e)

pub bindings_stop : (ps : List (List ℕ)) (i : ℕ) (xs : List Binding) (p : List ℕ) → i < length ps → p ≡ get_or ps i p → None ≡ binding_of (pieces 32 p) → behind xs (bindings_of (drop i ps)) ≡ None
bindings_stop ps i xs p lt at e = ap (behind xs) (drop_at bindings_of ps i p lt at) ∙ behind_none xs (binding_of (pieces 32 p)) (bindings_of (drop (i + 1) ps)) (sym e)
