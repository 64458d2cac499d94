-- What an entry is a word for, and the entry of a target.
use Rattle.std.proofs.Common.{◌≡◌, ℕ, ◌+◌, Bool, true, false, List, [], ◌∷◌, None, position, refl, sym, ◌∙◌, Bor}
use Rattle.std.specs.List.{position_from}
use Rattle.smv_scope.proofs.Indexing.{position_is}
use Rattle.smv_tree.specs.declared.tree.Expr.{Expr}
use Rattle.smv_scope.specs.declared.target.NameTarget.{NameTarget}
use Rattle.smv_scope.specs.declared.target.NameTarget.TheVariants as found
use Rattle.smv_scope.specs.Targets.{seen}
use Rattle.smv_scope.specs.declared.target.Shared.{Shared}
use Rattle.smv_scope.specs.Targets.{shared_eq}
use Rattle.smv_names.specs.Defined.{Entry, is_entry}
use Rattle.smv_names.specs.Entries.{key_of, is_keyed}

-- an entry has one key
keyed_by : (b : Bool) (at k : ℕ) (x : Entry) →
    let key : Shared = record { is_definition = b; at = at; number = k } in
    shared_eq (key_of x) key ≡ is_keyed key x
keyed_by true at k (Entry.Given i n owner e) = refl
keyed_by true at k (Entry.Defined i n d) = refl
keyed_by false at k (Entry.Given i n owner e) = refl
keyed_by false at k (Entry.Defined i n d) = refl

pub keyed : (key : Shared) (x : Entry) → shared_eq (key_of x) key ≡ is_keyed key x
keyed key x = keyed_by key.is_definition key.at key.number x

none_from : {A : Type 0} (n : ℕ) (xs : List A) → position_from (λ (x : A). false) n xs ≡ None
none_from n [] = refl
none_from n (x ∷ xs) = none_from (n + 1) xs

no_position : {A : Type 0} (xs : List A) → None ≡ position (λ (x : A). false) xs
no_position {A} xs = sym (position_is (λ (x : A). false) xs ∙ none_from 0 xs)

-- a target that is neither of these is no entry
pub no_entry : (entries : List Entry) (target : NameTarget) →
    ((at k owner : ℕ) (e : Bor Expr) → target ≡ found.Given at k owner e → ⊥) → ((at k : ℕ) (e : Bor Expr) → target ≡ found.Defined at k e → ⊥) →
    None ≡ position (is_entry (seen target)) entries
no_entry entries (found.Given at k owner e) g d = absurd (g at k owner e refl)
no_entry entries (found.Defined at k e) g d = absurd (d at k e refl)
no_entry entries other g d = no_position entries
