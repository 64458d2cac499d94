-- Where two lists of clauses differ.
use Rattle.std.proofs.Common.{◌≡◌, ℕ, ◌+◌, ◌<◌, ◌≤◌, Bool, true, false, List, [], ◌∷◌, ◌++◌, length, take, get_or, refl, ap, arith, Decides, ◌&&◌}
use Rattle.std.specs.Prelude.{◌==◌, slice_get, Some, None}
use mathlib.Core.Bool.{beq}
use Rattle.std.proofs.lemmas.Bool.Decides.{nat_tests}
use Rattle.std.proofs.lemmas.List.{take_more}
use Rattle.std.proofs.lemmas.Option.{slice_get-get_or, slice_get_past}
use Rattle.clause_core.specs.declared.literal.Lit.{Lit}
use Rattle.clause_core.proofs.Lists.{lit_same}

parts_same : (a b : ℕ) (p q : Bool) → Decides ((a == b) && beq p q) ((a ≡ b) × (p ≡ q))
parts_same a b true true = ((λ e. (grind (arith, nat_tests), refl)), (λ e. grind (arith, nat_tests)))
parts_same a b false false = ((λ e. (grind (arith, nat_tests), refl)), (λ e. grind (arith, nat_tests)))
parts_same a b true false = ((λ e. absurd (grind (arith, nat_tests))), (λ e. absurd (cc)))
parts_same a b false true = ((λ e. absurd (grind (arith, nat_tests))), (λ e. absurd (cc)))

pub lit_eq : (a b : Lit) → Decides ((a.var == b.var) && beq a.positive b.positive) (a ≡ b)
lit_eq a b =
    let d = parts_same a.var b.var a.positive b.positive in
    ((λ e. let f = d.0 e in lit_same a b f.0 f.1), (λ e. d.1 (ap (λ (l : Lit). l.var) e, ap (λ (l : Lit). l.positive) e)))

pub same_more : (a b : List (List Lit)) (k : ℕ) → k < length a → k < length b → take k a ≡ take k b → get_or a k [] ≡ get_or b k [] →
    take (k + 1) a ≡ take (k + 1) b
same_more a b k la lb e f =
    let p : take (k + 1) a ≡ take k a ++ get_or a k [] ∷ [] = take_more a k [] la in
    let q : take (k + 1) b ≡ take k b ++ get_or b k [] ∷ [] = take_more b k [] lb in
    cc

pub differ_here : (a b : List (List Lit)) (k : ℕ) → k < length a → k < length b → (get_or a k [] ≡ get_or b k [] → ⊥) →
    slice_get a k ≡ slice_get b k → ⊥
differ_here a b k la lb ne e =
    let p : slice_get a k ≡ Some (get_or a k []) = slice_get-get_or a k [] la in
    let q : slice_get b k ≡ Some (get_or b k []) = slice_get-get_or b k [] lb in
    let same : get_or a k [] ≡ get_or b k [] = cc in
    ne same

pub differ_past : (a b : List (List Lit)) (k : ℕ) → length a ≤ k → k < length b → slice_get a k ≡ slice_get b k → ⊥
differ_past a b k la lb e =
    let p : slice_get a k ≡ None = slice_get_past a k la in
    let q : slice_get b k ≡ Some (get_or b k []) = slice_get-get_or b k [] lb in
    cc
