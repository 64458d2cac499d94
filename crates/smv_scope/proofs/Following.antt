-- Members one after another, and parameters one in another.
use Rattle.std.proofs.Common.{◌≡◌, ◌≢◌, ℕ, zero, suc, ◌+◌, ◌-◌, ◌<◌, List, [], ◌∷◌, length, get_or, drop, refl, sym, ap, ◌∙◌, arith, drop-cons, drop_of_length-le, add-one}
use Rattle.std.proofs.lemmas.List.{get_or_default}
use Rattle.smv_tree.specs.declared.tree.Program.{Program}
use Rattle.smv_tree.specs.declared.tree.Identifier.{Identifier}
use Rattle.smv_tree.specs.declared.tree.Expr.{Expr, out-Expr}
use Rattle.smv_scope.specs.Lookup.{Target, member_target, members_target, behind_instance, instance_within, instance_by_node}

-- the first that is left
left_from : (xs : List Identifier) (k : ℕ) (x : Identifier) → k < length xs → x ≡ get_or xs k x → drop k xs ≡ x ∷ drop (k + 1) xs
left_from xs k x h e = rw (add-one, drop-cons xs k x) (ap (λ y. y ∷ drop (suc k) xs) (sym e))

-- the last member
pub members_last : (p : Program) (at : ℕ) (xs : List Identifier) (k : ℕ) (x : Identifier) → k < length xs → x ≡ get_or xs k x → k + 1 ≡ length xs
    → members_target p at (drop k xs) ≡ member_target p at x.name
members_last p at xs k x h e last =
    let none : drop (k + 1) xs ≡ [] = drop_of_length-le xs (omega arith) in
    ap (members_target p at) (left_from xs k x h e ∙ ap (λ ys. x ∷ ys) none)

-- a member before the last, with those behind it
pub members_more : (p : Program) (at : ℕ) (xs : List Identifier) (k : ℕ) (x : Identifier) → k < length xs → x ≡ get_or xs k x → k + 1 ≢ length xs
    → members_target p at (drop k xs) ≡ behind_instance (λ i. members_target p i (drop (k + 1) xs)) (member_target p at x.name)
members_more p at xs k x h e more =
    let next = left_from xs (k + 1) (get_or xs (k + 1) x) (omega arith) (get_or_default xs (k + 1) x (get_or xs (k + 1) x) (omega arith)) in
    ap (members_target p at) (left_from xs k x h e ∙ ap (λ ys. x ∷ ys) next) ∙ ap (λ ys. behind_instance (λ i. members_target p i ys) (member_target p at x.name)) (sym next)

-- one parameter is followed, and then fewer
pub instance_within-step : (p : Program) (depth at : ℕ) (e : Expr) → depth ≢ 0 → instance_within p depth at e ≡ instance_by_node p (instance_within p (depth - 1)) at (out-Expr e)
unfolding instance_within
instance_within-step p zero at e some = absurd (some refl)
instance_within-step p (suc depth) at e some = let one : suc depth - 1 ≡ depth = omega arith in rw one refl

pub instance_within-none : (p : Program) (depth at : ℕ) (e : Expr) → depth ≡ 0 → instance_within p depth at e ≡ Target.TooFar
unfolding instance_within
instance_within-none p depth at e none = rw none refl
