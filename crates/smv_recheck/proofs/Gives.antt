-- What definitions give of some literals.
use Rattle.std.proofs.Common.{◌≡◌, ℕ, List, ◌++◌}
use Rattle.clause_core.specs.declared.literal.Lit.{Lit}
use Rattle.clause_core.specs.Systems.{Gives}
use Rattle.bit_clauses.proofs.Deciders.{all_left, all_right}

pub gives_left : (n : ℕ) (xs ys : List Lit) (defs : List (List Lit)) → Gives n (xs ++ ys) defs → Gives n xs defs
gives_left n xs ys defs g = record {
  extends = g.extends;
  one_way = λ a b same left right. (let both = g.one_way a b same left right in (all_left (λ (l : Lit). a l.var ≡ b l.var) xs ys both.0, both.1));
}

pub gives_right : (n : ℕ) (xs ys : List Lit) (defs : List (List Lit)) → Gives n (xs ++ ys) defs → Gives n ys defs
gives_right n xs ys defs g = record {
  extends = g.extends;
  one_way = λ a b same left right. (let both = g.one_way a b same left right in (all_right (λ (l : Lit). a l.var ≡ b l.var) xs ys both.0, both.1));
}
