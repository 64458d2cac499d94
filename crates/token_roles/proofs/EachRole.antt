-- Each table of the grammar is what the table of roles says, kind by kind.
use Rattle.std.proofs.Common.{◌≡◌, refl}
use Rattle.smv_tree.specs.declared.token.TokenKind.{TokenKind}
use Rattle.smv_tree.specs.declared.token.TokenKind.TheVariants as kind
use Rattle.smv_expressions.specs.declared.ranks.Rank.{Rank}
use Rattle.smv_expressions.specs.declared.ranks.Rank.TheVariants as rank
use Rattle.smv_expressions.specs.Operators.{concatenation_operator, conjunction_operator, connection_operator, disjunction_operator, equivalence_operator, function_of, membership_operator, named_function, operator_of, product_operator, relation_operator, shift_operator, step_operator, sum_operator, timed_operator, union_operator}
use Rattle.smv_parse.specs.Programs.{kind_asked, kind_claimed, kind_declared}
use Rattle.token_roles.specs.Roles.{claim_of, constraint_of, declaration_of, named_of, operator_at, reserved_of, role_of, step_of, timed_of}

concatenation_is : (k : TokenKind) → concatenation_operator k ≡ operator_at rank.Concatenation (role_of k)
concatenation_is kind.Module = refl
concatenation_is _ = refl

product_is : (k : TokenKind) → product_operator k ≡ operator_at rank.Product (role_of k)
product_is kind.Module = refl
product_is _ = refl

sum_is : (k : TokenKind) → sum_operator k ≡ operator_at rank.Sum (role_of k)
sum_is kind.Module = refl
sum_is _ = refl

shift_is : (k : TokenKind) → shift_operator k ≡ operator_at rank.Shift (role_of k)
shift_is kind.Module = refl
shift_is _ = refl

union_is : (k : TokenKind) → union_operator k ≡ operator_at rank.Union (role_of k)
union_is kind.Module = refl
union_is _ = refl

membership_is : (k : TokenKind) → membership_operator k ≡ operator_at rank.Membership (role_of k)
membership_is kind.Module = refl
membership_is _ = refl

relation_is : (k : TokenKind) → relation_operator k ≡ operator_at rank.Relation (role_of k)
relation_is kind.Module = refl
relation_is _ = refl

connection_is : (k : TokenKind) → connection_operator k ≡ operator_at rank.Connection (role_of k)
connection_is kind.Module = refl
connection_is _ = refl

conjunction_is : (k : TokenKind) → conjunction_operator k ≡ operator_at rank.Conjunction (role_of k)
conjunction_is kind.Module = refl
conjunction_is _ = refl

disjunction_is : (k : TokenKind) → disjunction_operator k ≡ operator_at rank.Disjunction (role_of k)
disjunction_is kind.Module = refl
disjunction_is _ = refl

equivalence_is : (k : TokenKind) → equivalence_operator k ≡ operator_at rank.Equivalence (role_of k)
equivalence_is kind.Module = refl
equivalence_is _ = refl

limit_product_is : (k : TokenKind) → product_operator k ≡ operator_at rank.LimitProduct (role_of k)
limit_product_is kind.Module = refl
limit_product_is _ = refl

limit_sum_is : (k : TokenKind) → sum_operator k ≡ operator_at rank.LimitSum (role_of k)
limit_sum_is kind.Module = refl
limit_sum_is _ = refl

pub operator_is : (r : Rank) (k : TokenKind) → operator_of r k ≡ operator_at r (role_of k)
operator_is rank.Concatenation k = concatenation_is k
operator_is rank.Product k = product_is k
operator_is rank.Sum k = sum_is k
operator_is rank.Shift k = shift_is k
operator_is rank.Union k = union_is k
operator_is rank.Membership k = membership_is k
operator_is rank.Relation k = relation_is k
operator_is rank.Connection k = connection_is k
operator_is rank.Conjunction k = conjunction_is k
operator_is rank.Disjunction k = disjunction_is k
operator_is rank.Equivalence k = equivalence_is k
operator_is rank.LimitProduct k = limit_product_is k
operator_is rank.LimitSum k = limit_sum_is k

pub reserved_is : (k : TokenKind) → function_of k ≡ reserved_of (role_of k)
reserved_is kind.Module = refl
reserved_is _ = refl

pub named_is : (k : TokenKind) → named_function k ≡ named_of (role_of k)
named_is kind.Module = refl
named_is _ = refl

pub step_is : (k : TokenKind) → step_operator k ≡ step_of (role_of k)
step_is kind.Module = refl
step_is _ = refl

pub timed_is : (k : TokenKind) → timed_operator k ≡ timed_of (role_of k)
timed_is kind.Module = refl
timed_is _ = refl

pub declaration_is : (k : TokenKind) → kind_declared k ≡ declaration_of (role_of k)
declaration_is kind.Module = refl
declaration_is _ = refl

pub constraint_is : (k : TokenKind) → kind_asked k ≡ constraint_of (role_of k)
constraint_is kind.Module = refl
constraint_is _ = refl

pub claim_is : (k : TokenKind) → kind_claimed k ≡ claim_of (role_of k)
claim_is kind.Module = refl
claim_is _ = refl
