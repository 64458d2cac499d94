-- How a phrase is read by its first operand and what stands behind it, rank by rank.
use Rattle.std.proofs.Common.{◌≡◌, ℕ, List, [], ◌∷◌, Ok, Err, refl, ◌∙◌}
use Rattle.phrase_forms.specs.Forms.{Form, Read, to, ◌>>=◌}
use Rattle.smv_tree.specs.declared.token.Token.{Token}
use Rattle.smv_tree.specs.declared.tree.Expr.{Expr}
use Rattle.smv_expressions.specs.declared.ranks.Rank.{Rank}
use Rattle.smv_expressions.specs.declared.ranks.Rank.TheVariants as rank
use Rattle.smv_expressions.specs.Expressions.{Link, beside, alone, chain_of, chained, compared, limited, limited_within, is_zero, under}
use Rattle.smv_expressions.specs.Ranks.{operand_within, links_within, phrase_within}

-- the links of one rank behind an operand, and then those of the others
abbrev joined : Expr → Read Token (List (List Link)) → Read Token Expr
joined first read = read >>= λ y. Ok (chained first y.0, y.1)

abbrev paired : List Link → Read Token (List (List Link)) → Read Token (List Link × List (List Link))
paired links read = read >>= λ y. Ok ((links, y.0), y.1)

abbrev listed : Read Token (List Link × List (List Link)) → Read Token (List (List Link))
listed read = read >>= λ z. Ok (z.0.0 ∷ z.0.1, z.1)

abbrev chain_with : Expr → List Link × List Token → Read Token Expr
chain_with first x = Ok (chain_of first x.0, x.1)

abbrev one_listed : List Link × List Token → Read Token (List (List Link))
one_listed x = Ok (x.0 ∷ [], x.1)

abbrev pub behind_first : Form Token (List (List Link)) → Expr × List Token → Read Token Expr
behind_first others x = (to (chained x.0) others).parse x.1

others_read : (first : Expr) (links : List Link) (read : Read Token (List (List Link))) → joined first (listed (paired links read)) ≡ joined (chain_of first links) read
others_read first links (Ok y) = refl
others_read first links (Err e) = refl

pub beside_reads : (one : Form Token (List Link)) (others : Form Token (List (List Link))) (first : Expr) (ts : List Token)
    → (to (chained first) (beside one others)).parse ts ≡ ((to (chain_of first) one).parse ts >>= behind_first others)
beside_reads one others first ts = go (one.parse ts)
  where
    go : (read : Read Token (List Link)) → joined first (listed (read >>= λ x. paired x.0 (others.parse x.1))) ≡ ((read >>= chain_with first) >>= behind_first others)
    go (Ok x) = others_read first x.0 (others.parse x.1)
    go (Err e) = refl

pub alone_reads : (one : Form Token (List Link)) (first : Expr) (ts : List Token) → (to (chained first) (alone one)).parse ts ≡ (to (chain_of first) one).parse ts
alone_reads one first ts = go (one.parse ts)
  where
    go : (read : Read Token (List Link)) → joined first (read >>= one_listed) ≡ (read >>= chain_with first)
    go (Ok x) = refl
    go (Err e) = refl

bind_same : (read : Read Token Expr) (f g : Expr × List Token → Read Token Expr) → ((x : Expr × List Token) → f x ≡ g x) → (read >>= f) ≡ (read >>= g)
bind_same (Ok x) f g h = h x
bind_same (Err e) f g h = refl

module _ (room : ℕ) where
  -- what stands behind an operand of a rank
  abbrev pub behind : Rank → Expr × List Token → Read Token Expr
  behind r x = (to (chain_of x.0) (links_within r room)).parse x.1

  abbrev at : Rank → Form Token (List Link)
  at r = links_within r room

  abbrev relations : Form Token (List (List Link))
  relations = alone (at rank.Relation)

  abbrev memberships : Form Token (List (List Link))
  memberships = beside (at rank.Membership) relations

  abbrev unions : Form Token (List (List Link))
  unions = beside (at rank.Union) memberships

  abbrev shifts : Form Token (List (List Link))
  shifts = beside (at rank.Shift) unions

  abbrev sums : Form Token (List (List Link))
  sums = beside (at rank.Sum) shifts

  abbrev pub from_union : Expr × List Token → Read Token Expr
  from_union x = behind rank.Union x >>= λ y. behind rank.Membership y >>= behind rank.Relation

  abbrev pub from_sum : Expr × List Token → Read Token Expr
  from_sum x = behind rank.Sum x >>= λ y. behind rank.Shift y >>= from_union

  memberships_read : (x : Expr × List Token) → behind_first memberships x ≡ (behind rank.Membership x >>= behind rank.Relation)
  memberships_read x = beside_reads (at rank.Membership) relations x.0 x.1 ∙ bind_same (behind rank.Membership x) (behind_first relations) (behind rank.Relation) (λ y. alone_reads (at rank.Relation) y.0 y.1)

  unions_read : (x : Expr × List Token) → behind_first unions x ≡ from_union x
  unions_read x = beside_reads (at rank.Union) memberships x.0 x.1 ∙ bind_same (behind rank.Union x) (behind_first memberships) (λ y. behind rank.Membership y >>= behind rank.Relation) memberships_read

  shifts_read : (x : Expr × List Token) → behind_first shifts x ≡ (behind rank.Shift x >>= from_union)
  shifts_read x = beside_reads (at rank.Shift) unions x.0 x.1 ∙ bind_same (behind rank.Shift x) (behind_first unions) from_union unions_read

  sums_read : (x : Expr × List Token) → behind_first sums x ≡ from_sum x
  sums_read x = beside_reads (at rank.Sum) shifts x.0 x.1 ∙ bind_same (behind rank.Sum x) (behind_first shifts) (λ y. behind rank.Shift y >>= from_union) shifts_read

  all_read : (first : Expr) (ts : List Token) → (to (chained first) (beside (at rank.Product) sums)).parse ts ≡ (behind rank.Product (first, ts) >>= from_sum)
  all_read first ts = beside_reads (at rank.Product) sums first ts ∙ bind_same (behind rank.Product (first, ts)) (behind_first sums) from_sum sums_read

  pub compared_reads : (first : Expr) (ts : List Token) → (to (chained first) (compared (is_zero room) (under 0 room))).parse ts ≡ (behind rank.Product (first, ts) >>= from_sum)
  unfolding compared links_within operand_within
  compared_reads first ts = all_read first ts

  limits_read : (first : Expr) (ts : List Token) → (to (chained first) (beside (at rank.LimitProduct) (alone (at rank.LimitSum)))).parse ts ≡ (behind rank.LimitProduct (first, ts) >>= behind rank.LimitSum)
  limits_read first ts =
      beside_reads (at rank.LimitProduct) (alone (at rank.LimitSum)) first ts
      ∙ bind_same (behind rank.LimitProduct (first, ts)) (behind_first (alone (at rank.LimitSum))) (behind rank.LimitSum) (λ y. alone_reads (at rank.LimitSum) y.0 y.1)

  pub limited_reads : (first : Expr) (ts : List Token) → (to (chained first) (limited_within 0 room)).parse ts ≡ (behind rank.LimitProduct (first, ts) >>= behind rank.LimitSum)
  unfolding limited_within limited links_within operand_within
  limited_reads first ts = limits_read first ts

  abbrev with_first : Expr → List Link × List Token → Read Token (Expr × List Link)
  with_first first y = Ok ((first, y.0), y.1)

  abbrev chain_read : (Expr × List Link) × List Token → Read Token Expr
  chain_read z = Ok (chain_of z.0.0 z.0.1, z.1)

  pub phrase_reads : (r : Rank) (ts : List Token) → (phrase_within r room).parse ts ≡ ((operand_within r room).parse ts >>= behind r)
  unfolding phrase_within links_within
  phrase_reads r ts = go ((operand_within r room).parse ts)
    where
      whole : (first : Expr) (read : Read Token (List Link)) → ((read >>= with_first first) >>= chain_read) ≡ (read >>= chain_with first)
      whole first (Ok y) = refl
      whole first (Err e) = refl

      go : (read : Read Token Expr) → ((read >>= λ x. (links_within r room).parse x.1 >>= with_first x.0) >>= chain_read) ≡ (read >>= behind r)
      go (Ok x) = whole x.0 ((links_within r room).parse x.1)
      go (Err e) = refl
