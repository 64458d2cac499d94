-- How an operand of temporal operators is read.
use Rattle.std.proofs.Common.{◌≡◌, ℕ, Bool, true, false, cond, List, [], ◌∷◌, Ok, Err, refl}
use Rattle.phrase_forms.specs.Forms.{Read, head, to, ◌>>=◌}
use Rattle.std.specs.Prelude.{◌||◌}
use Rattle.smv_tree.specs.declared.token.Token.{Token}
use Rattle.smv_tree.specs.declared.token.TokenKind.TheVariants as kind
use Rattle.smv_tree.specs.declared.tree.Expr.{Expr}
use Rattle.smv_tree.specs.Kinds.{is_kind}
use Rattle.smv_expressions.specs.declared.ranks.Rank.TheVariants as rank
use Rattle.smv_expressions.specs.Expressions.{Denied, Link, chain_of, chained, negated, denied, compared, tails, temporal, is_zero, under}
use Rattle.smv_expressions.specs.Ranks.{operand_within, links_within}

or_false : (b : Bool) → ((b || false) || false) ≡ b
or_false true = refl
or_false false = refl

-- a negation begins with "-"
minus_begins : (ts : List Token) → head (is_kind kind.Minus) ts ≡ head (λ t. (is_kind kind.Minus t || false) || false) ts
minus_begins [] = refl
minus_begins (t ∷ ts) = rw (or_false (is_kind kind.Minus t)) refl

module _ (room : ℕ) where
  -- a first operand, and what makes it a relation
  abbrev made : Expr → Read Token (List (List Link)) → Read Token Expr
  made first read = read >>= λ y. Ok (chained first y.0, y.1)

  abbrev pub relation : Expr × List Token → Read Token Expr
  relation x = (to (chained x.0) (compared (is_zero room) (under 0 room))).parse x.1

  -- behind a temporal operator nothing, behind a plain operand what makes it a relation
  abbrev pub behind : Denied × List Token → Read Token Expr
  behind x = cond x.0.0 (Ok (x.0.1, x.1)) ((to (chain_of x.0.1) (links_within rank.Concatenation room)).parse x.1 >>= relation)

  abbrev pair : Expr → Read Token (List (List Link)) → Read Token (Expr × List (List Link))
  pair first read = read >>= λ y. Ok ((first, y.0), y.1)

  abbrev whole : Read Token (Expr × List (List Link)) → Read Token Expr
  whole read = read >>= λ z. Ok (chained z.0.0 z.0.1, z.1)

  paired : (first : Expr) (read : Read Token (List (List Link))) → whole (pair first read) ≡ made first read
  paired first (Ok y) = refl
  paired first (Err e) = refl

  minus_reads : (read : Read Token Expr) → whole (read >>= λ x. pair x.0 ((compared (is_zero room) (under 0 room)).parse x.1)) ≡ (read >>= relation)
  minus_reads (Ok x) = paired x.0 ((compared (is_zero room) (under 0 room)).parse x.1)
  minus_reads (Err e) = refl

  abbrev kept : Denied → Read Token Expr → Read Token Expr
  kept x read = (read >>= λ y. Ok ((x, y.0), y.1)) >>= λ (z : (Denied × Expr) × List Token). Ok (z.0.1, z.1)

  -- the links of the first rank, and those of the others
  abbrev joined : Expr → Read Token (List (List Link)) → Read Token Expr
  joined first read = read >>= λ w. Ok (chained first w.0, w.1)

  abbrev cut : Read Token (List Link) → Read Token (List Link × List (List Link))
  cut read = read >>= λ x. (compared (is_zero room) (under 0 room)).parse x.1 >>= λ y. Ok ((x.0, y.0), y.1)

  abbrev listed : Read Token (List Link × List (List Link)) → Read Token (List (List Link))
  listed read = read >>= λ z. Ok (z.0.0 ∷ z.0.1, z.1)

  tail_read : (x : Denied) (first : Expr) (links : List Link) (read : Read Token (List (List Link)))
      → kept x (joined first (listed (read >>= λ y. Ok ((links, y.0), y.1)))) ≡ made (chain_of first links) read
  tail_read x first links (Ok y) = refl
  tail_read x first links (Err e) = refl

  tail_reads : (x : Denied) (first : Expr) (read : Read Token (List Link)) → kept x (joined first (listed (cut read))) ≡ ((read >>= λ y. Ok (chain_of first y.0, y.1)) >>= relation)
  tail_reads x first (Ok y) = tail_read x first y.0 ((compared (is_zero room) (under 0 room)).parse y.1)
  tail_reads x first (Err e) = refl

  is_behind : (x : Denied) (ts : List Token) → kept x ((tails (is_zero room) (under 0 room) x).parse ts) ≡ behind (x, ts)
  unfolding links_within operand_within
  is_behind (true, e) ts = refl
  is_behind (false, e) ts = tail_reads (false, e) e ((links_within rank.Concatenation room).parse ts)

  abbrev pub operand : List Token → Read Token Expr
  operand ts = (denied (is_zero room) (under 0 room)).parse ts >>= behind

  abbrev pub negative : List Token → Read Token Expr
  negative ts = (negated (is_zero room) (under 0 room)).parse ts >>= relation

  abbrev followed : Read Token Denied → Read Token Expr
  followed read = (read >>= λ x. (tails (is_zero room) (under 0 room) x.0).parse x.1 >>= λ y. Ok ((x.0, y.0), y.1)) >>= λ (z : (Denied × Expr) × List Token). Ok (z.0.1, z.1)

  operand_reads : (read : Read Token Denied) → followed read ≡ (read >>= behind)
  operand_reads (Ok x) = is_behind x.0 x.1
  operand_reads (Err e) = refl

  pub temporal_reads : (ts : List Token) → (temporal (is_zero room) (under 0 room)).parse ts ≡ cond (head (is_kind kind.Minus) ts) (negative ts) (operand ts)
  unfolding temporal
  temporal_reads ts =
      rw (minus_begins ts) (go (head (λ t. (is_kind kind.Minus t || false) || false) ts))
    where
      go : (b : Bool) → cond b (whole ((negated (is_zero room) (under 0 room)).parse ts >>= λ x. pair x.0 ((compared (is_zero room) (under 0 room)).parse x.1))) (followed ((denied (is_zero room) (under 0 room)).parse ts))
          ≡ cond b (negative ts) (operand ts)
      go true = minus_reads ((negated (is_zero room) (under 0 room)).parse ts)
      go false = operand_reads ((denied (is_zero room) (under 0 room)).parse ts)
