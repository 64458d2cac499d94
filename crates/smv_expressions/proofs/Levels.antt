-- How a phrase is read by those under it.
use Rattle.std.proofs.Common.{◌≡◌, ℕ, zero, suc, ◌-◌, ◌<◌, Bool, true, false, cond, List, [], ◌∷◌, Option, Some, None, Ok, Err, refl, arith}
use Rattle.phrase_forms.specs.declared.fault.Fault.TheVariants.{Unexpected, TooDeep}
use Rattle.phrase_forms.specs.Forms.{Form, Read, head, one, maybe, ◌⨾◌, ◌▹◌, ◌◃◌, ◌>>=◌}
use Rattle.smv_tree.specs.declared.token.Token.{Token}
use Rattle.smv_tree.specs.declared.token.TokenKind.TheVariants as kind
use Rattle.smv_tree.specs.declared.tree.Expr.{Expr}
use Rattle.smv_tree.specs.Kinds.{is_kind}
use Rattle.smv_phrases.specs.Names.{just, opening}
use Rattle.smv_phrases.specs.Lists.{listed}
use Rattle.smv_phrases.proofs.OfNames.{begins_same}
use Rattle.smv_expressions.specs.declared.ranks.Rank.TheVariants as rank
use Rattle.smv_expressions.specs.Expressions.{turns, bounds_end, inverted, negation, denied, temporal, timed, conditional, equivalence, implication, implication_of, limit, limit_negation, is_zero, phrases, under, expression_within, limit_within}
use Rattle.smv_expressions.specs.Ranks.{operand_within, phrase_within}

abbrev with_no_level : Bool → Token → List Token → Read Token Token
with_no_level b t ts = cond b (Err (TooDeep, t ∷ ts)) (Err (Unexpected, t ∷ ts))

no_level : (b : Bool) (t : Token) (ts : List Token) (x : Token × List Token) → with_no_level b t ts ≡ Ok x → ⊥
no_level true t ts x e = cc
no_level false t ts x e = cc

-- where a level was opened, one was left
pub room_left : (closed : Bool) (room : ℕ) (p : Token → Bool) (ts : List Token) (x : Token × List Token) → closed ≡ is_zero room → one closed p ts ≡ Ok x → 0 < room
room_left closed zero p [] x same e = absurd cc
room_left closed zero p (t ∷ ts) x same e = absurd (no_level (p t) t ts x (rw same at e))
room_left closed (suc n) p ts x same e = omega arith

-- the phrases under a level are those of the code with one level less to open
pub under_expression : (room : ℕ) (ts : List Token) → 0 < room → (expression_within 0 (room - 1)).parse ts ≡ (under 0 room).expression.parse ts
unfolding expression_within phrases
under_expression zero ts h = absurd (omega arith)
under_expression (suc n) ts h = let m : suc n - 1 ≡ n = omega arith in rw m refl

pub under_listed : (room : ℕ) (ts : List Token) → 0 < room → (listed (expression_within 0 (room - 1))).parse ts ≡ (listed (under 0 room).expression).parse ts
unfolding expression_within phrases
under_listed zero ts h = absurd (omega arith)
under_listed (suc n) ts h = let m : suc n - 1 ≡ n = omega arith in rw m refl

pub under_turns : (room : ℕ) (ts : List Token) → 0 < room → (turns (expression_within 0 (room - 1))).parse ts ≡ (turns (under 0 room).expression).parse ts
unfolding expression_within phrases
under_turns zero ts h = absurd (omega arith)
under_turns (suc n) ts h = let m : suc n - 1 ≡ n = omega arith in rw m refl

-- what stands between "[" and "]"
abbrev pub selected_inner : Form Token Expr → Form Token (Expr × Option Expr)
selected_inner e = e ⨾ maybe (just kind.Colon ▹ e) ◃ just kind.RightBracket

pub under_selected : (room : ℕ) (ts : List Token) → 0 < room → (selected_inner (expression_within 0 (room - 1))).parse ts ≡ (selected_inner (under 0 room).expression).parse ts
unfolding expression_within phrases
under_selected zero ts h = absurd (omega arith)
under_selected (suc n) ts h = let m : suc n - 1 ≡ n = omega arith in rw m refl

-- what stands behind "?"
abbrev pub chosen_inner : Form Token Expr → Form Token Expr → Form Token (Expr × Expr)
chosen_inner e c = e ⨾ just kind.Colon ▹ c

pub under_choices : (room : ℕ) (ts : List Token) → 0 < room
    → (chosen_inner (expression_within 0 (room - 1)) (conditional (is_zero (room - 1)) (under 0 (room - 1)))).parse ts ≡ (chosen_inner (under 0 room).expression (under 0 room).conditional).parse ts
unfolding expression_within phrases
under_choices zero ts h = absurd (omega arith)
under_choices (suc n) ts h = let m : suc n - 1 ≡ n = omega arith in rw m refl

pub under_inverted : (room : ℕ) (ts : List Token) → 0 < room → (inverted (is_zero (room - 1)) (under 0 (room - 1))).parse ts ≡ (under 0 room).inverted.parse ts
unfolding phrases
under_inverted zero ts h = absurd (omega arith)
under_inverted (suc n) ts h = let m : suc n - 1 ≡ n = omega arith in rw m refl

pub under_negation : (room : ℕ) (ts : List Token) → 0 < room → (negation (is_zero (room - 1)) (under 0 (room - 1))).parse ts ≡ (under 0 room).negation.parse ts
unfolding phrases
under_negation zero ts h = absurd (omega arith)
under_negation (suc n) ts h = let m : suc n - 1 ≡ n = omega arith in rw m refl

pub under_denied : (room : ℕ) (ts : List Token) → 0 < room → (denied (is_zero (room - 1)) (under 0 (room - 1))).parse ts ≡ (under 0 room).denied.parse ts
unfolding phrases
under_denied zero ts h = absurd (omega arith)
under_denied (suc n) ts h = let m : suc n - 1 ≡ n = omega arith in rw m refl

pub under_temporal : (room : ℕ) (ts : List Token) → 0 < room → (temporal (is_zero (room - 1)) (under 0 (room - 1))).parse ts ≡ (under 0 room).temporal.parse ts
unfolding phrases
under_temporal zero ts h = absurd (omega arith)
under_temporal (suc n) ts h = let m : suc n - 1 ≡ n = omega arith in rw m refl

pub under_timed : (room : ℕ) (ts : List Token) → 0 < room → (timed (is_zero (room - 1)) (under 0 (room - 1))).parse ts ≡ (under 0 room).timed.parse ts
unfolding phrases
under_timed zero ts h = absurd (omega arith)
under_timed (suc n) ts h = let m : suc n - 1 ≡ n = omega arith in rw m refl

pub under_limit : (room : ℕ) (ts : List Token) → 0 < room → (limit_within 0 (room - 1)).parse ts ≡ (under 0 room).limit.parse ts
unfolding limit_within phrases
under_limit zero ts h = absurd (omega arith)
under_limit (suc n) ts h = let m : suc n - 1 ≡ n = omega arith in rw m refl

pub under_limit_negation : (room : ℕ) (ts : List Token) → 0 < room → (limit_negation (is_zero (room - 1)) (under 0 (room - 1))).parse ts ≡ (under 0 room).limit_negation.parse ts
unfolding phrases
under_limit_negation zero ts h = absurd (omega arith)
under_limit_negation (suc n) ts h = let m : suc n - 1 ≡ n = omega arith in rw m refl

pub under_bounds_end : (room : ℕ) (ts : List Token) → 0 < room → (bounds_end (limit_within 0 (room - 1))).parse ts ≡ (bounds_end (under 0 room).limit).parse ts
unfolding limit_within phrases
under_bounds_end zero ts h = absurd (omega arith)
under_bounds_end (suc n) ts h = let m : suc n - 1 ≡ n = omega arith in rw m refl

-- a limit is a phrase of its rank
pub limit_reads : (room : ℕ) (ts : List Token) → (phrase_within rank.LimitSum room).parse ts ≡ (limit_within 0 room).parse ts
unfolding limit_within phrases limit phrase_within operand_within
limit_reads room ts = refl

module _ (room : ℕ) where
  abbrev right : Form Token (Token × Expr)
  right = opening (is_zero room) kind.Implies ⨾ (under 0 room).expression

  -- the right side of "->", with its left side
  abbrev with_right : Expr → Read Token (Token × Expr) → Read Token Expr
  with_right left read = read >>= λ x. Ok (implication_of (left, Some x.0), x.1)

  -- the left side, and where "->" stands behind it the right one
  abbrev pub implied : Expr × List Token → Read Token Expr
  implied left = cond (head (is_kind kind.Implies) left.1) (with_right left.0 (right.parse left.1)) (Ok left)

  abbrev some : Read Token (Token × Expr) → Read Token (Option (Token × Expr))
  some read = read >>= λ y. Ok (Some y.0, y.1)

  abbrev none : List Token → Read Token (Option (Token × Expr))
  none ts = Ok (None, ts)

  abbrev beside : Expr → Read Token (Option (Token × Expr)) → Read Token (Expr × Option (Token × Expr))
  beside x read = read >>= λ y. Ok ((x, y.0), y.1)

  abbrev whole : Read Token (Expr × Option (Token × Expr)) → Read Token Expr
  whole read = read >>= λ y. Ok (implication_of y.0, y.1)

  some_implied : (x : Expr) (read : Read Token (Token × Expr)) → whole (beside x (some read)) ≡ with_right x read
  some_implied x (Ok y) = refl
  some_implied x (Err e) = refl

  right_reads : (x : Expr) (ts : List Token) → whole (beside x ((maybe right).parse ts)) ≡ implied (x, ts)
  right_reads x ts = rw (begins_same (is_kind kind.Implies) ts) (go (head right.first ts))
    where
      go : (b : Bool) → whole (beside x (cond b (some (right.parse ts)) (none ts))) ≡ cond b (with_right x (right.parse ts)) (Ok (x, ts))
      go true = some_implied x (right.parse ts)
      go false = refl

  pub expression_reads : (ts : List Token) → (expression_within 0 room).parse ts ≡ ((phrase_within rank.Equivalence room).parse ts >>= implied)
  unfolding expression_within phrases implication equivalence phrase_within operand_within
  expression_reads ts = go ((equivalence (is_zero room) (under 0 room)).parse ts)
    where
      go : (read : Read Token Expr) → whole (read >>= λ x. beside x.0 ((maybe right).parse x.1)) ≡ (read >>= implied)
      go (Ok x) = right_reads x.0 x.1
      go (Err e) = refl
