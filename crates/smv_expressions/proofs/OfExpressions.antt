-- The forms of expressions keep the laws of forms.
use Rattle.std.proofs.Common.{◌≡◌, ℕ, zero, suc, Bool, true, false, List, None, Some, inl, inr, refl, sym, ◌∙◌}
use Rattle.std.specs.Prelude.{◌||◌, ◌&&◌}
use Rattle.phrase_forms.specs.Forms.{Form, head, token, or, maybe, many, named, to, ◌⨾◌, ◌▹◌, ◌◃◌}
use Rattle.phrase_forms.specs.Depending.{after}
use Rattle.phrase_forms.proofs.Lists.{head_or, head_never, head_within, head_apart}
use Rattle.phrase_forms.proofs.Lawful.{Reaches, Lawful}
use Rattle.phrase_forms.proofs.OfToken.{token_lawful}
use Rattle.phrase_forms.proofs.OfThen.{then_lawful}
use Rattle.phrase_forms.proofs.OfOr.{or_lawful}
use Rattle.phrase_forms.proofs.OfMaybe.{maybe_lawful}
use Rattle.phrase_forms.proofs.OfTo.{to_lawful}
use Rattle.phrase_forms.proofs.OfMany.{many_lawful}
use Rattle.phrase_forms.proofs.OfNamed.{Fine, named_lawful}
use Rattle.phrase_forms.proofs.OfAfter.{Bounded, after_lawful, after_apart, pure_lawful}
use Rattle.smv_tree.specs.declared.place.Place.{Place}
use Rattle.smv_tree.specs.declared.token.Token.{Token}
use Rattle.smv_tree.specs.declared.token.TokenKind.TheVariants as kind
use Rattle.smv_tree.specs.declared.tree.Expr.{Expr}
use Rattle.smv_tree.specs.declared.tree.Identifier.{Identifier}
use Rattle.smv_tree.specs.Kinds.{is_kind}
use Rattle.smv_phrases.specs.declared.names.NameStart.TheVariants as may
use Rattle.smv_phrases.specs.Names.{just, opening, member, name_from}
use Rattle.smv_phrases.specs.Lists.{further, listed}
use Rattle.smv_phrases.proofs.EachKind.{token_at, apart, within}
use Rattle.smv_phrases.proofs.OfNames.{just_lawful, opening_lawful, name_from_lawful, member_lawful, member_full, member_apart}
use Rattle.smv_phrases.proofs.OfLists.{second_lawful, first_lawful, listed_lawful}
use Rattle.smv_expressions.specs.declared.ranks.Rank.{Rank}
use Rattle.smv_expressions.specs.declared.ranks.Rank.TheVariants as rank
use Rattle.smv_expressions.specs.Operators.{is_operator, operator_form, is_function, names_function, is_step_operator, is_timed_operator}
use Rattle.smv_expressions.specs.Tokens.{is_truth, begins_primary, begins_inverted, begins_negation, begins_denied, begins_expression, begins_timed, begins_limit_start, begins_limit, begins_operand, goes_on_primary, goes_on_selected, goes_on_concatenation, goes_on_product, goes_on_sum, goes_on_shift, goes_on_union, goes_on_membership, goes_on_relation, goes_on_connection, goes_on_conjunction, goes_on_disjunction, goes_on_conditional, goes_on_equivalence, goes_on_expression, goes_on_limit_negation, goes_on_limit_product, goes_on_limit, goes_on_operand, is_value_operator}
use Rattle.smv_expressions.specs.Expressions.{Denied, Link, Phrases, Named, Selection, link, links, chain, beside, alone, chained, integer_of, integers, parenthesised, members, branch, turns, cases, arguments, members_of, function_or_name, next_or_call, compound, primary, selection, selected, inverted, concatenation, negated, negation, product, sum, shifted, union, membership, bounds, denied_again, stepped, timed_of, denied, compared, tails, temporal, timed, connection, conjunction, disjunction, choices, conditional, equivalence, implication, limit_start, limit_negation, limit_product, limit, limited, known, deepest, over, is_zero, beyond, phrases, under, expression_within, limit_within, limit_start_within, limited_within, index_within}
use Rattle.smv_expressions.proofs.Reaching.{Deep, more_of, head_nothing, then_reach, to_reach, or_left, or_right}

or_false : (b : Bool) → (b || false) ≡ b
or_false true = refl
or_false false = refl

operator_or_more : (m o : Bool) → (((m || false) || (o || false)) || m) ≡ true → (o || m) ≡ true
operator_or_more true true e = refl
operator_or_more true false e = refl
operator_or_more false true e = refl
operator_or_more false false e = e

-- an operator of each rank
operator_at : Rank → Token
operator_at rank.Concatenation = token_at kind.Concat
operator_at rank.Product = token_at kind.Times
operator_at rank.Sum = token_at kind.Plus
operator_at rank.Shift = token_at kind.ShiftLeft
operator_at rank.Union = token_at kind.Union
operator_at rank.Membership = token_at kind.In
operator_at rank.Relation = token_at kind.Equal
operator_at rank.Connection = token_at kind.Until
operator_at rank.Conjunction = token_at kind.And
operator_at rank.Disjunction = token_at kind.Or
operator_at rank.Equivalence = token_at kind.Iff
operator_at rank.LimitProduct = token_at kind.Times
operator_at rank.LimitSum = token_at kind.Plus

operator_is : (r : Rank) → is_operator r (operator_at r) ≡ true
unfolding operator_at
operator_is rank.Concatenation = refl
operator_is _ = refl

-- no operator of a rank goes on an operand of it
operator_apart : (r : Rank) (t : Token) → is_operator r t ≡ true → goes_on_operand r t ≡ false
operator_apart rank.Concatenation = apart _ _ (λ t. refl) (λ t. refl) refl
operator_apart rank.Product = apart _ _ (λ t. refl) (λ t. refl) refl
operator_apart rank.Sum = apart _ _ (λ t. refl) (λ t. refl) refl
operator_apart rank.Shift = apart _ _ (λ t. refl) (λ t. refl) refl
operator_apart rank.Union = apart _ _ (λ t. refl) (λ t. refl) refl
operator_apart rank.Membership = apart _ _ (λ t. refl) (λ t. refl) refl
operator_apart rank.Relation = apart _ _ (λ t. refl) (λ t. refl) refl
operator_apart rank.Connection = apart _ _ (λ t. refl) (λ t. refl) refl
operator_apart rank.Conjunction = apart _ _ (λ t. refl) (λ t. refl) refl
operator_apart rank.Disjunction = apart _ _ (λ t. refl) (λ t. refl) refl
operator_apart rank.Equivalence = apart _ _ (λ t. refl) (λ t. refl) refl
operator_apart rank.LimitProduct = apart _ _ (λ t. refl) (λ t. refl) refl
operator_apart rank.LimitSum = apart _ _ (λ t. refl) (λ t. refl) refl

module _ (r : Rank) (a : Form Token Expr) (fine : Fine (begins_operand r) (goes_on_operand r) a) where
  operator_lawful : Lawful (operator_form r)
  operator_lawful = to_lawful _ _ (token_lawful false (is_operator r) (operator_at r) (operator_is r))

  pub link_lawful : Lawful (link r a)
  link_lawful = to_lawful _ _ (then_lawful _ _ operator_lawful (named_lawful fine) (λ t e. refl))

  pub link_apart : (t : Token) → (link r a).first t ≡ true → (link r a).more t ≡ false
  link_apart t e = rw (operator_apart r t (sym (or_false (is_operator r t)) ∙ e)) refl

  pub links_lawful : Lawful (links r a)
  links_lawful = many_lawful (link r a) link_lawful refl link_apart

  pub chain_fine : Fine (begins_operand r) (λ t. is_operator r t || goes_on_operand r t) (chain r a)
  chain_fine = record {
    lawful = to_lawful _ _ (then_lawful _ _ (named_lawful fine) links_lawful (λ t e. operator_apart r t (sym (or_false (is_operator r t)) ∙ e)));
    first = λ t e. sym (or_false (begins_operand r t)) ∙ e;
    more = λ t e. operator_or_more (goes_on_operand r t) (is_operator r t) e;
    full = refl;
  }

-- what the phrases under a level keep
pub record Keeps (p : Phrases) : Type 0 where
  pub expression : Lawful (known p).expression
  pub conditional : Lawful (known p).conditional
  pub inverted : Lawful (known p).inverted
  pub negation : Lawful (known p).negation
  pub denied : Lawful (known p).denied
  pub deep : Deep (known p).denied
  pub temporal : Lawful (known p).temporal
  pub timed : Lawful (known p).timed
  pub limit : Lawful (known p).limit
  pub limit_negation : Lawful (known p).limit_negation

integers_lawful : Lawful integers
unfolding integers
integers_lawful = to_lawful _ _ (then_lawful _ _ (just_lawful kind.Integer refl) (maybe_lawful _ (then_lawful _ _ (just_lawful kind.DotDot refl) (just_lawful kind.Integer refl) (λ t e. refl)) refl) (λ t e. refl))

-- expressions, and what stands between brackets
module _ (closed : Bool) (a : Form Token Expr) (la : Lawful (named begins_expression goes_on_expression a)) where
  abbrev e : Form Token Expr
  e = named begins_expression goes_on_expression a

  pub commas_apart : (t : Token) → (further e).first t ≡ true → e.more t ≡ false
  commas_apart = apart _ _ (λ t. refl) (λ t. refl) refl

  pub comma_lawful : Lawful (further e)
  comma_lawful = second_lawful _ _ (just_lawful kind.Comma refl) la (λ t e. refl)

  pub comma_apart : (t : Token) → (further e).first t ≡ true → (further e).more t ≡ false
  comma_apart = apart _ _ (λ t. refl) (λ t. refl) refl

  list_lawful : Lawful (listed e)
  list_lawful = listed_lawful e la refl commas_apart comma_apart

  pub parenthesised_lawful : Lawful (parenthesised closed e)
  parenthesised_lawful =
      then_lawful _ _ (opening_lawful closed kind.LeftParen refl) (first_lawful _ _ la (just_lawful kind.RightParen refl) (apart _ _ (λ t. refl) (λ t. refl) refl)) (λ t e. refl)

  members_lawful : Lawful (members closed e)
  members_lawful =
      then_lawful _ _ (opening_lawful closed kind.LeftBrace refl) (first_lawful _ _ list_lawful (just_lawful kind.RightBrace refl) (apart _ _ (λ t. refl) (λ t. refl) refl)) (λ t e. refl)

  pub arguments_lawful : Lawful (arguments closed e)
  arguments_lawful =
      second_lawful _ _ (opening_lawful closed kind.LeftParen refl) (first_lawful _ _ list_lawful (just_lawful kind.RightParen refl) (apart _ _ (λ t. refl) (λ t. refl) refl)) (λ t e. refl)

  pub branch_lawful_of : Lawful (branch e)
  branch_lawful_of =
      let value = first_lawful _ _ la (just_lawful kind.Semicolon refl) (apart _ _ (λ t. refl) (λ t. refl) refl) in
      then_lawful _ _ la (second_lawful _ _ (just_lawful kind.Colon refl) value (λ t e. refl)) (apart _ _ (λ t. refl) (λ t. refl) refl)

  pub branch_apart_of : (t : Token) → (branch e).first t ≡ true → (branch e).more t ≡ false
  branch_apart_of t h = refl

  cases_lawful : Lawful (cases closed e)
  cases_lawful =
      let all = to_lawful _ _ (then_lawful _ _ branch_lawful_of (many_lawful (branch e) branch_lawful_of refl branch_apart_of) (λ t e. refl)) in
      then_lawful _ _ (opening_lawful closed kind.Case refl) (first_lawful _ _ all (just_lawful kind.Esac refl) (apart _ _ (λ t. refl) (λ t. refl) refl)) (λ t e. refl)

  abbrev word_or_call : Form Token Named
  word_or_call = token false names_function ⨾ maybe (arguments closed e)

  word_lawful : Lawful word_or_call
  word_lawful = then_lawful _ _ (token_lawful false names_function (token_at kind.Abs) refl) (maybe_lawful _ arguments_lawful refl) (λ t e. refl)

  members_bounded : (x : Named) → Bounded (is_kind kind.Dot) (is_kind kind.Dot) true (members_of x)
  unfolding member
  members_bounded (t, None) = record { lawful = many_lawful member member_lawful member_full member_apart; first = within _ _ (λ t. refl) (λ t. refl) refl; more = within _ _ (λ t. refl) (λ t. refl) refl; null = λ z. refl }
  members_bounded (t, Some given) = record { lawful = pure_lawful _; first = λ t z. absurd cc; more = λ t z. absurd cc; null = λ z. refl }

  function_or_name_lawful : Lawful (function_or_name closed e)
  unfolding function_or_name
  function_or_name_lawful =
      to_lawful _ _ (after_apart word_or_call (is_kind kind.Dot) (is_kind kind.Dot) true members_of word_lawful members_bounded (apart _ _ (λ t. refl) (λ t. refl) refl))

  next_or_call_lawful : Lawful (next_or_call closed e)
  unfolding next_or_call
  next_or_call_lawful =
      or_lawful _ _ (to_lawful _ _ (then_lawful _ _ (just_lawful kind.Next refl) parenthesised_lawful (λ t e. refl)))
      (to_lawful _ _ (then_lawful _ _ (token_lawful false is_function (token_at kind.Bool) refl) arguments_lawful (λ t e. refl))) refl refl (apart _ _ (λ t. refl) (λ t. refl) refl)

  compound_lawful : Lawful (compound closed e)
  unfolding compound next_or_call
  compound_lawful =
      or_lawful _ _ (to_lawful _ _ parenthesised_lawful)
      (or_lawful _ _ (to_lawful _ _ members_lawful)
      (or_lawful _ _ (to_lawful _ _ cases_lawful) next_or_call_lawful refl refl (apart _ _ (λ t. refl) (λ t. refl) refl))
      refl refl (apart _ _ (λ t. refl) (λ t. refl) refl))
      refl refl (apart _ _ (λ t. refl) (λ t. refl) refl)

  pub selection_lawful : Lawful (selection closed e)
  selection_lawful =
      let low = maybe_lawful _ (second_lawful _ _ (just_lawful kind.Colon refl) la (λ t e. refl)) refl in
      let closing = first_lawful _ _ low (just_lawful kind.RightBracket refl) (apart _ _ (λ t. refl) (λ t. refl) refl) in
      then_lawful _ _ (opening_lawful closed kind.LeftBracket refl) (then_lawful _ _ la closing (apart _ _ (λ t. refl) (λ t. refl) refl)) (λ t e. refl)

module _ (closed : Bool) (q : Phrases) (l : Keeps q) where
  abbrev p : Phrases
  p = known q

  pub primary_fine : Fine begins_primary goes_on_primary (primary closed p)
  unfolding primary integers function_or_name name_from member compound next_or_call
  primary_fine = record {
    lawful =
        or_lawful _ _ (to_lawful _ _ (token_lawful false is_truth (token_at kind.True) refl))
        (or_lawful _ _ integers_lawful
        (or_lawful _ _ (to_lawful _ _ (just_lawful kind.WordConstant refl))
        (or_lawful _ _ (function_or_name_lawful closed q.expression l.expression)
        (or_lawful _ _ (to_lawful _ _ (name_from_lawful may.Plain)) (compound_lawful closed q.expression l.expression) refl refl (apart _ _ (λ t. refl) (λ t. refl) refl))
        refl refl (apart _ _ (λ t. refl) (λ t. refl) refl))
        refl refl (apart _ _ (λ t. refl) (λ t. refl) refl))
        refl refl (apart _ _ (λ t. refl) (λ t. refl) refl))
        refl refl (apart _ _ (λ t. refl) (λ t. refl) refl);
    first = within _ _ (λ t. refl) (λ t. refl) refl;
    more = within _ _ (λ t. refl) (λ t. refl) refl;
    full = refl;
  }

  pub selected_fine : Fine begins_primary goes_on_selected (selected closed p)
  unfolding selected
  selected_fine = record {
    lawful = to_lawful _ _ (then_lawful _ _ (named_lawful primary_fine) (many_lawful _ (selection_lawful closed q.expression l.expression) refl (λ t e. refl)) (apart _ _ (λ t. refl) (λ t. refl) refl));
    first = within _ _ (λ t. refl) (λ t. refl) refl;
    more = within _ _ (λ t. refl) (λ t. refl) refl;
    full = refl;
  }

  inverted_behind : Lawful (opening closed kind.Not ⨾ p.inverted)
  inverted_behind = then_lawful _ _ (opening_lawful closed kind.Not refl) l.inverted (λ t e. refl)

  pub inverted_fine : Fine begins_inverted goes_on_selected (inverted closed p)
  unfolding inverted
  inverted_fine = record {
    lawful = or_lawful _ _ (to_lawful _ _ inverted_behind) (named_lawful selected_fine) refl refl (apart _ _ (λ t. refl) (λ t. refl) refl);
    first = within _ _ (λ t. refl) (λ t. refl) refl;
    more = within _ _ (λ t. refl) (λ t. refl) refl;
    full = refl;
  }

  pub concatenation_fine : Fine begins_inverted goes_on_concatenation (concatenation closed p)
  unfolding concatenation
  concatenation_fine = chain_fine rank.Concatenation (inverted closed p) inverted_fine

  pub negated_lawful : Lawful (negated closed p)
  negated_lawful = to_lawful _ _ (then_lawful _ _ (opening_lawful closed kind.Minus refl) l.negation (λ t e. refl))

  pub negation_fine : Fine begins_negation goes_on_concatenation (negation closed p)
  unfolding negation concatenation
  negation_fine = record {
    lawful = or_lawful _ _ negated_lawful concatenation_fine.lawful refl refl (apart _ _ (λ t. refl) (λ t. refl) refl);
    first = within _ _ (λ t. refl) (λ t. refl) refl;
    more = within _ _ (λ t. refl) (λ t. refl) refl;
    full = refl;
  }

  pub product_fine : Fine begins_negation goes_on_product (product closed p)
  unfolding product
  product_fine = chain_fine rank.Product (negation closed p) negation_fine

  pub sum_fine : Fine begins_negation goes_on_sum (sum closed p)
  unfolding sum
  sum_fine = chain_fine rank.Sum (product closed p) product_fine

  pub shifted_fine : Fine begins_negation goes_on_shift (shifted closed p)
  unfolding shifted
  shifted_fine = chain_fine rank.Shift (sum closed p) sum_fine

  pub union_fine : Fine begins_negation goes_on_union (union closed p)
  unfolding union
  union_fine = chain_fine rank.Union (shifted closed p) shifted_fine

  pub membership_fine : Fine begins_negation goes_on_membership (membership closed p)
  unfolding membership
  membership_fine = chain_fine rank.Membership (union closed p) union_fine

  denied_lawful : Lawful (opening closed kind.Not ⨾ p.denied)
  denied_lawful = then_lawful _ _ (opening_lawful closed kind.Not refl) l.denied (λ t e. refl)

  step_lawful : Lawful (token closed is_step_operator ⨾ p.temporal)
  step_lawful = then_lawful _ _ (token_lawful closed is_step_operator (token_at kind.NextTime) refl) l.temporal (λ t e. refl)

  timed_behind : Lawful (token closed is_timed_operator ⨾ p.timed)
  timed_behind = then_lawful _ _ (token_lawful closed is_timed_operator (token_at kind.Finally) refl) l.timed (λ t e. refl)

  abbrev operand : Form Token Expr
  operand = named begins_primary goes_on_selected (selected closed p)

  abbrev plain : Form Token Denied
  plain = to (λ e. (false, e)) operand

  abbrev timed_or : Form Token Denied
  timed_or = or (to timed_of (token closed is_timed_operator ⨾ p.timed)) plain

  abbrev step_or : Form Token Denied
  step_or = or (to stepped (token closed is_step_operator ⨾ p.temporal)) timed_or

  plain_lawful : Lawful plain
  plain_lawful = to_lawful _ _ (named_lawful selected_fine)

  timed_or_lawful : Lawful timed_or
  timed_or_lawful = or_lawful _ _ (to_lawful _ _ timed_behind) plain_lawful refl refl (apart _ _ (λ t. refl) (λ t. refl) refl)

  step_or_lawful : Lawful step_or
  step_or_lawful = or_lawful _ _ (to_lawful _ _ step_lawful) timed_or_lawful refl refl (apart _ _ (λ t. refl) (λ t. refl) refl)

  pub denied_fine : Fine begins_denied goes_on_relation (denied closed p)
  unfolding denied
  denied_fine = record {
    lawful = or_lawful _ _ (to_lawful _ _ denied_lawful) step_or_lawful refl refl (apart _ _ (λ t. refl) (λ t. refl) refl);
    first = within _ _ (λ t. refl) (λ t. refl) refl;
    more = within _ _ (λ t. refl) (λ t. refl) refl;
    full = refl;
  }

  plain_reach : (k : ℕ) (ts : List Token) (x : Denied) (rest : List Token) → plain.yields k ts x rest → head (more_of x) rest ≡ false → Reaches k (plain.parse ts) x rest
  plain_reach k ts x rest m h =
      let h' : head goes_on_selected rest ≡ false = rw m.1 at h in
      let r = (named_lawful selected_fine).complete k ts m.0 rest m.2 h' in
      rw m.1 (to_reach (λ (e : Expr). (false, e)) operand k ts m.0 rest r)

  timed_reach : (k : ℕ) (ts : List Token) (x : Denied) (rest : List Token) → timed_or.yields k ts x rest → head (more_of x) rest ≡ false → Reaches k (timed_or.parse ts) x rest
  timed_reach k ts x rest y h = elim y [
    | inl m ↦
        let h' : head goes_on_relation rest ≡ false = rw m.1 at h in
        let one = (token_lawful closed is_timed_operator (token_at kind.Finally) refl).complete k ts m.0.0 m.2.0 m.2.1 (head_nothing m.2.0) in
        let r = to_reach timed_of (token closed is_timed_operator ⨾ p.timed) k ts m.0 rest
        (then_reach (token closed is_timed_operator) p.timed k ts m.0.0 m.2.0 m.0.1 rest one (l.timed.complete k m.2.0 m.0.1 rest m.2.2 h')) in
        or_left (to timed_of (token closed is_timed_operator ⨾ p.timed)) plain (to_lawful _ _ timed_behind) refl k ts x rest m (rw m.1 r)
    | inr m ↦
        or_right (to timed_of (token closed is_timed_operator ⨾ p.timed)) plain plain_lawful refl (apart _ _ (λ t. refl) (λ t. refl) refl) k ts x rest m
        (plain_reach k ts x rest m h)
  ]

  step_reach : (k : ℕ) (ts : List Token) (x : Denied) (rest : List Token) → step_or.yields k ts x rest → head (more_of x) rest ≡ false → Reaches k (step_or.parse ts) x rest
  step_reach k ts x rest y h = elim y [
    | inl m ↦
        let h' : head goes_on_relation rest ≡ false = rw m.1 at h in
        let one = (token_lawful closed is_step_operator (token_at kind.NextTime) refl).complete k ts m.0.0 m.2.0 m.2.1 (head_nothing m.2.0) in
        let r = to_reach stepped (token closed is_step_operator ⨾ p.temporal) k ts m.0 rest
        (then_reach (token closed is_step_operator) p.temporal k ts m.0.0 m.2.0 m.0.1 rest one (l.temporal.complete k m.2.0 m.0.1 rest m.2.2 h')) in
        or_left (to stepped (token closed is_step_operator ⨾ p.temporal)) timed_or (to_lawful _ _ step_lawful) refl k ts x rest m (rw m.1 r)
    | inr m ↦
        or_right (to stepped (token closed is_step_operator ⨾ p.temporal)) timed_or timed_or_lawful refl (apart _ _ (λ t. refl) (λ t. refl) refl) k ts x rest m
        (timed_reach k ts x rest m h)
  ]

  -- a phrase that may be denied is read whatever goes on a plain operand
  pub denied_deep : Deep (denied closed p)
  unfolding denied
  denied_deep = record {
    reach = λ k ts x rest y h. elim y [
      | inl m ↦
          let h' : head (more_of m.0.1) rest ≡ false = rw m.1 at h in
          let one = (token_lawful closed (is_kind kind.Not) (token_at kind.Not) refl).complete k ts m.0.0 m.2.0 m.2.1 (head_nothing m.2.0) in
          let r = to_reach denied_again (opening closed kind.Not ⨾ p.denied) k ts m.0 rest
          (then_reach (opening closed kind.Not) p.denied k ts m.0.0 m.2.0 m.0.1 rest one (l.deep.reach k m.2.0 m.0.1 rest m.2.2 h')) in
          or_left (to denied_again (opening closed kind.Not ⨾ p.denied)) step_or (to_lawful _ _ denied_lawful) refl k ts x rest m (rw m.1 r)
      | inr m ↦
          or_right (to denied_again (opening closed kind.Not ⨾ p.denied)) step_or step_or_lawful refl (apart _ _ (λ t. refl) (λ t. refl) refl) k ts x rest m
          (step_reach k ts x rest m h)
    ];
  }

  -- the links of one rank and those behind them
  beside_lawful : (one : Form Token (List Link)) (others : Form Token (List (List Link))) → Lawful one → Lawful others → ((t : Token) → others.first t ≡ true → one.more t ≡ false) → Lawful (beside one others)
  beside_lawful one others l1 l2 h = to_lawful _ _ (then_lawful one others l1 l2 h)

  pub compared_lawful : Lawful (compared closed p)
  unfolding compared
  compared_lawful =
      beside_lawful _ _ (links_lawful rank.Product _ negation_fine)
      (beside_lawful _ _ (links_lawful rank.Sum _ product_fine)
      (beside_lawful _ _ (links_lawful rank.Shift _ sum_fine)
      (beside_lawful _ _ (links_lawful rank.Union _ shifted_fine)
      (beside_lawful _ _ (links_lawful rank.Membership _ union_fine) (to_lawful _ _ (links_lawful rank.Relation _ membership_fine))
      (apart _ _ (λ t. refl) (λ t. refl) refl)) (apart _ _ (λ t. refl) (λ t. refl) refl)) (apart _ _ (λ t. refl) (λ t. refl) refl)) (apart _ _ (λ t. refl) (λ t. refl) refl)) (apart _ _ (λ t. refl) (λ t. refl) refl)

  tails_bounded : (x : Denied) → Bounded is_value_operator goes_on_relation true (tails closed p x)
  unfolding compared
  tails_bounded (true, e) = record { lawful = pure_lawful e; first = λ t z. absurd cc; more = λ t z. absurd cc; null = λ z. refl }
  tails_bounded (false, e) = record {
    lawful = to_lawful _ _ (beside_lawful _ _ (links_lawful rank.Concatenation _ inverted_fine) compared_lawful (apart _ _ (λ t. refl) (λ t. refl) refl));
    first = within _ _ (λ t. refl) (λ t. refl) refl;
    more = within _ _ (λ t. refl) (λ t. refl) refl;
    null = λ z. refl;
  }

  abbrev followed : Form Token (Denied × Expr)
  followed = after (named begins_denied goes_on_relation (denied closed p)) is_value_operator goes_on_relation true (tails closed p)

  followed_reach : (k : ℕ) (ts : List Token) (x : Denied) (mid : List Token) (y : Expr) (rest : List Token) → (denied closed p).yields k ts x mid → (tails closed p x).yields k mid y rest →
      head followed.more rest ≡ false → Reaches k ((denied closed p).parse ts) x mid
  followed_reach k ts (true, x) mid y rest yb yt h =
      denied_deep.reach k ts (true, x) mid yb (rw yt.1 (head_or goes_on_relation (λ t. true && goes_on_relation t) rest h).0)
  followed_reach k ts (false, x) mid y rest yb yt h =
      denied_deep.reach k ts (false, x) mid yb (elim ((tails_bounded (false, x)).lawful.starts k mid y rest yt) [
        | inl s ↦
            let begun : head is_value_operator mid ≡ true = head_within (tails closed p (false, x)).first is_value_operator mid (tails_bounded (false, x)).first s in
            head_apart is_value_operator goes_on_selected mid (apart _ _ (λ t. refl) (λ t. refl) refl) begun
        | inr n ↦
            rw n.1 (head_never goes_on_selected goes_on_relation rest (within _ _ (λ t. refl) (λ t. refl) refl) (head_or goes_on_relation (λ t. true && goes_on_relation t) rest h).0)
      ])

  followed_lawful : Lawful followed
  followed_lawful =
      after_lawful (named begins_denied goes_on_relation (denied closed p)) is_value_operator goes_on_relation true (tails closed p) (named_lawful denied_fine) tails_bounded
      followed_reach

  minus_lawful : Lawful (negated closed p ⨾ compared closed p)
  unfolding compared
  minus_lawful = then_lawful _ _ negated_lawful compared_lawful (apart _ _ (λ t. refl) (λ t. refl) refl)

  pub temporal_fine : Fine begins_expression goes_on_relation (temporal closed p)
  unfolding temporal compared
  temporal_fine = record {
    lawful = or_lawful _ _ (to_lawful _ _ minus_lawful) (to_lawful _ _ followed_lawful) refl refl (apart _ _ (λ t. refl) (λ t. refl) refl);
    first = within _ _ (λ t. refl) (λ t. refl) refl;
    more = within _ _ (λ t. refl) (λ t. refl) refl;
    full = refl;
  }

  bounds_lawful : Lawful (bounds closed p)
  unfolding bounds
  bounds_lawful =
      let closing = first_lawful _ _ l.limit (just_lawful kind.RightBracket refl) (apart _ _ (λ t. refl) (λ t. refl) refl) in
      let behind = second_lawful _ _ (just_lawful kind.Comma refl) closing (λ t e. refl) in
      to_lawful _ _ (then_lawful _ _ (opening_lawful closed kind.LeftBracket refl) (then_lawful _ _ l.limit behind (apart _ _ (λ t. refl) (λ t. refl) refl)) (λ t e. refl))

  pub timed_fine : Fine begins_timed goes_on_relation (timed closed p)
  unfolding timed bounds
  timed_fine = record {
    lawful = then_lawful _ _ (maybe_lawful _ bounds_lawful refl) (named_lawful temporal_fine) (apart _ _ (λ t. refl) (λ t. refl) refl);
    first = within _ _ (λ t. refl) (λ t. refl) refl;
    more = within _ _ (λ t. refl) (λ t. refl) refl;
    full = refl;
  }

  pub connection_fine : Fine begins_expression goes_on_connection (connection closed p)
  unfolding connection
  connection_fine = chain_fine rank.Connection (temporal closed p) temporal_fine

  pub conjunction_fine : Fine begins_expression goes_on_conjunction (conjunction closed p)
  unfolding conjunction
  conjunction_fine = chain_fine rank.Conjunction (connection closed p) connection_fine

  pub disjunction_fine : Fine begins_expression goes_on_disjunction (disjunction closed p)
  unfolding disjunction
  disjunction_fine = chain_fine rank.Disjunction (conjunction closed p) conjunction_fine

  choices_lawful : Lawful (choices closed p)
  choices_lawful =
      let behind = second_lawful _ _ (just_lawful kind.Colon refl) l.conditional (λ t e. refl) in
      then_lawful _ _ (opening_lawful closed kind.Question refl) (then_lawful _ _ l.expression behind (apart _ _ (λ t. refl) (λ t. refl) refl)) (λ t e. refl)

  pub conditional_fine : Fine begins_expression goes_on_conditional (conditional closed p)
  unfolding conditional
  conditional_fine = record {
    lawful = to_lawful _ _ (then_lawful _ _ (named_lawful disjunction_fine) (maybe_lawful _ choices_lawful refl) (apart _ _ (λ t. refl) (λ t. refl) refl));
    first = within _ _ (λ t. refl) (λ t. refl) refl;
    more = within _ _ (λ t. refl) (λ t. refl) refl;
    full = refl;
  }

  pub equivalence_fine : Fine begins_expression goes_on_equivalence (equivalence closed p)
  unfolding equivalence
  equivalence_fine = chain_fine rank.Equivalence (conditional closed p) conditional_fine

  pub implication_fine : Fine begins_expression goes_on_expression (implication closed p)
  unfolding implication
  implication_fine = record {
    lawful = to_lawful _ _ (then_lawful _ _ (named_lawful equivalence_fine) (maybe_lawful _ (then_lawful _ _ (opening_lawful closed kind.Implies refl) l.expression (λ t e. refl)) refl) (apart _ _ (λ t. refl) (λ t. refl) refl));
    first = within _ _ (λ t. refl) (λ t. refl) refl;
    more = within _ _ (λ t. refl) (λ t. refl) refl;
    full = refl;
  }

  pub limit_start_fine : Fine begins_limit_start goes_on_limit_negation (limit_start closed p)
  unfolding limit_start name_from member
  limit_start_fine = record {
    lawful =
        or_lawful _ _ (to_lawful _ _ (then_lawful _ _ (opening_lawful closed kind.Minus refl) l.limit_negation (λ t e. refl)))
        (or_lawful _ _ (to_lawful _ _ (just_lawful kind.Integer refl))
        (or_lawful _ _ (to_lawful _ _ (then_lawful _ _ (opening_lawful closed kind.LeftParen refl) (first_lawful _ _ l.limit (just_lawful kind.RightParen refl) (apart _ _ (λ t. refl) (λ t. refl) refl)) (λ t e. refl)))
        (to_lawful _ _ (name_from_lawful may.Itself))
        refl refl (apart _ _ (λ t. refl) (λ t. refl) refl))
        refl refl (apart _ _ (λ t. refl) (λ t. refl) refl))
        refl refl (apart _ _ (λ t. refl) (λ t. refl) refl);
    first = within _ _ (λ t. refl) (λ t. refl) refl;
    more = within _ _ (λ t. refl) (λ t. refl) refl;
    full = refl;
  }

  pub limit_negation_fine : Fine begins_limit goes_on_limit_negation (limit_negation closed p)
  unfolding limit_negation limit_start name_from member
  limit_negation_fine = record {
    lawful = or_lawful _ _ (to_lawful _ _ limit_start_fine.lawful) (to_lawful _ _ (name_from_lawful may.Own)) refl refl (apart _ _ (λ t. refl) (λ t. refl) refl);
    first = within _ _ (λ t. refl) (λ t. refl) refl;
    more = within _ _ (λ t. refl) (λ t. refl) refl;
    full = refl;
  }

  pub limit_product_fine : Fine begins_limit goes_on_limit_product (limit_product closed p)
  unfolding limit_product
  limit_product_fine = chain_fine rank.LimitProduct (limit_negation closed p) limit_negation_fine

  pub limit_fine : Fine begins_limit goes_on_limit (limit closed p)
  unfolding limit
  limit_fine = chain_fine rank.LimitSum (limit_product closed p) limit_product_fine

  pub limited_lawful : Lawful (limited closed p)
  unfolding limited
  limited_lawful =
      beside_lawful _ _ (links_lawful rank.LimitProduct _ limit_negation_fine) (to_lawful _ _ (links_lawful rank.LimitSum _ limit_product_fine)) (apart _ _ (λ t. refl) (λ t. refl) refl)

pub record Sound (p : Phrases) : Type 0 where
  pub expression : Fine begins_expression goes_on_expression p.expression
  pub conditional : Fine begins_expression goes_on_conditional p.conditional
  pub inverted : Fine begins_inverted goes_on_selected p.inverted
  pub negation : Fine begins_negation goes_on_concatenation p.negation
  pub denied : Fine begins_denied goes_on_relation p.denied
  pub deep : Deep p.denied
  pub temporal : Fine begins_expression goes_on_relation p.temporal
  pub timed : Fine begins_timed goes_on_relation p.timed
  pub limit : Fine begins_limit goes_on_limit p.limit
  pub limit_negation : Fine begins_limit goes_on_limit_negation p.limit_negation

pub keeps : (p : Phrases) → Sound p → Keeps p
keeps p s = record {
  expression = named_lawful s.expression;
  conditional = named_lawful s.conditional;
  inverted = named_lawful s.inverted;
  negation = named_lawful s.negation;
  denied = named_lawful s.denied;
  deep = record { reach = s.deep.reach };
  temporal = named_lawful s.temporal;
  timed = named_lawful s.timed;
  limit = named_lawful s.limit;
  limit_negation = named_lawful s.limit_negation;
}

abbrev integer_form : Form Token Expr
integer_form = to integer_of (just kind.Integer)

integer_lawful : Lawful integer_form
integer_lawful = to_lawful _ _ (just_lawful kind.Integer refl)

deepest_fine : (f m : Token → Bool) → ((t : Token) → is_kind kind.Integer t ≡ true → f t ≡ true) → Fine f m integer_form
deepest_fine f m begins = record { lawful = integer_lawful; first = begins; more = λ t e. absurd cc; full = refl }

deepest_sound : Sound deepest
deepest_sound = record {
  expression = deepest_fine begins_expression goes_on_expression (within _ _ (λ t. refl) (λ t. refl) refl);
  conditional = deepest_fine begins_expression goes_on_conditional (within _ _ (λ t. refl) (λ t. refl) refl);
  inverted = deepest_fine begins_inverted goes_on_selected (within _ _ (λ t. refl) (λ t. refl) refl);
  negation = deepest_fine begins_negation goes_on_concatenation (within _ _ (λ t. refl) (λ t. refl) refl);
  denied = record { lawful = to_lawful _ _ integer_lawful; first = within _ _ (λ t. refl) (λ t. refl) refl; more = λ t e. absurd cc; full = refl };
  deep = record { reach = λ k ts x rest y h. (to_lawful (λ (e : Expr). (false, e)) integer_form integer_lawful).complete k ts x rest y (head_nothing rest) };
  temporal = deepest_fine begins_expression goes_on_relation (within _ _ (λ t. refl) (λ t. refl) refl);
  timed = record { lawful = to_lawful _ _ integer_lawful; first = within _ _ (λ t. refl) (λ t. refl) refl; more = λ t e. absurd cc; full = refl };
  limit = deepest_fine begins_limit goes_on_limit (within _ _ (λ t. refl) (λ t. refl) refl);
  limit_negation = deepest_fine begins_limit goes_on_limit_negation (within _ _ (λ t. refl) (λ t. refl) refl);
}

over_sound : (closed : Bool) (q : Phrases) → Sound q → Sound (over closed q)
over_sound closed q s =
    let l = keeps q s in record {
      expression = implication_fine closed q l;
      conditional = conditional_fine closed q l;
      inverted = inverted_fine closed q l;
      negation = negation_fine closed q l;
      denied = denied_fine closed q l;
      deep = denied_deep closed q l;
      temporal = temporal_fine closed q l;
      timed = timed_fine closed q l;
      limit = limit_fine closed q l;
      limit_negation = limit_negation_fine closed q l;
    }

beyond_sound : (past : ℕ) → Sound (beyond past)
unfolding beyond
beyond_sound zero = deepest_sound
beyond_sound (suc past) = over_sound true (beyond past) (beyond_sound past)

pub phrases_sound : (past room : ℕ) → Sound (phrases past room)
unfolding phrases
phrases_sound past zero = beyond_sound past
phrases_sound past (suc room) = over_sound (is_zero room) (phrases past room) (phrases_sound past room)

pub kept : (past room : ℕ) → Keeps (phrases past room)
kept past room = keeps (phrases past room) (phrases_sound past room)

pub expression_lawful : (past room : ℕ) → Lawful (expression_within past room)
unfolding expression_within
expression_lawful past room = named_lawful (phrases_sound past (suc room)).expression

pub further_lawful : (past room : ℕ) → Lawful (further (expression_within past room))
unfolding expression_within
further_lawful past room = comma_lawful false (phrases past (suc room)).expression (expression_lawful past room)

pub further_apart : (past room : ℕ) (t : Token) → (further (expression_within past room)).first t ≡ true → (further (expression_within past room)).more t ≡ false
unfolding expression_within
further_apart past room = comma_apart false (phrases past (suc room)).expression (expression_lawful past room)

pub branch_lawful : (past room : ℕ) → Lawful (branch (expression_within past room))
unfolding expression_within
branch_lawful past room = branch_lawful_of false (phrases past (suc room)).expression (expression_lawful past room)

pub branch_apart : (past room : ℕ) (t : Token) → (branch (expression_within past room)).first t ≡ true → (branch (expression_within past room)).more t ≡ false
unfolding expression_within
branch_apart past room = branch_apart_of false (phrases past (suc room)).expression (expression_lawful past room)

pub branch_full : (past room : ℕ) → (branch (expression_within past room)).nullable ≡ false
unfolding expression_within
branch_full past room = refl

pub limit_lawful : (past room : ℕ) → Lawful (limit_within past room)
unfolding limit_within
limit_lawful past room = named_lawful (phrases_sound past (suc room)).limit

pub limit_start_within_fine : (past room : ℕ) → Fine begins_limit_start goes_on_limit_negation (limit_start_within past room)
unfolding limit_start_within
limit_start_within_fine past room = limit_start_fine (is_zero room) (phrases past room) (kept past room)

pub limited_within_lawful : (past room : ℕ) → Lawful (limited_within past room)
unfolding limited_within
limited_within_lawful past room = limited_lawful (is_zero room) (phrases past room) (kept past room)

pub index_lawful : (past room : ℕ) → Lawful (index_within past room)
unfolding index_within
index_lawful past room =
    to_lawful _ _ (then_lawful _ _ (opening_lawful (is_zero room) kind.LeftBracket refl) (first_lawful _ _ (kept past room).expression (just_lawful kind.RightBracket refl) (apart _ _ (λ t. refl) (λ t. refl) refl)) (λ t e. refl))
