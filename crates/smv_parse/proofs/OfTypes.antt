-- The forms of types keep the laws of forms.
use Rattle.std.proofs.Common.{◌≡◌, ℕ, zero, suc, ◌-◌, Bool, false, true, cond, List, [], ◌∷◌, Err, refl}
use Rattle.phrase_forms.specs.declared.fault.Fault.{Fault}
use Rattle.phrase_forms.specs.declared.fault.Fault.TheVariants.{Unexpected, TooDeep}
use Rattle.phrase_forms.specs.Forms.{Form, Read, one, many, to, ◌⨾◌, ◌◃◌}
use Rattle.phrase_forms.proofs.Lawful.{Lawful}
use Rattle.phrase_forms.proofs.Alike.{Alike, same_form, opened, or_alike, maybe_alike, named_alike, to_alike}
use Rattle.phrase_forms.proofs.OfToken.{token_lawful}
use Rattle.phrase_forms.proofs.OfThen.{then_lawful}
use Rattle.phrase_forms.proofs.OfOr.{or_lawful}
use Rattle.phrase_forms.proofs.OfTo.{to_lawful}
use Rattle.phrase_forms.proofs.OfMaybe.{maybe_lawful}
use Rattle.phrase_forms.proofs.OfMany.{many_lawful}
use Rattle.phrase_forms.proofs.OfNamed.{Fine, named_lawful}
use Rattle.phrase_forms.proofs.OfAfter.{Bounded, after_apart, after_reads}
use Rattle.smv_tree.specs.declared.token.Token.{Token}
use Rattle.smv_tree.specs.declared.token.TokenKind.TheVariants as kind
use Rattle.smv_tree.specs.declared.tree.Expr.{Expr}
use Rattle.smv_tree.specs.declared.tree.TypeExpr.{TypeExpr}
use Rattle.smv_tree.specs.declared.tree.TypeExpr.TheVariants as type
use Rattle.smv_tree.specs.Kinds.{is_kind}
use Rattle.smv_phrases.specs.Names.{just, identifier, member, name_from}
use Rattle.smv_phrases.specs.Lists.{further, listed, or_none, maybe_listed}
use Rattle.smv_phrases.proofs.EachKind.{token_at, apart, within}
use Rattle.smv_phrases.proofs.OfNames.{just_lawful, opening_lawful, identifier_lawful, member_lawful, member_full, member_apart}
use Rattle.smv_phrases.proofs.OfLists.{second_lawful, first_lawful, listed_lawful, then_alike, first_alike, behind_alike, behind_only_alike, listed_alike}
use Rattle.smv_expressions.specs.Tokens.{begins_expression, begins_limit, goes_on_expression, goes_on_limit}
use Rattle.smv_expressions.specs.Expressions.{limit_within, limit_start, limit_start_within, limited, limited_within, is_zero, under}
use Rattle.smv_expressions.proofs.OfExpressions.{kept, limit_lawful, limit_start_within_fine, limited_within_lawful}
use Rattle.smv_expressions.proofs.ExpressionsAlike.{under_alike, limit_within_alike, limit_start_within_alike, limited_within_alike}
use Rattle.smv_parse.specs.Types.{width, word_type, is_sign, signed_type, element, enumeration, upper, instance_of, given, named_range, range_of, goes_on_range, goes_on_identifier, behind_identifier, identifier_type, range_type, plain_type, dimension, array_head, Written, array_of, begins_type, known_type, type_over, types_beyond, types, written_type}

-- the phrases under a level
module _ (past room : ℕ) where
  abbrev arguments : Form Token Expr
  arguments = (under past room).expression

  abbrev limit : Form Token Expr
  limit = (under past room).limit

  arguments_lawful : Lawful arguments
  arguments_lawful = (kept past room).expression

  limit_under_lawful : Lawful limit
  limit_under_lawful = (kept past room).limit

  given_lawful : Lawful (given past room)
  given_lawful =
      let list = listed_lawful arguments arguments_lawful refl (apart _ _ (λ t. refl) (λ t. refl) refl) (apart _ _ (λ t. refl) (λ t. refl) refl) in
      let inside = to_lawful or_none _ (maybe_lawful _ list refl) in
      second_lawful _ _ (opening_lawful (is_zero room) kind.LeftParen refl) (first_lawful _ _ inside (just_lawful kind.RightParen refl) (apart _ _ (λ t. refl) (λ t. refl) refl)) (λ t e. refl)

  width_lawful : Lawful (width past room)
  width_lawful =
      second_lawful _ _ (opening_lawful (is_zero room) kind.LeftBracket refl) (first_lawful _ _ limit_under_lawful (just_lawful kind.RightBracket refl) (apart _ _ (λ t. refl) (λ t. refl) refl)) (λ t e. refl)

  word_lawful : Lawful (word_type past room)
  unfolding word_type
  word_lawful = to_lawful _ _ (then_lawful _ _ (just_lawful kind.Word refl) width_lawful (λ t e. refl))

  signed_lawful : Lawful (signed_type past room)
  unfolding signed_type
  signed_lawful = to_lawful _ _ (then_lawful _ _ (token_lawful false is_sign (token_at kind.Signed) refl) (second_lawful _ _ (just_lawful kind.Word refl) width_lawful (λ t e. refl)) (λ t e. refl))

  dimension_lawful : Lawful (dimension limit)
  dimension_lawful = to_lawful _ _ (then_lawful _ _ limit_under_lawful (second_lawful _ _ (just_lawful kind.DotDot refl) limit_under_lawful (λ t e. refl)) (apart _ _ (λ t. refl) (λ t. refl) refl))

  array_head_lawful : Lawful (array_head past room)
  unfolding array_head
  array_head_lawful =
      second_lawful _ _ (opening_lawful (is_zero room) kind.Array refl) (first_lawful _ _ dimension_lawful (just_lawful kind.Of refl) (apart _ _ (λ t. refl) (λ t. refl) refl)) (λ t e. refl)

module _ (closed : Bool) where
  pub element_lawful : Lawful (element closed)
  unfolding element
  element_lawful =
      or_lawful _ _ (to_lawful _ _ identifier_lawful)
      (or_lawful _ _ (to_lawful _ _ (just_lawful kind.Integer refl)) (to_lawful _ _ (then_lawful _ _ (opening_lawful closed kind.Minus refl) (just_lawful kind.Integer refl) (λ t e. refl))) refl refl (apart _ _ (λ t. refl) (λ t. refl) refl))
      refl refl (apart _ _ (λ t. refl) (λ t. refl) refl)

  element_full : (element closed).nullable ≡ false
  unfolding element
  element_full = refl

  elements_first : (t : Token) → (further (element closed)).first t ≡ true → (element closed).more t ≡ false
  unfolding element
  elements_first = apart _ _ (λ t. refl) (λ t. refl) refl

  pub further_element_lawful : Lawful (further (element closed))
  further_element_lawful = second_lawful _ _ (just_lawful kind.Comma refl) element_lawful (λ t e. refl)

  pub elements_apart : (t : Token) → (further (element closed)).first t ≡ true → (further (element closed)).more t ≡ false
  unfolding element
  elements_apart = apart _ _ (λ t. refl) (λ t. refl) refl

  elements_lawful : Lawful (listed (element closed))
  elements_lawful = listed_lawful (element closed) element_lawful element_full elements_first elements_apart

enumeration_lawful : (room : ℕ) → Lawful (enumeration room)
unfolding enumeration element
enumeration_lawful room =
    to_lawful _ _ (then_lawful _ _ (opening_lawful (is_zero room) kind.LeftBrace refl) (first_lawful _ _ (elements_lawful (is_zero (room - 1))) (just_lawful kind.RightBrace refl) (apart _ _ (λ t. refl) (λ t. refl) refl)) (λ t e. refl))

upper_lawful : (past room : ℕ) → Lawful (upper past room)
upper_lawful past room = second_lawful _ _ (just_lawful kind.DotDot refl) (limit_lawful past room) (λ t e. refl)

named_range_fine : (past room : ℕ) → Fine goes_on_range goes_on_limit (named_range past room)
unfolding named_range member limited_within limited limit_within
named_range_fine past room = record {
  lawful =
      then_lawful _ _ (many_lawful member member_lawful member_full member_apart)
      (then_lawful _ _ (limited_within_lawful past room) (upper_lawful past room) (apart _ _ (λ t. refl) (λ t. refl) refl)) (apart _ _ (λ t. refl) (λ t. refl) refl);
  first = within _ _ (λ t. refl) (λ t. refl) refl;
  more = within _ _ (λ t. refl) (λ t. refl) refl;
  full = refl;
}

behind_bounded : (past room : ℕ) (t : Token) → Bounded goes_on_identifier goes_on_identifier true (behind_identifier past room t)
unfolding behind_identifier
behind_bounded past room t = record {
  lawful =
      to_lawful _ _ (maybe_lawful _ (or_lawful _ _ (to_lawful (instance_of t) _ (given_lawful past room)) (to_lawful (range_of t) _ (named_lawful (named_range_fine past room))) refl refl (apart _ _ (λ t. refl) (λ t. refl) refl)) refl);
  first = within _ _ (λ t. refl) (λ t. refl) refl;
  more = within _ _ (λ t. refl) (λ t. refl) refl;
  null = λ e. refl;
}

identifier_type_lawful : (past room : ℕ) → Lawful (identifier_type past room)
unfolding identifier_type
identifier_type_lawful past room = to_lawful _ _ (after_apart identifier goes_on_identifier goes_on_identifier true (behind_identifier past room) identifier_lawful (behind_bounded past room) (λ t e. refl))

range_lawful : (past room : ℕ) → Lawful (range_type past room)
unfolding range_type limit_start_within limit_start name_from member limited_within limited limit_within
range_lawful past room =
    to_lawful _ _ (then_lawful _ _ (limit_start_within_fine past room).lawful
    (then_lawful _ _ (limited_within_lawful past room) (upper_lawful past room) (apart _ _ (λ t. refl) (λ t. refl) refl)) (apart _ _ (λ t. refl) (λ t. refl) refl))

plain_lawful : (past room : ℕ) → Lawful (plain_type past room)
unfolding plain_type word_type signed_type enumeration identifier_type range_type limit_start_within limit_start name_from
plain_lawful past room =
    or_lawful _ _ (to_lawful _ _ (just_lawful kind.Boolean refl))
    (or_lawful _ _ (word_lawful past room)
    (or_lawful _ _ (signed_lawful past room)
    (or_lawful _ _ (enumeration_lawful room)
    (or_lawful _ _ (identifier_type_lawful past room) (range_lawful past room) refl refl (apart _ _ (λ t. refl) (λ t. refl) refl))
    refl refl (apart _ _ (λ t. refl) (λ t. refl) refl))
    refl refl (apart _ _ (λ t. refl) (λ t. refl) refl))
    refl refl (apart _ _ (λ t. refl) (λ t. refl) refl))
    refl refl (apart _ _ (λ t. refl) (λ t. refl) refl)

abbrev FineType : Form Token Written → Type 0
FineType written = Fine begins_type goes_on_identifier written

over_fine : (past room : ℕ) (elements : Form Token Written) → FineType elements → FineType (type_over past room elements)
unfolding array_head plain_type word_type signed_type enumeration element identifier_type range_type limit_start_within limit_start name_from member limited_within limited limit_within
over_fine past room elements fine =
    let none : TypeExpr → Written = λ t. ([], t) in record {
      lawful =
          or_lawful _ _ (to_lawful array_of _ (then_lawful _ _ (array_head_lawful past room) (named_lawful fine) (λ t e. refl))) (to_lawful none _ (plain_lawful past room)) refl refl (apart _ _ (λ t. refl) (λ t. refl) refl);
      first = within _ _ (λ t. refl) (λ t. refl) refl;
      more = within _ _ (λ t. refl) (λ t. refl) refl;
      full = refl;
    }

beyond_fine : (past : ℕ) → FineType (types_beyond past)
unfolding types_beyond
beyond_fine zero = record {
  lawful = to_lawful _ _ (just_lawful kind.Boolean refl);
  first = within _ _ (λ t. refl) (λ t. refl) refl;
  more = λ t e. absurd cc;
  full = refl;
}
beyond_fine (suc past) = over_fine past 0 (types_beyond past) (beyond_fine past)

types_fine : (past room : ℕ) → FineType (types past room)
unfolding types
types_fine past zero = beyond_fine past
types_fine past (suc room) = over_fine past room (types past room) (types_fine past room)

pub type_lawful : (past room : ℕ) → Lawful (written_type past room)
unfolding written_type
type_lawful past room = named_lawful (types_fine past (suc room))

-- the tokens that go on a type: none goes on a whole declaration
pub type_ends : (past room : ℕ) (t : Token) → is_kind kind.Semicolon t ≡ true → (written_type past room).more t ≡ false
unfolding written_type
type_ends past room = apart _ _ (λ t. refl) (λ t. refl) refl

-- What is read of a type does not depend on the levels that are too many.
module _ (past room : ℕ) where
  same_arguments : is_zero room ≡ false → Alike (arguments 0 room) (arguments past room)
  same_arguments unlocked = named_alike begins_expression goes_on_expression (under_alike past room unlocked).expression

  same_limit : is_zero room ≡ false → Alike (limit 0 room) (limit past room)
  same_limit unlocked = named_alike begins_limit goes_on_limit (under_alike past room unlocked).limit

  given_alike : Alike (given 0 room) (given past room)
  given_alike =
      let within : Form Token Expr → Form Token (List Expr) = λ phrase. maybe_listed phrase ◃ just kind.RightParen in
      let same : is_zero room ≡ false → Alike (within (arguments 0 room)) (within (arguments past room)) =
      λ unlocked. first_alike _ _ _ _ (to_alike or_none (maybe_alike _ _ (listed_alike _ _ (same_arguments unlocked) (λ t. refl)))) (same_form (just kind.RightParen)) (λ t. refl) in
      to_alike _ (opened (is_zero room) (is_kind kind.LeftParen) (within (arguments 0 room)) (within (arguments past room)) (λ unlocked. (same unlocked).parse))

  width_alike : Alike (width 0 room) (width past room)
  width_alike =
      to_alike _ (opened (is_zero room) (is_kind kind.LeftBracket) (limit 0 room ◃ just kind.RightBracket) (limit past room ◃ just kind.RightBracket)
      (λ unlocked. (first_alike _ _ _ _ (same_limit unlocked) (same_form (just kind.RightBracket)) (λ t. refl)).parse))

  dimension_alike : is_zero room ≡ false → Alike (dimension (limit 0 room)) (dimension (limit past room))
  dimension_alike unlocked = to_alike _ (then_alike _ _ _ _ (same_limit unlocked) (behind_only_alike (is_kind kind.DotDot) _ _ (same_limit unlocked)) (λ t. refl))

  array_head_alike : Alike (array_head 0 room) (array_head past room)
  unfolding array_head
  array_head_alike =
      to_alike _ (opened (is_zero room) (is_kind kind.Array) (dimension (limit 0 room) ◃ just kind.Of) (dimension (limit past room) ◃ just kind.Of)
      (λ unlocked. (first_alike _ _ _ _ (dimension_alike unlocked) (same_form (just kind.Of)) (λ t. refl)).parse))

  upper_alike : Alike (upper 0 room) (upper past room)
  upper_alike = behind_only_alike (is_kind kind.DotDot) _ _ (limit_within_alike past room)

  named_range_alike : Alike (named_range 0 room) (named_range past room)
  unfolding named_range limited_within limited
  named_range_alike =
      then_alike _ _ _ _ (same_form (many member)) (then_alike _ _ _ _ (limited_within_alike past room) upper_alike (λ t. refl)) (λ t. refl)

  behind_alike_at : (t : Token) → Alike (behind_identifier 0 room t) (behind_identifier past room t)
  unfolding behind_identifier
  behind_alike_at t =
      to_alike _ (maybe_alike _ _ (or_alike _ _ _ _ (to_alike (instance_of t) given_alike) (to_alike (range_of t) (named_alike goes_on_range goes_on_limit named_range_alike)) (λ t. refl)))

  identifier_type_alike : Alike (identifier_type 0 room) (identifier_type past room)
  unfolding identifier_type
  identifier_type_alike =
      to_alike _ (record {
        parse = after_reads identifier identifier goes_on_identifier goes_on_identifier true (behind_identifier 0 room) (behind_identifier past room) (same_form identifier) (λ t ts. (behind_alike_at t).parse ts);
        first = λ t. refl;
      })

  range_alike : Alike (range_type 0 room) (range_type past room)
  unfolding range_type limit_start_within limit_start name_from limited_within limited
  range_alike =
      to_alike _ (then_alike _ _ _ _ (limit_start_within_alike past room) (then_alike _ _ _ _ (limited_within_alike past room) upper_alike (λ t. refl)) (λ t. refl))

  word_alike : Alike (word_type 0 room) (word_type past room)
  unfolding word_type
  word_alike = to_alike _ (behind_alike (is_kind kind.Word) _ _ width_alike)

  signed_alike : Alike (signed_type 0 room) (signed_type past room)
  unfolding signed_type
  signed_alike = to_alike _ (behind_alike is_sign _ _ (behind_only_alike (is_kind kind.Word) _ _ width_alike))

  plain_alike : Alike (plain_type 0 room) (plain_type past room)
  unfolding plain_type word_type signed_type identifier_type range_type limit_start_within limit_start name_from
  plain_alike =
      or_alike _ _ _ _ (same_form (to (λ t. type.Boolean t.place) (just kind.Boolean)))
      (or_alike _ _ _ _ word_alike
      (or_alike _ _ _ _ signed_alike
      (or_alike _ _ _ _ (same_form (enumeration room)) (or_alike _ _ _ _ identifier_type_alike range_alike (λ t. refl)) (λ t. refl)) (λ t. refl)) (λ t. refl)) (λ t. refl)

-- no token is read that opens a level where none may be opened
abbrev no_level : Bool → Token → List Token → Read Token Token
no_level b t ts = cond b (Err (TooDeep, t ∷ ts)) (Err (Unexpected, t ∷ ts))

closed_fails : (p : Token → Bool) (ts : List Token) → (d : Fault × List Token) × (one true p ts ≡ Err d)
closed_fails p [] = ((Unexpected, []), refl)
closed_fails p (t ∷ ts) = go (p t)
  where
    go : (b : Bool) → (d : Fault × List Token) × (no_level b t ts ≡ Err d)
    go true = ((TooDeep, t ∷ ts), refl)
    go false = ((Unexpected, t ∷ ts), refl)

abbrev array : ℕ → ℕ → Form Token Written → Form Token Written
array past room elements = to array_of (array_head past room ⨾ known_type elements)

last_array_alike : (past : ℕ) (elements elements' : Form Token Written) → Alike (array 0 0 elements) (array past 0 elements')
unfolding array_head
last_array_alike past elements elements' = record { parse = λ ts. rw (closed_fails (is_kind kind.Array) ts).1 refl; first = λ t. refl }

array_alike : (past room : ℕ) (elements elements' : Form Token Written) → Alike (known_type elements) (known_type elements') → Alike (array 0 room elements) (array past room elements')
unfolding array_head
array_alike past room elements elements' same = to_alike array_of (then_alike _ _ _ _ (array_head_alike past room) same (λ t. refl))

over_alike : (past room : ℕ) (elements elements' : Form Token Written) → Alike (array 0 room elements) (array past room elements')
    → Alike (type_over 0 room elements) (type_over past room elements')
unfolding array_head plain_type word_type signed_type identifier_type range_type limit_start_within limit_start name_from
over_alike past room elements elements' same =
    let none : TypeExpr → Written = λ t. ([], t) in
    or_alike _ _ _ _ same (to_alike none (plain_alike past room)) (λ t. refl)

types_alike : (room past : ℕ) → Alike (types 0 (suc room)) (types past (suc room))
unfolding types
types_alike zero past = over_alike past 0 (types 0 0) (types past 0) (last_array_alike past (types 0 0) (types past 0))
types_alike (suc room) past =
    let elements = named_alike begins_type goes_on_identifier (types_alike room past) in
    over_alike past (suc room) (types 0 (suc room)) (types past (suc room)) (array_alike past (suc room) (types 0 (suc room)) (types past (suc room)) elements)

pub type_alike : (past room : ℕ) → Alike (written_type 0 room) (written_type past room)
unfolding written_type
type_alike past room = named_alike begins_type goes_on_identifier (types_alike room past)
