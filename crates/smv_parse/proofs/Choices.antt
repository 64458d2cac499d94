-- How a phrase is read that is one of several: the first token tells which.
use Rattle.std.proofs.Common.{◌≡◌, ℕ, Bool, true, false, cond, List, [], ◌∷◌, refl, ◌∙◌}
use Rattle.std.specs.Prelude.{◌||◌}
use Rattle.phrase_forms.specs.Forms.{Form, head, to, ◌⨾◌}
use Rattle.smv_tree.specs.declared.token.Token.{Token}
use Rattle.smv_tree.specs.declared.token.TokenKind.TheVariants as kind
use Rattle.smv_tree.specs.declared.tree.AssignmentKind.TheVariants as side
use Rattle.smv_tree.specs.declared.tree.TypeExpr.{TypeExpr}
use Rattle.smv_tree.specs.declared.tree.TypeExpr.TheVariants as type
use Rattle.smv_tree.specs.Kinds.{is_kind, is_identifier}
use Rattle.smv_phrases.specs.Names.{just, opening, identifier, begins_name, name_from}
use Rattle.smv_phrases.proofs.OfNames.{begins_same}
use Rattle.smv_expressions.specs.Expressions.{most_levels}
use Rattle.smv_parse.specs.Types.{word_type, is_sign, signed_type, symbol_of, integer_of, negative_of, element, enumeration, identifier_type, range_type, plain_type}
use Rattle.smv_parse.specs.Programs.{declares, variables, definitions, constants, Left, target, sided, left_side, assignment, assignments, constrains, constraint, specification, section_form}

pub element_reads : (closed : Bool) (ts : List Token) → (element closed).parse ts
    ≡ cond (head is_identifier ts) ((to symbol_of identifier).parse ts)
    (cond (head (is_kind kind.Integer) ts) ((to integer_of (just kind.Integer)).parse ts) ((to negative_of (opening closed kind.Minus ⨾ just kind.Integer)).parse ts))
unfolding element
element_reads closed ts = refl

abbrev pub boolean : Form Token TypeExpr
boolean = to (λ t. type.Boolean t.place) (just kind.Boolean)

pub type_reads : (room : ℕ) (ts : List Token) → (plain_type 0 room).parse ts
    ≡ cond (head (is_kind kind.Boolean) ts) (boolean.parse ts)
    (cond (head (is_kind kind.Word) ts) ((word_type 0 room).parse ts)
    (cond (head is_sign ts) ((signed_type 0 room).parse ts)
    (cond (head (is_kind kind.LeftBrace) ts) ((enumeration room).parse ts)
    (cond (head is_identifier ts) ((identifier_type 0 room).parse ts) ((range_type 0 room).parse ts)))))
unfolding plain_type word_type signed_type enumeration identifier_type
type_reads room ts = rw (begins_same (is_kind kind.Word) ts, begins_same is_sign ts, begins_same (is_kind kind.LeftBrace) ts, begins_same is_identifier ts) refl

-- the left side of an assignment that speaks of the variable where it stands
abbrev pub current : Form Token Left
current = to (λ x. (x.0, side.Current, x.1)) (target 0 most_levels)

pub left_reads : (ts : List Token) → (left_side 0).parse ts
    ≡ cond (head begins_name ts) (current.parse ts) (cond (head (is_kind kind.Init) ts) ((sided 0 kind.Init side.Init).parse ts) ((sided 0 kind.Next side.Next).parse ts))
unfolding left_side target name_from
left_reads ts = rw (begins_same begins_name ts ∙ begins_same (λ t. begins_name t || false) ts, begins_same (is_kind kind.Init) ts) refl

or_falses : (n i x : Bool) → ((((n || false) || false) || ((i || false) || (x || false))) || false) ≡ ((n || i) || x)
or_falses true i x = refl
or_falses false true x = refl
or_falses false false true = refl
or_falses false false false = refl

pub assignment_begins : (ts : List Token) → head (assignment 0).first ts ≡ ((head begins_name ts || head (is_kind kind.Init) ts) || head (is_kind kind.Next) ts)
unfolding assignment left_side target name_from
assignment_begins [] = refl
assignment_begins (t ∷ ts) = or_falses (begins_name t) (is_kind kind.Init t) (is_kind kind.Next t)

pub section_reads : (ts : List Token) → (section_form 0).parse ts
    ≡ cond (head declares ts) ((variables 0).parse ts)
    (cond (head (is_kind kind.Define) ts) ((definitions 0).parse ts)
    (cond (head (is_kind kind.Constants) ts) (constants.parse ts)
    (cond (head (is_kind kind.Assign) ts) ((assignments 0).parse ts)
    (cond (head constrains ts) ((constraint 0).parse ts) ((specification 0).parse ts)))))
unfolding section_form variables definitions constants assignments constraint
section_reads ts = rw (begins_same declares ts, begins_same (is_kind kind.Define) ts, begins_same (is_kind kind.Constants) ts, begins_same (is_kind kind.Assign) ts, begins_same constrains ts) refl
