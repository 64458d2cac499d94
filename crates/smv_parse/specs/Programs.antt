-- Modules and their sections (NuSMV 2.6 User Manual, 2.3). Tables tell what keywords mean; they are asked of keywords
-- alone, so that `unwrap_or` never gives its last argument.
use Rattle.std.specs.Prelude.{ℕ, Bool, false, Option, None, Some, is_some, unwrap_or}
use Rattle.phrase_forms.specs.Forms.{Form, token, or, maybe, many, to, ◌⨾◌, ◌▹◌, ◌◃◌}
use Rattle.smv_tree.specs.declared.place.Place.{Place}
use Rattle.smv_tree.specs.declared.token.Token.{Token}
use Rattle.smv_tree.specs.declared.token.TokenKind.{TokenKind}
use Rattle.smv_tree.specs.declared.token.TokenKind.TheVariants as kind
use Rattle.smv_tree.specs.declared.tree.Program.{Program}
use Rattle.smv_tree.specs.declared.tree.Module.{Module}
use Rattle.smv_tree.specs.declared.tree.Parameter.{Parameter}
use Rattle.smv_tree.specs.declared.tree.Section.{Section}
use Rattle.smv_tree.specs.declared.tree.Section.TheVariants as section
use Rattle.smv_tree.specs.declared.tree.Variable.{Variable}
use Rattle.smv_tree.specs.declared.tree.VariableKind.{VariableKind}
use Rattle.smv_tree.specs.declared.tree.VariableKind.TheVariants as variable
use Rattle.smv_tree.specs.declared.tree.Definition.{Definition}
use Rattle.smv_tree.specs.declared.tree.Assignment.{Assignment}
use Rattle.smv_tree.specs.declared.tree.AssignmentKind.{AssignmentKind}
use Rattle.smv_tree.specs.declared.tree.AssignmentKind.TheVariants as side
use Rattle.smv_tree.specs.declared.tree.ConstraintKind.{ConstraintKind}
use Rattle.smv_tree.specs.declared.tree.ConstraintKind.TheVariants as asked
use Rattle.smv_tree.specs.declared.tree.SpecificationKind.{SpecificationKind}
use Rattle.smv_tree.specs.declared.tree.SpecificationKind.TheVariants as claim
use Rattle.smv_tree.specs.declared.tree.Expr.{Expr}
use Rattle.smv_tree.specs.declared.tree.Expr.TheVariants as expr
use Rattle.smv_phrases.specs.Names.{just, identifier, identifier_of, name, place_of}
use Rattle.smv_phrases.specs.Lists.{listed, bracketed}
use Rattle.smv_expressions.specs.Expressions.{selected_by_all, expression_within, index_within, most_levels}
use Rattle.smv_parse.specs.Types.{written_type}

-- the expressions of a section: all levels may be opened in them, and then `past` that are too many
abbrev pub expression : ℕ → Form Token Expr
expression past = expression_within past most_levels

-- identifier ":" type ";"
unfoldable pub declaration : ℕ → Form Token Variable
declaration past =
    to (λ x. record { place = x.0.place; name = x.0.text; dimensions = x.1.0; declared = x.1.1 }) (identifier ⨾ just kind.Colon ▹ written_type past most_levels ◃ just kind.Semicolon)

-- "VAR", "IVAR" or "FROZENVAR"
abbrev pub kind_declared : TokenKind → Option VariableKind
kind_declared kind.Var = Some variable.State
kind_declared kind.Ivar = Some variable.Input
kind_declared kind.FrozenVar = Some variable.Frozen
kind_declared other = None

abbrev pub declares : Token → Bool
declares t = is_some (kind_declared t.kind)

-- one of those words, and declarations
unfoldable pub variables : ℕ → Form Token Section
variables past = to (λ x. section.Variables (unwrap_or (kind_declared x.0.kind) variable.State) x.1) (token false declares ⨾ many (declaration past))

-- identifier ":=" expression ";"
unfoldable pub definition : ℕ → Form Token Definition
definition past = to (λ x. record { place = x.0.place; name = x.0.text; body = x.1 }) (identifier ⨾ just kind.Becomes ▹ expression past ◃ just kind.Semicolon)

-- "DEFINE" and its definitions
unfoldable pub definitions : ℕ → Form Token Section
definitions past = to section.Definitions (just kind.Define ▹ many (definition past))

-- "CONSTANTS", identifiers with commas between them, and ";"
unfoldable pub constants : Form Token Section
constants = to section.Constants (just kind.Constants ▹ listed (to identifier_of identifier) ◃ just kind.Semicolon)

-- the left side of an assignment: its place, what it speaks of, and the variable
abbrev pub Left : Type 0
Left = Place × AssignmentKind × Expr

-- a name and its indices, with its place
unfoldable pub target : ℕ → ℕ → Form Token (Place × Expr)
target past room = to (λ x. (place_of x.0, selected_by_all (expr.Name x.0) x.1)) (name ⨾ many (index_within past room))

-- so many levels may be open under one
abbrev pub under_one : ℕ
under_one = 255

-- keyword "(" target ")"
abbrev pub sided : ℕ → TokenKind → AssignmentKind → Form Token Left
sided past keyword which = to (λ x. (x.0.place, which, x.1.1)) (just keyword ⨾ just kind.LeftParen ▹ target past under_one ◃ just kind.RightParen)

-- target, "init" "(" target ")", or "next" "(" target ")"
unfoldable pub left_side : ℕ → Form Token Left
left_side past = or (to (λ x. (x.0, side.Current, x.1)) (target past most_levels)) (or (sided past kind.Init side.Init) (sided past kind.Next side.Next))

-- left ":=" expression ";"
unfoldable pub assignment : ℕ → Form Token Assignment
assignment past =
    to (λ x. record { place = x.0.0; kind = x.0.1; target = x.0.2; value = x.1 }) (left_side past ⨾ just kind.Becomes ▹ expression past ◃ just kind.Semicolon)

-- "ASSIGN" and its assignments
unfoldable pub assignments : ℕ → Form Token Section
assignments past = to section.Assignments (just kind.Assign ▹ many (assignment past))

-- expression, and ";" or nothing: the missing ";" is an own choice of this project
unfoldable pub formula : ℕ → Form Token Expr
formula past = expression past ◃ maybe (just kind.Semicolon)

-- "INIT", "INVAR", "TRANS", "JUSTICE" or "FAIRNESS"; the last two say the same
abbrev pub kind_asked : TokenKind → Option ConstraintKind
kind_asked kind.InitSection = Some asked.Init
kind_asked kind.Invar = Some asked.Invar
kind_asked kind.Trans = Some asked.Trans
kind_asked kind.Justice = Some asked.Justice
kind_asked kind.Fairness = Some asked.Justice
kind_asked other = None

abbrev pub constrains : Token → Bool
constrains t = is_some (kind_asked t.kind)

-- one of those words, and a formula
unfoldable pub constraint : ℕ → Form Token Section
constraint past = to (λ x. section.Constraint (record { place = x.0.place; kind = unwrap_or (kind_asked x.0.kind) asked.Init; formula = x.1 })) (token false constrains ⨾ formula past)

-- "NAME" identifier ":=", which has no effect
unfoldable pub given_name : Form Token Token
given_name = just kind.Name ▹ identifier ◃ just kind.Becomes

-- "INVARSPEC" or "LTLSPEC"
abbrev pub kind_claimed : TokenKind → Option SpecificationKind
kind_claimed kind.Invarspec = Some claim.Invariant
kind_claimed kind.Ltlspec = Some claim.Temporal
kind_claimed other = None

abbrev pub claims : Token → Bool
claims t = is_some (kind_claimed t.kind)

-- one of those words and a formula, with a name or without
unfoldable pub specification : ℕ → Form Token Section
specification past =
    to (λ x. section.Specification (record { place = x.0.place; kind = unwrap_or (kind_claimed x.0.kind) claim.Invariant; formula = x.1 })) (token false claims ⨾ maybe given_name ▹ formula past)

unfoldable pub section_form : ℕ → Form Token Section
section_form past = or (variables past) (or (definitions past) (or constants (or (assignments past) (or (constraint past) (specification past)))))

abbrev pub parameter_of : Token → Parameter
parameter_of t = record { place = t.place; name = t.text }

-- "MODULE", an identifier, its parameters and its sections
unfoldable pub module_form : ℕ → Form Token Module
module_form past =
    to (λ x. record { place = x.0.place; name_place = x.1.0.place; name = x.1.0.text; parameters = x.1.1.0; sections = x.1.1.1 })
    (just kind.Module ⨾ identifier ⨾ bracketed (to parameter_of identifier) ⨾ many (section_form past))

-- a program: its modules
unfoldable pub program : ℕ → Form Token Program
program past = to (λ modules. record { modules = modules }) (many (module_form past))
