-- The forms of single tokens and of names keep the laws of forms.
use Rattle.std.proofs.Common.{◌≡◌, Bool, true, false, List, [], ◌∷◌, refl}
use Rattle.std.specs.Prelude.{◌||◌}
use Rattle.phrase_forms.specs.Forms.{head, token}
use Rattle.phrase_forms.proofs.Lawful.{Lawful}
use Rattle.phrase_forms.proofs.OfToken.{token_lawful}
use Rattle.phrase_forms.proofs.OfThen.{then_lawful}
use Rattle.phrase_forms.proofs.OfTo.{to_lawful}
use Rattle.phrase_forms.proofs.OfMany.{many_lawful}
use Rattle.smv_tree.specs.declared.token.Token.{Token}
use Rattle.smv_tree.specs.declared.token.TokenKind.{TokenKind}
use Rattle.smv_tree.specs.declared.token.TokenKind.TheVariants as kind
use Rattle.smv_tree.specs.Kinds.{is_kind, is_identifier}
use Rattle.smv_phrases.specs.Names.{just, opening, identifier, start_of, starts_name, member, name_from, name}
use Rattle.smv_phrases.specs.declared.names.NameStart.{NameStart}
use Rattle.smv_phrases.specs.declared.names.NameStart.TheVariants as may
use Rattle.smv_phrases.proofs.EachKind.{token_at}

pub just_lawful : (k : TokenKind) → is_kind k (token_at k) ≡ true → Lawful (just k)
just_lawful k e = token_lawful false (is_kind k) (token_at k) e

pub opening_lawful : (closed : Bool) (k : TokenKind) → is_kind k (token_at k) ≡ true → Lawful (opening closed k)
opening_lawful closed k e = token_lawful closed (is_kind k) (token_at k) e

pub identifier_lawful : Lawful identifier
identifier_lawful = token_lawful false is_identifier (token_at kind.Identifier) refl

pub member_lawful : Lawful member
unfolding member
member_lawful = to_lawful _ _ (to_lawful _ _ (then_lawful _ _ (just_lawful kind.Dot refl) identifier_lawful (λ t e. refl)))

pub member_full : member.nullable ≡ false
unfolding member
member_full = refl

pub member_apart : (t : Token) → member.first t ≡ true → member.more t ≡ false
unfolding member
member_apart t e = refl

-- a token that a name may begin with
start_token : NameStart → Token
start_token may.Any = token_at kind.Identifier
start_token may.Plain = token_at kind.Identifier
start_token may.Own = token_at kind.Identifier
start_token may.Itself = token_at kind.SelfName

start_begins : (which : NameStart) → starts_name which (start_token which) ≡ true
unfolding start_token
start_begins may.Any = refl
start_begins may.Plain = refl
start_begins may.Own = refl
start_begins may.Itself = refl

pub name_from_lawful : (which : NameStart) → Lawful (name_from which)
unfolding name_from
name_from_lawful which =
    to_lawful _ _ (then_lawful _ _ (to_lawful start_of (token false (starts_name which)) (token_lawful false (starts_name which) (start_token which) (start_begins which))) (many_lawful member member_lawful member_full member_apart) (λ t e. refl))

pub name_lawful : Lawful name
name_lawful = name_from_lawful may.Any

or_false : (b : Bool) → (b || false) ≡ b
or_false true = refl
or_false false = refl

-- a phrase that begins with one kind of token begins where that stands
pub begins_same : (p : Token → Bool) (ts : List Token) → head p ts ≡ head (λ t. p t || false) ts
begins_same p [] = refl
begins_same p (t ∷ ts) = rw (or_false (p t)) refl

pub member_begins : (ts : List Token) → head (is_kind kind.Dot) ts ≡ head member.first ts
unfolding member
member_begins ts = begins_same (is_kind kind.Dot) ts
