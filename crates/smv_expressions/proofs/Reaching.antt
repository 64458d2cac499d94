-- When a phrase is read whose value says what may go on it.
use Rattle.std.proofs.Common.{◌≡◌, ℕ, Bool, true, false, cond, List, [], ◌∷◌, inl, inr, refl}
use Rattle.phrase_forms.specs.Forms.{Form, head, then, or, to}
use Rattle.phrase_forms.proofs.Lists.{head_apart}
use Rattle.phrase_forms.proofs.Lawful.{Reaches, Lawful}
use Rattle.smv_tree.specs.declared.token.Token.{Token}
use Rattle.smv_expressions.specs.Tokens.{goes_on_selected, goes_on_relation}
use Rattle.smv_expressions.specs.Expressions.{Denied}

-- what may go on: a relation on the operand of a temporal operator, and on a plain operand that it is not the end of
abbrev pub more_of : Denied → Token → Bool
more_of x t = cond x.0 (goes_on_relation t) (goes_on_selected t)

-- a phrase is read where nothing stands behind it that may go on its value
pub record Deep (F : Form Token Denied) : Type 0 where
  pub reach : (k : ℕ) (ts : List Token) (x : Denied) (rest : List Token) → F.yields k ts x rest → head (more_of x) rest ≡ false → Reaches k (F.parse ts) x rest

pub head_nothing : (ts : List Token) → head (λ (t : Token). false) ts ≡ false
head_nothing [] = refl
head_nothing (t ∷ ts) = refl

pub then_reach : {A B : Type 0} (a : Form Token A) (b : Form Token B) (k : ℕ) (ts : List Token) (x : A) (mid : List Token) (y : B) (rest : List Token) →
    Reaches k (a.parse ts) x mid → Reaches k (b.parse mid) y rest → Reaches k ((then a b).parse ts) (x, y) rest
then_reach a b k ts x mid y rest ra rb = elim ra [
  | inr d ↦ inr (d.0, rw d.1 refl, d.2, d.3)
  | inl ea ↦ elim rb [
    | inr d ↦ inr (d.0, rw (ea, d.1) refl, d.2, d.3)
    | inl eb ↦ inl (rw (ea, eb) refl)
  ]
]

pub to_reach : {A B : Type 0} (f : A → B) (a : Form Token A) (k : ℕ) (ts : List Token) (x : A) (rest : List Token) → Reaches k (a.parse ts) x rest → Reaches k ((to f a).parse ts) (f x) rest
to_reach f a k ts x rest ra = elim ra [ inl e ↦ inl (rw e refl) | inr d ↦ inr (d.0, rw d.1 refl, d.2, d.3) ]

pub or_left : {A : Type 0} (a b : Form Token A) → Lawful a → a.nullable ≡ false → (k : ℕ) (ts : List Token) (x : A) (rest : List Token) → a.yields k ts x rest →
    Reaches k (a.parse ts) x rest → Reaches k ((or a b).parse ts) x rest
or_left a b la na k ts x rest y r = elim (la.starts k ts x rest y) [ inl s ↦ rw s r | inr n ↦ absurd (let e = n.0 in cc) ]

pub or_right : {A : Type 0} (a b : Form Token A) → Lawful b → b.nullable ≡ false → ((t : Token) → b.first t ≡ true → a.first t ≡ false) →
    (k : ℕ) (ts : List Token) (x : A) (rest : List Token) → b.yields k ts x rest → Reaches k (b.parse ts) x rest → Reaches k ((or a b).parse ts) x rest
or_right a b lb nb h k ts x rest y r = elim (lb.starts k ts x rest y) [ inl s ↦ rw (head_apart b.first a.first ts h s) r | inr n ↦ absurd (let e = n.0 in cc) ]
