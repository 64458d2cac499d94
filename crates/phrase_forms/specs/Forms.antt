-- Forms: what a phrase spells, and how it is read from the front of the tokens.
--
-- A form is one phrase of a language, seen twice: `yields` says what tokens spell, `parse` reads them. A worked line,
-- of a number of `!`, a name, and an index or none, where `room` more levels may be opened:
--
--     named_by room = many bang ⨾ name ⨾ maybe (token (is_zero room) is_left ▹ number ◃ right)
--
-- - firsts (`first`): the tokens that a phrase may begin with, here `!` and a name. `or`, `maybe` and `many` read on
--   where the next token is among them, and need no look further.
-- - followers (`more`): the tokens that may go on a phrase that could end where they stand, here `[` alone, behind the
--   name. `many bang` has the follower `!`; it may be followed by a name, since no name is among its followers.
-- - `closed`, the first argument of `token`: the token opens a level, and no room is left for one. `parse` refuses it
--   there as too deep. `yields k` lets it stand in the last k tokens alone, so that one can say where the first level
--   too many is opened; with as many as there are tokens, and so where any depth will do, it is an ordinary token.
--
-- None of the three changes what is spelled. They are how `parse` chooses, and where they are wrong for a language, its
-- laws (`Lawful`: what is read is spelled, what is spelled is read, and so on) have no proof.
use Rattle.std.specs.Prelude.{◌≡◌, ℕ, zero, suc, Bool, true, false, cond, ◌&&◌, ◌||◌, ◌⊎◌, List, [], ◌∷◌, length, ◌≤◌, Option, Some, None, Result, Ok, Err}
use Rattle.phrase_forms.specs.declared.fault.Fault.{Fault}
use Rattle.phrase_forms.specs.declared.fault.Fault.TheVariants.{Unexpected, TooDeep}

-- a value and the tokens after it, or a fault and the tokens from the bad one on
abbrev pub Read : Type 0 → Type 0 → Type 0
Read T A = Result (A × List T) (Fault × List T)

infixl 10 ◌>>=◌
abbrev pub ◌>>=◌ : {A B E : Type 0} → Result A E → (A → Result B E) → Result B E
(Ok x) >>= f = f x
(Err e) >>= f = Err e

-- the first token meets the test
abbrev pub head : {T : Type 0} → (T → Bool) → List T → Bool
head p [] = false
head p (t ∷ ts) = p t

pub record Form (T A : Type 0) : Type 1 where
  -- the first tokens spell the value, and the last are the rest; a level that is one too many is opened in
  -- the last k tokens alone
  pub yields : ℕ → List T → A → List T → Type 0
  pub parse : List T → Read T A
  -- the tokens that a phrase may begin with
  pub first : T → Bool
  -- the tokens that may go on a whole phrase
  pub more : T → Bool
  pub nullable : Bool

-- one token; it opens a level, and none may be opened, where closed is true
abbrev pub one : {T : Type 0} → Bool → (T → Bool) → List T → Read T T
one closed p [] = Err (Unexpected, [])
one closed p (t ∷ ts) = cond (p t) (cond closed (Err (TooDeep, t ∷ ts)) (Ok (t, ts))) (Err (Unexpected, t ∷ ts))

abbrev pub token : {T : Type 0} → Bool → (T → Bool) → Form T T
token closed p = record {
  yields = λ k ts t rest. (ts ≡ t ∷ rest) × (p t ≡ true) × (closed ≡ true → length ts ≤ k);
  parse = one closed p;
  first = p;
  more = λ t. false;
  nullable = false;
}

abbrev pub then : {T A B : Type 0} → Form T A → Form T B → Form T (A × B)
then {T} {A} {B} a b = record {
  yields = λ k ts x rest. (mid : List T) × a.yields k ts x.0 mid × b.yields k mid x.1 rest;
  parse = λ ts. a.parse ts >>= λ x. b.parse x.1 >>= λ y. Ok ((x.0, y.0), y.1);
  first = λ t. a.first t || (a.nullable && b.first t);
  more = λ t. b.more t || (b.nullable && a.more t);
  nullable = a.nullable && b.nullable;
}

-- a and then b, written between them
infixr 20 ◌⨾◌
abbrev pub ◌⨾◌ : {T A B : Type 0} → Form T A → Form T B → Form T (A × B)
a ⨾ b = then a b

-- a where its first token stands, else b
abbrev pub or : {T A : Type 0} → Form T A → Form T A → Form T A
or a b = record {
  yields = λ k ts x rest. a.yields k ts x rest ⊎ b.yields k ts x rest;
  parse = λ ts. cond (head a.first ts) (a.parse ts) (b.parse ts);
  first = λ t. a.first t || b.first t;
  more = λ t. a.more t || b.more t;
  nullable = b.nullable;
}

abbrev pub maybe_yields : {T A : Type 0} → Form T A → ℕ → List T → Option A → List T → Type 0
maybe_yields a k ts None rest = ts ≡ rest
maybe_yields a k ts (Some x) rest = a.yields k ts x rest

abbrev pub maybe : {T A : Type 0} → Form T A → Form T (Option A)
maybe a = record {
  yields = maybe_yields a;
  parse = λ ts. cond (head a.first ts) (a.parse ts >>= λ x. Ok (Some x.0, x.1)) (Ok (None, ts));
  first = a.first;
  more = λ t. a.more t || a.first t;
  nullable = true;
}

abbrev pub many_yields : {T A : Type 0} → Form T A → ℕ → List T → List A → List T → Type 0
many_yields a k ts [] rest = ts ≡ rest
many_yields {T} a k ts (x ∷ xs) rest = (mid : List T) × a.yields k ts x mid × many_yields a k mid xs rest

-- as many as there are, with a bound on them
unfoldable pub many_at : {T A : Type 0} → ℕ → Form T A → List T → Read T (List A)
many_at zero a ts = Ok ([], ts)
many_at (suc n) a ts = cond (head a.first ts) (a.parse ts >>= λ x. many_at n a x.1 >>= λ y. Ok (x.0 ∷ y.0, y.1)) (Ok ([], ts))

abbrev pub many : {T A : Type 0} → Form T A → Form T (List A)
many a = record {
  yields = many_yields a;
  parse = λ ts. many_at (length ts) a ts;
  first = a.first;
  more = λ t. a.more t || a.first t;
  nullable = true;
}

abbrev pub to : {T A B : Type 0} → (A → B) → Form T A → Form T B
to {A} f a = record {
  yields = λ k ts y rest. (x : A) × (y ≡ f x) × a.yields k ts x rest;
  parse = λ ts. a.parse ts >>= λ x. Ok (f x.0, x.1);
  first = a.first;
  more = a.more;
  nullable = a.nullable;
}

-- a and then b, for the value of b alone
infixr 20 ◌▹◌
abbrev pub ◌▹◌ : {T A B : Type 0} → Form T A → Form T B → Form T B
a ▹ b = to (λ x. x.1) (then a b)

-- a and then b, for the value of a alone
infixr 20 ◌◃◌
abbrev pub ◌◃◌ : {T A B : Type 0} → Form T A → Form T B → Form T A
a ◃ b = to (λ x. x.0) (then a b)

-- a form that is not empty, with these sets of tokens that it begins with and that go on it
abbrev pub named : {T A : Type 0} → (T → Bool) → (T → Bool) → Form T A → Form T A
named f m a = record { yields = a.yields; parse = a.parse; first = f; more = m; nullable = false }
