-- How a phrase is read, or refused, where its parts are.
use Rattle.std.proofs.Common.{◌≡◌, ℕ, ◌<◌, Bool, List, Result, Ok, Err, IfOk, refl, sym, ◌∙◌}
use Rattle.phrase_forms.specs.declared.fault.Fault.{Fault}
use Rattle.phrase_forms.specs.Forms.{Form, Read, to, ◌⨾◌, ◌▹◌, ◌◃◌, ◌>>=◌}
use Rattle.smv_tree.specs.declared.token.Token.{Token}
use Rattle.smv_tree.specs.declared.token.TokenKind.{TokenKind}
use Rattle.smv_tree.specs.Kinds.{is_kind}
use Rattle.smv_phrases.specs.declared.reading.Stop.{Stop}
use Rattle.smv_phrases.specs.declared.reading.Stop.TheVariants.{Refused, NoMemory}
use Rattle.smv_phrases.specs.Reading.{Stops}
use Rattle.smv_phrases.specs.Names.{just, opening}
use Rattle.smv_expressions.specs.Expressions.{is_zero}
use Rattle.smv_expressions.proofs.Levels.{room_left}

-- the part between two tokens
module _ {A B C D : Type 0} (a : Form Token A) (b : Form Token B) (c : Form Token C) (f : A × B → D) (ts us : List Token) (x : A) (e1 : a.parse ts ≡ Ok (x, us)) where
  inside_refused : (d : Fault × List Token) → b.parse us ≡ Err d → (to f (a ⨾ b ◃ c)).parse ts ≡ Err d
  inside_refused d e2 = rw (e1, e2) refl

  pub inside_stops : (stop : Stop) → Stops stop (b.parse us) → Stops stop ((to f (a ⨾ b ◃ c)).parse ts)
  inside_stops (Refused fault rest) e2 = inside_refused (fault, rest.now) e2
  inside_stops NoMemory e2 = tt

abbrev made : {A B : Type 0} → (A → B) → Read Token A → Read Token B
made f read = read >>= λ z. Ok (f z.0, z.1)

abbrev beside : {A B : Type 0} → A → Read Token B → Read Token (A × B)
beside x read = read >>= λ z. Ok ((x, z.0), z.1)

-- a phrase behind a first one: where that was read, the phrase itself is still to come
module _ {A B : Type 0} (a : Form Token A) (b : Form Token B) (ts us : List Token) (x : A) where
  pub still_stands : a.parse ts ≡ Ok (x, us) → b.parse us ≡ (a ▹ b).parse ts
  still_stands e = rw e (go (b.parse us))
    where
      go : (read : Read Token B) → read ≡ made (λ (z : A × B). z.1) (beside x read)
      go (Ok z) = refl
      go (Err d) = refl

-- a phrase between a first one and a token: where both were read, that token is still to come
module _ {A B C : Type 0} (a : Form Token A) (b : Form Token B) (k : TokenKind) (f : A × B → C) (ts us vs : List Token) (x : A) (y : B) where
  pub still_follows : a.parse ts ≡ Ok (x, us) → b.parse us ≡ Ok (y, vs) → (to (λ t. f (x, y)) (just k)).parse vs ≡ (to f (a ⨾ b ◃ just k)).parse ts
  still_follows e1 e2 = rw (e1, e2) (go ((just k).parse vs))
    where
      go : (read : Read Token Token) → made (λ t. f (x, y)) read ≡ made f (beside x (made (λ (z : B × Token). z.0) (beside y read)))
      go (Ok z) = refl
      go (Err d) = refl

-- the same where the first one opens a level, and the code has read the phrase with one level less to open
module _ {A C : Type 0} (closed : Bool) (room : ℕ) (k j : TokenKind) (inner code : Form Token A) (same : (us : List Token) → 0 < room → code.parse us ≡ inner.parse us) (f : Token × A → C)
    (ts us : List Token) (t : Token) where
  opened : closed ≡ is_zero room → (opening closed k).parse ts ≡ Ok (t, us) → (opening (is_zero room) k).parse ts ≡ Ok (t, us)
  opened is e1 = rw is at e1

  under_level : closed ≡ is_zero room → (opening closed k).parse ts ≡ Ok (t, us) → code.parse us ≡ inner.parse us
  under_level is e1 = same us (room_left closed room (is_kind k) ts (t, us) is e1)

  pub still_closes : (vs : List Token) (y : A) → closed ≡ is_zero room → (opening closed k).parse ts ≡ Ok (t, us) → code.parse us ≡ Ok (y, vs)
      → (to (λ u. f (t, y)) (just j)).parse vs ≡ (to f (opening (is_zero room) k ⨾ inner ◃ just j)).parse ts
  still_closes vs y is e1 e2 = still_follows (opening (is_zero room) k) inner j f ts us vs t y (opened is e1) (sym (under_level is e1) ∙ e2)

  pub inner_stops : (stop : Stop) → closed ≡ is_zero room → (opening closed k).parse ts ≡ Ok (t, us) → Stops stop (code.parse us) → Stops stop ((to f (opening (is_zero room) k ⨾ inner ◃ just j)).parse ts)
  inner_stops stop is e1 e2 = inside_stops (opening (is_zero room) k) inner (just j) f ts us t (opened is e1) stop (rw (under_level is e1) at e2)

-- what does not speak of the value holds where there is one
pub held : {A E P : Type 0} (read : Result A E) → P → IfOk read (λ x. P)
held (Ok x) h = h
held (Err e) h = tt
