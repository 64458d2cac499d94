-- Phrases with commas between them keep the laws of forms.
use Rattle.std.proofs.Common.{◌≡◌, Bool, false, true, List, [], ◌∷◌, Ok, Err, refl}
use Rattle.phrase_forms.specs.Forms.{Form, Read, token, then, maybe, many, to, ◌▹◌, ◌◃◌, ◌>>=◌}
use Rattle.phrase_forms.proofs.Alike.{Alike, same_form, then_reads, maybe_alike, many_alike, to_alike}
use Rattle.phrase_forms.proofs.Lawful.{Lawful}
use Rattle.phrase_forms.proofs.Loops.{with_front}
use Rattle.phrase_forms.proofs.OfThen.{then_lawful}
use Rattle.phrase_forms.proofs.OfTo.{to_lawful}
use Rattle.phrase_forms.proofs.OfMaybe.{maybe_lawful}
use Rattle.phrase_forms.proofs.OfMany.{many_lawful}
use Rattle.smv_tree.specs.declared.token.Token.{Token}
use Rattle.smv_tree.specs.declared.token.TokenKind.TheVariants as kind
use Rattle.smv_tree.specs.Kinds.{is_kind}
use Rattle.smv_phrases.specs.Names.{just}
use Rattle.smv_phrases.specs.Lists.{further, listed, or_none, maybe_listed, bracketed}
use Rattle.smv_phrases.proofs.OfNames.{just_lawful}
use Rattle.smv_phrases.proofs.Repeats.{Totals}

-- a and then b, for the value of one
pub second_lawful : {A B : Type 0} (a : Form Token A) (b : Form Token B) → Lawful a → Lawful b → ((t : Token) → b.first t ≡ true → a.more t ≡ false) → Lawful (a ▹ b)
second_lawful a b la lb h = to_lawful _ _ (then_lawful a b la lb h)

pub first_lawful : {A B : Type 0} (a : Form Token A) (b : Form Token B) → Lawful a → Lawful b → ((t : Token) → b.first t ≡ true → a.more t ≡ false) → Lawful (a ◃ b)
first_lawful a b la lb h = to_lawful _ _ (then_lawful a b la lb h)

-- a phrase that may not be empty, and that neither "," nor ")" goes on
module _ {A : Type 0} (phrase : Form Token A) (law : Lawful phrase) (full : phrase.nullable ≡ false)
    (commas : (t : Token) → (further phrase).first t ≡ true → phrase.more t ≡ false) (goes_on : (t : Token) → (further phrase).first t ≡ true → (further phrase).more t ≡ false) where
  pub further_lawful : Lawful (further phrase)
  further_lawful = second_lawful _ _ (just_lawful kind.Comma refl) law (λ t e. refl)

  pub listed_lawful : Lawful (listed phrase)
  listed_lawful = to_lawful _ _ (then_lawful _ _ law (many_lawful (further phrase) further_lawful refl goes_on) commas)

  listed_full : (listed phrase).nullable ≡ false
  listed_full = rw full refl

  pub bracketed_lawful : ((t : Token) → is_kind kind.RightParen t ≡ true → (maybe_listed phrase).more t ≡ false) → Lawful (bracketed phrase)
  bracketed_lawful ends =
      let inside = to_lawful or_none _ (maybe_lawful _ listed_lawful listed_full) in
      to_lawful _ _ (maybe_lawful _ (second_lawful _ _ (just_lawful kind.LeftParen refl) (first_lawful _ _ inside (just_lawful kind.RightParen refl) ends) (λ t e. refl)) refl)

-- a and then b read alike, where each does
module _ {A B : Type 0} (a a' : Form Token A) (b b' : Form Token B) (la : Alike a a') (lb : Alike b b') (same : (t : Token) → (then a b).first t ≡ (then a' b').first t) where
  pub then_alike : Alike (then a b) (then a' b')
  then_alike = record { parse = then_reads a a' b b' la lb; first = same }

  pub second_alike : Alike (a ▹ b) (a' ▹ b')
  second_alike = to_alike _ then_alike

  pub first_alike : Alike (a ◃ b) (a' ◃ b')
  first_alike = to_alike _ then_alike

-- a phrase behind one token
pub behind_alike : {A : Type 0} (p : Token → Bool) (b b' : Form Token A) → Alike b b' → Alike (then (token false p) b) (then (token false p) b')
behind_alike p b b' lb = then_alike (token false p) (token false p) b b' (same_form (token false p)) lb (λ t. refl)

pub behind_only_alike : {A : Type 0} (p : Token → Bool) (b b' : Form Token A) → Alike b b' → Alike (token false p ▹ b) (token false p ▹ b')
behind_only_alike p b b' lb = to_alike _ (behind_alike p b b' lb)

-- phrases with commas between them read alike, where one does that is not empty
pub listed_alike : {A : Type 0} (a a' : Form Token A) → Alike a a' → ((t : Token) → (listed a).first t ≡ (listed a').first t) → Alike (listed a) (listed a')
listed_alike a a' given same = to_alike _ (then_alike a a' _ _ given (many_alike _ _ (behind_only_alike (is_kind kind.Comma) a a' given)) same)

pub bracketed_alike : {A : Type 0} (a a' : Form Token A) → Alike a a' → ((t : Token) → (listed a).first t ≡ (listed a').first t)
    → ((t : Token) → (maybe_listed a ◃ just kind.RightParen).first t ≡ (maybe_listed a' ◃ just kind.RightParen).first t) → Alike (bracketed a) (bracketed a')
bracketed_alike a a' given same inner =
    let inside = first_alike _ _ _ _ (to_alike or_none (maybe_alike _ _ (listed_alike a a' given same))) (same_form (just kind.RightParen)) inner in
    to_alike or_none (maybe_alike _ _ (behind_only_alike (is_kind kind.LeftParen) _ _ inside))

-- a first phrase is read, and those behind commas are still to come
module _ {A : Type 0} (a : Form Token A) where
  abbrev beside : A → Read Token (List A) → Read Token (A × List A)
  beside x read = read >>= λ y. Ok ((x, y.0), y.1)

  abbrev joined : Read Token (A × List A) → Read Token (List A)
  joined read = read >>= λ z. Ok (z.0.0 ∷ z.0.1, z.1)

  join : (x : A) (read : Read Token (List A)) → with_front (x ∷ []) read ≡ joined (beside x read)
  join x (Ok y) = refl
  join x (Err e) = refl

  pub listed_begins : (tokens : List Token) (x : A) (rest : List Token) → a.parse tokens ≡ Ok (x, rest) → Totals (further a) (x ∷ []) rest ((listed a).parse tokens)
  listed_begins tokens x rest e = rw e (join x ((many (further a)).parse rest))
