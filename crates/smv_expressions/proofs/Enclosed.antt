-- How phrases between two tokens are read, of which the first opens a level.
use Rattle.std.proofs.Common.{◌≡◌, ℕ, ◌<◌, Bool, List, Ok, Err, refl, sym, ◌∙◌}
use Rattle.phrase_forms.specs.declared.fault.Fault.{Fault}
use Rattle.phrase_forms.specs.Forms.{Form, to, ◌⨾◌, ◌◃◌}
use Rattle.smv_tree.specs.declared.token.Token.{Token}
use Rattle.smv_tree.specs.declared.token.TokenKind.{TokenKind}
use Rattle.smv_tree.specs.Kinds.{is_kind}
use Rattle.smv_phrases.specs.declared.reading.Stop.{Stop}
use Rattle.smv_phrases.specs.declared.reading.Stop.TheVariants.{Refused, NoMemory}
use Rattle.smv_phrases.specs.Reading.{Stops}
use Rattle.smv_phrases.specs.Names.{just, opening}
use Rattle.smv_expressions.specs.Expressions.{is_zero}
use Rattle.smv_expressions.proofs.Levels.{room_left}

-- where a level was opened by the code, it is opened by the form, and one was left
opened : (closed : Bool) (room : ℕ) (k : TokenKind) (ts : List Token) (t : Token) (us : List Token) → closed ≡ is_zero room → (opening closed k).parse ts ≡ Ok (t, us) → (opening (is_zero room) k).parse ts ≡ Ok (t, us)
opened closed room k ts t us is e = rw is at e

left : (closed : Bool) (room : ℕ) (k : TokenKind) (ts : List Token) (t : Token) (us : List Token) → closed ≡ is_zero room → (opening closed k).parse ts ≡ Ok (t, us) → 0 < room
left closed room k ts t us is e = room_left closed room (is_kind k) ts (t, us) is e

module _ {A : Type 0} (closed : Bool) (room : ℕ) (k j : TokenKind) (inner code : Form Token A) (same : (us : List Token) → 0 < room → code.parse us ≡ inner.parse us) where
  pub pair_reads : (ts : List Token) (t : Token) (us : List Token) (a : A) (vs : List Token) (u : Token) (rest : List Token) → closed ≡ is_zero room → (opening closed k).parse ts ≡ Ok (t, us)
      → code.parse us ≡ Ok (a, vs) → (just j).parse vs ≡ Ok (u, rest) → (opening (is_zero room) k ⨾ inner ◃ just j).parse ts ≡ Ok ((t, a), rest)
  pair_reads ts t us a vs u rest is e1 e2 e3 =
      let f1 : (opening (is_zero room) k).parse ts ≡ Ok (t, us) = opened closed room k ts t us is e1 in
      let f2 : inner.parse us ≡ Ok (a, vs) = sym (same us (left closed room k ts t us is e1)) ∙ e2 in
      rw (f1, f2, e3) refl

  module _ {C : Type 0} (f : Token × A → C) where
    pub reads : (ts : List Token) (t : Token) (us : List Token) (a : A) (vs : List Token) (u : Token) (rest : List Token) → closed ≡ is_zero room → (opening closed k).parse ts ≡ Ok (t, us)
        → code.parse us ≡ Ok (a, vs) → (just j).parse vs ≡ Ok (u, rest) → (to f (opening (is_zero room) k ⨾ inner ◃ just j)).parse ts ≡ Ok (f (t, a), rest)
    reads ts t us a vs u rest is e1 e2 e3 = rw (pair_reads ts t us a vs u rest is e1 e2 e3) refl

    refused : (ts : List Token) (t : Token) (us : List Token) (a : A) (vs : List Token) (d : Fault × List Token) → closed ≡ is_zero room → (opening closed k).parse ts ≡ Ok (t, us)
        → code.parse us ≡ Ok (a, vs) → (just j).parse vs ≡ Err d → (to f (opening (is_zero room) k ⨾ inner ◃ just j)).parse ts ≡ Err d
    refused ts t us a vs d is e1 e2 e3 =
        let f1 : (opening (is_zero room) k).parse ts ≡ Ok (t, us) = opened closed room k ts t us is e1 in
        let f2 : inner.parse us ≡ Ok (a, vs) = sym (same us (left closed room k ts t us is e1)) ∙ e2 in
        rw (f1, f2, e3) refl

    pub stops : (stop : Stop) (ts : List Token) (t : Token) (us : List Token) (a : A) (vs : List Token) → closed ≡ is_zero room → (opening closed k).parse ts ≡ Ok (t, us)
        → code.parse us ≡ Ok (a, vs) → Stops stop ((just j).parse vs) → Stops stop ((to f (opening (is_zero room) k ⨾ inner ◃ just j)).parse ts)
    stops (Refused fault rest) ts t us a vs is e1 e2 e3 = refused ts t us a vs (fault, rest.now) is e1 e2 e3
    stops NoMemory ts t us a vs is e1 e2 e3 = tt

-- what stands behind a token that opens a level
module _ {A : Type 0} (closed : Bool) (room : ℕ) (k : TokenKind) (inner code : Form Token A) (same : (us : List Token) → 0 < room → code.parse us ≡ inner.parse us)
    (ts : List Token) (t : Token) (us : List Token) (is : closed ≡ is_zero room) (e1 : (opening closed k).parse ts ≡ Ok (t, us)) where
  pub behind_reads : (a : A) (rest : List Token) → code.parse us ≡ Ok (a, rest) → (opening (is_zero room) k ⨾ inner).parse ts ≡ Ok ((t, a), rest)
  behind_reads a rest e2 =
      let f1 : (opening (is_zero room) k).parse ts ≡ Ok (t, us) = opened closed room k ts t us is e1 in
      let f2 : inner.parse us ≡ Ok (a, rest) = sym (same us (left closed room k ts t us is e1)) ∙ e2 in
      rw (f1, f2) refl

  refused_behind : (d : Fault × List Token) → code.parse us ≡ Err d → (opening (is_zero room) k ⨾ inner).parse ts ≡ Err d
  refused_behind d e2 =
      let f1 : (opening (is_zero room) k).parse ts ≡ Ok (t, us) = opened closed room k ts t us is e1 in
      let f2 : inner.parse us ≡ Err d = sym (same us (left closed room k ts t us is e1)) ∙ e2 in
      rw (f1, f2) refl

  pub behind_stops : (stop : Stop) → Stops stop (code.parse us) → Stops stop ((opening (is_zero room) k ⨾ inner).parse ts)
  behind_stops (Refused fault rest) e2 = refused_behind (fault, rest.now) e2
  behind_stops NoMemory e2 = tt
