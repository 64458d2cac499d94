-- A form that depends on the value of the form before it, as what may follow an operand depends on what the operand is.
use Rattle.phrase_forms.specs.Forms.{Form, ◌>>=◌}
use Rattle.std.specs.Prelude.{◌≡◌, Bool, true, false, ◌&&◌, ◌||◌, List, Ok}

-- no token, for this value
abbrev pub pure : {T A : Type 0} → A → Form T A
pure x = record { yields = λ k ts a rest. (a ≡ x) × (ts ≡ rest); parse = λ ts. Ok (x, ts); first = λ t. false; more = λ t. false; nullable = true }

-- a, and then the form that its value asks for: each of these begins with f at most, is gone on by m at most, and may
-- be empty where n says
abbrev pub after : {T A B : Type 0} → Form T A → (T → Bool) → (T → Bool) → Bool → (A → Form T B) → Form T (A × B)
after {T} {A} {B} a f m n b = record {
  yields = λ k ts x rest. (mid : List T) × a.yields k ts x.0 mid × (b x.0).yields k mid x.1 rest;
  parse = λ ts. a.parse ts >>= λ x. (b x.0).parse x.1 >>= λ y. Ok ((x.0, y.0), y.1);
  first = λ t. a.first t || (a.nullable && f t);
  more = λ t. m t || (n && a.more t);
  nullable = a.nullable && n;
}
