-- One of two forms, by the first token.
use Rattle.std.proofs.Common.{◌≡◌, ℕ, Bool, true, false, cond, List, ◌++◌, Ok, Err, refl, sym, ap, ◌∙◌, inl, inr}
use Rattle.std.specs.Prelude.{◌⊎◌}
use Rattle.phrase_forms.specs.declared.fault.Fault.{Fault}
use Rattle.phrase_forms.proofs.Lists.{SameHead, same_after, same_head, head_or, head_apart, head_left, head_second}
use Rattle.phrase_forms.proofs.Lawful.{Took, Failed, Reaches, Lawful}
use Rattle.phrase_forms.specs.Forms.{Form, head, or}

module _ {T A : Type 0} (a b : Form T A) (la : Lawful a) (lb : Lawful b) (na : a.nullable ≡ false) (nb : b.nullable ≡ false) (apart : (t : T) → b.first t ≡ true → a.first t ≡ false) where
  at_same : (ts pre u r : List T) (k : Bool) → ts ≡ pre ++ u → SameHead u r → head a.first ts ≡ k → head a.first (pre ++ r) ≡ k
  at_same ts pre u r k e h hk = sym (same_head a.first (pre ++ u) (pre ++ r) (same_after pre u r h)) ∙ ap (head a.first) (sym e) ∙ hk

  or_ok : (ts : List T) (x : A) (rest : List T) → (or a b).parse ts ≡ Ok (x, rest) → Took (or a b) ts x rest
  or_ok ts x rest e = go (head a.first ts) refl e
    where
      go : (k : Bool) → head a.first ts ≡ k → cond k (a.parse ts) (b.parse ts) ≡ Ok (x, rest) → Took (or a b) ts x rest
      go true hk e' = let t = la.ok ts x rest e' in record { pre = t.pre; split = t.split; spelt = λ k r. inl (t.spelt k r); again = λ r h. rw (at_same ts t.pre rest r true t.split h hk) (t.again r h) }
      go false hk e' = let t = lb.ok ts x rest e' in record { pre = t.pre; split = t.split; spelt = λ k r. inr (t.spelt k r); again = λ r h. rw (at_same ts t.pre rest r false t.split h hk) (t.again r h) }

  or_err : (ts : List T) (f : Fault) (bad : List T) → (or a b).parse ts ≡ Err (f, bad) → Failed (or a b) ts f bad
  or_err ts f bad e = go (head a.first ts) refl e
    where
      go : (k : Bool) → head a.first ts ≡ k → cond k (a.parse ts) (b.parse ts) ≡ Err (f, bad) → Failed (or a b) ts f bad
      go true hk e' = let t = la.err ts f bad e' in record { pre = t.pre; front = t.front; split = t.split; place = t.place; again = λ r h. rw (at_same ts t.pre bad r true t.split h hk) (t.again r h); grows = let g = t.grows in (g.0, g.1, λ k r le. inl (g.2 k r le)) }
      go false hk e' = let t = lb.err ts f bad e' in record { pre = t.pre; front = t.front; split = t.split; place = t.place; again = λ r h. rw (at_same ts t.pre bad r false t.split h hk) (t.again r h); grows = let g = t.grows in (g.0, g.1, λ k r le. inr (g.2 k r le)) }

  or_complete : (k : ℕ) (ts : List T) (x : A) (rest : List T) → (or a b).yields k ts x rest → head (or a b).more rest ≡ false → Reaches k ((or a b).parse ts) x rest
  or_complete k ts x rest y h =
      elim y [
        | inl ya ↦ elim (la.starts k ts x rest ya) [
          | inl s ↦ rw s (la.complete k ts x rest ya (head_or a.more b.more rest h).0)
          | inr n ↦ absurd (cc (na, n.0))
        ]
        | inr yb ↦ elim (lb.starts k ts x rest yb) [
          | inl s ↦ rw (head_apart b.first a.first ts apart s) (lb.complete k ts x rest yb (head_or a.more b.more rest h).1)
          | inr n ↦ absurd (cc (nb, n.0))
        ]
      ]

  or_starts : (k : ℕ) (ts : List T) (x : A) (rest : List T) → (or a b).yields k ts x rest → (head (or a b).first ts ≡ true) ⊎ (((or a b).nullable ≡ true) × (ts ≡ rest))
  or_starts k ts x rest y =
      elim y [
        | inl ya ↦ elim (la.starts k ts x rest ya) [
          | inl s ↦ inl (head_left a.first b.first ts s)
          | inr n ↦ absurd (cc (na, n.0))
        ]
        | inr yb ↦ elim (lb.starts k ts x rest yb) [
          | inl s ↦ inl (head_second a.first b.first ts s)
          | inr n ↦ inr n
        ]
      ]

  pub or_lawful : Lawful (or a b)
  or_lawful = record {
    ok = or_ok;
    err = or_err;
    complete = or_complete;
    some = let s = lb.some in (s.0, s.1, λ k r le. inr (s.2 k r le));
    starts = or_starts;
  }
