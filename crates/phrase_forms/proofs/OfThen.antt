-- A form and then a form.
use Rattle.std.proofs.Common.{◌≡◌, ℕ, Bool, true, false, List, ◌++◌, Ok, Err, refl, sym, ap, subst, ◌∙◌, append_assoc, inl, inr, arith}
use Rattle.std.proofs.lemmas.List.{length-append}
use Rattle.std.specs.Prelude.{◌⊎◌, ◌&&◌}
use Rattle.phrase_forms.specs.declared.fault.Fault.{Fault}
use Rattle.phrase_forms.specs.Forms.{Form, head, then, ◌>>=◌}
use Rattle.phrase_forms.proofs.Lists.{bind_ok, bind_err, ok_is, same_after, head_or, head_and, head_apart, head_left, head_right}
use Rattle.phrase_forms.proofs.Lawful.{Took, Failed, Reaches, Lawful}

module _ {T A B : Type 0} (a : Form T A) (b : Form T B) (la : Lawful a) (lb : Lawful b) (apart : (t : T) → b.first t ≡ true → a.more t ≡ false) where
  both_took : (ts : List T) (x : A) (mid : List T) (y : B) (rest : List T) → Took a ts x mid → Took b mid y rest → Took (then a b) ts (x, y) rest
  both_took ts x mid y rest ta tb = record {
    pre = ta.pre ++ tb.pre;
    split = ta.split ∙ ap (λ (u : List T). ta.pre ++ u) tb.split ∙ sym (append_assoc ta.pre tb.pre rest);
    spelt = λ k r. (tb.pre ++ r, rw append_assoc (ta.spelt k (tb.pre ++ r)), tb.spelt k r);
    again = λ r h. rw (append_assoc, ta.again (tb.pre ++ r) (rw tb.split (same_after tb.pre rest r h)), tb.again r h) refl;
  }

  then_ok : (ts : List T) (v : A × B) (rest : List T) → (then a b).parse ts ≡ Ok (v, rest) → Took (then a b) ts v rest
  then_ok ts v rest e =
      let p = bind_ok (a.parse ts) (λ x. b.parse x.1 >>= λ y. Ok ((x.0, y.0), y.1)) (v, rest) e in
      let q = bind_ok (b.parse p.0.1) (λ y. Ok ((p.0.0, y.0), y.1)) (v, rest) p.2 in
      let made = both_took ts p.0.0 p.0.1 q.0.0 q.0.1 (la.ok ts p.0.0 p.0.1 p.1) (lb.ok p.0.1 q.0.0 q.0.1 q.1) in
      let w : (A × B) × List T = ((p.0.0, q.0.0), q.0.1) in
      subst (λ (u : (A × B) × List T). Took (then a b) ts u.0 u.1) (ok_is w (v, rest) q.2) made

  first_failed : (ts : List T) (f : Fault) (bad : List T) → Failed a ts f bad → Failed (then a b) ts f bad
  first_failed ts f bad fa = record {
    pre = fa.pre;
    front = fa.front;
    split = fa.split;
    place = fa.place;
    again = λ r h. rw (fa.again r h) refl;
    grows = let s = lb.some in let g = fa.grows in (g.0 ++ s.0, (g.1, s.1), λ k r le. (s.0 ++ r, rw append_assoc (g.2 k (s.0 ++ r) (rw append_assoc at le)), s.2 k r (omega (arith, le, length-append fa.front ((g.0 ++ s.0) ++ r), length-append (g.0 ++ s.0) r, length-append g.0 s.0, length-append s.0 r))));
  }

  second_failed : (ts : List T) (x : A) (mid : List T) (f : Fault) (bad : List T) → Took a ts x mid → Failed b mid f bad → Failed (then a b) ts f bad
  second_failed ts x mid f bad ta fb = record {
    pre = ta.pre ++ fb.pre;
    front = fb.front;
    split = ta.split ∙ ap (λ (u : List T). ta.pre ++ u) fb.split ∙ sym (append_assoc ta.pre fb.pre bad);
    place = fb.place;
    again = λ r h. rw (append_assoc, ta.again (fb.pre ++ r) (rw fb.split (same_after fb.pre bad r h)), fb.again r h) refl;
    grows = let g = fb.grows in (g.0, (x, g.1), λ k r le. (fb.pre ++ (fb.front ++ (g.0 ++ r)), rw append_assoc (ta.spelt k (fb.pre ++ (fb.front ++ (g.0 ++ r)))), g.2 k r le));
  }

  then_err : (ts : List T) (f : Fault) (bad : List T) → (then a b).parse ts ≡ Err (f, bad) → Failed (then a b) ts f bad
  then_err ts f bad e =
      elim (bind_err (a.parse ts) (λ x. b.parse x.1 >>= λ y. Ok ((x.0, y.0), y.1)) (f, bad) e) [
        | inl ea ↦ first_failed ts f bad (la.err ts f bad ea)
        | inr p ↦ elim (bind_err (b.parse p.0.1) (λ y. Ok ((p.0.0, y.0), y.1)) (f, bad) p.2) [
          | inl eb ↦ second_failed ts p.0.0 p.0.1 f bad (la.ok ts p.0.0 p.0.1 p.1) (lb.err p.0.1 f bad eb)
          | inr q ↦ absurd (cc (q.2))
        ]
      ]

  stops : (k : ℕ) (mid : List T) (y : B) (rest : List T) → b.yields k mid y rest → head (then a b).more rest ≡ false → head a.more mid ≡ false
  stops k mid y rest yb h =
      elim (lb.starts k mid y rest yb) [
        | inl s ↦ head_apart b.first a.more mid apart s
        | inr n ↦ rw n.1 (head_and b.nullable a.more rest n.0 (head_or b.more (λ t. b.nullable && a.more t) rest h).1)
      ]

  then_complete : (k : ℕ) (ts : List T) (v : A × B) (rest : List T) → (then a b).yields k ts v rest → head (then a b).more rest ≡ false → Reaches k ((then a b).parse ts) v rest
  then_complete k ts v rest y h =
      elim (la.complete k ts v.0 y.0 y.1 (stops k y.0 v.1 rest y.2 h)) [
        | inr d ↦ inr (d.0, rw d.1 refl, d.2, d.3)
        | inl ea ↦ elim (lb.complete k y.0 v.1 rest y.2 (head_or b.more (λ t. b.nullable && a.more t) rest h).0) [
          | inr d ↦ inr (d.0, rw (ea, d.1) refl, d.2, d.3)
          | inl eb ↦ inl (rw (ea, eb) refl)
        ]
      ]

  both_null : (p q : Bool) → p ≡ true → q ≡ true → (p && q) ≡ true
  both_null p q h k = rw (h, k) refl

  then_starts : (k : ℕ) (ts : List T) (v : A × B) (rest : List T) → (then a b).yields k ts v rest → (head (then a b).first ts ≡ true) ⊎ (((then a b).nullable ≡ true) × (ts ≡ rest))
  then_starts k ts v rest y =
      elim (la.starts k ts v.0 y.0 y.1) [
        | inl s ↦ inl (head_left a.first (λ t. a.nullable && b.first t) ts s)
        | inr n ↦ elim (lb.starts k y.0 v.1 rest y.2) [
          | inl s ↦ inl (head_right a.first b.first a.nullable ts n.0 (rw n.1 s))
          | inr m ↦ inr (both_null a.nullable b.nullable n.0 m.0, n.1 ∙ m.1)
        ]
      ]

  pub then_lawful : Lawful (then a b)
  then_lawful = record {
    ok = then_ok;
    err = then_err;
    complete = then_complete;
    some = let t = lb.some in let s = la.some in (s.0 ++ t.0, (s.1, t.1), λ k r le. (t.0 ++ r, rw append_assoc (s.2 k (t.0 ++ r) (rw append_assoc at le)), t.2 k r (omega (arith, le, length-append (s.0 ++ t.0) r, length-append s.0 t.0, length-append t.0 r))));
    starts = then_starts;
  }
