-- A form whose value is another.
use Rattle.std.proofs.Common.{◌≡◌, ℕ, false, List, Ok, Err, refl, subst, inl, inr}
use Rattle.phrase_forms.specs.declared.fault.Fault.{Fault}
use Rattle.phrase_forms.proofs.Lists.{bind_ok, bind_err, ok_is}
use Rattle.phrase_forms.proofs.Lawful.{Took, Failed, Reaches, Lawful}
use Rattle.phrase_forms.specs.Forms.{Form, head, to}

module _ {T A B : Type 0} (f : A → B) (a : Form T A) (la : Lawful a) where
  to_ok : (ts : List T) (v : B) (rest : List T) → (to f a).parse ts ≡ Ok (v, rest) → Took (to f a) ts v rest
  to_ok ts v rest e =
      let p = bind_ok (a.parse ts) (λ y. Ok (f y.0, y.1)) (v, rest) e in
      let t = la.ok ts p.0.0 p.0.1 p.1 in
      let w : B × List T = (f p.0.0, p.0.1) in
      subst (λ (u : B × List T). Took (to f a) ts u.0 u.1) (ok_is w (v, rest) p.2)
      (record { pre = t.pre; split = t.split; spelt = λ k r. (p.0.0, refl, t.spelt k r); again = λ r h. rw (t.again r h) refl })

  to_err : (ts : List T) (g : Fault) (bad : List T) → (to f a).parse ts ≡ Err (g, bad) → Failed (to f a) ts g bad
  to_err ts g bad e =
      elim (bind_err (a.parse ts) (λ y. Ok (f y.0, y.1)) (g, bad) e) [
        | inl ea ↦ let t = la.err ts g bad ea in record { pre = t.pre; front = t.front; split = t.split; place = t.place; again = λ r h. rw (t.again r h) refl; grows = let g = t.grows in (g.0, f g.1, λ k r le. (g.1, refl, g.2 k r le)) }
        | inr p ↦ absurd (cc (p.2))
      ]

  to_complete : (k : ℕ) (ts : List T) (v : B) (rest : List T) → (to f a).yields k ts v rest → head a.more rest ≡ false → Reaches k ((to f a).parse ts) v rest
  to_complete k ts v rest y h =
      elim (la.complete k ts y.0 rest y.2 h) [
        | inl e ↦ inl (rw (e, y.1) refl)
        | inr d ↦ inr (d.0, rw d.1 refl, d.2, d.3)
      ]

  pub to_lawful : Lawful (to f a)
  to_lawful = record {
    ok = to_ok;
    err = to_err;
    complete = to_complete;
    some = let s = la.some in (s.0, f s.1, λ k r le. (s.1, refl, s.2 k r le));
    starts = λ k ts v rest y. la.starts k ts y.0 rest y.2;
  }
