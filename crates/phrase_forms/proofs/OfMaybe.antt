-- A form, or nothing.
use Rattle.std.proofs.Common.{◌≡◌, ℕ, Bool, true, false, cond, List, [], ◌++◌, Option, Some, None, Ok, Err, refl, sym, ap, subst, ◌∙◌, inl, inr}
use Rattle.std.specs.Prelude.{◌⊎◌}
use Rattle.phrase_forms.specs.declared.fault.Fault.{Fault}
use Rattle.phrase_forms.proofs.Lists.{bind_ok, bind_err, ok_is, SameHead, same_after, same_head, head_or}
use Rattle.phrase_forms.proofs.Lawful.{Took, Failed, Reaches, Lawful}
use Rattle.phrase_forms.specs.Forms.{Form, Read, head, maybe, maybe_yields, ◌>>=◌}

module _ {T A : Type 0} (a : Form T A) (la : Lawful a) (na : a.nullable ≡ false) where
  at_same : (ts pre u r : List T) (k : Bool) → ts ≡ pre ++ u → SameHead u r → head a.first ts ≡ k → head a.first (pre ++ r) ≡ k
  at_same ts pre u r k e h hk = sym (same_head a.first (pre ++ u) (pre ++ r) (same_after pre u r h)) ∙ ap (head a.first) (sym e) ∙ hk

  abbrev found : List T → Read T (Option A)
  found ts = a.parse ts >>= λ x. Ok (Some x.0, x.1)

  abbrev nothing : List T → Read T (Option A)
  nothing ts = Ok (None, ts)

  maybe_ok : (ts : List T) (x : Option A) (rest : List T) → (maybe a).parse ts ≡ Ok (x, rest) → Took (maybe a) ts x rest
  maybe_ok ts x rest e = go (head a.first ts) refl e
    where
      go : (k : Bool) → head a.first ts ≡ k → cond k (found ts) (nothing ts) ≡ Ok (x, rest) → Took (maybe a) ts x rest
      go true hk e' =
          let p = bind_ok (a.parse ts) (λ y. Ok (Some y.0, y.1)) (x, rest) e' in
          let t = la.ok ts p.0.0 p.0.1 p.1 in
          let w : Option A × List T = (Some p.0.0, p.0.1) in
          subst (λ (u : Option A × List T). Took (maybe a) ts u.0 u.1) (ok_is w (x, rest) p.2)
          (record { pre = t.pre; split = t.split; spelt = t.spelt; again = λ r h. rw (at_same ts t.pre p.0.1 r true t.split h hk, t.again r h) refl })
      go false hk e' =
          let w : Option A × List T = (None, ts) in
          subst (λ (u : Option A × List T). Took (maybe a) ts u.0 u.1) (ok_is w (x, rest) e')
          (record { pre = []; split = refl; spelt = λ k r. refl; again = λ r h. rw (at_same ts [] ts r false refl h hk) refl })

  maybe_err : (ts : List T) (f : Fault) (bad : List T) → (maybe a).parse ts ≡ Err (f, bad) → Failed (maybe a) ts f bad
  maybe_err ts f bad e = go (head a.first ts) refl e
    where
      go : (k : Bool) → head a.first ts ≡ k → cond k (found ts) (nothing ts) ≡ Err (f, bad) → Failed (maybe a) ts f bad
      go true hk e' =
          elim (bind_err (a.parse ts) (λ y. Ok (Some y.0, y.1)) (f, bad) e') [
            | inl ea ↦ let t = la.err ts f bad ea in record { pre = t.pre; front = t.front; split = t.split; place = t.place; again = λ r h. rw (at_same ts t.pre bad r true t.split h hk, t.again r h) refl; grows = let g = t.grows in (g.0, Some g.1, g.2) }
            | inr p ↦ absurd (cc (p.2))
          ]
      go false hk e' = absurd cc

  maybe_complete : (k : ℕ) (ts : List T) (x : Option A) (rest : List T) → maybe_yields a k ts x rest → head (maybe a).more rest ≡ false → Reaches k ((maybe a).parse ts) x rest
  maybe_complete k ts None rest y h = rw (y, (head_or a.more a.first rest h).1) (inl refl)
  maybe_complete k ts (Some x) rest y h =
      elim (la.starts k ts x rest y) [
        | inl s ↦ elim (la.complete k ts x rest y (head_or a.more a.first rest h).0) [
          | inl e ↦ inl (rw (s, e) refl)
          | inr d ↦ inr (d.0, rw (s, d.1) refl, d.2, d.3)
        ]
        | inr n ↦ absurd (cc (na, n.0))
      ]

  maybe_starts : (k : ℕ) (ts : List T) (x : Option A) (rest : List T) → maybe_yields a k ts x rest → (head a.first ts ≡ true) ⊎ ((true ≡ true) × (ts ≡ rest))
  maybe_starts k ts None rest y = inr (refl, y)
  maybe_starts k ts (Some x) rest y =
      elim (la.starts k ts x rest y) [
        | inl s ↦ inl s
        | inr n ↦ inr (refl, n.1)
      ]

  pub maybe_lawful : Lawful (maybe a)
  maybe_lawful = record {
    ok = maybe_ok;
    err = maybe_err;
    complete = maybe_complete;
    some = ([], None, λ k r le. refl);
    starts = maybe_starts;
  }
