-- A form, and then one that depends on its value.
use Rattle.std.proofs.Common.{◌≡◌, ℕ, Bool, true, false, cond, List, [], ◌∷◌, ◌++◌, Result, Ok, Err, refl, sym, ap, subst, ◌∙◌, append_assoc, inl, inr, length, ◌≤◌, ◌<◌, ◌+◌, arith}
use Rattle.std.proofs.lemmas.List.{length-append}
use Rattle.std.specs.Prelude.{◌⊎◌, ◌&&◌, ◌||◌}
use Rattle.phrase_forms.specs.declared.fault.Fault.{Fault}
use Rattle.phrase_forms.specs.Forms.{Form, Read, head, ◌>>=◌}
use Rattle.phrase_forms.specs.Depending.{after, pure}
use Rattle.phrase_forms.proofs.Lists.{bind_ok, bind_err, ok_is, SameHead, same_after, head_or, head_and, head_apart, head_left, head_right, head_never, head_within}
use Rattle.phrase_forms.proofs.Alike.{Alike}
use Rattle.phrase_forms.proofs.Lawful.{Took, Front, Failed, Reaches, Lawful}

-- the form begins with f at most, is gone on by m at most, and may be empty where n says
pub record Bounded {T A : Type 0} (f m : T → Bool) (n : Bool) (F : Form T A) : Type 0 where
  pub lawful : Lawful F
  pub first : (t : T) → F.first t ≡ true → f t ≡ true
  pub more : (t : T) → F.more t ≡ true → m t ≡ true
  pub null : F.nullable ≡ true → n ≡ true

module _ {T A B : Type 0} (a : Form T A) (f m : T → Bool) (n : Bool) (b : A → Form T B) (la : Lawful a) (wb : (x : A) → Bounded f m n (b x))
    (reach : (k : ℕ) (ts : List T) (x : A) (mid : List T) (y : B) (rest : List T) → a.yields k ts x mid → (b x).yields k mid y rest → head (after a f m n b).more rest ≡ false → Reaches k (a.parse ts) x mid) where
  lb : (x : A) → Lawful (b x)
  lb x = (wb x).lawful

  both_took : (ts : List T) (x : A) (mid : List T) (y : B) (rest : List T) → Took a ts x mid → Took (b x) mid y rest → Took (after a f m n b) ts (x, y) rest
  both_took ts x mid y rest ta tb = record {
    pre = ta.pre ++ tb.pre;
    split = ta.split ∙ ap (λ (u : List T). ta.pre ++ u) tb.split ∙ sym (append_assoc ta.pre tb.pre rest);
    spelt = λ k r. (tb.pre ++ r, rw append_assoc (ta.spelt k (tb.pre ++ r)), tb.spelt k r);
    again = λ r h. rw (append_assoc, ta.again (tb.pre ++ r) (rw tb.split (same_after tb.pre rest r h)), tb.again r h) refl;
  }

  after_took : (ts : List T) (v : A × B) (rest : List T) → (after a f m n b).parse ts ≡ Ok (v, rest) → Took (after a f m n b) ts v rest
  after_took ts v rest e =
      let p = bind_ok (a.parse ts) (λ x. (b x.0).parse x.1 >>= λ y. Ok ((x.0, y.0), y.1)) (v, rest) e in
      let q = bind_ok ((b p.0.0).parse p.0.1) (λ y. Ok ((p.0.0, y.0), y.1)) (v, rest) p.2 in
      let made = both_took ts p.0.0 p.0.1 q.0.0 q.0.1 (la.ok ts p.0.0 p.0.1 p.1) ((lb p.0.0).ok p.0.1 q.0.0 q.0.1 q.1) in
      let w : (A × B) × List T = ((p.0.0, q.0.0), q.0.1) in
      subst (λ (u : (A × B) × List T). Took (after a f m n b) ts u.0 u.1) (ok_is w (v, rest) q.2) made

  first_failed : (ts : List T) (g : Fault) (bad : List T) → Failed a ts g bad → Failed (after a f m n b) ts g bad
  first_failed ts g bad fa = record {
    pre = fa.pre;
    front = fa.front;
    split = fa.split;
    place = fa.place;
    again = λ r h. rw (fa.again r h) refl;
    grows = let w = fa.grows in let s = (lb w.1).some in (w.0 ++ s.0, (w.1, s.1), λ k r le. (s.0 ++ r, rw append_assoc (w.2 k (s.0 ++ r) (rw append_assoc at le)), s.2 k r (omega (arith, le, length-append fa.front ((w.0 ++ s.0) ++ r), length-append (w.0 ++ s.0) r, length-append w.0 s.0, length-append s.0 r))));
  }

  second_failed : (ts : List T) (x : A) (mid : List T) (g : Fault) (bad : List T) → Took a ts x mid → Failed (b x) mid g bad → Failed (after a f m n b) ts g bad
  second_failed ts x mid g bad ta fb = record {
    pre = ta.pre ++ fb.pre;
    front = fb.front;
    split = ta.split ∙ ap (λ (u : List T). ta.pre ++ u) fb.split ∙ sym (append_assoc ta.pre fb.pre bad);
    place = fb.place;
    again = λ r h. rw (append_assoc, ta.again (fb.pre ++ r) (rw fb.split (same_after fb.pre bad r h)), fb.again r h) refl;
    grows = let w = fb.grows in (w.0, (x, w.1), λ k r le. (fb.pre ++ (fb.front ++ (w.0 ++ r)), rw append_assoc (ta.spelt k (fb.pre ++ (fb.front ++ (w.0 ++ r)))), w.2 k r le));
  }

  after_failed : (ts : List T) (g : Fault) (bad : List T) → (after a f m n b).parse ts ≡ Err (g, bad) → Failed (after a f m n b) ts g bad
  after_failed ts g bad e =
      elim (bind_err (a.parse ts) (λ x. (b x.0).parse x.1 >>= λ y. Ok ((x.0, y.0), y.1)) (g, bad) e) [
        | inl ea ↦ first_failed ts g bad (la.err ts g bad ea)
        | inr p ↦ elim (bind_err ((b p.0.0).parse p.0.1) (λ y. Ok ((p.0.0, y.0), y.1)) (g, bad) p.2) [
          | inl eb ↦ second_failed ts p.0.0 p.0.1 g bad (la.ok ts p.0.0 p.0.1 p.1) ((lb p.0.0).err p.0.1 g bad eb)
          | inr q ↦ absurd (cc (q.2))
        ]
      ]

  after_complete : (k : ℕ) (ts : List T) (v : A × B) (rest : List T) → (after a f m n b).yields k ts v rest → head (after a f m n b).more rest ≡ false → Reaches k ((after a f m n b).parse ts) v rest
  after_complete k ts v rest y h =
      elim (reach k ts v.0 y.0 v.1 rest y.1 y.2 h) [
        | inr d ↦ inr (d.0, rw d.1 refl, d.2, d.3)
        | inl ea ↦ elim ((lb v.0).complete k y.0 v.1 rest y.2 (head_never (b v.0).more m rest (wb v.0).more (head_or m (λ t. n && a.more t) rest h).0)) [
          | inr d ↦ inr (d.0, rw (ea, d.1) refl, d.2, d.3)
          | inl eb ↦ inl (rw (ea, eb) refl)
        ]
      ]

  both_null : (p q : Bool) → p ≡ true → q ≡ true → (p && q) ≡ true
  both_null p q h k = rw (h, k) refl

  after_starts : (k : ℕ) (ts : List T) (v : A × B) (rest : List T) → (after a f m n b).yields k ts v rest → (head (after a f m n b).first ts ≡ true) ⊎ (((after a f m n b).nullable ≡ true) × (ts ≡ rest))
  after_starts k ts v rest y =
      elim (la.starts k ts v.0 y.0 y.1) [
        | inl s ↦ inl (head_left a.first (λ t. a.nullable && f t) ts s)
        | inr e ↦ elim ((lb v.0).starts k y.0 v.1 rest y.2) [
          | inl s ↦ inl (head_right a.first f a.nullable ts e.0 (rw e.1 (head_within (b v.0).first f y.0 (wb v.0).first s)))
          | inr d ↦ inr (both_null a.nullable n e.0 ((wb v.0).null d.0), e.1 ∙ d.1)
        ]
      ]

  pub after_lawful : Lawful (after a f m n b)
  after_lawful = record {
    ok = after_took;
    err = after_failed;
    complete = after_complete;
    some = let s = la.some in let t = (lb s.1).some in (s.0 ++ t.0, (s.1, t.1), λ k r le. (t.0 ++ r, rw append_assoc (s.2 k (t.0 ++ r) (rw append_assoc at le)), t.2 k r (omega (arith, le, length-append (s.0 ++ t.0) r, length-append s.0 t.0, length-append t.0 r))));
    starts = after_starts;
  }

-- where no token both begins b and goes on a
pub after_apart : {T A B : Type 0} (a : Form T A) (f m : T → Bool) (n : Bool) (b : A → Form T B) → Lawful a → ((x : A) → Bounded f m n (b x)) → ((t : T) → f t ≡ true → a.more t ≡ false) → Lawful (after a f m n b)
after_apart {T} {A} {B} a f m n b la wb apart = after_lawful a f m n b la wb reach
  where
    reach : (k : ℕ) (ts : List T) (x : A) (mid : List T) (y : B) (rest : List T) → a.yields k ts x mid → (b x).yields k mid y rest → head (after a f m n b).more rest ≡ false → Reaches k (a.parse ts) x mid
    reach k ts x mid y rest ya yb h =
        la.complete k ts x mid ya (elim ((wb x).lawful.starts k mid y rest yb) [
          | inl s ↦ head_apart f a.more mid apart (head_within (b x).first f mid (wb x).first s)
          | inr e ↦ rw e.1 (head_and n a.more rest ((wb x).null e.0) (head_or m (λ t. n && a.more t) rest h).1)
        ])

pub pure_lawful : {T A : Type 0} (x : A) → Lawful {T = T} (pure x)
pure_lawful {T} {A} x = record {
  ok = λ ts a rest e.
      let w : A × List T = (x, ts) in
      subst (λ (u : A × List T). Took (pure x) ts u.0 u.1) (ok_is w (a, rest) e) (record { pre = []; split = refl; spelt = λ k r. (refl, refl); again = λ r h. refl });
  err = λ ts f bad e. absurd cc;
  complete = λ k ts a rest y h. rw (y.0, y.1) (inl refl);
  some = ([], x, λ k r le. (refl, refl));
  starts = λ k ts a rest y. inr (refl, y.1);
}

-- what is read behind forms that read alike
module _ {T A B : Type 0} (a a' : Form T A) (f m : T → Bool) (n : Bool) (b b' : A → Form T B) where
  abbrev second : (A → Form T B) → A × List T → Read T (A × B)
  second c x = (c x.0).parse x.1 >>= λ y. Ok ((x.0, y.0), y.1)

  second_same : ((x : A) (ts : List T) → (b x).parse ts ≡ (b' x).parse ts) → (x : A × List T) → second b x ≡ second b' x
  second_same lb x = rw (lb x.0 x.1) refl

  pub after_reads : Alike a a' → ((x : A) (ts : List T) → (b x).parse ts ≡ (b' x).parse ts) → (ts : List T) → (after a f m n b).parse ts ≡ (after a' f m n b').parse ts
  after_reads la lb ts = rw (la.parse ts) (go (a'.parse ts))
    where
      go : (r : Read T A) → (r >>= second b) ≡ (r >>= second b')
      go (Ok x) = second_same lb x
      go (Err e) = refl
