-- What is read does not depend on what stands under a level that may not be opened.
use Rattle.std.proofs.Common.{◌≡◌, ℕ, zero, suc, Bool, true, false, cond, List, [], ◌∷◌, length, Ok, Err, refl, ap}
use Rattle.phrase_forms.specs.declared.fault.Fault.TheVariants.{Unexpected, TooDeep}
use Rattle.phrase_forms.specs.Forms.{Form, Read, head, token, then, or, maybe, many, many_at, to, named, ◌>>=◌}

pub record Alike {T A : Type 0} (F G : Form T A) : Type 0 where
  pub parse : (ts : List T) → F.parse ts ≡ G.parse ts
  pub first : (t : T) → F.first t ≡ G.first t

pub same_form : {T A : Type 0} (F : Form T A) → Alike F F
same_form F = record { parse = λ ts. refl; first = λ t. refl }

bind_same : {T A B : Type 0} (r : Read T A) (f g : A × List T → Read T B) → ((x : A × List T) → f x ≡ g x) → (r >>= f) ≡ (r >>= g)
bind_same (Ok x) f g h = h x
bind_same (Err e) f g h = refl

head_same : {T : Type 0} → (p q : T → Bool) (ts : List T) → ((t : T) → p t ≡ q t) → head p ts ≡ head q ts
head_same p q [] h = refl
head_same p q (t ∷ ts) h = h t

module _ {T A B : Type 0} (a a' : Form T A) (b b' : Form T B) where
  abbrev second : Form T B → A × List T → Read T (A × B)
  second c x = c.parse x.1 >>= λ y. Ok ((x.0, y.0), y.1)

  second_same : Alike b b' → (x : A × List T) → second b x ≡ second b' x
  second_same lb x = rw (lb.parse x.1) refl

  pub then_reads : Alike a a' → Alike b b' → (ts : List T) → (then a b).parse ts ≡ (then a' b').parse ts
  then_reads la lb ts = rw (la.parse ts) (bind_same (a'.parse ts) (second b) (second b') (second_same lb))

-- behind an opening token
module _ {T B : Type 0} (c : Bool) (p : T → Bool) (b b' : Form T B) (h : c ≡ false → (ts : List T) → b.parse ts ≡ b'.parse ts) where
  abbrev behind : Form T B → T × List T → Read T (T × B)
  behind d x = d.parse x.1 >>= λ y. Ok ((x.0, y.0), y.1)

  abbrev at_token : Bool → Bool → T → List T → Read T T
  at_token k o t ts = cond k (cond o (Err (TooDeep, t ∷ ts)) (Ok (t, ts))) (Err (Unexpected, t ∷ ts))

  go : (k o : Bool) → c ≡ o → (t : T) (ts : List T) → (at_token k o t ts >>= behind b) ≡ (at_token k o t ts >>= behind b')
  go true true e t ts = refl
  go true false e t ts = rw (h e ts) refl
  go false o e t ts = refl

  pub opened : Alike (then (token c p) b) (then (token c p) b')
  opened = record { parse = reads; first = λ t. refl }
    where
      reads : (ts : List T) → (then (token c p) b).parse ts ≡ (then (token c p) b').parse ts
      reads [] = refl
      reads (t ∷ ts) = go (p t) c refl t ts

pub to_alike : {T A B : Type 0} (f : A → B) {a a' : Form T A} → Alike a a' → Alike (to f a) (to f a')
to_alike f la = record { parse = λ ts. rw (la.parse ts) refl; first = la.first }

pub or_alike : {T A : Type 0} (a a' b b' : Form T A) → Alike a a' → Alike b b' → ((t : T) → (or a b).first t ≡ (or a' b').first t) → Alike (or a b) (or a' b')
or_alike a a' b b' la lb s = record { parse = λ ts. rw (la.parse ts, lb.parse ts, head_same a.first a'.first ts la.first) refl; first = s }

pub maybe_alike : {T A : Type 0} (a a' : Form T A) → Alike a a' → Alike (maybe a) (maybe a')
maybe_alike a a' la = record { parse = λ ts. rw (la.parse ts, head_same a.first a'.first ts la.first) refl; first = la.first }

module _ {T A : Type 0} (a a' : Form T A) (la : Alike a a') where
  abbrev rest : ℕ → Form T A → A × List T → Read T (List A)
  rest n c x = many_at n c x.1 >>= λ y. Ok (x.0 ∷ y.0, y.1)

  many_same : (n : ℕ) (ts : List T) → many_at n a ts ≡ many_at n a' ts
  unfolding many_at
  many_same zero ts = refl
  many_same (suc n) ts =
      let ih : (x : A × List T) → rest n a x ≡ rest n a' x = λ x. rw (many_same n x.1) refl in
      rw (la.parse ts, head_same a.first a'.first ts la.first) (ap (λ (r : Read T (List A)). cond (head a'.first ts) r (Ok ([], ts))) (bind_same (a'.parse ts) (rest n a) (rest n a') ih))

  pub many_alike : Alike (many a) (many a')
  many_alike = record { parse = λ ts. many_same (length ts) ts; first = la.first }

pub named_alike : {T A : Type 0} (f m : T → Bool) {a a' : Form T A} → Alike a a' → Alike (named f m a) (named f m a')
named_alike f m la = record { parse = la.parse; first = λ t. refl }
