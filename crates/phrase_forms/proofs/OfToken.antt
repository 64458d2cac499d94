-- One token is a form.
use Rattle.std.proofs.Common.{◌≡◌, ℕ, Bool, true, false, cond, List, [], ◌∷◌, Ok, Err, refl, subst, inl, inr, length, ◌≤◌, arith}
use Rattle.phrase_forms.specs.declared.fault.Fault.{Fault}
use Rattle.phrase_forms.specs.declared.fault.Fault.TheVariants.{Unexpected, TooDeep}
use Rattle.phrase_forms.specs.Forms.{Read, token, one}
use Rattle.phrase_forms.proofs.Lists.{SameHead, ok_is, err_is}
use Rattle.phrase_forms.proofs.Lawful.{Took, Failed, Reaches, Lawful}

abbrev step : {T : Type 0} → Bool → Bool → T → List T → Read T T
step b k t ts = cond b (cond k (Err (TooDeep, t ∷ ts)) (Ok (t, ts))) (Err (Unexpected, t ∷ ts))

module _ {T : Type 0} (closed : Bool) (p : T → Bool) where
  token_ok : (ts : List T) (a : T) (rest : List T) → one closed p ts ≡ Ok (a, rest) → Took (token closed p) ts a rest
  token_ok [] a rest e = absurd cc
  token_ok (t ∷ ts) a rest e = go (p t) refl closed refl e
    where
      go : (b : Bool) → p t ≡ b → (k : Bool) → closed ≡ k → step b k t ts ≡ Ok (a, rest) → Took (token closed p) (t ∷ ts) a rest
      go false pb k ck e = absurd cc
      go true pb true ck e = absurd cc
      go true pb false ck e =
          let w : T × List T = (t, ts) in
          subst (λ (u : T × List T). Took (token closed p) (t ∷ ts) u.0 u.1) (ok_is w (a, rest) e) (record { pre = t ∷ []; split = refl; spelt = λ k r. (refl, pb, λ h. absurd (cc (ck, h))); again = λ r h. rw (pb, ck) refl })

  token_err : (ts : List T) (f : Fault) (bad : List T) → one closed p ts ≡ Err (f, bad) → (w : T) → p w ≡ true → Failed (token closed p) ts f bad
  token_err [] f bad e w pw =
      let d : Fault × List T = (Unexpected, []) in
      subst (λ (u : Fault × List T). Failed (token closed p) [] u.0 u.1) (err_is d (f, bad) e) (record { pre = []; front = []; split = refl; place = refl; again = λ r h. nothing r h; grows = (w ∷ [], w, λ k r le. (refl, pw, λ h. le)) })
    where
      nothing : (r : List T) → SameHead [] r → one closed p r ≡ Err (Unexpected, r)
      nothing [] h = refl
      nothing (u ∷ us) h = absurd h
  token_err (t ∷ ts) f bad e w pw = go (p t) refl closed refl e
    where
      go : (b : Bool) → p t ≡ b → (k : Bool) → closed ≡ k → step b k t ts ≡ Err (f, bad) → Failed (token closed p) (t ∷ ts) f bad
      go true pb false ck e = absurd cc
      go true pb true ck e =
          let d : Fault × List T = (TooDeep, t ∷ ts) in
          subst (λ (u : Fault × List T). Failed (token closed p) (t ∷ ts) u.0 u.1) (err_is d (f, bad) e) (record { pre = []; front = t ∷ []; split = refl; place = (t, ts, refl, refl); again = λ r h. deep r h; grows = ([], t, λ k r le. (refl, pb, λ h. le)) })
        where
          deep : (r : List T) → SameHead (t ∷ ts) r → one closed p r ≡ Err (TooDeep, r)
          deep [] h = absurd h
          deep (u ∷ us) h = rw (← h, pb, ck) refl
      go false pb k ck e =
          let d : Fault × List T = (Unexpected, t ∷ ts) in
          subst (λ (u : Fault × List T). Failed (token closed p) (t ∷ ts) u.0 u.1) (err_is d (f, bad) e) (record { pre = []; front = []; split = refl; place = refl; again = λ r h. other r h; grows = (w ∷ [], w, λ k r le. (refl, pw, λ h. le)) })
        where
          other : (r : List T) → SameHead (t ∷ ts) r → one closed p r ≡ Err (Unexpected, r)
          other [] h = absurd h
          other (u ∷ us) h = rw (← h, pb) refl

  token_complete : (n : ℕ) (ts : List T) (a : T) (rest : List T) → ts ≡ a ∷ rest → p a ≡ true → (closed ≡ true → length ts ≤ n) → Reaches n (one closed p ts) a rest
  token_complete n ts a rest e pa room = rw e (go closed (λ h. rw e at (room h)))
    where
      go : (k : Bool) → (k ≡ true → length (a ∷ rest) ≤ n) → Reaches n (one k p (a ∷ rest)) a rest
      go true room = inr (a ∷ rest, rw pa refl, omega arith, room refl)
      go false room = inl (rw pa refl)

  pub token_lawful : (w : T) → p w ≡ true → Lawful (token closed p)
  token_lawful w pw = record {
    ok = token_ok;
    err = λ ts f bad e. token_err ts f bad e w pw;
    complete = λ n ts a rest y h. token_complete n ts a rest y.0 y.1 y.2;
    some = (w ∷ [], w, λ k r le. (refl, pw, λ h. le));
    starts = λ k ts a rest y. inl (rw y.0 y.1);
  }
