-- What a language with levels reads from a whole list of tokens.
use Rattle.std.proofs.Common.{◌≡◌, ℕ, suc, ◌+◌, List, [], ◌∷◌, ◌++◌, length, Result, Ok, Err, refl, sym, ap, subst, ◌∙◌, inl, inr, append_assoc, arith}
use Rattle.std.proofs.lemmas.List.{append-nil, length-append}
use Rattle.phrase_forms.specs.declared.fault.Fault.{Fault}
use Rattle.phrase_forms.specs.declared.fault.Fault.TheVariants.{Unexpected, TooDeep}
use Rattle.phrase_forms.specs.Forms.{Form, Read}
use Rattle.phrase_forms.specs.Language.{ended, read_all}
use Rattle.phrase_forms.specs.Levels.{SpellsWithin, IsRefusedWithin}
use Rattle.phrase_forms.proofs.Lists.{ok_is, err_is}
use Rattle.phrase_forms.proofs.Lawful.{Took, Failed, Reaches, Lawful}
use Rattle.phrase_forms.proofs.Alike.{Alike}

fault_of : {A E : Type 0} → Fault → Result A (Fault × E) → Fault
fault_of f (Ok x) = f
fault_of f (Err x) = x.0

module _ {T A : Type 0} (forms : ℕ → Form T A) (law : (n : ℕ) → Lawful (forms n)) (alike : (n : ℕ) → Alike (forms 0) (forms n)) where
  -- tokens that spell a value are read, or their too deep token stands among the last k
  reads : (k : ℕ) (ts : List T) (x : A) → SpellsWithin forms k ts x → Reaches k ((forms 0).parse ts) x []
  reads k ts x s = rw ((alike s.0).parse ts) ((law s.0).complete k ts x [] s.1 refl)

  ended_ok : (r : Read T A) (x : A) → ended r ≡ Ok x → r ≡ Ok (x, [])
  ended_ok (Err e) x h = absurd cc
  ended_ok (Ok (y, [])) x h = let e : y ≡ x = ok_is y x h in ap (λ (z : A). Ok (z, [])) e
  ended_ok (Ok (y, t ∷ ts)) x h = absurd cc

  -- what is read is spelled so, within the limit
  pub found : (ts : List T) (x : A) → read_all (forms 0) ts ≡ Ok x → SpellsWithin forms 0 ts x
  found ts x h =
      let t = (law 0).ok ts x [] (ended_ok ((forms 0).parse ts) x h) in
      (0, rw t.split (t.spelt 0 []))

  -- what is spelled so is read
  pub read : (ts : List T) (x : A) → SpellsWithin forms 0 ts x → read_all (forms 0) ts ≡ Ok x
  read ts x s =
      elim (reads 0 ts x s) [
        | inl e ↦ rw e refl
        | inr d ↦ absurd (omega (arith, d.2, d.3))
      ]

  -- within the limit the tokens spell one value at most
  pub only_within : (ts : List T) (x y : A) → SpellsWithin forms 0 ts x → SpellsWithin forms 0 ts y → x ≡ y
  only_within ts x y sx sy = ok_is x y (sym (read ts x sx) ∙ read ts y sy)

  two_faults : (r : Read T A) (b c : List T) → r ≡ Err (Unexpected, b) → r ≡ Err (TooDeep, c) → ⊥
  unfolding fault_of
  two_faults r b c h k = let e : Unexpected ≡ TooDeep = ap (fault_of Unexpected) (sym h ∙ k) in cc

  ok_and_err : (r : Read T A) (x : A × List T) (e : Fault × List T) → r ≡ Ok x → r ≡ Err e → ⊥
  ok_and_err r x e h k = cc

  -- whatever follows, it is no phrase
  no_phrase : (ts bad : List T) → (forms 0).parse ts ≡ Err (Unexpected, bad) → (k : ℕ) (x : A) → SpellsWithin forms k ts x → ⊥
  no_phrase ts bad e k x s =
      elim (reads k ts x s) [
        | inl g ↦ ok_and_err ((forms 0).parse ts) (x, []) (Unexpected, bad) g e
        | inr d ↦ two_faults ((forms 0).parse ts) bad d.0 e d.1
      ]

  no_phrase_more : (ts : List T) (y : A) (t : T) (rest : List T) → (forms 0).parse ts ≡ Ok (y, t ∷ rest) → (k : ℕ) (x : A) → SpellsWithin forms k ts x → ⊥
  no_phrase_more ts y t rest e k x s =
      elim (reads k ts x s) [
        | inl g ↦ let same : t ∷ rest ≡ [] = ap (λ (w : A × List T). w.1) (ok_is (y, t ∷ rest) (x, []) (sym e ∙ g)) in cc
        | inr d ↦ ok_and_err ((forms 0).parse ts) (y, t ∷ rest) (TooDeep, d.0) e d.1
      ]

  no_phrase_deep : (ts : List T) (t : T) (rest : List T) → (forms 0).parse ts ≡ Err (TooDeep, t ∷ rest) → (x : A) → SpellsWithin forms (length rest) ts x → ⊥
  no_phrase_deep ts t rest e x s =
      elim (reads (length rest) ts x s) [
        | inl g ↦ ok_and_err ((forms 0).parse ts) (x, []) (TooDeep, t ∷ rest) g e
        | inr d ↦
            let same : t ∷ rest ≡ d.0 = ap (λ (w : Fault × List T). w.1) (err_is (TooDeep, t ∷ rest) (TooDeep, d.0) (sym e ∙ d.1)) in
            let len : suc (length rest) ≡ length d.0 = ap length same in
            omega (arith, len, d.3)
      ]

  pub record Refused (ts : List T) (f : Fault) (bad : List T) : Type 0 where
    pub before : List T
    pub split : ts ≡ before ++ bad
    pub why : IsRefusedWithin forms f before bad

  failed_refused : (ts : List T) (f : Fault) (bad : List T) → Failed (forms 0) ts f bad → Refused ts f bad
  failed_refused ts Unexpected [] w =
      let g = w.grows in
      let y = g.2 (0 + length g.0) [] (omega (arith, ap length w.place, length-append w.front (g.0 ++ []), length-append {A = T} g.0 [])) in
      record {
        before = w.pre;
        split = w.split;
        why = ((g.0, g.1, (0, rw (w.place, append-nil) at y)), λ k x s. no_phrase w.pre [] (rw append-nil at (w.again [] tt)) k x s);
      }
  failed_refused ts Unexpected (t ∷ bad) w =
      let g = w.grows in
      let y = g.2 (0 + length g.0) [] (omega (arith, ap length w.place, length-append w.front (g.0 ++ []), length-append {A = T} g.0 [])) in
      record {
        before = w.pre;
        split = w.split;
        why = ((g.0, g.1, (0, rw (w.place, append-nil) at y)), λ k more x s. no_phrase (w.pre ++ t ∷ more) (t ∷ more) (w.again (t ∷ more) refl) k x s);
      }
  failed_refused ts TooDeep [] w = absurd (let e = w.place.2 in cc)
  failed_refused ts TooDeep (t ∷ bad) w =
      let same : t ≡ w.place.0 = let e = w.place.2 in cc in
      let front : w.front ≡ t ∷ [] = w.place.3 ∙ ap (λ (u : T). u ∷ []) (sym same) in
      let g = w.grows in
      let y = g.2 (1 + length g.0) [] (omega (arith, ap length front, length-append w.front (g.0 ++ []), length-append {A = T} g.0 [])) in
      record {
        before = w.pre;
        split = w.split;
        why = ((g.0, g.1, (0, rw append_assoc (rw (front, append-nil) at y))), λ more x s. no_phrase_deep (w.pre ++ t ∷ more) t more (w.again (t ∷ more) refl) x s);
      }

  took_refused : (ts : List T) (y : A) (t : T) (bad : List T) → Took (forms 0) ts y (t ∷ bad) → Refused ts Unexpected (t ∷ bad)
  took_refused ts y t bad w = record {
    before = w.pre;
    split = w.split;
    why = (([], y, (0, w.spelt 0 [])), λ k more x s. no_phrase_more (w.pre ++ t ∷ more) y t more (w.again (t ∷ more) refl) k x s);
  }

  -- a fault is at the first token that cannot stand where it stands
  pub refused_within : (ts : List T) (f : Fault) (bad : List T) → read_all (forms 0) ts ≡ Err (f, bad) → Refused ts f bad
  refused_within ts f bad h = go ((forms 0).parse ts) refl h
    where
      go : (r : Read T A) → (forms 0).parse ts ≡ r → ended r ≡ Err (f, bad) → Refused ts f bad
      go (Err e) hr h' =
          let same : e ≡ (f, bad) = err_is e (f, bad) h' in
          failed_refused ts f bad ((law 0).err ts f bad (hr ∙ ap (λ (w : Fault × List T). Err w) same))
      go (Ok (y, [])) hr h' = absurd cc
      go (Ok (y, t ∷ rest)) hr h' =
          let w : Fault × List T = (Unexpected, t ∷ rest) in
          subst (λ (u : Fault × List T). Refused ts u.0 u.1) (err_is w (f, bad) h') (took_refused ts y t rest ((law 0).ok ts y (t ∷ rest) hr))
