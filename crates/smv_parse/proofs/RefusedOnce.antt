-- In a language with levels tokens are refused at one token and by one fault, and never where they spell a value.
use Rattle.std.proofs.Common.{◌≡◌, ℕ, ◌≤◌, List, [], ◌∷◌, ◌++◌, length, Result, Ok, Err, refl, sym, ap, subst, ◌∙◌, inl, inr, append_assoc, zero-add, arith}
use Rattle.std.proofs.Math.Numerals.{one-add}
use Rattle.std.specs.Prelude.{◌⊎◌}
use Rattle.std.proofs.lemmas.List.{append-nil, length-append}
use Rattle.phrase_forms.specs.declared.fault.Fault.{Fault}
use Rattle.phrase_forms.specs.declared.fault.Fault.TheVariants.{Unexpected, TooDeep}
use Rattle.phrase_forms.specs.Forms.{Form, Read}
use Rattle.phrase_forms.specs.Language.{ended, read_all}
use Rattle.phrase_forms.specs.Levels.{SpellsWithin, IsRefusedWithin}
use Rattle.phrase_forms.proofs.Lists.{SameHead, ok_is, err_is}
use Rattle.phrase_forms.proofs.Lawful.{Took, Front, Failed, Reaches, Lawful}
use Rattle.phrase_forms.proofs.Alike.{Alike}
use Rattle.phrase_forms.proofs.OfLevels.{read}

-- the first of two cuts of a list is within the front of the second
abbrev Within : {T : Type 0} → List T → List T → List T → List T → Type 0
Within {T} before bad other rest = (t : T) × (more : List T) × (other ≡ before ++ t ∷ more) × (bad ≡ t ∷ (more ++ rest))

-- two cuts of one list are the same, or one is within the front of the other
two_cuts : {T : Type 0} (before bad other rest : List T) → before ++ bad ≡ other ++ rest → ((before ≡ other) × (bad ≡ rest)) ⊎ (Within before bad other rest ⊎ Within other rest before bad)
two_cuts [] bad [] rest e = inl (refl, e)
two_cuts [] bad (t ∷ other) rest e = inr (inl (t, other, refl, e))
two_cuts (t ∷ before) bad [] rest e = inr (inr (t, before, refl, sym e))
two_cuts {T} (t ∷ before) bad (u ∷ other) rest e =
    let et : t ≡ u = cc in
    let er : before ++ bad ≡ other ++ rest = cc in
    elim (two_cuts before bad other rest er) [
      | inl same ↦ inl (ap (λ (w : T). w ∷ before) et ∙ ap (λ (w : List T). u ∷ w) same.0, same.1)
      | inr d ↦ elim d [
        | inl l ↦ inr (inl (l.0, l.1, ap (λ (w : T). w ∷ other) (sym et) ∙ ap (λ (w : List T). t ∷ w) l.2, l.3))
        | inr l ↦ inr (inr (l.0, l.1, ap (λ (w : T). w ∷ before) et ∙ ap (λ (w : List T). u ∷ w) l.2, l.3))
      ]
    ]

module _ {T A : Type 0} (forms : ℕ → Form T A) (law : (n : ℕ) → Lawful (forms n)) (alike : (n : ℕ) → Alike (forms 0) (forms n)) where
  -- How reading stops before the bad token: whatever stands behind it, the tokens spell a value only where the token is
  -- too deep and levels past the limit may be opened from it on. With other tokens in its place they do spell one.
  record Halts (tokens : List T) (fault : Fault) (bad : List T) : Type 0 where
    before : List T
    split : tokens ≡ before ++ bad
    again : (k : ℕ) (rest : List T) (x : A) → SameHead bad rest → SpellsWithin forms k (before ++ rest) x → (fault ≡ TooDeep) × (length rest ≤ k)
    front : List T
    place : Front fault front bad
    grows : (more : List T) × (x : A) × ((k : ℕ) → length (front ++ more) ≤ k → SpellsWithin forms k (before ++ (front ++ more)) x)

  reads : (k : ℕ) (tokens : List T) (x : A) → SpellsWithin forms k tokens x → Reaches k ((forms 0).parse tokens) x []
  reads k tokens x s = rw ((alike s.0).parse tokens) ((law s.0).complete k tokens x [] s.1 refl)

  -- where reading fails, it goes on only past the limit
  past_limit : (k : ℕ) (read : Read T A) (x : A) (fault : Fault) (rest : List T) → read ≡ Err (fault, rest) → Reaches k read x [] → (fault ≡ TooDeep) × (length rest ≤ k)
  past_limit k read x fault rest e (inl ok) = absurd cc
  past_limit k read x fault rest e (inr deep) =
      let same_fault : fault ≡ TooDeep = ap (λ (w : Fault × List T). w.0) (err_is (fault, rest) (TooDeep, deep.0) (sym e ∙ deep.1)) in
      let same_rest : rest ≡ deep.0 = ap (λ (w : Fault × List T). w.1) (err_is (fault, rest) (TooDeep, deep.0) (sym e ∙ deep.1)) in
      (same_fault, rw same_rest deep.3)

  failed_halts : (tokens : List T) (fault : Fault) (bad : List T) → Failed (forms 0) tokens fault bad → Halts tokens fault bad
  failed_halts tokens fault bad w = record {
    before = w.pre;
    split = w.split;
    again = λ k rest x same s. past_limit k ((forms 0).parse (w.pre ++ rest)) x fault rest (w.again rest same) (reads k (w.pre ++ rest) x s);
    front = w.front;
    place = w.place;
    grows = let g = w.grows in (g.0, g.1, λ k le. (0, rw append-nil at (g.2 k [] (rw append-nil le))));
  }

  ok_then_more : (k : ℕ) (read : Read T A) (x y : A) (t : T) (rest : List T) → read ≡ Ok (y, t ∷ rest) → Reaches k read x [] → ⊥
  ok_then_more k read x y t rest e (inl ok) = let same : t ∷ rest ≡ [] = ap (λ (w : A × List T). w.1) (ok_is (y, t ∷ rest) (x, []) (sym e ∙ ok)) in cc
  ok_then_more k read x y t rest e (inr deep) = let d = deep.1 in cc

  took_halts : (tokens : List T) (y : A) (t : T) (bad : List T) → Took (forms 0) tokens y (t ∷ bad) → Halts tokens Unexpected (t ∷ bad)
  took_halts tokens y t bad w = record {
    before = w.pre;
    split = w.split;
    again = again;
    front = [];
    place = refl;
    grows = ([], y, λ k le. (0, w.spelt k []));
  }
    where
      again : (k : ℕ) (rest : List T) (x : A) → SameHead (t ∷ bad) rest → SpellsWithin forms k (w.pre ++ rest) x → (Unexpected ≡ TooDeep) × (length rest ≤ k)
      again k [] x same s = absurd same
      again k (u ∷ rest) x same s = absurd (ok_then_more k ((forms 0).parse (w.pre ++ u ∷ rest)) x y u rest (w.again (u ∷ rest) same) (reads k (w.pre ++ u ∷ rest) x s))

  halts : (tokens : List T) (fault : Fault) (bad : List T) → read_all (forms 0) tokens ≡ Err (fault, bad) → Halts tokens fault bad
  halts tokens fault bad h = go ((forms 0).parse tokens) refl h
    where
      go : (r : Read T A) → (forms 0).parse tokens ≡ r → ended r ≡ Err (fault, bad) → Halts tokens fault bad
      go (Err e) hr h' =
          let same : e ≡ (fault, bad) = err_is e (fault, bad) h' in
          failed_halts tokens fault bad ((law 0).err tokens fault bad (hr ∙ ap (λ (w : Fault × List T). Err w) same))
      go (Ok (y, [])) hr h' = absurd cc
      go (Ok (y, t ∷ rest)) hr h' =
          let w : Fault × List T = (Unexpected, t ∷ rest) in
          subst (λ (u : Fault × List T). Halts tokens u.0 u.1) (err_is w (fault, bad) h') (took_halts tokens y t rest ((law 0).ok tokens y (t ∷ rest) hr))

  -- what is read is spelled so, however near the end levels past the limit may be opened
  read_spelt : (tokens : List T) (x : A) → read_all (forms 0) tokens ≡ Ok x → (k : ℕ) → SpellsWithin forms k tokens x
  read_spelt tokens x h = go ((forms 0).parse tokens) refl h
    where
      go : (r : Read T A) → (forms 0).parse tokens ≡ r → ended r ≡ Ok x → (k : ℕ) → SpellsWithin forms k tokens x
      go (Err e) hr h' k = absurd cc
      go (Ok (y, [])) hr h' k =
          let same : y ≡ x = ok_is y x h' in
          let w = (law 0).ok tokens y [] hr in
          (0, rw (← same, w.split) (w.spelt k []))
      go (Ok (y, t ∷ rest)) hr h' k = absurd cc

  -- refused tokens begin a phrase
  begun : (fault : Fault) (before rest : List T) → IsRefusedWithin forms fault before rest → (more : List T) × (x : A) × SpellsWithin forms (length more) (before ++ more) x
  begun Unexpected before [] w = (w.0.0, w.0.1, rw zero-add at w.0.2)
  begun Unexpected before (t ∷ rest) w = (w.0.0, w.0.1, rw zero-add at w.0.2)
  begun TooDeep before [] w = absurd w
  begun TooDeep before (t ∷ rest) w = (t ∷ w.0.0, w.0.1, rw (append_assoc, one-add) at w.0.2)

  -- and with the token that is refused none, but for levels past the limit before its end
  refuted : (fault : Fault) (before : List T) (t : T) (rest : List T) → IsRefusedWithin forms fault before (t ∷ rest) → (more : List T) (x : A) → SpellsWithin forms (length more) (before ++ t ∷ more) x → ⊥
  refuted Unexpected before t rest w more x s = w.1 (length more) more x s
  refuted TooDeep before t rest w more x s = w.1 more x s

  -- reading does not halt before the refused token
  not_sooner : (fault : Fault) (before rest : List T) → IsRefusedWithin forms fault before rest → (found : Fault) (tokens bad : List T) (h : Halts tokens found bad) → Within h.before bad before rest → ⊥
  not_sooner fault before rest w found tokens bad h inside =
      let b = begun fault before rest w in
      let first : SameHead bad (inside.0 ∷ (inside.1 ++ b.0)) = rw inside.3 refl in
      let spelt : SpellsWithin forms (length b.0) (h.before ++ inside.0 ∷ (inside.1 ++ b.0)) b.1 = rw append_assoc at (let P : List T → Type 0 = λ us. SpellsWithin forms (length b.0) (us ++ b.0) b.1 in subst P inside.2 b.2) in
      let few = h.again (length b.0) (inside.0 ∷ (inside.1 ++ b.0)) b.1 first spelt in
      omega (arith, few.1, length-append inside.1 b.0)

  -- nor behind it
  not_later : (fault : Fault) (before rest : List T) → IsRefusedWithin forms fault before rest → (found : Fault) (tokens bad : List T) (h : Halts tokens found bad) → Within before rest h.before bad → ⊥
  not_later fault before rest w found tokens bad h inside =
      let g = h.grows in
      let more = inside.1 ++ (h.front ++ g.0) in
      let spelt : SpellsWithin forms (length more) (h.before ++ (h.front ++ g.0)) g.1 = g.2 (length more) (omega (arith, length-append inside.1 (h.front ++ g.0))) in
      refuted fault before inside.0 (inside.1 ++ bad) (let P : List T → Type 0 = λ us. IsRefusedWithin forms fault before us in subst P inside.3 w) more g.1
      (rw append_assoc at (let P : List T → Type 0 = λ us. SpellsWithin forms (length more) (us ++ (h.front ++ g.0)) g.1 in subst P inside.2 spelt))

  -- at that token it halts for the same fault
  same_fault : (fault found : Fault) (before rest tokens : List T) → IsRefusedWithin forms fault before rest → (h : Halts tokens found rest) → h.before ≡ before → found ≡ fault
  unfolding begun
  same_fault Unexpected Unexpected before rest tokens w h e = refl
  same_fault TooDeep TooDeep before rest tokens w h e = refl
  same_fault Unexpected TooDeep before [] tokens w h e = absurd (let d = h.place.2 in cc)
  same_fault Unexpected TooDeep before (t ∷ rest) tokens w h e =
      let g = h.grows in
      let same : t ≡ h.place.0 = let d = h.place.2 in cc in
      let front : h.front ≡ t ∷ [] = h.place.3 ∙ ap (λ (u : T). u ∷ []) (sym same) in
      let spelt : SpellsWithin forms (length (h.front ++ g.0)) (h.before ++ (h.front ++ g.0)) g.1 = g.2 (length (h.front ++ g.0)) (omega arith) in
      absurd (w.1 (length (h.front ++ g.0)) g.0 g.1 (let P : List T → List T → Type 0 = λ us vs. SpellsWithin forms (length (h.front ++ g.0)) (us ++ (vs ++ g.0)) g.1 in subst (λ (us : List T). P us (t ∷ [])) e (subst (λ (vs : List T). P h.before vs) front spelt)))
  same_fault TooDeep Unexpected before [] tokens w h e = absurd w
  same_fault TooDeep Unexpected before (t ∷ rest) tokens w h e =
      let b = begun TooDeep before (t ∷ rest) w in
      let spelt : SpellsWithin forms (length b.0) (h.before ++ b.0) b.1 = let P : List T → Type 0 = λ us. SpellsWithin forms (length b.0) (us ++ b.0) b.1 in subst P (sym e) b.2 in
      let d = (h.again (length b.0) b.0 b.1 refl spelt).0 in
      cc

  -- refused tokens spell no value
  spells_none : (fault : Fault) (before rest : List T) → IsRefusedWithin forms fault before rest → (x : A) → ((k : ℕ) → SpellsWithin forms k (before ++ rest) x) → ⊥
  spells_none Unexpected before [] w x s = w.1 0 x (rw append-nil at (s 0))
  spells_none TooDeep before [] w x s = absurd w
  spells_none fault before (t ∷ rest) w x s = refuted fault before t rest w rest x (s (length rest))

  -- where reading halts at the refused token, it is the refusal
  at_cut : (fault : Fault) (before rest : List T) → IsRefusedWithin forms fault before rest → (found : Fault) (bad : List T) (h : Halts (before ++ rest) found bad) → h.before ≡ before → bad ≡ rest
      → ◌≡◌ {A = Result A (Fault × List T)} (Err (found, bad)) (Err (fault, rest))
  at_cut fault before rest w found bad h same_front same_rest =
      let w' : IsRefusedWithin forms fault before bad = let P : List T → Type 0 = λ us. IsRefusedWithin forms fault before us in subst P (sym same_rest) w in
      let faults : found ≡ fault = same_fault fault found before bad (before ++ rest) w' h same_front in
      rw (faults, same_rest) refl

  -- tokens that are refused are read so
  pub refused_read : (fault : Fault) (before rest : List T) → IsRefusedWithin forms fault before rest → read_all (forms 0) (before ++ rest) ≡ Err (fault, rest)
  refused_read fault before rest w = go (read_all (forms 0) (before ++ rest)) refl
    where
      go : (r : Result A (Fault × List T)) → read_all (forms 0) (before ++ rest) ≡ r → r ≡ Err (fault, rest)
      go (Ok x) e = absurd (spells_none fault before rest w x (read_spelt (before ++ rest) x e))
      go (Err (found, bad)) e =
          let h = halts (before ++ rest) found bad e in
          elim (two_cuts h.before bad before rest (sym h.split)) [
            | inl same ↦ at_cut fault before rest w found bad h same.0 same.1
            | inr d ↦ elim d [
              | inl sooner ↦ absurd (not_sooner fault before rest w found (before ++ rest) bad h sooner)
              | inr later ↦ absurd (not_later fault before rest w found (before ++ rest) bad h later)
            ]
          ]

  -- tokens are refused at one token, for one fault
  pub refused_once : (fault found : Fault) (before rest other bad : List T) → before ++ rest ≡ other ++ bad → IsRefusedWithin forms fault before rest → IsRefusedWithin forms found other bad → (fault ≡ found) × (rest ≡ bad)
  refused_once fault found before rest other bad e w v =
      let same = err_is (fault, rest) (found, bad) (sym (refused_read fault before rest w) ∙ ap (read_all (forms 0)) e ∙ refused_read found other bad v) in
      (ap (λ (u : Fault × List T). u.0) same, ap (λ (u : Fault × List T). u.1) same)

  -- tokens that spell a value are not refused
  pub spelt_not_refused : (fault : Fault) (before rest : List T) (x : A) → SpellsWithin forms 0 (before ++ rest) x → IsRefusedWithin forms fault before rest → ⊥
  spelt_not_refused fault before rest x s w = let e = read forms law alike (before ++ rest) x s in let f = refused_read fault before rest w in cc
