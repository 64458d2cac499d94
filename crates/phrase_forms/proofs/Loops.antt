-- A loop that reads a phrase as often as it stands.
use Rattle.std.proofs.Common.{◌≡◌, true, false, List, [], ◌∷◌, ◌++◌, Ok, Err, refl, sym, ap, ◌∙◌, append_assoc}
use Rattle.std.proofs.lemmas.List.{append-nil}
use Rattle.phrase_forms.specs.declared.fault.Fault.{Fault}
use Rattle.phrase_forms.specs.Forms.{Form, Read, head, many, many_at, ◌>>=◌}
use Rattle.phrase_forms.proofs.Lawful.{Lawful}
use Rattle.phrase_forms.proofs.OfMany.{many_step, many_stops}

-- what was read before, and what is still read
abbrev pub with_front : {T A : Type 0} → List A → Read T (List A) → Read T (List A)
with_front front read = read >>= λ x. Ok (front ++ x.0, x.1)

regroup : {T A : Type 0} (front : List A) (x : A) (r : Read T (List A)) → with_front front (r >>= λ y. Ok (x ∷ y.0, y.1)) ≡ with_front (front ++ x ∷ []) r
regroup front x (Ok y) = ap (λ (xs : List _). Ok (xs, y.1)) (simp append_assoc)
regroup front x (Err e) = refl

module _ {T A : Type 0} (a : Form T A) (la : Lawful a) (na : a.nullable ≡ false) (apart : (t : T) → a.first t ≡ true → a.more t ≡ false) where
  -- one more phrase is read
  pub loop_on : (front : List A) (ts : List T) (x : A) (mid : List T) (total : Read T (List A)) → head a.first ts ≡ true → a.parse ts ≡ Ok (x, mid)
      → with_front front ((many a).parse ts) ≡ total → with_front (front ++ x ∷ []) ((many a).parse mid) ≡ total
  loop_on front ts x mid total h e so_far = sym (regroup front x ((many a).parse mid)) ∙ ap (with_front front) (sym (many_step a la na apart ts x mid h e)) ∙ so_far

  -- a phrase that is refused ends the loop
  pub many_fails : (ts : List T) (d : Fault × List T) → head a.first ts ≡ true → a.parse ts ≡ Err d → (many a).parse ts ≡ Err d
  unfolding many_at
  many_fails [] d h e = absurd cc
  many_fails (t ∷ ts) d h e = rw (h, e) refl

  -- no phrase begins here
  pub loop_ends : (front : List A) (ts : List T) (total : Read T (List A)) → head a.first ts ≡ false → with_front front ((many a).parse ts) ≡ total → total ≡ Ok (front, ts)
  loop_ends front ts total h so_far = sym so_far ∙ ap (with_front front) (many_stops a la na apart ts h) ∙ ap (λ (xs : List A). Ok (xs, ts)) (append-nil front)
