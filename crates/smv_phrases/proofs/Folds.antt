-- Loops that read a phrase as often as it stands, and gather what is read one by one.
use Rattle.std.proofs.Common.{◌≡◌, ◌<◌, true, false, List, [], ◌∷◌, length, Ok, Err, refl, sym, ap, ◌∙◌}
use Rattle.phrase_forms.specs.declared.fault.Fault.{Fault}
use Rattle.phrase_forms.specs.Forms.{Form, Read, head, many, ◌>>=◌}
use Rattle.phrase_forms.proofs.OfMany.{many_step, many_stops}
use Rattle.phrase_forms.proofs.Loops.{many_fails}
use Rattle.smv_tree.specs.declared.token.Token.{Token}
use Rattle.smv_phrases.specs.declared.reading.Stop.{Stop}
use Rattle.smv_phrases.specs.declared.reading.Stop.TheVariants.{Refused, NoMemory}
use Rattle.smv_phrases.specs.Reading.{Stops}
use Rattle.smv_phrases.proofs.Repeats.{Repeats}

-- what is gathered in all, where this was gathered before
abbrev pub gathered : {A S : Type 0} → (S → List A → S) → S → Read Token (List A) → Read Token S
gathered all so_far read = read >>= λ y. Ok (all so_far y.0, y.1)

-- A loop gathers all where it gathers one after the other.
pub record Gathers {A S : Type 0} (all : S → List A → S) (one : S → A → S) : Type 0 where
  pub none : (s : S) → all s [] ≡ s
  pub more : (s : S) (x : A) (xs : List A) → all s (x ∷ xs) ≡ all (one s x) xs

module _ {A S : Type 0} (a : Form Token A) (repeats : Repeats a) (all : S → List A → S) (one : S → A → S) (gathers : Gathers all one) where
  further : (s : S) (x : A) (read : Read Token (List A)) → gathered all s (read >>= λ y. Ok (x ∷ y.0, y.1)) ≡ gathered all (one s x) read
  further s x (Ok y) = rw (gathers.more s x y.0) refl
  further s x (Err e) = refl

  -- one more phrase is read
  pub fold_on : (s : S) (tokens : List Token) (x : A) (rest : List Token) (total : Read Token S) → true ≡ head a.first tokens → a.parse tokens ≡ Ok (x, rest)
      → gathered all s ((many a).parse tokens) ≡ total → gathered all (one s x) ((many a).parse rest) ≡ total
  fold_on s tokens x rest total begun e so_far =
      sym (further s x ((many a).parse rest)) ∙ ap (gathered all s) (sym (many_step a repeats.lawful repeats.full repeats.apart tokens x rest (sym begun) e)) ∙ so_far

  -- no phrase begins here
  pub fold_ends : (s : S) (tokens : List Token) (total : Read Token S) → false ≡ head a.first tokens → gathered all s ((many a).parse tokens) ≡ total → total ≡ Ok (s, tokens)
  fold_ends s tokens total ended so_far =
      sym so_far ∙ ap (gathered all s) (many_stops a repeats.lawful repeats.full repeats.apart tokens (sym ended)) ∙ ap (λ (t : S). Ok (t, tokens)) (gathers.none s)

  -- a phrase that is not read stops the loop
  pub fold_stops : (stop : Stop) (s : S) (tokens : List Token) (total : Read Token S) → true ≡ head a.first tokens → Stops stop (a.parse tokens)
      → gathered all s ((many a).parse tokens) ≡ total → Stops stop total
  fold_stops (Refused fault rest) s tokens total begun e so_far =
      sym so_far ∙ ap (gathered all s) (many_fails a repeats.lawful repeats.full repeats.apart tokens (fault, rest.now) (sym begun) e)
  fold_stops NoMemory s tokens total begun e so_far = tt
