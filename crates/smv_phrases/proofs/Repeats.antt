-- Loops that read a phrase as often as it stands, as code has them.
use Rattle.std.proofs.Common.{◌≡◌, ℕ, ◌<◌, true, false, List, [], ◌∷◌, ◌++◌, length, Ok, sym, ap, ◌∙◌, inl, inr, arith}
use Rattle.std.proofs.lemmas.List.{length-append}
use Rattle.phrase_forms.specs.Forms.{Form, Read, head, many}
use Rattle.phrase_forms.proofs.Lawful.{Lawful}
use Rattle.phrase_forms.proofs.Loops as phrase
use Rattle.phrase_forms.proofs.Loops.{with_front, many_fails}
use Rattle.smv_tree.specs.declared.token.Token.{Token}
use Rattle.smv_phrases.specs.declared.reading.Stop.{Stop}
use Rattle.smv_phrases.specs.declared.reading.Stop.TheVariants.{Refused, NoMemory}
use Rattle.smv_phrases.specs.Reading.{Stops}
use Rattle.smv_phrases.specs.Names.{member}
use Rattle.smv_phrases.proofs.OfNames.{member_lawful, member_full, member_apart}

-- A form that may stand any number of times in a row.
pub record Repeats {A : Type 0} (a : Form Token A) : Type 0 where
  pub lawful : Lawful a
  pub full : a.nullable ≡ false
  pub apart : (t : Token) → a.first t ≡ true → a.more t ≡ false

-- what is read in all, where these were read before
abbrev pub Totals : {A : Type 0} → Form Token A → List A → List Token → Read Token (List A) → Type 0
Totals a front tokens total = with_front front ((many a).parse tokens) ≡ total

module _ {A : Type 0} (a : Form Token A) (repeats : Repeats a) where
  -- one more phrase is read
  pub loop_on : (front : List A) (tokens : List Token) (x : A) (rest : List Token) (total : Read Token (List A)) → true ≡ head a.first tokens → a.parse tokens ≡ Ok (x, rest)
      → Totals a front tokens total → Totals a (front ++ x ∷ []) rest total
  loop_on front tokens x rest total begun e so_far = phrase.loop_on a repeats.lawful repeats.full repeats.apart front tokens x rest total (sym begun) e so_far

  -- no phrase begins here
  pub loop_ends : (front : List A) (tokens : List Token) (total : Read Token (List A)) → false ≡ head a.first tokens → Totals a front tokens total → total ≡ Ok (front, tokens)
  loop_ends front tokens total ended so_far = phrase.loop_ends a repeats.lawful repeats.full repeats.apart front tokens total (sym ended) so_far

  -- a phrase that is not read stops the loop
  pub loop_stops : (stop : Stop) (front : List A) (tokens : List Token) (total : Read Token (List A)) → true ≡ head a.first tokens → Stops stop (a.parse tokens)
      → Totals a front tokens total → Stops stop total
  loop_stops (Refused fault rest) front tokens total begun e so_far =
      sym so_far ∙ ap (with_front front) (many_fails a repeats.lawful repeats.full repeats.apart tokens (fault, rest.now) (sym begun) e)
  loop_stops NoMemory front tokens total begun e so_far = tt

  takes_one : (pre : List Token) (x : A) → ((k : ℕ) (r : List Token) → a.yields k (pre ++ r) x r) → 0 < length pre
  takes_one [] x spelt =
      elim (repeats.lawful.starts 0 [] x [] (spelt 0 [])) [
        | inl s ↦ absurd cc
        | inr n ↦ absurd (let full = repeats.full in let null = n.0 in cc)
      ]
  takes_one (t ∷ pre) x spelt = omega arith

  -- a phrase takes a token at least
  pub loop_shortens : (tokens : List Token) (x : A) (rest : List Token) → a.parse tokens ≡ Ok (x, rest) → length rest < length tokens
  loop_shortens tokens x rest e =
      let took = repeats.lawful.ok tokens x rest e in
      omega (arith, ap length took.split, length-append took.pre rest, takes_one took.pre x took.spelt)

pub members : Repeats member
members = record { lawful = member_lawful; full = member_full; apart = member_apart }
