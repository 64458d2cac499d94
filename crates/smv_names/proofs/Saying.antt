-- What loops say of lists, element by element.
use Rattle.std.proofs.Common.{◌≡◌, inl, inr, ℕ, suc, ◌+◌, ◌<◌, ◌≤◌, List, ◌∷◌, length, get_or, drop, Option, Some, None, Result, Err, subst, sym, refl, ap, ◌∙◌, arith, drop_of_length-le}
use Rattle.std.proofs.Math.Seq.{drop-cons}
use Rattle.smv_tree.specs.declared.refusal.Refusal.{Refusal}
use Rattle.smv_tree.specs.declared.refusal.TextStop.{TextStop}
use Rattle.smv_tree.specs.declared.refusal.TextStop.TheVariants.{Refused, NoMemory}
use Rattle.smv_verdicts.specs.Verdicts.{Verdict, Each, Then, Gives}

-- where nothing is said by the first, what the second says is said
pub then_ok : (V W : Verdict) → V None → (r : Option Refusal) → W r → Then V W r
then_ok V W v None w = (v, w)
then_ok V W v (Some r) w = inr (v, w)

-- the code stops with what is said
unfoldable pub Stops : TextStop → Verdict → Type 0
Stops (Refused r) V = V (Some r)
Stops NoMemory V = Unit {0}

pub then_stops : (V W : Verdict) (e : TextStop) → Stops e V → Stops e (Then V W)
unfolding Stops
then_stops V W (Refused r) h = inl h
then_stops V W NoMemory h = tt

pub later_stops : (V W : Verdict) (e : TextStop) → V None → Stops e W → Stops e (Then V W)
unfolding Stops
later_stops V W (Refused r) v h = inr (v, h)
later_stops V W NoMemory v h = tt

pub all_stop : (V W : Verdict) (e : TextStop) → ((r : Option Refusal) → V r → W r) → Stops e V → Stops e W
unfolding Stops
all_stop V W (Refused r) f h = f (Some r) h
all_stop V W NoMemory f h = tt

pub gives_err : {A : Type 0} (V : Verdict) (result : Result A TextStop) (e : TextStop) → result ≡ Err e → Stops e V → Gives result V
unfolding Stops
gives_err V result (Refused r) is h = rw is h
gives_err V result NoMemory is h = rw is tt

pub err_gives : (A : Type 0) (V : Verdict) (e : TextStop) → (let result : Result A TextStop = Err e in Gives result V) → Stops e V
unfolding Stops
err_gives A V (Refused r) h = h
err_gives A V NoMemory h = tt

module _ {A : Type 0} (V : A → Verdict) (xs : List A) (i : ℕ) (x : A) (within : i < length xs) (is : x ≡ get_or xs i x) where
  taken : drop i xs ≡ x ∷ drop (i + 1) xs
  taken = let up : i + 1 ≡ suc i = omega arith in drop-cons xs i x within ∙ ap (λ y. y ∷ drop (suc i) xs) (sym is) ∙ ap (λ n. x ∷ drop n xs) (sym up)

  pub each_taken : (r : Option Refusal) → Then (V x) (Each V (drop (i + 1) xs)) r → Each V (drop i xs) r
  each_taken r h = let P : List A → Type 0 = λ ys. Each V ys r in subst P (sym taken) h

  -- the code stops at this element
  pub each_stops : ((r : Option Refusal) → Each V (drop i xs) r → Each V xs r) → (e : TextStop) → Stops e (V x) → Stops e (Each V xs)
  each_stops left e h = all_stop (Each V (drop i xs)) (Each V xs) e left (all_stop (Then (V x) (Each V (drop (i + 1) xs))) (Each V (drop i xs)) e each_taken (then_stops (V x) (Each V (drop (i + 1) xs)) e h))

  -- nothing is said of this element
  pub each_goes_on : ((r : Option Refusal) → Each V (drop i xs) r → Each V xs r) → V x None → (r : Option Refusal) → Each V (drop (i + 1) xs) r → Each V xs r
  each_goes_on left h r rest = left r (each_taken r (then_ok (V x) (Each V (drop (i + 1) xs)) h r rest))

-- nothing is said of all
pub each_ends : {A : Type 0} (V : A → Verdict) (xs : List A) (i : ℕ) → length xs ≤ i → ((r : Option Refusal) → Each V (drop i xs) r → Each V xs r) → Each V xs None
each_ends {A} V xs i past left =
    let P : List A → Type 0 = λ ys. Each V ys None in
    left None (subst P (sym (drop_of_length-le xs past)) refl)
