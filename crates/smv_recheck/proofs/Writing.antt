-- One text written behind another.
use Rattle.std.proofs.Common.{◌≡◌, ◌∙◌, ℕ, List, ◌++◌, Result, Ok, Err, OnOk, cond, sym, ap, append_assoc}
use Rattle.std.specs.Prelude.{is_ok}

pub and_then : {T E : Type 0} (r : Result T E) (old mid now a b : List ℕ) → mid ≡ old ++ a → OnOk r (now ≡ mid ++ b) → OnOk r (now ≡ old ++ (a ++ b))
and_then (Ok x) old mid now a b e h = h ∙ ap (λ (w : List ℕ). w ++ b) e ∙ append_assoc old a b
and_then (Err x) old mid now a b e h = h

pub and_both : (old mid now a b : List ℕ) → mid ≡ old ++ a → now ≡ mid ++ b → now ≡ old ++ (a ++ b)
and_both old mid now a b e h = h ∙ ap (λ (w : List ℕ). w ++ b) e ∙ append_assoc old a b

-- what `push_str` says, where it succeeds
pub pushed : {T E : Type 0} (r : Result T E) (now mid b : List ℕ) → now ≡ cond (is_ok r) (mid ++ b) mid → OnOk r (now ≡ mid ++ b)
pushed (Ok x) now mid b e = e
pushed (Err x) now mid b e = tt

pub same_text : {T E : Type 0} (r : Result T E) (now a b : List ℕ) → a ≡ b → OnOk r (now ≡ a) → OnOk r (now ≡ b)
same_text (Ok x) now a b e h = h ∙ e
same_text (Err x) now a b e h = h

pub regrouped : (a b c d : List ℕ) → a ++ (b ++ (c ++ d)) ≡ ((a ++ b) ++ c) ++ d
regrouped a b c d = sym (append_assoc (a ++ b) c d ∙ append_assoc a b (c ++ d))
