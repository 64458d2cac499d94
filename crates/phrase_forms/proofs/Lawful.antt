-- What a form keeps: it reads what it yields and nothing else, and a fault is at the first token that cannot stand
-- there.
use Rattle.std.proofs.Common.{◌≡◌, ℕ, ◌<◌, ◌≤◌, length, true, false, List, [], ◌∷◌, ◌++◌, Ok, Err}
use Rattle.std.specs.Prelude.{◌⊎◌}
use Rattle.phrase_forms.specs.declared.fault.Fault.{Fault}
use Rattle.phrase_forms.specs.declared.fault.Fault.TheVariants.{Unexpected, TooDeep}
use Rattle.phrase_forms.specs.Forms.{Form, Read, head}
use Rattle.phrase_forms.proofs.Lists.{SameHead}

pub record Took {T A : Type 0} (F : Form T A) (ts : List T) (a : A) (rest : List T) : Type 0 where
  pub pre : List T
  pub split : ts ≡ pre ++ rest
  pub spelt : (k : ℕ) (r : List T) → F.yields k (pre ++ r) a r
  pub again : (r : List T) → SameHead rest r → F.parse (pre ++ r) ≡ Ok (a, r)

-- the tokens that still begin a phrase: those before the bad one, and with it where it is only too deep
abbrev pub Front : {T : Type 0} → Fault → List T → List T → Type 0
Front Unexpected front bad = front ≡ []
Front {T} TooDeep front bad = (t : T) × (q : List T) × (bad ≡ t ∷ q) × (front ≡ t ∷ [])

pub record Failed {T A : Type 0} (F : Form T A) (ts : List T) (f : Fault) (bad : List T) : Type 0 where
  pub pre : List T
  pub front : List T
  pub split : ts ≡ pre ++ bad
  pub place : Front f front bad
  pub again : (r : List T) → SameHead bad r → F.parse (pre ++ r) ≡ Err (f, r)
  pub grows : (c : List T) × (a : A) × ((k : ℕ) (r : List T) → length (front ++ (c ++ r)) ≤ k → F.yields k (pre ++ (front ++ (c ++ r))) a r)

abbrev pub Reaches : {T A : Type 0} → ℕ → Read T A → A → List T → Type 0
Reaches {T} k read a rest = (read ≡ Ok (a, rest)) ⊎ ((bad : List T) × (read ≡ Err (TooDeep, bad)) × (0 < length bad) × (length bad ≤ k))

pub record Lawful {T A : Type 0} (F : Form T A) : Type 0 where
  pub ok : (ts : List T) (a : A) (rest : List T) → F.parse ts ≡ Ok (a, rest) → Took F ts a rest
  pub err : (ts : List T) (f : Fault) (bad : List T) → F.parse ts ≡ Err (f, bad) → Failed F ts f bad
  pub complete : (k : ℕ) (ts : List T) (a : A) (rest : List T) → F.yields k ts a rest → head F.more rest ≡ false → Reaches k (F.parse ts) a rest
  pub some : (c : List T) × (a : A) × ((k : ℕ) (r : List T) → length (c ++ r) ≤ k → F.yields k (c ++ r) a r)
  pub starts : (k : ℕ) (ts : List T) (a : A) (rest : List T) → F.yields k ts a rest → (head F.first ts ≡ true) ⊎ ((F.nullable ≡ true) × (ts ≡ rest))
