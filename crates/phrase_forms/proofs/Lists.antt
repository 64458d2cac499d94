-- Steps that may fail, and lists with one head.
use Rattle.std.proofs.Common.{◌≡◌, Bool, true, false, List, [], ◌∷◌, ◌++◌, Result, Ok, Err, refl, sym, ap, ◌∙◌, inl, inr}
use Rattle.std.specs.Prelude.{◌⊎◌, ◌&&◌, ◌||◌}
use Rattle.phrase_forms.specs.Forms.{◌>>=◌, head}

pub bind_ok : {A B E : Type 0} (r : Result A E) (f : A → Result B E) (y : B) → (r >>= f) ≡ Ok y → (x : A) × (r ≡ Ok x) × (f x ≡ Ok y)
bind_ok (Ok x) f y e = (x, refl, e)
bind_ok (Err d) f y e = absurd cc

pub bind_err : {A B E : Type 0} (r : Result A E) (f : A → Result B E) (d : E) → (r >>= f) ≡ Err d → (r ≡ Err d) ⊎ ((x : A) × (r ≡ Ok x) × (f x ≡ Err d))
bind_err (Ok x) f d e = inr (x, refl, e)
bind_err (Err c) f d e = inl cc

-- the same first token, or none
abbrev pub SameHead : {T : Type 0} → List T → List T → Type 0
SameHead [] [] = Unit {0}
SameHead (t ∷ ts) (u ∷ us) = t ≡ u
SameHead _ _ = ⊥

pub same_after : {T : Type 0} → (pre u v : List T) → SameHead u v → SameHead (pre ++ u) (pre ++ v)
same_after [] u v h = h
same_after (t ∷ pre) u v h = refl

pub same_self : {T : Type 0} → (u : List T) → SameHead u u
same_self [] = tt
same_self (t ∷ u) = refl

pub same_head : {T : Type 0} → (p : T → Bool) (u v : List T) → SameHead u v → head p u ≡ head p v
same_head p [] [] h = refl
same_head p (t ∷ ts) (u ∷ us) h = ap p h
same_head p [] (u ∷ us) h = absurd h
same_head p (t ∷ ts) [] h = absurd h

pub or_parts : (a b : Bool) → (a || b) ≡ false → (a ≡ false) × (b ≡ false)
or_parts true b e = absurd cc
or_parts false b e = (refl, e)

pub head_or : {T : Type 0} → (p q : T → Bool) (ts : List T) → head (λ t. p t || q t) ts ≡ false → (head p ts ≡ false) × (head q ts ≡ false)
head_or p q [] e = (refl, refl)
head_or p q (t ∷ ts) e = or_parts (p t) (q t) e

pub head_and : {T : Type 0} → (b : Bool) (q : T → Bool) (ts : List T) → b ≡ true → head (λ t. b && q t) ts ≡ false → head q ts ≡ false
head_and b q [] h e = refl
head_and true q (t ∷ ts) h e = e
head_and false q (t ∷ ts) h e = absurd cc

pub head_apart : {T : Type 0} → (p q : T → Bool) (ts : List T) → ((t : T) → p t ≡ true → q t ≡ false) → head p ts ≡ true → head q ts ≡ false
head_apart p q [] h e = absurd cc
head_apart p q (t ∷ ts) h e = h t e

-- what begins as either does
pub head_left : {T : Type 0} → (p q : T → Bool) (ts : List T) → head p ts ≡ true → head (λ t. p t || q t) ts ≡ true
head_left p q [] e = e
head_left p q (t ∷ ts) e = rw e refl

or_true : (a : Bool) → (a || true) ≡ true
or_true true = refl
or_true false = refl

pub head_right : {T : Type 0} → (p q : T → Bool) (b : Bool) (ts : List T) → b ≡ true → head q ts ≡ true → head (λ t. p t || (b && q t)) ts ≡ true
head_right p q b [] h e = e
head_right p q b (t ∷ ts) h e = rw (h, e) (or_true (p t))

pub head_second : {T : Type 0} → (p q : T → Bool) (ts : List T) → head q ts ≡ true → head (λ t. p t || q t) ts ≡ true
head_second p q [] e = e
head_second p q (t ∷ ts) e = rw e (or_true (p t))

pub ok_is : {A E : Type 0} (x y : A) → ◌≡◌ {A = Result A E} (Ok x) (Ok y) → x ≡ y
ok_is x y e = cc

pub err_is : {A E : Type 0} (x y : E) → ◌≡◌ {A = Result A E} (Err x) (Err y) → x ≡ y
err_is x y e = cc

never : (b : Bool) → (b ≡ true → false ≡ true) → b ≡ false
never true h = absurd (let e = h refl in cc)
never false h = refl

pub head_never : {T : Type 0} → (p q : T → Bool) (ts : List T) → ((t : T) → p t ≡ true → q t ≡ true) → head q ts ≡ false → head p ts ≡ false
head_never p q [] h e = refl
head_never p q (t ∷ ts) h e = never (p t) (λ pt. sym e ∙ h t pt)

pub head_within : {T : Type 0} → (p q : T → Bool) (ts : List T) → ((t : T) → p t ≡ true → q t ≡ true) → head p ts ≡ true → head q ts ≡ true
head_within p q [] h e = e
head_within p q (t ∷ ts) h e = h t e
