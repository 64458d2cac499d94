-- What the bits beside a run have to meet, one bit for each temporal operator of a formula: the
-- tableau of a formula with past (Lichtenstein, Pnueli and Zuck 1985; Schneider 2001).
use Rattle.std.specs.Prelude.{ℕ, ◌+◌, ◌-◌, ◌<◌, ◌≤◌, ◌≡◌, Bool, true, false, not, ◌&&◌, ◌||◌, List, [], ◌∷◌, ◌++◌, map}
use Rattle.ltl_meaning.specs.declared.node.UnaryOperator.{UnaryOperator}
use Rattle.ltl_meaning.specs.declared.node.BinaryOperator.{BinaryOperator}
use Rattle.ltl_meaning.specs.Ltl.{Ltl}

-- what one state shows: which atoms are true, and its bits
pub record Side : Type 0 where
  pub atom : ℕ → Bool
  pub bit : ℕ → Bool

-- 1 for a temporal operator, which has a bit of its own, else 0
abbrev pub unary_bits : UnaryOperator → ℕ
unary_bits UnaryOperator.Not = 0
unary_bits UnaryOperator.Next = 1
unary_bits UnaryOperator.Finally = 1
unary_bits UnaryOperator.Globally = 1
unary_bits UnaryOperator.Yesterday = 1
unary_bits UnaryOperator.WeakYesterday = 1
unary_bits UnaryOperator.Once = 1
unary_bits UnaryOperator.Historically = 1
unary_bits UnaryOperator.NowOrNext = 1
unary_bits UnaryOperator.NowAndNext = 1
unary_bits UnaryOperator.NowOrBefore = 1
unary_bits UnaryOperator.NowAndBefore = 1

abbrev pub binary_bits : BinaryOperator → ℕ
binary_bits BinaryOperator.And = 0
binary_bits BinaryOperator.Or = 0
binary_bits BinaryOperator.Xor = 0
binary_bits BinaryOperator.Xnor = 0
binary_bits BinaryOperator.Implies = 0
binary_bits BinaryOperator.Iff = 0
binary_bits BinaryOperator.Until = 1
binary_bits BinaryOperator.Releases = 1
binary_bits BinaryOperator.Since = 1
binary_bits BinaryOperator.Triggered = 1

-- how many bits a formula has: its operands', then its operator's own
abbrev pub nodes : Ltl → ℕ
nodes (Ltl.Constant b) = 0
nodes (Ltl.Atom a) = 0
nodes (Ltl.Unary o f) = nodes f + unary_bits o
nodes (Ltl.Binary o f g) = nodes f + (nodes g + binary_bits o)

-- an operator's truth, from its own bit and its operands' truth
abbrev pub unary_now : UnaryOperator → Bool → Bool → Bool
unary_now UnaryOperator.Not bit p = not p
unary_now UnaryOperator.Next bit p = bit
unary_now UnaryOperator.Finally bit p = bit
unary_now UnaryOperator.Globally bit p = bit
unary_now UnaryOperator.Yesterday bit p = bit
unary_now UnaryOperator.WeakYesterday bit p = bit
unary_now UnaryOperator.Once bit p = bit
unary_now UnaryOperator.Historically bit p = bit
unary_now UnaryOperator.NowOrNext bit p = bit
unary_now UnaryOperator.NowAndNext bit p = bit
unary_now UnaryOperator.NowOrBefore bit p = bit
unary_now UnaryOperator.NowAndBefore bit p = bit

-- whether two are the same
abbrev pub same : Bool → Bool → Bool
same true q = q
same false q = not q

abbrev pub binary_now : BinaryOperator → Bool → Bool → Bool → Bool
binary_now BinaryOperator.And bit p q = p && q
binary_now BinaryOperator.Or bit p q = p || q
binary_now BinaryOperator.Xor bit p q = not (same p q)
binary_now BinaryOperator.Xnor bit p q = same p q
binary_now BinaryOperator.Implies bit p q = not p || q
binary_now BinaryOperator.Iff bit p q = same p q
binary_now BinaryOperator.Until bit p q = bit
binary_now BinaryOperator.Releases bit p q = bit
binary_now BinaryOperator.Since bit p q = bit
binary_now BinaryOperator.Triggered bit p q = bit

-- a formula's truth by the bits, where its first bit is at n
abbrev pub truth : Ltl → ℕ → Side → Bool
truth (Ltl.Constant b) n s = b
truth (Ltl.Atom a) n s = s.atom a
truth (Ltl.Unary o f) n s = unary_now o (s.bit (n + nodes f)) (truth f n s)
truth (Ltl.Binary o f g) n s =
    binary_now o (s.bit (n + nodes f + nodes g)) (truth f n s) (truth g (n + nodes f) s)

-- an operator's rule for a step, over its bit and its operands' truth, before it and after
abbrev pub unary_row : UnaryOperator → Bool → Bool → Bool → Bool → Type 0
unary_row UnaryOperator.Not bit bit' p p' = Unit {0}
unary_row UnaryOperator.Next bit bit' p p' = bit ≡ p'
unary_row UnaryOperator.Finally bit bit' p p' = bit ≡ (p || bit')
unary_row UnaryOperator.Globally bit bit' p p' = bit ≡ (p && bit')
unary_row UnaryOperator.Yesterday bit bit' p p' = bit' ≡ p
unary_row UnaryOperator.WeakYesterday bit bit' p p' = bit' ≡ p
unary_row UnaryOperator.Once bit bit' p p' = bit' ≡ (p' || bit)
unary_row UnaryOperator.Historically bit bit' p p' = bit' ≡ (p' && bit)
unary_row UnaryOperator.NowOrNext bit bit' p p' = bit ≡ (p || p')
unary_row UnaryOperator.NowAndNext bit bit' p p' = bit ≡ (p && p')
unary_row UnaryOperator.NowOrBefore bit bit' p p' = bit' ≡ (p' || p)
unary_row UnaryOperator.NowAndBefore bit bit' p p' = bit' ≡ (p' && p)

abbrev pub binary_row : BinaryOperator → Bool → Bool → Bool → Bool → Bool → Bool → Type 0
binary_row BinaryOperator.And bit bit' p q p' q' = Unit {0}
binary_row BinaryOperator.Or bit bit' p q p' q' = Unit {0}
binary_row BinaryOperator.Xor bit bit' p q p' q' = Unit {0}
binary_row BinaryOperator.Xnor bit bit' p q p' q' = Unit {0}
binary_row BinaryOperator.Implies bit bit' p q p' q' = Unit {0}
binary_row BinaryOperator.Iff bit bit' p q p' q' = Unit {0}
binary_row BinaryOperator.Until bit bit' p q p' q' = bit ≡ (q || (p && bit'))
binary_row BinaryOperator.Releases bit bit' p q p' q' = bit ≡ (q && (p || bit'))
binary_row BinaryOperator.Since bit bit' p q p' q' = bit' ≡ (q' || (p' && bit))
binary_row BinaryOperator.Triggered bit bit' p q p' q' = bit' ≡ (q' && (p' || bit))

-- the rules of a step from s to t
abbrev pub rows : Ltl → ℕ → Side → Side → Type 0
rows (Ltl.Constant b) n s t = Unit {0}
rows (Ltl.Atom a) n s t = Unit {0}
rows (Ltl.Unary o f) n s t =
    unary_row o (s.bit (n + nodes f)) (t.bit (n + nodes f)) (truth f n s) (truth f n t) × rows f n s t
rows (Ltl.Binary o f g) n s t =
    binary_row o (s.bit (n + nodes f + nodes g)) (t.bit (n + nodes f + nodes g)) (truth f n s) (truth g (n + nodes f) s)
    (truth f n t) (truth g (n + nodes f) t)
    × rows f n s t × rows g (n + nodes f) s t

-- an operator's rule for an initial state
abbrev pub unary_start : UnaryOperator → Bool → Bool → Type 0
unary_start UnaryOperator.Not bit p = Unit {0}
unary_start UnaryOperator.Next bit p = Unit {0}
unary_start UnaryOperator.Finally bit p = Unit {0}
unary_start UnaryOperator.Globally bit p = Unit {0}
unary_start UnaryOperator.Yesterday bit p = bit ≡ false
unary_start UnaryOperator.WeakYesterday bit p = bit ≡ true
unary_start UnaryOperator.Once bit p = bit ≡ p
unary_start UnaryOperator.Historically bit p = bit ≡ p
unary_start UnaryOperator.NowOrNext bit p = Unit {0}
unary_start UnaryOperator.NowAndNext bit p = Unit {0}
unary_start UnaryOperator.NowOrBefore bit p = bit ≡ p
unary_start UnaryOperator.NowAndBefore bit p = bit ≡ p

abbrev pub binary_start : BinaryOperator → Bool → Bool → Type 0
binary_start BinaryOperator.And bit q = Unit {0}
binary_start BinaryOperator.Or bit q = Unit {0}
binary_start BinaryOperator.Xor bit q = Unit {0}
binary_start BinaryOperator.Xnor bit q = Unit {0}
binary_start BinaryOperator.Implies bit q = Unit {0}
binary_start BinaryOperator.Iff bit q = Unit {0}
binary_start BinaryOperator.Until bit q = Unit {0}
binary_start BinaryOperator.Releases bit q = Unit {0}
binary_start BinaryOperator.Since bit q = bit ≡ q
binary_start BinaryOperator.Triggered bit q = bit ≡ q

-- the rules of an initial state
abbrev pub starts : Ltl → ℕ → Side → Type 0
starts (Ltl.Constant b) n s = Unit {0}
starts (Ltl.Atom a) n s = Unit {0}
starts (Ltl.Unary o f) n s = unary_start o (s.bit (n + nodes f)) (truth f n s) × starts f n s
starts (Ltl.Binary o f g) n s =
    binary_start o (s.bit (n + nodes f + nodes g)) (truth g (n + nodes f) s) × starts f n s × starts g (n + nodes f) s

-- what has to hold again and again
abbrev pub Set : Type 0
Set = Side → Bool

-- an operator's fairness set, over its bit and its last operand's truth: what is promised comes
abbrev pub unary_sets : UnaryOperator → Set → Set → List Set
unary_sets UnaryOperator.Not bit p = []
unary_sets UnaryOperator.Next bit p = []
unary_sets UnaryOperator.Finally bit p = (λ s. not (bit s) || p s) ∷ []
unary_sets UnaryOperator.Globally bit p = (λ s. bit s || not (p s)) ∷ []
unary_sets UnaryOperator.Yesterday bit p = []
unary_sets UnaryOperator.WeakYesterday bit p = []
unary_sets UnaryOperator.Once bit p = []
unary_sets UnaryOperator.Historically bit p = []
unary_sets UnaryOperator.NowOrNext bit p = []
unary_sets UnaryOperator.NowAndNext bit p = []
unary_sets UnaryOperator.NowOrBefore bit p = []
unary_sets UnaryOperator.NowAndBefore bit p = []

abbrev pub binary_sets : BinaryOperator → Set → Set → List Set
binary_sets BinaryOperator.And bit q = []
binary_sets BinaryOperator.Or bit q = []
binary_sets BinaryOperator.Xor bit q = []
binary_sets BinaryOperator.Xnor bit q = []
binary_sets BinaryOperator.Implies bit q = []
binary_sets BinaryOperator.Iff bit q = []
binary_sets BinaryOperator.Until bit q = (λ s. not (bit s) || q s) ∷ []
binary_sets BinaryOperator.Releases bit q = (λ s. bit s || not (q s)) ∷ []
binary_sets BinaryOperator.Since bit q = []
binary_sets BinaryOperator.Triggered bit q = []

-- a formula's fairness sets
abbrev pub sets : Ltl → ℕ → List Set
sets (Ltl.Constant b) n = []
sets (Ltl.Atom a) n = []
sets (Ltl.Unary o f) n = sets f n ++ unary_sets o (λ s. s.bit (n + nodes f)) (truth f n)
sets (Ltl.Binary o f g) n =
    sets f n ++ (sets g (n + nodes f) ++ binary_sets o (λ s. s.bit (n + nodes f + nodes g)) (truth g (n + nodes f)))

-- each of a list
abbrev pub Each : {X : Type 0} → (X → Type 0) → List X → Type 0
Each P [] = Unit {0}
Each P (x ∷ xs) = P x × Each P xs

-- with the sets of the JUSTICE atoms
abbrev pub all_sets : List ℕ → Ltl → List Set
all_sets justice f = map (λ a s. s.atom a) justice ++ sets f 0

-- a run of n states with bits beside it: they meet the rules, and make the formula false at first
pub record IsMonitored (f : Ltl) (s : ℕ → Side) (n : ℕ) : Type 0 where
  pub steps : (i : ℕ) → i + 1 < n → rows f 0 (s i) (s (i + 1))
  pub first : starts f 0 (s 0)
  pub root : truth f 0 (s 0) ≡ false

-- a set holds in the loop from l on
abbrev pub InLoop : (ℕ → Side) → ℕ → ℕ → Set → Type 0
InLoop s n l z = (j : ℕ) × (l ≤ j) × (j < n) × (z (s j) ≡ true)

-- a monitored lasso of n states that goes on at l, with each set in its loop
pub record IsFairMonitored (justice : List ℕ) (f : Ltl) (s : ℕ → Side) (n l : ℕ) : Type 0 where
  pub run : IsMonitored f s n
  pub back : rows f 0 (s (n - 1)) (s l)
  pub fair : Each (InLoop s n l) (all_sets justice f)
