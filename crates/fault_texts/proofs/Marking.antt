-- What marks are after nodes were marked.
use Rattle.std.proofs.Common.{◌≡◌, inl, inr, ℕ, ◌+◌, ◌<◌, ◌≤◌, ◌==◌, Bool, true, false, ◌&&◌, ◌||◌, nat_lt, nat_le, List, length, set, refl, sym, ap, subst, ◌∙◌, arith, length-set, get_or-set_same, get_or-set_other}
use Rattle.std.proofs.lemmas.Bool.{cases_eq, cases_lt, cases_order, eq-eqb, ne_eqb, lt-ltb, le-ltb, le-leb, lt-leb, and_from, and_left, and_right, or_right}
use Rattle.fault_texts.specs.Marks.{Marks, mark}

or_none : (x : Bool) → x ≡ (x || false)
or_none true = refl
or_none false = refl

or_not : (x y : Bool) → y ≡ false → x ≡ (x || y)
or_not x y e = or_none x ∙ ap (λ b. x || b) (sym e)

-- where nothing passes the test, nothing is marked
pub nothing_marked : (test : ℕ → Bool) (marks : List Bool) → ((j : ℕ) → test j ≡ false) → Marks test marks marks
nothing_marked test marks none = record { long = refl; marks = λ j. or_not (mark marks j) (test j) (none j) }

-- one more test is one more step
pub marked_too : (first second : ℕ → Bool) (old mid new : List Bool) → Marks first old mid → Marks second mid new → Marks (λ j. first j || second j) old new
marked_too first second old mid new a b = record {
  long = b.long ∙ a.long;
  marks = λ j. b.marks j ∙ ap (λ x. x || second j) (a.marks j) ∙ regroup (mark old j) (first j) (second j);
}
  where
    regroup : (x y z : Bool) → ((x || y) || z) ≡ (x || (y || z))
    regroup true y z = refl
    regroup false y z = refl

-- the same test by other words
pub marked_as : (first second : ℕ → Bool) (old new : List Bool) → ((j : ℕ) → first j ≡ second j) → Marks first old new → Marks second old new
marked_as first second old new same a = record { long = a.long; marks = λ j. a.marks j ∙ ap (λ x. mark old j || x) (same j) }

-- one node is marked
pub one_marked : (marks : List Bool) (k a : ℕ) → a < k → k ≤ length marks → Marks (λ j. nat_lt j k && j == a) marks (set marks a true)
one_marked marks k a less within = record {
  long = length-set marks a true;
  marks = λ j. elim (cases_eq j a) [
    | inl same ↦
        let P : ℕ → Type 0 = λ i. mark (set marks a true) i ≡ (mark marks i || (nat_lt i k && i == a)) in
        let here : mark (set marks a true) a ≡ true = get_or-set_same marks a true false (omega arith) in
        let passes : (nat_lt a k && a == a) ≡ true = and_from (nat_lt a k) (a == a) (lt-ltb a k less) (eq-eqb a a refl) in
        at_same P j a same (here ∙ sym (or_right (mark marks a) (nat_lt a k && a == a) passes))
    | inr other ↦
        get_or-set_other marks a j true false other
        ∙ or_not (mark marks j) (nat_lt j k && j == a) (and_right (nat_lt j k) (j == a) (ne_eqb j a other))
  ];
}
  where
    at_same : (P : ℕ → Type 0) (j a : ℕ) → j ≡ a → P a → P j
    at_same P j a e h = subst P (sym e) h

-- a node that does not stand before number k is not marked
pub none_marked : (marks : List Bool) (k a : ℕ) → k ≤ a → Marks (λ j. nat_lt j k && j == a) marks marks
none_marked marks k a ge = nothing_marked (λ j. nat_lt j k && j == a) marks (λ j. elim (cases_eq j a) [
  | inl same ↦ and_left (nat_lt j k) (j == a) (le-ltb j k (omega arith))
  | inr other ↦ and_right (nat_lt j k) (j == a) (ne_eqb j a other)
])

-- two nodes are marked
pub two_marked : (old mid new : List Bool) (k a b : ℕ) → Marks (λ j. nat_lt j k && j == a) old mid → Marks (λ j. nat_lt j k && j == b) mid new
    → Marks (λ j. nat_lt j k && (j == a || j == b)) old new
two_marked old mid new k a b first second =
    marked_as (λ j. (nat_lt j k && j == a) || (nat_lt j k && j == b)) (λ j. nat_lt j k && (j == a || j == b)) old new
    (λ j. distributed (nat_lt j k) (j == a) (j == b))
    (marked_too (λ j. nat_lt j k && j == a) (λ j. nat_lt j k && j == b) old mid new first second)
  where
    distributed : (x y z : Bool) → ((x && y) || (x && z)) ≡ (x && (y || z))
    distributed true y z = refl
    distributed false y z = refl

-- these numbers, from the first up to the second
abbrev pub is_between : ℕ → ℕ → ℕ → Bool
is_between first end j = nat_lt j end && nat_le first j

pub none_between : (first : ℕ) (marks : List Bool) → Marks (is_between first first) marks marks
none_between first marks = nothing_marked (is_between first first) marks (λ j. elim (cases_lt j first) [
  | inl less ↦ and_right (nat_lt j first) (nat_le first j) (lt-leb first j less)
  | inr ge ↦ and_left (nat_lt j first) (nat_le first j) (le-ltb j first ge)
])

-- one number more is marked
pub more_between : (first j : ℕ) (old now : List Bool) → first ≤ j → j < length now → Marks (is_between first j) old now → Marks (is_between first (j + 1)) old (set now j true)
more_between first j old now le within h = record {
  long = length-set now j true ∙ h.long;
  marks = λ i. elim (cases_order i j) [
    | inl same ↦
        let P : ℕ → Type 0 = λ n. mark (set now j true) n ≡ (mark old n || is_between first (j + 1) n) in
        let here : mark (set now j true) j ≡ true = get_or-set_same now j true false within in
        let passes : is_between first (j + 1) j ≡ true = and_from (nat_lt j (j + 1)) (nat_le first j) (lt-ltb j (j + 1) (omega arith)) (le-leb first j le) in
        subst P (sym same) (here ∙ sym (or_right (mark old j) (is_between first (j + 1) j) passes))
    | inr other ↦ elim other [
      | inl less ↦
          get_or-set_other now j i true false (λ e. absurd (omega (arith, less, e))) ∙ h.marks i
          ∙ ap (λ b. mark old i || (b && nat_le first i)) (lt-ltb i j less ∙ sym (lt-ltb i (j + 1) (omega (arith, less))))
      | inr more ↦
          get_or-set_other now j i true false (λ e. absurd (omega (arith, more, e))) ∙ h.marks i
          ∙ ap (λ b. mark old i || (b && nat_le first i)) (le-ltb i j (omega (arith, more)) ∙ sym (le-ltb i (j + 1) (omega (arith, more))))
    ]
  ];
}
