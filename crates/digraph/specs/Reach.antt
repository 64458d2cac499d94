-- What a node leads to, and where a search from it stands.
use Rattle.std.specs.Prelude.{◌≡◌, ℕ, ◌<◌, ◌≤◌, ◌+◌, ◌*◌, ◌⊎◌, Bool, true, false, List, length, slice_index_or, All, Contains, sum_by}
use Rattle.digraph.specs.Cycles.{Edge, Leads}

-- the flag of a node
abbrev pub seen_at : List Bool → ℕ → Bool
seen_at seen v = slice_index_or seen v false

abbrev pub one : Bool → ℕ
one true = 0
one false = 2

abbrev pub unseen : List Bool → ℕ
unseen seen = sum_by one seen

-- the flags of the nodes that a leads to are raised, and no others
pub record MarksReached (g : List (List ℕ)) (a : ℕ) (seen : List Bool) : Type 0 where
  pub long : length seen ≡ length g
  pub led : (v : ℕ) → seen_at seen v ≡ true → Leads g a v
  pub others : (v : ℕ) → seen_at seen v ≡ false → Leads g a v → ⊥

-- these nodes are seen too, and each new one is pending
pub record Spread (vs : List ℕ) (seen : List Bool) (pending : List ℕ) (after : List Bool) (waiting : List ℕ) : Type 0 where
  pub long : length after ≡ length seen
  pub stays : (v : ℕ) → seen_at seen v ≡ true → seen_at after v ≡ true
  pub these : All (λ v. seen_at after v ≡ true) vs
  pub only : (v : ℕ) → seen_at after v ≡ true → (seen_at seen v ≡ true) ⊎ Contains vs v
  pub pends : (v : ℕ) → seen_at after v ≡ true → (seen_at seen v ≡ true) ⊎ Contains waiting v
  pub waits : (v : ℕ) → Contains pending v → Contains waiting v
  pub from : (v : ℕ) → Contains waiting v → Contains pending v ⊎ Contains vs v
  pub less : unseen after + length waiting ≤ unseen seen + length pending

-- where the search from a stands
pub record Reached (g : List (List ℕ)) (a : ℕ) (seen : List Bool) (pending : List ℕ) : Type 0 where
  pub long : length seen ≡ length g
  pub led : (v : ℕ) → seen_at seen v ≡ true → Leads g a v
  pub pended : (v : ℕ) → Contains pending v → (v ≡ a) ⊎ Leads g a v
  pub spread : (u : ℕ) → (u ≡ a) ⊎ (seen_at seen u ≡ true) → Contains pending u ⊎ ((v : ℕ) → Edge g u v → seen_at seen v ≡ true)
