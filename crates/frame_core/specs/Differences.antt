-- Where two systems differ.
use Rattle.std.specs.Prelude.{◌≡◌, ℕ, Bool, true, List, take, slice_get}
use Rattle.clause_core.specs.declared.literal.Lit.{Lit}
use Rattle.clause_core.specs.Systems.{TransitionSystem}
use Rattle.frame_core.specs.declared.comparing.Place.{Place}
use Rattle.frame_core.specs.declared.comparing.Place.TheVariants.{Bits, Init, Step, Bad, Good}

-- the lists are the same up to clause k, and clause k differs or one of them has none
abbrev pub DifferFirstAt : List (List Lit) → List (List Lit) → ℕ → Type 0
DifferFirstAt cs ds k = (take k cs ≡ take k ds) × (slice_get cs k ≡ slice_get ds k → ⊥)

-- the systems have the same numbers of bits, init and step clauses, and where `with_bad` is true the same bad and good
-- clauses
pub record IsSameSystem (with_bad : Bool) (a b : TransitionSystem) : Type 0 where
  pub state_bits : a.state_bits ≡ b.state_bits
  pub all_bits : a.all_bits ≡ b.all_bits
  pub init : a.init ≡ b.init
  pub step : a.step ≡ b.step
  pub bad : with_bad ≡ true → a.bad ≡ b.bad
  pub good : with_bad ≡ true → a.good ≡ b.good

-- the first place at which the systems differ, in the order of the numbers of bits, init, step, bad and good
abbrev pub DifferAt : Bool → TransitionSystem → TransitionSystem → Place → Type 0
DifferAt with_bad a b Bits = (a.state_bits ≡ b.state_bits) × (a.all_bits ≡ b.all_bits) → ⊥
DifferAt with_bad a b (Init k) = (a.state_bits ≡ b.state_bits) × (a.all_bits ≡ b.all_bits) × DifferFirstAt a.init b.init k
DifferAt with_bad a b (Step k) = (a.state_bits ≡ b.state_bits) × (a.all_bits ≡ b.all_bits) × (a.init ≡ b.init) × DifferFirstAt a.step b.step k
DifferAt with_bad a b (Bad k) =
    (with_bad ≡ true) × (a.state_bits ≡ b.state_bits) × (a.all_bits ≡ b.all_bits) × (a.init ≡ b.init) × (a.step ≡ b.step) × DifferFirstAt a.bad b.bad k
DifferAt with_bad a b (Good k) =
    (with_bad ≡ true) × (a.state_bits ≡ b.state_bits) × (a.all_bits ≡ b.all_bits) × (a.init ≡ b.init) × (a.step ≡ b.step) × (a.bad ≡ b.bad)
    × DifferFirstAt a.good b.good k
