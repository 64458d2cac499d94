-- The state, the inputs and the next state that bits are.
use Rattle.std.specs.Prelude.{◌≡◌, ℕ, Bool}
use Rattle.bit_states.specs.Coding.{decoded}
use Rattle.bit_states.specs.Layouts.{BitLayout}
use Rattle.smv_prepare.specs.declared.decoding.Valuation.{Valuation}

-- so they are, where the layout says which bits
pub record IsValuation (y : BitLayout) (x : ℕ → Bool) (v : Valuation) : Type 0 where
  pub state : v.state ≡ decoded y.state_types y.state x
  pub inputs : v.inputs ≡ decoded y.input_types y.inputs x
  pub next : v.next ≡ decoded y.state_types y.next x
