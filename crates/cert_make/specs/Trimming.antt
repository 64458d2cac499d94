-- A certificate without the shared steps that no part needs.
use Rattle.std.specs.Prelude.{◌≡◌}
use Rattle.cert_core.specs.Blocks.{Block}

-- the same form, the same counter and the same clauses, whatever the parts are
pub record IsOfClausesOf (old new : Block) : Type 0 where
  pub form : new.form ≡ old.form
  pub counter : new.counter ≡ old.counter
  pub clauses : new.clauses ≡ old.clauses
