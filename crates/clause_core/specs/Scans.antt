-- What a scan of one clause says.
use Rattle.std.specs.Prelude.{◌≡◌, Bool, false, List}
use Rattle.clause_core.specs.declared.literal.Lit.{Lit}
use Rattle.clause_core.specs.Literals.{negate}
use Rattle.clause_core.specs.Propagation.{AllFalse, UnitIn, Settled}
use Rattle.clause_core.specs.declared.scanning.Scan.{Scan}
use Rattle.clause_core.specs.declared.scanning.Scan.TheVariants.{False, UnitOn, Rest}

-- each literal is false; or all but an unset one are; or unit propagation has nothing to do at the clause
abbrev pub ScanSays : (Lit → Bool) → List Lit → Scan → Type 0
ScanSays t c False = AllFalse t c
ScanSays t c (UnitOn l) = UnitIn t c l × (t l ≡ false) × (t (negate l) ≡ false)
ScanSays t c Rest = Settled t c
