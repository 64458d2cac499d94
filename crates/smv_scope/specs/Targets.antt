-- What names lead to, as the code holds it.
use Rattle.std.specs.Prelude.{Bool, ◌&&◌, ◌==◌}
use Rattle.std.specs.Bool.{beq}
use Rattle.smv_scope.specs.declared.target.NameTarget.{NameTarget}
use Rattle.smv_scope.specs.declared.target.NameTarget.TheVariants as found
use Rattle.smv_scope.specs.declared.target.Shared.{Shared}
use Rattle.smv_scope.specs.Lookup.{Target}

-- the same with the expression that is lent
abbrev pub seen : NameTarget → Target
seen (found.Variable n) = Target.Variable n
seen (found.Whole i) = Target.Whole i
seen (found.Given at k owner e) = Target.Given at k owner e.now
seen (found.Defined at k e) = Target.Defined at k e.now
seen (found.Symbol n) = Target.Symbol n
seen found.Unknown = Target.Unknown
seen found.TooFar = Target.TooFar

-- two names stand for the same
abbrev pub shared_eq : Shared → Shared → Bool
shared_eq x y = beq x.is_definition y.is_definition && ((x.at == y.at) && (x.number == y.number))
