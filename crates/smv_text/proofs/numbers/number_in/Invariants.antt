use Rattle.std.proofs.Common.{◌≡◌, ◌<◌, ◌^◌, drop}
use Rattle.smv_text.specs.Numbers.{number_behind, number_in}
use Rattle.smv_text.proofs.numbers.number_in.Given as goal

abbrev pub invariant-loop-digit : goal.invariant-loop-digit
invariant-loop-digit l = record { fits : l.n < 2 ^ 128; behind : number_behind l.base l.n (drop l.digit-index l.digits) ≡ number_in l.base l.digits }
