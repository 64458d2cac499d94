-- One or two conditions, which are to hold together.
use Rattle.std.specs.Prelude.{◌<◌, ℕ, Bool, true, ◌&&◌, Option, Some, None}
use Rattle.bit_clauses.specs.declared.either.Either.{Either}
use Rattle.bit_clauses.specs.declared.splitting.Split.{Split}
use Rattle.bit_clauses.specs.Asserted.{holds}

-- the condition holds, where there is one
abbrev pub holds_if_any : (ℕ → Bool) → Option Either → Bool
holds_if_any v None = true
holds_if_any v (Some e) = holds v e

-- all of them hold
abbrev pub hold : (ℕ → Bool) → Split → Bool
hold v h = holds v h.first && holds_if_any v h.second

-- both edges lead to nodes below k
abbrev pub EitherBelow : ℕ → Either → Type 0
EitherBelow k e = (e.one.node < k) × (e.other.node < k)

abbrev pub AnyBelow : ℕ → Option Either → Type 0
AnyBelow k None = Unit {0}
AnyBelow k (Some e) = EitherBelow k e

abbrev pub SplitBelow : ℕ → Split → Type 0
SplitBelow k h = EitherBelow k h.first × AnyBelow k h.second
