use Rattle.std.proofs.Common.{◌≡◌, [], length, drop}
use Rattle.frame_core.specs.Copies.{LagsBehind}
use Rattle.frame_core.proofs.lemma_list.Lemmas.follow.Given as goal

abbrev pub invariant-changes : goal.invariant-changes
invariant-changes l = LagsBehind l.lemmas l.changed l.fn.self → LagsBehind l.lemmas (drop l.n-index l.changed) l.self

abbrev pub invariant-adds : goal.invariant-adds
invariant-adds l = LagsBehind l.lemmas l.changed l.fn.self → LagsBehind l.lemmas [] l.self × (length l.self ≡ l.n)
