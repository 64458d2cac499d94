use Rattle.std.proofs.Common.{take, ◌≤◌, length, List}
use Rattle.clause_core.specs.Systems.{TransitionSystem}
use Rattle.frame_core.specs.declared.parts.Lemma.{Lemma}
use Rattle.frame_history.specs.declared.entries.Limits.{Limits}
use Rattle.frame_history.specs.History.{start, IsLawful}
use Rattle.frame_claims.specs.Apart.{IsScanned}
use Rattle.frame_claims.proofs.apart.are_apart.Given as goal

abbrev pub invariant-entries : goal.invariant-entries
invariant-entries l =
    record {
      within : l.n ≤ length l.history;
      scanned : (limits : Limits) (systems : List TransitionSystem) (carried : List Lemma) → IsLawful limits (start limits systems carried) l.history →
          IsScanned (start limits systems carried) (take l.n l.history) l.made.items l.growth;
    }
