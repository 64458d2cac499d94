-- What less effort finds is right by more of it, too.
use Rattle.std.proofs.Common.{◌≡◌, ℕ, ◌≤◌, false, List, [], subst, arith}
use Rattle.clause_core.specs.declared.literal.Lit.{Lit}
use Rattle.clause_core.specs.Systems.{TransitionSystem}
use Rattle.frame_history.specs.declared.entries.Limits.{Limits}
use Rattle.ltl_meaning.specs.Ltl.{Ltl}
use Rattle.prove_ltl.specs.declared.answers.LtlAnswer.{LtlAnswer}
use Rattle.prove_ltl.specs.declared.answers.LtlAnswer.TheVariants.{True, False, Unknown}
use Rattle.prove_ltl.specs.declared.answers.LtlDone.{LtlDone}
use Rattle.prove_ltl.specs.declared.effort.LtlEffort.{LtlEffort}
use Rattle.prove_ltl.specs.Climbing.{IsDoneFor}
use Rattle.prove_ltl.specs.Early.{is_unknown}
use Rattle.prove_ltl.specs.LtlAnswers.{IsLtlCertificate, IsLtlLog, IsLtlRight, LtlLog}
use Rattle.prove_ltl.specs.Rungs.{AreRungs}
use Rattle.prove_ltl.proofs.Longer.{pays_wider}

module _ (sys : TransitionSystem) (f : Ltl) (atoms : List Lit) (less more : LtlEffort) (bound : less.bound ≤ more.bound) (frames : less.frames ≡ more.frames)
    (counter : less.counter ≡ more.counter) where
  log_so : (log : LtlLog) → IsLtlLog sys f atoms less log → IsLtlLog sys f atoms more log
  log_so log l =
      let limits : ℕ → Limits = λ n. record { frames = n } in
      record {
        monitor = l.monitor;
        gives = l.gives;
        searched = pays_wider log.monitored 0 less.bound 0 more.bound [] log.known [] log.asked log.lassos (omega arith) bound l.searched;
        climbed = subst (λ (n : ℕ). AreRungs log.monitored (limits n) 0 [] log.rungs) frames l.climbed;
      }

  right_so : (log : LtlLog) (a : LtlAnswer) → is_unknown a ≡ false → IsLtlRight sys f atoms less log a → IsLtlRight sys f atoms more log a
  right_so log (True cert) e r = (r.0, subst (λ (k : ℕ). IsLtlCertificate sys f atoms k cert) counter r.1)
  right_so log (False lasso) e r = r
  right_so log (Unknown cause) e r = absurd (let never : ⊥ = cc in never)

-- an answer that is known
pub found_for : (sys : TransitionSystem) (less more : LtlEffort) (m : TransitionSystem) (d : LtlDone) → less.bound ≤ more.bound → less.frames ≡ more.frames →
    less.counter ≡ more.counter → is_unknown d.answer ≡ false → IsDoneFor sys less m d → IsDoneFor sys more m d
found_for sys less more m d bound frames counter known done f atoms ism =
    let x = done f atoms ism in
    record {
      log = x.log;
      so_it_was = log_so sys f atoms less more bound frames counter x.log x.so_it_was;
      kept = x.kept;
      right = right_so sys f atoms less more bound frames counter x.log d.answer known x.right;
    }
