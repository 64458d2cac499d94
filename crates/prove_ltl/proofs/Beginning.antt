-- The search of lassos is done, and no counter was begun.
use Rattle.std.proofs.Common.{◌≡◌, ℕ, ◌+◌, Bool, List, [], length, refl, inl, arith}
use Rattle.std.proofs.lemmas.List.Elements.{All-nil}
use Rattle.clause_core.specs.declared.literal.Lit.{Lit}
use Rattle.clause_core.specs.Systems.{TransitionSystem, Gives}
use Rattle.sat_core.specs.Paying.{tickets_in}
use Rattle.lasso_search.specs.Lassos.{Lasso}
use Rattle.lasso_search.specs.declared.searched.Searched.{Searched}
use Rattle.ltl_meaning.specs.Ltl.{Ltl}
use Rattle.ltl_monitor.specs.States.{IsMonitor}
use Rattle.ltl_lassos.specs.Violating.{AreViolating}
use Rattle.prove_ltl.specs.declared.effort.LtlEffort.{LtlEffort}
use Rattle.prove_ltl.specs.declared.answers.LtlAnswer.TheVariants.{False, Unknown}
use Rattle.prove_ltl.specs.Lengths.{IsSearchOpen, PaysLengths, queries_of}
use Rattle.prove_ltl.specs.Searching.{SearchSays}
use Rattle.prove_ltl.specs.Rungs.{IsPassed}
use Rattle.prove_ltl.specs.LtlAnswers.{LtlLog, IsLtlLog, IsLtlSpent, IsLtlDone, limits_of}
use Rattle.prove_ltl.specs.Climbing.{IsClimbing, spent_cause}
use Rattle.prove_ltl.proofs.Ladder.{long_after}
use Rattle.prove_ltl.proofs.Longer.{pays_wider, searched_none}

add_nothing : (x y n : ℕ) → y ≡ 0 + x → y ≡ n → x + 0 + 0 ≡ n
add_nothing x y n a b = omega arith

module _ (sys : TransitionSystem) (f : Ltl) (atoms : List Lit) (effort : LtlEffort) (m : TransitionSystem) (ism : IsMonitor sys f atoms m)
    (gives : Gives m.state_bits m.fair m.defs) (tickets : List ℕ) (over : Bool) (answer : Searched) (s : SearchSays m effort.bound tickets over answer) where
  abbrev pub log : LtlLog
  log = record { monitored = m; lassos = s.log; known = s.known; asked = tickets; rungs = [] }

  is_log : IsLtlLog sys f atoms effort log
  is_log = record { monitor = ism; gives = gives; searched = s.pays; climbed = tt }

  -- a lasso was found
  pub found_done : (r : Lasso) → AreViolating sys f atoms r.rows r.start → IsLtlDone sys f atoms effort [] (False r)
  found_done r violating = record { log = log; so_it_was = is_log; kept = refl; right = violating }

  -- the purse was spent
  pub search_spent : IsSearchOpen m effort.bound s.log → length tickets ≡ effort.conflicts → IsLtlDone sys f atoms effort [] (Unknown (spent_cause effort))
  search_spent open' whole =
      let drawn = long_after [] tickets (tickets_in (queries_of s.log)) s.pays.paid.drawn in
      let spent : IsLtlSpent effort log =
      record { parts = []; left_open = inl (open', refl, refl); all = add_nothing (tickets_in (queries_of s.log)) (length tickets) effort.conflicts drawn whole } in
      record { log = log; so_it_was = is_log; kept = refl; right = (refl, refl, spent) }

  -- the first counter comes next
  pub none_climbing : Gives sys.state_bits sys.fair sys.defs → IsClimbing sys f atoms effort m log 0 [] [] (length tickets)
  none_climbing own =
      record {
        so_it_was = is_log;
        of = refl;
        own = own;
        count = refl;
        lemmas = refl;
        drawn = omega arith;
        passed = All-nil (IsPassed (limits_of effort));
        signals = inl refl;
        kept = refl;
      }

-- no lasso was asked for, and the first counter comes at once
pub unasked : (sys : TransitionSystem) (effort : LtlEffort) (m : TransitionSystem) → Gives sys.state_bits sys.fair sys.defs →
    Gives m.state_bits m.fair m.defs → (f : Ltl) (atoms : List Lit) → IsMonitor sys f atoms m →
    (log : LtlLog) × IsClimbing sys f atoms effort m log 0 [] [] 0
unasked sys effort m own gives f atoms ism =
    let nothing = searched_none m 0 [] [] in
    let pays : PaysLengths m effort.bound [] [] nothing.log = pays_wider m 0 0 0 effort.bound [] [] [] [] nothing.log (omega arith) (omega arith) nothing.pays in
    let nowhere : LtlLog = record { monitored = m; lassos = nothing.log; known = []; asked = []; rungs = [] } in (
      nowhere,
      record {
        so_it_was = record { monitor = ism; gives = gives; searched = pays; climbed = tt };
        of = refl;
        own = own;
        count = refl;
        lemmas = refl;
        drawn = omega arith;
        passed = All-nil (IsPassed (limits_of effort));
        signals = inl refl;
        kept = refl;
      },
    )
