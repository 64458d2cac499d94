-- The monitored system, put together from the system and the draft of its formula.
use Rattle.std.specs.Prelude.{ℕ, ◌+◌, ◌-◌, ◌*◌, List, [], ◌∷◌, ◌++◌, map}
use Rattle.ltl_meaning.specs.Ltl.{Ltl}
use Rattle.clause_core.specs.declared.literal.Lit.{Lit}
use Rattle.clause_core.specs.Literals.{negate}
use Rattle.clause_core.specs.Systems.{TransitionSystem}
use Rattle.ltl_monitor.specs.declared.layout.Layout.{Layout}
use Rattle.ltl_monitor.specs.declared.layout.Space.{Space}
use Rattle.ltl_monitor.specs.declared.draft.Draft.{Draft}
use Rattle.ltl_monitor.specs.declared.draft.Scene.{Scene}
use Rattle.ltl_monitor.specs.Monitor.{nodes}
use Rattle.ltl_monitor.specs.Drafting.{moved, all_moved, start_added, drafted}

-- the variables of the system, with n bits more
abbrev pub layout_of : TransitionSystem → ℕ → Layout
layout_of sys n = record { given = sys.state_bits; nodes = n; inner = sys.all_bits + 2 * n }

-- the atoms, and after them JUSTICE
abbrev pub scene_of : Layout → TransitionSystem → List Lit → Scene
scene_of p sys atoms =
    record { layout = p; atoms = map (moved p Space.Local) atoms ++ map (moved p Space.Local) sys.fair }

-- the draft of no formula
abbrev pub empty_draft : Layout → TransitionSystem → Draft
empty_draft p sys = record {
  node = 0;
  gate = sys.all_bits + p.nodes;
  defs = all_moved p Space.Local sys.defs;
  starts = [];
  rows = [];
  sets = map (moved p Space.Local) sys.fair;
}

-- the system, with the rules of the draft, and with these bad states and good ones
abbrev pub assembled : Layout → TransitionSystem → List (List Lit) → List (List Lit) → Draft → TransitionSystem
assembled p sys bad good d = record {
  state_bits = p.given + p.nodes;
  all_bits = p.inner + 2 * (d.gate - (p.given + p.nodes));
  init = all_moved p Space.System sys.init ++ all_moved p Space.Now d.defs ++ all_moved p Space.Now d.starts;
  step =
      all_moved p Space.System sys.step ++ all_moved p Space.Now d.defs ++ all_moved p Space.Next d.defs ++ d.rows;
  bad = bad;
  good = good;
  fair = map (moved p Space.Now) d.sets;
  defs = all_moved p Space.Now d.defs;
}

-- the draft of a formula that is false in the first state
abbrev pub draft_of : Layout → TransitionSystem → Ltl → List Lit → Draft
draft_of p sys f atoms =
    let x = drafted (scene_of p sys atoms) f (empty_draft p sys) in start_added ((negate x.lit ∷ []) ∷ []) x.draft

-- the monitored system
abbrev pub monitor_at : Layout → TransitionSystem → Ltl → List Lit → TransitionSystem
monitor_at p sys f atoms =
    assembled p sys (all_moved p Space.System sys.bad) (all_moved p Space.System sys.good) (draft_of p sys f atoms)

abbrev pub monitor_of : TransitionSystem → Ltl → List Lit → TransitionSystem
monitor_of sys f atoms = monitor_at (layout_of sys (nodes f)) sys f atoms
