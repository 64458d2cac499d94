use Rattle.std.proofs.Common.{◌≡◌, ◌<◌, false, length, List, ◌+◌, ◌-◌, take, get_or, arith, subst, sym, ◌≤◌, ℕ}
use Rattle.std.specs.List.{All}
use Rattle.std.proofs.lemmas.List.Elements.{All-weaker}
use Rattle.clause_core.specs.declared.literal.Lit.{Lit}
use Rattle.clause_core.specs.Propagation.{Settled}
use Rattle.clause_core.specs.Literals.{Within, at, negate}
use Rattle.sat_prop.specs.declared.trail.Trail.{Trail}
use Rattle.sat_prop.specs.Trails.{is_literal, among, AtRest}
use Rattle.sat_core.specs.Searching.{learned_clause, LearnedFrom, decided}
use Rattle.sat_core.proofs.Reasons.{floor_read}
use Rattle.sat_core.proofs.Learns.{settled_open, learned_within, learned_from, learned_settled, learned_watch}
use Rattle.sat_core.proofs.learn.analyze.Goals as goal

pub places_of-requires-clause-floor : goal.places_of-requires-clause-floor
places_of-requires-clause-floor g c =
    let t = g.P.Propagator.trail c.args.inner.now in
    floor_read c.assignment-trail.result.now t c.len.result c.index-floor.result.now c.assignment-trail.ensures c.len.ensures c.index-floor.ensures c.requires.level

pub places_of-requires-clause-open : goal.places_of-requires-clause-open
places_of-requires-clause-open g c all =
    let t = g.P.Propagator.trail c.args.inner.now in
    let cs = g.P.Propagator.clauses c.args.inner.now in
    let floor = c.index-floor.result.now in
    let i = length t.level_starts.items - 1 in
    let start : floor ≡ get_or t.level_starts.items i 0 = floor_read c.assignment-trail.result.now t c.len.result floor c.assignment-trail.ensures c.len.ensures c.index-floor.ensures c.requires.level in
    let R : ℕ → Type 0 = λ s. AtRest cs (take s t.literals.items) in
    let rest : R floor = subst R (sym start) (c.requires.rest i (omega (arith, c.requires.level))) in
    settled_open t.literals.items cs c.args.k floor c.requires.conflict.0 rest all

pub learned_at-requires-clause-level : goal.learned_at-requires-clause-level
learned_at-requires-clause-level g c =
    let P : Trail → Type 0 = λ x. 0 < length x.level_starts.items in
    subst P (sym c.assignment-trail.ensures) c.requires.level

pub learned_at-requires-clause-in_trail : goal.learned_at-requires-clause-in_trail
learned_at-requires-clause-in_trail g c =
    let P : Trail → Type 0 = λ x. c.in_ok-places.places.point < length x.literals.items in
    subst P (sym c.assignment-trail.ensures) c.in_ok-places.ensures.in_trail

pub learned_at-requires-clause-others_in : goal.learned_at-requires-clause-others_in
learned_at-requires-clause-others_in g c =
    let others = c.in_ok-places.places.others.items in
    let t' = g.P.Propagator.trail c.args.inner.now in
    let floor' = c.index-floor.result.now in
    let i' = length t'.level_starts.items - 1 in
    let start' : floor' ≡ get_or t'.level_starts.items i' 0 = floor_read c.assignment-trail.result.now t' c.len.result floor' c.assignment-trail.ensures c.len.ensures c.index-floor.ensures c.requires.level in
    let in_trail : floor' < length t'.literals.items = omega (arith, start', t'.in_trail i' (omega (arith, c.requires.level))) in
    let lows : All (λ q. q < length t'.literals.items) others =
    All-weaker (λ q. q < floor') (λ q. q < length t'.literals.items) (λ q before. omega (arith, before, in_trail)) others c.in_ok-places.ensures.below in
    let P : Trail → Type 0 = λ x. All (λ q. q < length x.literals.items) others in
    subst P (sym c.assignment-trail.ensures) lows

pub returns-clause-within : goal.returns-clause-within
returns-clause-within g c =
    let t = g.P.Propagator.trail c.args.inner.now in
    let point = c.in_ok-places.places.point in
    let others = c.in_ok-places.places.others.items in
    let C : Trail → Type 0 = λ x. c.in_ok-learned.learned.clause.items ≡ learned_clause x.literals.items point others in
    let clause : C t = subst C c.assignment-trail.ensures c.in_ok-learned.ensures.clause in
    let t' = g.P.Propagator.trail c.args.inner.now in
    let floor' = c.index-floor.result.now in
    let i' = length t'.level_starts.items - 1 in
    let start' : floor' ≡ get_or t'.level_starts.items i' 0 = floor_read c.assignment-trail.result.now t' c.len.result floor' c.assignment-trail.ensures c.len.ensures c.index-floor.ensures c.requires.level in
    let in_trail : floor' < length t'.literals.items = omega (arith, start', t'.in_trail i' (omega (arith, c.requires.level))) in
    let lows : All (λ q. q < length t'.literals.items) others =
    All-weaker (λ q. q < floor') (λ q. q < length t'.literals.items) (λ q before. omega (arith, before, in_trail)) others c.in_ok-places.ensures.below in
    let P : List Lit → Type 0 = Within (length t.values.items) in
    subst P (sym clause) (learned_within (length t.values.items) point t.literals.items others t.within c.in_ok-places.ensures.in_trail lows)

pub returns-clause-learned : goal.returns-clause-learned
returns-clause-learned g c =
    let t = g.P.Propagator.trail c.args.inner.now in
    let cs = g.P.Propagator.clauses c.args.inner.now in
    let point = c.in_ok-places.places.point in
    let others = c.in_ok-places.places.others.items in
    let floor = c.index-floor.result.now in
    let i = length t.level_starts.items - 1 in
    let start : floor ≡ get_or t.level_starts.items i 0 = floor_read c.assignment-trail.result.now t c.len.result floor c.assignment-trail.ensures c.len.ensures c.index-floor.ensures c.requires.level in
    let C : Trail → Type 0 = λ x. c.in_ok-learned.learned.clause.items ≡ learned_clause x.literals.items point others in
    let clause : C t = subst C c.assignment-trail.ensures c.in_ok-learned.ensures.clause in
    let said = c.in_ok-places.ensures in
    let P : List Lit → Type 0 = LearnedFrom cs (decided t.literals.items t.level_starts.items) in
    subst P (sym clause) (learned_from t cs c.args.k point i floor others (g.met.P.Propagator.based c.args.inner.now) c.requires.conflict.0 c.requires.conflict.1 c.requires.rest
    (omega (arith, c.requires.level)) start said.places said.last said.in_trail said.below)

pub returns-clause-level_in : goal.returns-clause-level_in
returns-clause-level_in g c =
    let P : Trail → Type 0 = λ x. c.in_ok-learned.learned.backjump_level < length x.level_starts.items in
    subst P c.assignment-trail.ensures c.in_ok-learned.ensures.level_in

pub returns-clause-settled : goal.returns-clause-settled
returns-clause-settled g c i' below =
    let t = g.P.Propagator.trail c.args.inner.now in
    let learned = c.in_ok-learned.learned in
    let point = c.in_ok-places.places.point in
    let others = c.in_ok-places.places.others.items in
    let floor = c.index-floor.result.now in
    let i = length t.level_starts.items - 1 in
    let start : floor ≡ get_or t.level_starts.items i 0 = floor_read c.assignment-trail.result.now t c.len.result floor c.assignment-trail.ensures c.len.ensures c.index-floor.ensures c.requires.level in
    let C : Trail → Type 0 = λ x. c.in_ok-learned.learned.clause.items ≡ learned_clause x.literals.items point others in
    let clause : C t = subst C c.assignment-trail.ensures c.in_ok-learned.ensures.clause in
    let said = c.in_ok-places.ensures in
    let last : i < length t.level_starts.items = omega (arith, c.requires.level) in
    let in_trail : floor < length t.literals.items = omega (arith, start, t.in_trail i last) in
    let S : Trail → Type 0 = λ x. (j : ℕ) × (learned.second_watch ≡ j + 1) × (j < length others) × (get_or x.level_starts.items i' 0 ≤ get_or others j 0) in
    let seen : S t = subst S c.assignment-trail.ensures (c.in_ok-learned.ensures.seen i' below) in
    let L : Trail → Type 0 = λ x. learned.backjump_level < length x.level_starts.items in
    let level_in : L t = subst L c.assignment-trail.ensures c.in_ok-learned.ensures.level_in in
    let before : i' < i = omega (arith, below, level_in) in
    let s = get_or t.level_starts.items i' 0 in
    let P : List Lit → Type 0 = Settled (among (take s t.literals.items)) in
    subst P (sym clause) (learned_settled t point floor s seen.0 others said.last said.in_trail in_trail (omega (arith, start, t.rising i' i before last)) said.below seen.2 seen.3)

pub returns-clause-watch : goal.returns-clause-watch
returns-clause-watch g c i' below =
    let t = g.P.Propagator.trail c.args.inner.now in
    let learned = c.in_ok-learned.learned in
    let point = c.in_ok-places.places.point in
    let others = c.in_ok-places.places.others.items in
    let floor = c.index-floor.result.now in
    let i = length t.level_starts.items - 1 in
    let start : floor ≡ get_or t.level_starts.items i 0 = floor_read c.assignment-trail.result.now t c.len.result floor c.assignment-trail.ensures c.len.ensures c.index-floor.ensures c.requires.level in
    let C : Trail → Type 0 = λ x. c.in_ok-learned.learned.clause.items ≡ learned_clause x.literals.items point others in
    let clause : C t = subst C c.assignment-trail.ensures c.in_ok-learned.ensures.clause in
    let said = c.in_ok-places.ensures in
    let last : i < length t.level_starts.items = omega (arith, c.requires.level) in
    let in_trail : floor < length t.literals.items = omega (arith, start, t.in_trail i last) in
    let S : Trail → Type 0 = λ x. (j : ℕ) × (learned.second_watch ≡ j + 1) × (j < length others) × (get_or x.level_starts.items i' 0 ≤ get_or others j 0) in
    let seen : S t = subst S c.assignment-trail.ensures (c.in_ok-learned.ensures.seen i' below) in
    let L : Trail → Type 0 = λ x. learned.backjump_level < length x.level_starts.items in
    let level_in : L t = subst L c.assignment-trail.ensures c.in_ok-learned.ensures.level_in in
    let before : i' < i = omega (arith, below, level_in) in
    let s = get_or t.level_starts.items i' 0 in
    let P : List Lit → ℕ → Type 0 = λ x w. (w < length x) × (is_literal (at x 0) (at x w) ≡ false) × (among (take s t.literals.items) (negate (at x 0)) ≡ false)
    × (among (take s t.literals.items) (negate (at x w)) ≡ false) in
    let Q : ℕ → Type 0 = P learned.clause.items in
    let R : List Lit → Type 0 = λ x. P x (seen.0 + 1) in
    subst Q (sym seen.1) (subst R (sym clause)
    (learned_watch t point floor s seen.0 others said.last said.in_trail in_trail (omega (arith, start, t.rising i' i before last)) said.below seen.2 seen.3))
