use Rattle.std.proofs.Common.{◌≡◌, ◌≤◌, ℕ, length, take, get_or, arith, subst, sym, List}
use Rattle.std.proofs.lemmas.List.{get_or_read}
use Rattle.clause_core.specs.declared.literal.Lit.{Lit}
use Rattle.clause_core.specs.Literals.{Within}
use Rattle.sat_prop.specs.Trails.{PlacesMatch}
use Rattle.sat_prop.specs.Trails.{ValuesMatch, StartsRise, StartsIn, DecisionsBegin}
use Rattle.sat_prop.proofs.Ways.{place_take, within_take, up_take, starts_take, roots_take}
use Rattle.sat_prop.proofs.trail.Trail.undo.Goals as goal

pub invariant_of-self-clause-values_ok : goal.invariant_of-self-clause-values_ok
invariant_of-self-clause-values_ok c =
    let s = c.args.self.now in
    let P : List Lit → Type 0 = ValuesMatch c.clear_from.new.values.items in
    let Q : List Lit → Type 0 = λ x. ValuesMatch c.clear_from.new.values.items (take c.index-n.result.now x) in
    subst P (sym c.truncate.ensures.items) (subst Q c.deref.ensures.value c.clear_from.ensures.values)

pub invariant_of-self-clause-placed : goal.invariant_of-self-clause-placed
invariant_of-self-clause-placed c =
    let s = c.args.self.now in
    let n = c.index-n.result.now in
    let en : n ≡ get_or s.level_starts.items c.args.level 0 = get_or_read s.level_starts.items _ _ c.requires c.index-n.ensures 0 in
    let le : n ≤ length s.literals.items = omega (arith, en, s.in_trail c.args.level c.requires) in
    let P : List Lit → Type 0 = λ x. PlacesMatch x s.positions.items in
    subst P (sym c.truncate.ensures.items) (place_take s.literals.items s.positions.items n le s.placed)

pub invariant_of-self-clause-within : goal.invariant_of-self-clause-within
invariant_of-self-clause-within c =
    let s = c.args.self.now in
    let n = c.index-n.result.now in
    let P : ℕ → Type 0 = λ x. Within x (take n s.literals.items) in
    let Q : List Lit → Type 0 = Within (length c.clear_from.new.values.items) in
    subst Q (sym c.truncate.ensures.items) (subst P (sym c.clear_from.ensures.vars) (within_take (length s.values.items) s.literals.items n s.within))

pub invariant_of-self-clause-rising : goal.invariant_of-self-clause-rising
invariant_of-self-clause-rising c =
    let s = c.args.self.now in
    let P : List ℕ → Type 0 = StartsRise in
    subst P (sym c.truncate-2.ensures.items) (up_take s.level_starts.items c.args.level (omega (arith, c.requires)) s.rising)

pub invariant_of-self-clause-in_trail : goal.invariant_of-self-clause-in_trail
invariant_of-self-clause-in_trail c =
    let s = c.args.self.now in
    let n = c.index-n.result.now in
    let en : n ≡ get_or s.level_starts.items c.args.level 0 = get_or_read s.level_starts.items _ _ c.requires c.index-n.ensures 0 in
    let P : List ℕ → Type 0 = λ x. StartsIn x (take n s.literals.items) in
    let Q : List Lit → Type 0 = StartsIn c.truncate-2.new.self.items in
    let R : ℕ → Type 0 = λ m. StartsIn (take c.args.level s.level_starts.items) (take m s.literals.items) in
    subst Q (sym c.truncate.ensures.items) (subst P (sym c.truncate-2.ensures.items)
    (subst R (sym en) (starts_take s.level_starts.items s.literals.items c.args.level c.requires s.rising s.in_trail)))

pub invariant_of-self-clause-roots : goal.invariant_of-self-clause-roots
invariant_of-self-clause-roots c =
    let s = c.args.self.now in
    let n = c.index-n.result.now in
    let en : n ≡ get_or s.level_starts.items c.args.level 0 = get_or_read s.level_starts.items _ _ c.requires c.index-n.ensures 0 in
    let P : List ℕ → Type 0 = λ x. DecisionsBegin (take n s.literals.items) s.reasons.items x in
    let Q : List Lit → Type 0 = λ x. DecisionsBegin x s.reasons.items c.truncate-2.new.self.items in
    let R : ℕ → Type 0 = λ m. DecisionsBegin (take m s.literals.items) s.reasons.items (take c.args.level s.level_starts.items) in
    subst Q (sym c.truncate.ensures.items) (subst P (sym c.truncate-2.ensures.items)
    (subst R (sym en) (roots_take s.level_starts.items s.reasons.items s.literals.items c.args.level c.requires s.rising s.in_trail s.roots)))
