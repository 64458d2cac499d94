use Rattle.std.proofs.Common.{◌≡◌, ◌++◌, ◌∷◌, [], ap, sym, subst, List, ℕ, set, length, length-set, arith, ◌<◌, ◌∙◌}
use Rattle.clause_core.specs.declared.literal.Lit.{Lit}
use Rattle.clause_core.specs.Literals.{Within}
use Rattle.clause_core.specs.Values.{code}
use Rattle.sat_prop.specs.Trails.{Based, PlacesMatch, ValuesMatch, StartsRise, StartsIn, DecisionsBegin}
use Rattle.sat_prop.proofs.Ways.{values_push, place_push, within_push, up_push, in_decide, roots_decide}
use Rattle.sat_prop.proofs.Sweeps.{based_decide}
use Rattle.sat_prop.proofs.trail.Trail.decide.Goals as goal

pub note_literal-requires-clause-positions : goal.note_literal-requires-clause-positions
note_literal-requires-clause-positions c = omega (arith, c.requires.in_range, c.args.self.now.places_len)

pub note_literal-requires-clause-reasons : goal.note_literal-requires-clause-reasons
note_literal-requires-clause-reasons c = omega (arith, c.requires.in_range, c.args.self.now.reasons_len)

pub invariant_of-self-2-clause-values_ok : goal.invariant_of-self-2-clause-values_ok
invariant_of-self-2-clause-values_ok c =
    let s = c.args.self.now in
    let l = c.args.l in
    let P : List ℕ → Type 0 = λ v. ValuesMatch v c.push_decision.new.literals.items in
    let Q : List Lit → Type 0 = ValuesMatch (set s.values.items l.var (code l.positive)) in
    subst P (sym c.note_literal.ensures.values) (subst Q (sym c.in_ok-push_decision.ensures.literals)
    (values_push s.values.items s.literals.items l c.requires.in_range c.requires.off c.requires.off_too s.values_ok))

pub invariant_of-self-2-clause-placed : goal.invariant_of-self-2-clause-placed
invariant_of-self-2-clause-placed c =
    let s = c.args.self.now in
    let l = c.args.l in
    let place : c.len-n.result ≡ length s.literals.items = omega (arith, c.len-n.ensures, s.literals.ok.0) in
    let in_positions : l.var < length s.positions.items = omega (arith, c.requires.in_range, s.places_len) in
    let P : List ℕ → Type 0 = PlacesMatch c.push_decision.new.literals.items in
    let Q : List Lit → Type 0 = λ x. PlacesMatch x (set s.positions.items l.var c.len-n.result) in
    let R : ℕ → Type 0 = λ n. PlacesMatch (s.literals.items ++ l ∷ []) (set s.positions.items l.var n) in
    subst P (sym c.note_literal.ensures.positions) (subst Q (sym c.in_ok-push_decision.ensures.literals) (subst R (sym place)
    (place_push s.values.items s.positions.items s.literals.items l in_positions s.values_ok c.requires.off c.requires.off_too s.placed)))

pub invariant_of-self-2-clause-within : goal.invariant_of-self-2-clause-within
invariant_of-self-2-clause-within c =
    let s = c.args.self.now in
    let l = c.args.l in
    let P : ℕ → Type 0 = λ n. Within n c.push_decision.new.literals.items in
    let Q : List Lit → Type 0 = Within (length s.values.items) in
    let same : length c.note_literal.new.values.items ≡ length s.values.items = ap length c.note_literal.ensures.values ∙ length-set s.values.items l.var (code l.positive) in
    subst P (sym same) (subst Q (sym c.in_ok-push_decision.ensures.literals) (within_push (length s.values.items) s.literals.items l c.requires.in_range s.within))

pub invariant_of-self-2-clause-rising : goal.invariant_of-self-2-clause-rising
invariant_of-self-2-clause-rising c =
    let s = c.args.self.now in
    let P : List ℕ → Type 0 = StartsRise in
    subst P (sym c.in_ok-push_decision.ensures.level_starts) (up_push s.level_starts.items s.literals.items s.rising s.in_trail)

pub invariant_of-self-2-clause-in_trail : goal.invariant_of-self-2-clause-in_trail
invariant_of-self-2-clause-in_trail c =
    let s = c.args.self.now in
    let P : List ℕ → Type 0 = λ x. StartsIn x c.push_decision.new.literals.items in
    let Q : List Lit → Type 0 = StartsIn (s.level_starts.items ++ length s.literals.items ∷ []) in
    subst P (sym c.in_ok-push_decision.ensures.level_starts) (subst Q (sym c.in_ok-push_decision.ensures.literals)
    (in_decide s.level_starts.items s.literals.items c.args.l s.in_trail))

pub invariant_of-self-2-clause-roots : goal.invariant_of-self-2-clause-roots
invariant_of-self-2-clause-roots c =
    let s = c.args.self.now in
    let l = c.args.l in
    let P : List ℕ → Type 0 = λ r. DecisionsBegin c.push_decision.new.literals.items r c.push_decision.new.level_starts.items in
    let Q : List Lit → Type 0 = λ x. DecisionsBegin x (set s.reasons.items l.var 0) c.push_decision.new.level_starts.items in
    let R : List ℕ → Type 0 = DecisionsBegin (s.literals.items ++ l ∷ []) (set s.reasons.items l.var 0) in
    subst P (sym c.note_literal.ensures.reasons) (subst Q (sym c.in_ok-push_decision.ensures.literals) (subst R (sym c.in_ok-push_decision.ensures.level_starts)
    (roots_decide s.values.items s.level_starts.items s.reasons.items s.literals.items l s.values_ok c.requires.off c.requires.off_too s.roots)))

pub returns-clause-based : goal.returns-clause-based
returns-clause-based c cs ok =
    let s = c.args.self.now in
    let l = c.args.l in
    let in_reasons : l.var < length s.reasons.items = omega (arith, c.requires.in_range, s.reasons_len) in
    let P : List ℕ → Type 0 = λ r. Based c.push_decision.new.literals.items r cs in
    let Q : List Lit → Type 0 = λ x. Based x (set s.reasons.items l.var 0) cs in
    subst P (sym c.note_literal.ensures.reasons) (subst Q (sym c.in_ok-push_decision.ensures.literals)
    (based_decide s.values.items s.reasons.items s.literals.items l in_reasons s.values_ok c.requires.off c.requires.off_too cs ok))

pub returns-clause-vars : goal.returns-clause-vars
returns-clause-vars c = ap length c.note_literal.ensures.values ∙ length-set c.args.self.now.values.items c.args.l.var (code c.args.l.positive)
