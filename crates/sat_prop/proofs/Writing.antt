-- The words of a row as they are written one after another.
use Rattle.std.proofs.Common.{◌≡◌, ℕ, ◌<◌, ◌≤◌, ◌+◌, Bool, true, false, List, [], ◌∷◌, ◌++◌, length, take, map, sym, subst, ap, ◌∙◌, arith, cond, append_assoc, length-append}
use Rattle.std.specs.List.{filter}
use Rattle.std.proofs.lemmas.List.{append-nil, map-append, take-append-le, take-take, take_all}
use Rattle.std.proofs.lemmas.List.Elements.{filter_more}
use Rattle.clause_core.specs.declared.literal.Lit.{Lit}
use Rattle.clause_core.specs.Literals.{at, none_lit}
use Rattle.sat_prop.specs.declared.watch.Watches.{Watches}
use Rattle.sat_prop.specs.Watches.{cell}
use Rattle.sat_prop.specs.Packing.{is_beside}

-- one more literal that is neither watch
pub beside_on : (h : Watches) (old words : List ℕ) (c : List Lit) (i : ℕ) → i < length c → is_beside h (at c i) ≡ true →
    words ≡ old ++ map cell (filter (is_beside h) (take i c)) → words ++ cell (at c i) ∷ [] ≡ old ++ map cell (filter (is_beside h) (take (i + 1) c))
beside_on h old words c i lt on same =
    let l = at c i in
    let F = filter (is_beside h) (take i c) in
    let P : Bool → Type 0 = λ b. filter (is_beside h) (take (i + 1) c) ≡ F ++ cond b (l ∷ []) [] in
    let more : P true = subst P on (filter_more (is_beside h) c i none_lit lt) in
    ap (λ v. v ++ cell l ∷ []) same ∙ append_assoc old (map cell F) (cell l ∷ []) ∙ ap (λ v. old ++ v) (sym (map-append cell F (l ∷ []))) ∙ ap (λ v. old ++ map cell v) (sym more)

-- one more that is a watch
pub beside_off : (h : Watches) (old words : List ℕ) (c : List Lit) (i : ℕ) → i < length c → is_beside h (at c i) ≡ false →
    words ≡ old ++ map cell (filter (is_beside h) (take i c)) → words ≡ old ++ map cell (filter (is_beside h) (take (i + 1) c))
beside_off h old words c i lt off same =
    let l = at c i in
    let F = filter (is_beside h) (take i c) in
    let P : Bool → Type 0 = λ b. filter (is_beside h) (take (i + 1) c) ≡ F ++ cond b (l ∷ []) [] in
    let more : P false = subst P off (filter_more (is_beside h) c i none_lit lt) in
    same ∙ ap (λ v. old ++ map cell v) (sym (more ∙ append-nil F))

-- what was written first stands at the front
pub front_kept : (words more new : List ℕ) → new ≡ words ++ more → take (length words) new ≡ words
front_kept words more new e =
    ap (take (length words)) e ∙ take-append-le (length words) words more (omega arith) ∙ take_all (length words) words (omega arith)

pub front_kept_on : (words more mid new : List ℕ) → mid ≡ words ++ more → take (length mid) new ≡ mid → take (length words) new ≡ words
front_kept_on words more mid new e kept =
    let le : length words ≤ length mid = omega (arith, ap length e, length-append words more) in
    sym (take-take (length words) (length mid) new le) ∙ ap (take (length words)) kept ∙ front_kept words more mid e
