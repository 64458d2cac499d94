-- The search for a step's hints.
use Rattle.std.proofs.Common.{◌≡◌, ℕ, ◌<◌, Bool, true, false, List, [], ◌∷◌, ◌++◌, length, map, take, get_or, set, refl, sym, subst, inr, append_assoc, MatchBool}
use Rattle.std.specs.List.{All, Contains}
use Rattle.std.proofs.lemmas.List.Elements.{All-contains, Contains-get_or}
use Rattle.clause_core.specs.declared.literal.Lit.{Lit}
use Rattle.clause_core.specs.Literals.{negate, Within}
use Rattle.clause_core.specs.Propagation.{AllFalse, Follows}
use Rattle.clause_core.specs.Values.{holds, code}
use Rattle.clause_core.proofs.Setting.{AllFalse-grows}
use Rattle.hinted_log.specs.Hints.{HintedLog, IsOpen, FollowsBy}
use Rattle.rup_check.specs.Chains.{IsTaut, Matches, Forces, Walks}
use Rattle.rup_check.specs.Searches.{LeadsTo, FoundSays, NextSays}
use Rattle.rup_check.proofs.Rounds.{not_follows}
use Rattle.rup_check.proofs.Walking.{Contains-negate, Chained-from_walks}

pub leads_more : (cs : List (List Lit)) (start found v : List ℕ) (h : ℕ) (l : Lit) → h < length cs → Forces v (get_or cs h []) l →
    LeadsTo cs start found v → LeadsTo cs start (found ++ h ∷ []) (set v l.var (code l.positive))
leads_more cs start found v h l lt f leads rest walk =
    let P : List ℕ → Type 0 = Walks cs start in
    subst P (sym (append_assoc found (h ∷ []) rest)) (leads (h ∷ rest) (lt, inr (l, f, walk)))

pub false_from_matches : (v : List ℕ) (c : List Lit) → Matches v (map negate c) → AllFalse (holds v) c
false_from_matches v c p k d lt = p.held (negate (get_or c k d)) (Contains-negate c (get_or c k d) (Contains-get_or c k d lt))

pub search_fails : (cs : List (List Lit)) (v w : List ℕ) (c : List Lit) (found : List ℕ) (b : Bool) → b ≡ false → Matches v (map negate c) →
    FoundSays cs v w found b → Follows cs c → ⊥
search_fails cs v w c found true e p says = cc
search_fails cs v w c found false e p says = not_follows w cs c (AllFalse-grows v w c says.0 (false_from_matches v c p)) says.1

pub search_finds : (n : ℕ) (cs : List (List Lit)) (v w : List ℕ) (c : List Lit) (found : List ℕ) (b : Bool) → b ≡ true → length v ≡ n → All (Within n) cs →
    IsOpen c × Matches v (map negate c) → FoundSays cs v w found b → FollowsBy cs c found
search_finds n cs v w c found true e same within p says = (p.0, Chained-from_walks n cs v (map negate c) found same within p.1 says)
search_finds n cs v w c found false e same within p says = cc

pub next_no : (cs : List (List Lit)) (old new : HintedLog) (step : List Lit) (b : Bool) → b ≡ false → NextSays cs old step new b →
    Follows (cs ++ old.steps) step → ⊥
next_no cs old new step true e says = cc
next_no cs old new step false e says = says

pub next_yes : (cs : List (List Lit)) (old new : HintedLog) (step : List Lit) (b : Bool) → b ≡ true → NextSays cs old step new b →
    NextSays cs old step new true
next_yes cs old new step true e says = says
next_yes cs old new step false e says = cc

pub search_says : (n : ℕ) (cs : List (List Lit)) (v w : List ℕ) (c : List Lit) (found : List ℕ) (b : Bool) → length v ≡ n → All (Within n) cs →
    IsOpen c × Matches v (map negate c) → FoundSays cs v w found b → MatchBool b (FollowsBy cs c found) (Follows cs c → ⊥)
search_says n cs v w c found true same within p says = search_finds n cs v w c found true refl same within p says
search_says n cs v w c found false same within p says = search_fails cs v w c found false refl p.1 says

pub match_true : (A B : Type 0) (b : Bool) → b ≡ true → MatchBool b A B → A
match_true A B true e m = m
match_true A B false e m = cc

pub match_false : (A B : Type 0) (b : Bool) → b ≡ false → MatchBool b A B → B
match_false A B true e m = cc
match_false A B false e m = m

pub open_not_taut : (c : List Lit) → IsOpen c → IsTaut c → ⊥
open_not_taut c o t = All-contains (λ m. Contains c (negate m) → ⊥) c t.0 o t.1 t.2
