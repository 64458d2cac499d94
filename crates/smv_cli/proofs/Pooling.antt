-- The answers of the INVARSPECs among specifications, and their systems.
use Rattle.std.proofs.Common.{◌≡◌, ◌∙◌, ℕ, zero, suc, ◌+◌, ◌<◌, ◌≤◌, Bool, true, false, cond, List, [], ◌∷◌, ◌++◌, length, take, drop, refl, sym, subst, ap, arith}
use Rattle.std.specs.Prelude.{filter, slice_get, Some}
use Rattle.clause_core.specs.Systems.{TransitionSystem}
use Rattle.command_words.specs.declared.command.Effort.{Effort}
use Rattle.frame_core.specs.Differences.{IsSameSystem}
use Rattle.frame_core.specs.FrameLaw.{AreAlike, system_at}
use Rattle.smv_tree.specs.declared.tree.Program.{Program}
use Rattle.smv_resolve.specs.Items.{ResolvedItem}
use Rattle.bit_system.specs.Standing.{StandsFor}
use Rattle.prove_run.specs.declared.answers.Answer.{Answer}
use Rattle.bit_conditions.specs.Asked.{is_invariant}
use Rattle.smv_cli.specs.Written.{AreAnswersOf, IsAnswered, either, pooled}

-- the INVARSPECs among specifications
abbrev pub invariants_in : List ResolvedItem → List ResolvedItem
invariants_in specs = filter (λ (x : ResolvedItem). is_invariant x.kind) specs

no_length : (n : ℕ) → 0 ≡ suc n → ⊥
no_length n e = omega (arith, e)

same_length : (n m : ℕ) → suc n ≡ suc m → n ≡ m
same_length n m e = omega (arith, e)

pub as_many_systems : (specs : List ResolvedItem) (systems : List TransitionSystem) → length systems ≡ length specs → length (pooled specs systems) ≡ length (invariants_in specs)
as_many_systems [] systems e = refl
as_many_systems (y ∷ ys) [] e = absurd (no_length (length ys) e)
as_many_systems (y ∷ ys) (s ∷ ss) e =
    let later = as_many_systems ys ss (same_length (length ss) (length ys) e) in
    elim (is_invariant y.kind) as (λ b. length (cond b (s ∷ pooled ys ss) (pooled ys ss)) ≡ length (cond b (y ∷ invariants_in ys) (invariants_in ys)))
    [ true ↦ ap (λ n. suc n) later | false ↦ later ]

module _ (p : Program) where
  -- each of these specifications has a system that stands for it
  abbrev Each : List ResolvedItem → List TransitionSystem → Type 0
  Each specs systems = (j : ℕ) (x : ResolvedItem) → slice_get specs j ≡ Some x → StandsFor p x (system_at systems j)

  each_more : (y : ResolvedItem) (s : TransitionSystem) (ys : List ResolvedItem) (ss : List TransitionSystem) → StandsFor p y s → Each ys ss → Each (y ∷ ys) (s ∷ ss)
  each_more y s ys ss here later zero x e = let same : y ≡ x = cc in subst (λ (z : ResolvedItem). StandsFor p z s) same here
  each_more y s ys ss here later (suc j) x e = later j x e

  -- and so has each INVARSPEC among them
  abbrev EachInvariant : List ResolvedItem → List TransitionSystem → Type 0
  EachInvariant specs systems = (j : ℕ) (x : ResolvedItem) → slice_get specs j ≡ Some x → is_invariant x.kind ≡ true → StandsFor p x (system_at systems j)

  pub each_stands : (specs : List ResolvedItem) (systems : List TransitionSystem) → length systems ≡ length specs → EachInvariant specs systems → Each (invariants_in specs) (pooled specs systems)
  each_stands [] systems as_many each = λ j x e. cc
  each_stands (y ∷ ys) [] as_many each = absurd (no_length (length ys) as_many)
  each_stands (y ∷ ys) (s ∷ ss) as_many each =
      let later = each_stands ys ss (same_length (length ss) (length ys) as_many) (λ j. each (suc j)) in
      elim (is_invariant y.kind) as (λ b. is_invariant y.kind ≡ b → Each (cond b (y ∷ invariants_in ys) (invariants_in ys)) (cond b (s ∷ pooled ys ss) (pooled ys ss)))
      [ true ↦ λ inv. each_more y s (invariants_in ys) (pooled ys ss) (each 0 y refl inv) later | false ↦ λ _. later ] refl

-- each system is like this one
abbrev AllLike : TransitionSystem → List TransitionSystem → Type 0
AllLike a systems = (j : ℕ) → j < length systems → IsSameSystem false a (system_at systems j)

below : (j n : ℕ) → suc j < suc n → j < n
below j n h = omega (arith, h)

above : (j n : ℕ) → j < n → suc j < suc n
above j n h = omega (arith, h)

like_more : (a s : TransitionSystem) (ss : List TransitionSystem) → IsSameSystem false a s → AllLike a ss → AllLike a (s ∷ ss)
like_more a s ss here later zero h = here
like_more a s ss here later (suc j) h = later j (below j (length ss) h)

none_like : (a : TransitionSystem) → AllLike a []
none_like a j h = absurd (omega (arith, h))

all_like : (a : TransitionSystem) (specs : List ResolvedItem) (systems : List TransitionSystem) → AllLike a systems → AllLike a (pooled specs systems)
all_like a [] systems all = none_like a
all_like a (y ∷ ys) [] all = none_like a
all_like a (y ∷ ys) (s ∷ ss) all =
    let later = all_like a ys ss (λ j h. all (suc j) (above j (length ss) h)) in
    elim (is_invariant y.kind) as (λ b. AllLike a (cond b (s ∷ pooled ys ss) (pooled ys ss)))
    [ true ↦ like_more a s (pooled ys ss) (all 0 (omega arith)) later | false ↦ later ]

joined : (a b c : TransitionSystem) → IsSameSystem false a b → IsSameSystem false a c → IsSameSystem false b c
joined a b c h k = record {
  state_bits = sym h.state_bits ∙ k.state_bits;
  all_bits = sym h.all_bits ∙ k.all_bits;
  init = sym h.init ∙ k.init;
  step = sym h.step ∙ k.step;
  bad = λ e. cc;
  good = λ e. cc;
}

some : (j n : ℕ) → j < n → 0 < n
some j n h = omega (arith, h)

-- systems that are alike are so without some of them
pub still_alike : (specs : List ResolvedItem) (systems : List TransitionSystem) → AreAlike systems → AreAlike (pooled specs systems)
still_alike specs systems alike j h =
    let all = all_like (system_at systems 0) specs systems alike in
    joined (system_at systems 0) (system_at (pooled specs systems) 0) (system_at (pooled specs systems) j) (all 0 (some j (length (pooled specs systems)) h)) (all j h)

behind : (i : ℕ) → suc i ≡ i + 1
behind i = omega arith

more : (specs : List ResolvedItem) (systems : List TransitionSystem) (i : ℕ) (x : ResolvedItem) → i < length systems → slice_get specs i ≡ Some x
    → pooled (take (suc i) specs) systems ≡ pooled (take i specs) systems ++ cond (is_invariant x.kind) (system_at systems i ∷ []) []
more [] systems i x lt e = cc
more (y ∷ ys) [] i x lt e = absurd (omega (arith, lt))
more (y ∷ ys) (s ∷ ss) zero x lt e =
    let same : y ≡ x = cc in
    ap (λ (z : ResolvedItem). cond (is_invariant z.kind) (s ∷ []) []) same
more (y ∷ ys) (s ∷ ss) (suc i) x lt e =
    let later = more ys ss i x (below i (length ss) lt) e in
    elim (is_invariant y.kind) as (λ b. cond b (s ∷ pooled (take (suc i) ys) ss) (pooled (take (suc i) ys) ss) ≡ cond b (s ∷ pooled (take i ys) ss) (pooled (take i ys) ss) ++ cond (is_invariant x.kind) (system_at ss i ∷ []) [])
    [ true ↦ ap (λ (l : List TransitionSystem). s ∷ l) later | false ↦ later ]

-- one specification more
pub systems_more : (specs : List ResolvedItem) (systems : List TransitionSystem) (i : ℕ) (x : ResolvedItem) → i < length systems → slice_get specs i ≡ Some x
    → pooled (take (i + 1) specs) systems ≡ pooled (take i specs) systems ++ cond (is_invariant x.kind) (system_at systems i ∷ []) []
systems_more specs systems i x lt e =
    subst (λ n. pooled (take n specs) systems ≡ pooled (take i specs) systems ++ cond (is_invariant x.kind) (system_at systems i ∷ []) []) (behind i) (more specs systems i x lt e)

from : (specs : List ResolvedItem) (i : ℕ) (x : ResolvedItem) → slice_get specs i ≡ Some x → drop i specs ≡ x ∷ drop (suc i) specs
from [] i x e = cc
from (y ∷ ys) zero x e = let same : y ≡ x = cc in ap (λ (z : ResolvedItem). z ∷ ys) same
from (y ∷ ys) (suc i) x e = from ys i x e

systems_from : (systems : List TransitionSystem) (i : ℕ) → i < length systems → drop i systems ≡ system_at systems i ∷ drop (suc i) systems
systems_from [] i lt = absurd (omega (arith, lt))
systems_from (s ∷ ss) zero lt = refl
systems_from (s ∷ ss) (suc i) lt = systems_from ss i (below i (length ss) lt)

-- from a place on: what stands there, and the others
pub from_here : (specs : List ResolvedItem) (i : ℕ) (x : ResolvedItem) → slice_get specs i ≡ Some x → drop i specs ≡ x ∷ drop (i + 1) specs
from_here specs i x e = subst (λ n. drop i specs ≡ x ∷ drop n specs) (behind i) (from specs i x e)

pub systems_from_here : (systems : List TransitionSystem) (i : ℕ) → i < length systems → drop i systems ≡ system_at systems i ∷ drop (i + 1) systems
systems_from_here systems i lt = subst (λ n. drop i systems ≡ system_at systems i ∷ drop n systems) (behind i) (systems_from systems i lt)

module _ (p : Program) (effort : Effort) where
  -- answers that are right, one for each INVARSPEC
  abbrev EachAnswered : List ResolvedItem → List TransitionSystem → List Answer → Type 0
  EachAnswered specs systems answers = (j : ℕ) (x : ResolvedItem) (a : Answer) → slice_get specs j ≡ Some x → slice_get answers j ≡ Some a → IsAnswered p effort (system_at systems j) x a

  pub all_told : (specs : List ResolvedItem) (systems : List TransitionSystem) (answers : List Answer) → length systems ≡ length specs → length answers ≡ length (invariants_in specs)
      → EachAnswered (invariants_in specs) (pooled specs systems) answers → AreAnswersOf p effort specs systems answers
  all_told [] systems answers as_many n each = tt
  all_told (y ∷ ys) [] answers as_many n each = absurd (no_length (length ys) as_many)
  all_told (y ∷ ys) (s ∷ ss) [] as_many n each =
      let fewer = same_length (length ss) (length ys) as_many in
      elim (is_invariant y.kind) as (λ b. 0 ≡ length (cond b (y ∷ invariants_in ys) (invariants_in ys)) → EachAnswered (cond b (y ∷ invariants_in ys) (invariants_in ys)) (cond b (s ∷ pooled ys ss) (pooled ys ss)) []
      → (b ≡ false) × AreAnswersOf p effort ys ss []) [
        | true ↦ λ m _. absurd (no_length (length (invariants_in ys)) m)
        | false ↦ λ m later. (refl, all_told ys ss [] fewer m later)
      ] n each
  all_told (y ∷ ys) (s ∷ ss) (a ∷ rest) as_many n each =
      let fewer = same_length (length ss) (length ys) as_many in
      elim (is_invariant y.kind) as (λ b. suc (length rest) ≡ length (cond b (y ∷ invariants_in ys) (invariants_in ys))
      → EachAnswered (cond b (y ∷ invariants_in ys) (invariants_in ys)) (cond b (s ∷ pooled ys ss) (pooled ys ss)) (a ∷ rest)
      → either b (IsAnswered p effort s y a × AreAnswersOf p effort ys ss rest) (AreAnswersOf p effort ys ss (a ∷ rest))) [
        | true ↦ λ m here. (here 0 y a refl refl, all_told ys ss rest fewer (same_length (length rest) (length (invariants_in ys)) m) (λ j. here (suc j)))
        | false ↦ λ m later. all_told ys ss (a ∷ rest) fewer m later
      ] n each

  -- the first of the answers is that of an INVARSPEC that comes first
  pub first_told : (x : ResolvedItem) (s : TransitionSystem) (xs : List ResolvedItem) (ss : List TransitionSystem) (a : Answer) (rest : List Answer) → is_invariant x.kind ≡ true
      → AreAnswersOf p effort (x ∷ xs) (s ∷ ss) (a ∷ rest) → IsAnswered p effort s x a × AreAnswersOf p effort xs ss rest
  first_told x s xs ss a rest inv told =
      subst (λ (b : Bool). either b (IsAnswered p effort s x a × AreAnswersOf p effort xs ss rest) (AreAnswersOf p effort xs ss (a ∷ rest))) inv told

  -- where an INVARSPEC comes first there is an answer
  pub some_told : (x : ResolvedItem) (s : TransitionSystem) (xs : List ResolvedItem) (ss : List TransitionSystem) (answers : List Answer) → is_invariant x.kind ≡ true
      → AreAnswersOf p effort (x ∷ xs) (s ∷ ss) answers → 0 < length answers
  some_told x s xs ss [] inv told = let never : ⊥ = cc (inv, told.0) in absurd never
  some_told x s xs ss (a ∷ rest) inv told = omega arith

  -- a specification that is none has none
  pub none_told : (x : ResolvedItem) (s : TransitionSystem) (xs : List ResolvedItem) (ss : List TransitionSystem) (answers : List Answer) → is_invariant x.kind ≡ false
      → AreAnswersOf p effort (x ∷ xs) (s ∷ ss) answers → AreAnswersOf p effort xs ss answers
  none_told x s xs ss [] other told = told.1
  none_told x s xs ss (a ∷ rest) other told =
      subst (λ (b : Bool). either b (IsAnswered p effort s x a × AreAnswersOf p effort xs ss rest) (AreAnswersOf p effort xs ss (a ∷ rest))) other told
