-- Systems of what is shared and of the clauses of each specification.
use Rattle.std.proofs.Common.{◌≡◌, ◌∙◌, ℕ, zero, suc, ◌+◌, ◌<◌, ◌≤◌, Bool, true, false, ◌&&◌, not, List, [], ◌∷◌, map, take, length, get_or, Some, refl, sym, ap, subst, arith}
use Rattle.std.specs.Prelude.{slice_get, slice_index_or}
use Rattle.std.specs.List.{All}
use Rattle.std.proofs.lemmas.List.{length-map, take_more}
use Rattle.std.proofs.lemmas.List.Elements.{All-append, All-nil, All-cons}
use Rattle.clause_core.specs.Systems.{BadBits, Gives, Meets, Opposed, TransitionSystem}
use Rattle.smv_tree.specs.declared.tree.Program.{Program}
use Rattle.smv_resolve.specs.Items.{ResolvedItem}
use Rattle.smv_meaning.specs.Runs.{specifications_of}
use Rattle.bit_graph.specs.Values.{OneWay}
use Rattle.bit_clauses.proofs.Deciders.{decides_as, opposed}
use Rattle.bit_states.specs.Coding.{state_of}
use Rattle.bit_states.specs.Layouts.{BitLayout, layout_of, state_width}
use Rattle.bit_conditions.specs.Asked.{is_broken_in, is_invariant}
use Rattle.bit_system.specs.declared.sides.Claim.{Claim}
use Rattle.bit_system.specs.declared.systems.Shared.{Shared}
use Rattle.bit_system.specs.Building.{IsBuilt, IsLike, no_system}
use Rattle.bit_system.specs.declared.sides.StateConditions.{StateConditions}
use Rattle.bit_system.specs.Conditions.{Each, TellsBad, TellsStates, is_bad_in}
use Rattle.bit_system.specs.Sharing.{CanBeClaimed, DecidesEdge, HasRoom, IsClaim, IsShared, system_by}
use Rattle.bit_system.specs.Standing.{StandsFor}
use Rattle.bit_system.proofs.OfSides.{all_within_more, bad_decided, within_more}
use Rattle.bit_system.proofs.Pairs.{each_all, each_at, each_long, each_through}

-- all are alike that are made of the same
module _ {B C : Type 0} (f : B → C) (d : C) (L : C → C → Type 0) (alike : (x y : B) → L (f x) (f y)) where
  like_one : (x : B) (ys : List B) (j : ℕ) → j < length ys → L (f x) (slice_index_or (map f ys) j d)
  like_one x [] j lt = absurd (let no : ⊥ = omega (arith, lt) in no)
  like_one x (y ∷ ys) zero lt = alike x y
  like_one x (y ∷ ys) (suc j) lt = like_one x ys j (omega (arith, lt))

  pub like_first : (ys : List B) (j : ℕ) → j < length ys → L (slice_index_or (map f ys) 0 d) (slice_index_or (map f ys) j d)
  like_first [] j lt = absurd (let no : ⊥ = omega (arith, lt) in no)
  like_first (y ∷ ys) j lt = like_one y (y ∷ ys) j lt

module _ (p : Program) (shared : Shared) (vars : ℕ) (is : IsShared p shared) (most : shared.states.vars ≤ vars) where
  pub has_room : HasRoom vars shared
  has_room =
      let steps : shared.steps.vars ≤ vars = omega (arith, is.above, most) in
      record {
        room = omega (arith, is.width, is.steps.room, steps);
        init_in = all_within_more shared.states.vars vars shared.states.init most is.states.init_within;
        step_in = all_within_more shared.steps.vars vars shared.steps.clauses steps is.steps.within;
        fair_in = within_more shared.states.vars vars shared.states.fair most is.states.fair_within;
        defs_in = all_within_more shared.states.vars vars shared.states.defs most is.states.defs_within;
        gives = subst (λ n. Gives n shared.states.fair shared.states.defs) (sym is.width) is.states.defs;
      }

  -- the system of an invariant's clauses stands for it
  stands_by : (spec : ResolvedItem) (c : Claim) → is_invariant spec.kind ≡ true → IsClaim p spec c → StandsFor p spec (system_by shared vars c)
  stands_by spec c invariant claim =
      let same : (x : ℕ → Bool) → is_bad_in p spec (state_of p x) ≡ is_broken_in p spec (state_of p x) = λ x. ap (λ (b : Bool). b && is_broken_in p spec (state_of p x)) invariant in
      record {
        types = is.types;
        bits = is.width;
        room = omega (arith, is.steps.room, is.above, most);
        first = is.states.init;
        step = is.steps.step;
        bad = decides_as (state_width p) c.bad (λ x. is_bad_in p spec (state_of p x)) (λ x. is_broken_in p spec (state_of p x)) same claim.bad;
        good = decides_as (state_width p) c.good (λ x. not (is_bad_in p spec (state_of p x))) (λ x. not (is_broken_in p spec (state_of p x))) (λ x. ap not (same x)) claim.good;
        defs = is.states.defs;
        fair = is.states.fair;
      }

  -- no state of another specification's clauses is bad
  none_by : (spec : ResolvedItem) (c : Claim) → is_invariant spec.kind ≡ false → IsClaim p spec c → (x : ℕ → Bool) → BadBits (system_by shared vars c) x → ⊥
  none_by spec c other claim x met =
      let on : is_bad_in p spec (state_of p x) ≡ true = (claim.bad.meets x).0 (subst (λ n. Meets n x c.bad) is.width met) in
      let off : is_bad_in p spec (state_of p x) ≡ false = ap (λ (b : Bool). b && is_broken_in p spec (state_of p x)) other in
      cc

  module _ (specs : List ResolvedItem) (claims : List Claim) (each : Each (IsClaim p) specs claims) where
    pub can_be_claimed : All (λ (c : Claim). c.vars ≤ vars) claims → All (CanBeClaimed vars shared.width) claims
    can_be_claimed all =
        each_all (IsClaim p) (λ (c : Claim). c.vars ≤ vars) (CanBeClaimed vars shared.width) specs claims each all (λ spec c claim le. record {
          bad_in = all_within_more c.vars vars c.bad le claim.bad_within;
          good_in = all_within_more c.vars vars c.good le claim.good_within;
          opposed = subst (λ n. Opposed n c.good c.bad) (sym is.width) (opposed (state_width p) c.good c.bad (λ x. is_bad_in p spec (state_of p x)) claim.good claim.bad);
        })

    pub all_stand : (j : ℕ) (spec : ResolvedItem) → slice_get specs j ≡ Some spec → is_invariant spec.kind ≡ true → StandsFor p spec (slice_index_or (map (system_by shared vars) claims) j no_system)
    all_stand j spec at invariant =
        each_at (IsClaim p) (system_by shared vars) no_system (StandsFor p spec) specs claims j spec each at (λ c claim. stands_by spec c invariant claim)

    pub none_bad : (j : ℕ) (spec : ResolvedItem) → slice_get specs j ≡ Some spec → is_invariant spec.kind ≡ false → (x : ℕ → Bool) → BadBits (slice_index_or (map (system_by shared vars) claims) j no_system) x → ⊥
    none_bad j spec at other =
        each_at (IsClaim p) (system_by shared vars) no_system (λ sys. (x : ℕ → Bool) → BadBits sys x → ⊥) specs claims j spec each at (λ c claim. none_by spec c other claim)

-- a number that is no lower, and no lower than that of one more
pub all_below_more : (claims : List Claim) (i a b : ℕ) (d : Claim) → i < length claims → a ≤ b → (get_or claims i d).vars ≤ b → All (λ (c : Claim). c.vars ≤ a) (take i claims)
    → All (λ (c : Claim). c.vars ≤ b) (take (i + 1) claims)
all_below_more claims i a b d within le here all =
    let P : Claim → Type 0 = λ c. c.vars ≤ b in
    let before : All P (take i claims) = λ k e lt. omega (arith, all k e lt, le) in
    subst (λ (cs : List Claim). All P cs) (sym (take_more claims i d within)) (All-append P (take i claims) (get_or claims i d ∷ []) before (All-cons P (get_or claims i d) [] here (All-nil P)))

pub all_alike : (shared : Shared) (vars : ℕ) (claims : List Claim) (j : ℕ) → j < length claims
    → IsLike (slice_index_or (map (system_by shared vars) claims) 0 no_system) (slice_index_or (map (system_by shared vars) claims) j no_system)
all_alike shared vars claims j lt =
    like_first (system_by shared vars) no_system IsLike (λ x y. record { state_bits = refl; all_bits = refl; init = refl; step = refl; fair = refl; defs = refl }) claims j lt

-- the clauses of the edges of bad states are those of the specifications
pub all_claimed : (p : Program) (n : ℕ) (parts : StateConditions) (claims : List Claim) → n ≡ state_width p → OneWay parts.graph → TellsStates p parts
    → Each (DecidesEdge n parts.graph) parts.bad.items claims → Each (IsClaim p) (specifications_of p) claims
all_claimed p n parts claims n_is law tells each =
    each_through (TellsBad parts.graph p (state_of p)) (DecidesEdge n parts.graph) (IsClaim p) (specifications_of p) parts.bad.items claims tells.bad each
    (λ spec e r bad decides. bad_decided p n parts.graph spec e r n_is tells.inputs law bad decides)

-- the systems of all specifications are those of the program
pub all_built : (p : Program) (shared : Shared) (vars : ℕ) (layout : BitLayout) (claims : List Claim) (systems : List TransitionSystem) → IsShared p shared → shared.states.vars ≤ vars
    → layout ≡ layout_of p → Each (IsClaim p) (specifications_of p) claims → systems ≡ map (system_by shared vars) claims → IsBuilt p record { layout = layout; systems = systems }
all_built p shared vars layout claims systems is most layout_is each systems_are =
    let made = map (system_by shared vars) claims in
    let long : length made ≡ length claims = length-map claims (system_by shared vars) in
    let built : IsBuilt p record { layout = layout; systems = made } = record {
      types = is.types;
      layout = layout_is;
      each_one = long ∙ each_long (IsClaim p) (specifications_of p) claims each;
      stands = λ j spec at invariant. all_stand p shared vars is most (specifications_of p) claims each j spec at invariant;
      none_bad = λ j spec at other. none_bad p shared vars is most (specifications_of p) claims each j spec at other;
      alike = λ j lt. all_alike shared vars claims j (omega (arith, lt, long));
    } in
    subst (λ (ss : List TransitionSystem). IsBuilt p record { layout = layout; systems = ss }) (sym systems_are) built
