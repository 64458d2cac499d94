-- The groups of clauses that queries about systems ask for.
--
-- The first variables are those of the systems. An initial state has variables of its own for all but the state bits,
-- so that a query can ask for an initial state and a step from it. Then come the activation variables.
use Rattle.std.specs.Prelude.{◌==◌, ℕ, ◌+◌, ◌-◌, ◌&&◌, ◌||◌, Bool, List, [], ◌∷◌, ◌++◌, map, nat_lt, nat_le, if◌then◌else◌}
use Rattle.clause_core.specs.declared.literal.Lit.{Lit}
use Rattle.clause_core.specs.Systems.{TransitionSystem}
use Rattle.frame_core.specs.declared.parts.Lemma.{Lemma}
use Rattle.frame_core.specs.FrameLaw.{lemma_at, system_at}

-- how many variables a system has beside the state bits
abbrev pub others : TransitionSystem → ℕ
others sys = sys.all_bits - sys.state_bits

-- the first activation variable
abbrev pub base : TransitionSystem → ℕ
base sys = sys.all_bits + others sys

-- the variable that stands for v in the clauses of an initial state
abbrev pub first_var : TransitionSystem → ℕ → ℕ
first_var sys v = if nat_lt v sys.state_bits then v else (v + others sys)

-- a clause of an initial state over its own variables
abbrev pub first_clause : TransitionSystem → List Lit → List Lit
first_clause sys c = map (λ (l : Lit). record { var = first_var sys l.var; positive = l.positive }) c

-- the clauses of an initial state over its own variables
abbrev pub init_group : TransitionSystem → List (List Lit)
init_group sys = map (first_clause sys) sys.init

-- the groups for questions about steps: initial states, steps
abbrev pub step_heads : TransitionSystem → List (List (List Lit))
step_heads sys = init_group sys ∷ sys.step ∷ []

-- the bad clauses of each system
abbrev pub bad_groups : List TransitionSystem → List (List (List Lit))
bad_groups systems = map (λ (s : TransitionSystem). s.bad) systems

-- the groups for questions about single states: initial states, then the bad states of each system
abbrev pub state_heads : List TransitionSystem → List (List (List Lit))
state_heads systems = init_group (system_at systems 0) ∷ bad_groups systems

-- the clauses of the lemmas
abbrev pub clauses_of : List Lemma → List (List Lit)
clauses_of lemmas = map (λ (l : Lemma). l.clause) lemmas

-- these groups, and then each clause is one
abbrev pub groups : List (List (List Lit)) → List (List Lit) → List (List (List Lit))
groups heads clauses = heads ++ map (λ (c : List Lit). c ∷ []) clauses

-- group k says that a state is one of frame i, where the groups of lemmas follow the first h groups
abbrev pub is_of_frame : ℕ → List Lemma → ℕ → ℕ → Bool
is_of_frame h lemmas i k =
    if nat_lt k h then ((k == 0) && (i == 0)) else (nat_lt 0 i && nat_le i (lemma_at lemmas (k - h)).level)

-- group k is `also`, or says that a state is one of frame i
abbrev pub is_asked : ℕ → List Lemma → ℕ → ℕ → ℕ → Bool
is_asked h lemmas i also k = (k == also) || is_of_frame h lemmas i k
