-- The clauses that ask for fair lassos: a copy of the system for each time, which all lengths share, with a copy of the
-- state bits for the state at which the loop begins; a length is asked for by literals alone (Biere, Heljanko,
-- Junttila, Latvala and Schuppan 2006).
--
-- The first variables are those of that state, and those that only the clauses of an initial state have. Then come the
-- variables of one time after another, as many for each: those of the state and of what is defined of it, those that
-- only its step has, and those that tell of the loop.
use Rattle.std.specs.Prelude.{ℕ, zero, suc, ◌+◌, ◌-◌, ◌*◌, true, List, [], ◌∷◌, ◌++◌, map, length, nat_lt, if◌then◌else◌}
use Rattle.clause_core.specs.declared.literal.Lit.{Lit}
use Rattle.clause_core.specs.Literals.{negate, at}
use Rattle.clause_core.specs.Systems.{TransitionSystem}
use Rattle.lasso_search.specs.declared.plan.Plan.{Plan}
use Rattle.lasso_search.specs.declared.plan.Turn.{Turn}

-- what f gives for each number below n, one after another
abbrev pub each : {X : Type 0} → (ℕ → List X) → ℕ → List X
each f zero = []
each f (suc n) = each f n ++ f n

-- the plan of a system
abbrev pub plan_of : TransitionSystem → Plan
plan_of m = record { bits = m.state_bits; all = m.all_bits; sets = length m.fair }

-- the kind of the variables that tell where the loop begins; those that tell where it ends, and of sets, follow
abbrev pub loop_kind : Plan → ℕ
loop_kind p = p.all + (p.all - p.bits - p.bits)

-- how many variables a time has
abbrev pub stride : Plan → ℕ
stride p = loop_kind p + 2 + p.sets

-- the variable of a kind at a time
abbrev pub spot : Plan → ℕ → ℕ → ℕ
spot p kind time = p.all + (time * stride p + kind)

-- where a variable of the system goes
abbrev pub place : Plan → Turn → ℕ → ℕ
place p Turn.First v = if nat_lt v p.bits then spot p v 0 else v
place p (Turn.State i) v = spot p v i
place p (Turn.Step i) v =
    if nat_lt v p.bits then spot p v i
    else (if nat_lt (v - p.bits) p.bits then spot p (v - p.bits) (i + 1) else spot p (v - p.bits - p.bits + p.all) i)

abbrev pub moved : Plan → Turn → Lit → Lit
moved p t l = record { var = place p t l.var; positive = l.positive }

abbrev pub all_moved : Plan → Turn → List (List Lit) → List (List Lit)
all_moved p t cs = map (map (moved p t)) cs

abbrev pub plain : ℕ → Lit
plain v = record { var = v; positive = true }

-- the loop begins before time i
abbrev pub begun_literal : Plan → ℕ → Lit
begun_literal p i = plain (spot p (loop_kind p) i)

-- the state at time i is the one at which the loop begins
abbrev pub ends : Plan → ℕ → Lit
ends p i = plain (spot p (loop_kind p + 1) i)

-- set j was met in the loop, before time i
abbrev pub seen : Plan → ℕ → ℕ → Lit
seen p j i = plain (spot p (loop_kind p + 2 + j) i)

-- where the loop begins at time i, bit b of the state at which it begins is that of state i
abbrev pub beginning : Plan → ℕ → ℕ → List (List Lit)
beginning p i b =
    let here = plain (spot p b i) in
    (begun_literal p i ∷ negate (begun_literal p (i + 1)) ∷ plain b ∷ negate here ∷ [])
    ∷ (begun_literal p i ∷ negate (begun_literal p (i + 1)) ∷ negate (plain b) ∷ here ∷ [])
    ∷ []

-- where the loop ends at time i, bit b of the state at which it begins is that of state i
abbrev pub ending : Plan → ℕ → ℕ → List (List Lit)
ending p i b =
    let here = plain (spot p b i) in
    (negate (ends p i) ∷ plain b ∷ negate here ∷ []) ∷ (negate (ends p i) ∷ negate (plain b) ∷ here ∷ []) ∷ []

-- where set j, which is literal l, was met before time i + 1, it was before time i, or is at time i: the loop has begun
-- by then, and the literal is true
abbrev pub seeing : Plan → Lit → ℕ → ℕ → List (List Lit)
seeing p l i j =
    (negate (seen p j (i + 1)) ∷ seen p j i ∷ begun_literal p (i + 1) ∷ [])
    ∷ (negate (seen p j (i + 1)) ∷ seen p j i ∷ moved p (Turn.State i) l ∷ [])
    ∷ []

-- no set was met before the initial state
abbrev pub unseen : Plan → ℕ → List (List Lit)
unseen p j = (negate (seen p j 0) ∷ []) ∷ []

-- what is asked of the initial state: the loop does not begin before it
abbrev pub opening : Plan → TransitionSystem → List (List Lit)
opening p m = all_moved p Turn.First m.init ++ (negate (begun_literal p 0) ∷ []) ∷ [] ++ each (unseen p) (length m.fair)

-- what is asked of state i, its step and the state after it
abbrev pub moment : Plan → TransitionSystem → ℕ → List (List Lit)
moment p m i =
    all_moved p (Turn.Step i) m.step
    ++ all_moved p (Turn.State i) m.defs
    ++ each (beginning p i) p.bits
    ++ each (ending p (i + 1)) p.bits
    ++ each (λ j. seeing p (at m.fair j) i j) (length m.fair)

-- the clauses of so many steps
abbrev pub steps_at : Plan → TransitionSystem → ℕ → List (List Lit)
steps_at p m steps = opening p m ++ each (moment p m) steps

-- how many variables they have
abbrev pub vars_at : Plan → ℕ → ℕ
vars_at p steps = spot p 0 (steps + 1)

-- what is assumed for length n: the loop begins before time n and ends there, and each set was met in it
abbrev pub closing_at : Plan → ℕ → List Lit
closing_at p n = begun_literal p n ∷ ends p n ∷ each (λ j. seen p j n ∷ []) p.sets

-- the same of a system
unfoldable pub unrolled : TransitionSystem → ℕ → List (List Lit)
unrolled m steps = steps_at (plan_of m) m steps

unfoldable pub closing : TransitionSystem → ℕ → List Lit
closing m n = closing_at (plan_of m) n

unfoldable pub vars_of : TransitionSystem → ℕ → ℕ
vars_of m steps = vars_at (plan_of m) steps
