-- The monitor's rules as clauses, drafted from the operands up: gates as by Tseitin (1968).
use Rattle.std.specs.Prelude.{ℕ, ◌+◌, ◌-◌, ◌*◌, ◌++◌, true, List, [], ◌∷◌, map, nat_lt, if◌then◌else◌}
use Rattle.ltl_meaning.specs.declared.node.UnaryOperator.{UnaryOperator}
use Rattle.ltl_meaning.specs.declared.node.BinaryOperator.{BinaryOperator}
use Rattle.ltl_meaning.specs.Ltl.{Ltl}
use Rattle.clause_core.specs.declared.literal.Lit.{Lit}
use Rattle.clause_core.specs.Literals.{negate, at}
use Rattle.ltl_monitor.specs.declared.layout.Layout.{Layout}
use Rattle.ltl_monitor.specs.declared.layout.Space.{Space}
use Rattle.ltl_monitor.specs.declared.layout.Both.{Both}
use Rattle.ltl_monitor.specs.declared.draft.Draft.{Draft}
use Rattle.ltl_monitor.specs.declared.draft.Scene.{Scene}
use Rattle.ltl_monitor.specs.Monitor.{unary_bits, binary_bits}

-- where a variable goes: among those of one state, or of the system itself; and from those of one state, to the
-- state before a step or the one after it
abbrev pub place : Layout → Space → ℕ → ℕ
place p Space.Local v = if nat_lt v p.given then v else v + p.nodes
place p Space.System v =
    if nat_lt v p.given then v else (if nat_lt v (p.given + p.given) then v + p.nodes else v + 2 * p.nodes)
place p Space.Now v =
    if nat_lt v (p.given + p.nodes) then v else p.inner + 2 * (v - (p.given + p.nodes))
place p Space.Next v =
    if nat_lt v (p.given + p.nodes) then p.given + p.nodes + v else p.inner + 2 * (v - (p.given + p.nodes)) + 1

abbrev pub moved : Layout → Space → Lit → Lit
moved p s l = record { var = place p s l.var; positive = l.positive }

abbrev pub all_moved : Layout → Space → List (List Lit) → List (List Lit)
all_moved p s cs = map (map (moved p s)) cs

-- a literal of one state, and what it is before a step and after it
abbrev pub both : Layout → Lit → Both
both p l = record { here = l; now = moved p Space.Now l; next = moved p Space.Next l }

abbrev pub plain : ℕ → Lit
plain v = record { var = v; positive = true }

-- b is x
abbrev pub is_same : Lit → Lit → List (List Lit)
is_same b x = (b ∷ negate x ∷ []) ∷ (negate b ∷ x ∷ []) ∷ []

-- b is x or y
abbrev pub is_or : Lit → Lit → Lit → List (List Lit)
is_or b x y = (b ∷ negate x ∷ []) ∷ (b ∷ negate y ∷ []) ∷ (negate b ∷ x ∷ y ∷ []) ∷ []

-- b is whether x and y are alike
abbrev pub is_iff : Lit → Lit → Lit → List (List Lit)
is_iff b x y =
    (negate b ∷ negate x ∷ y ∷ []) ∷ (negate b ∷ x ∷ negate y ∷ []) ∷ (b ∷ x ∷ y ∷ []) ∷ (b ∷ negate x ∷ negate y ∷ []) ∷ []

-- b is x, or y and z
abbrev pub is_or_and : Lit → Lit → Lit → Lit → List (List Lit)
is_or_and b x y z =
    (b ∷ negate x ∷ []) ∷ (b ∷ negate y ∷ negate z ∷ []) ∷ (negate b ∷ x ∷ y ∷ []) ∷ (negate b ∷ x ∷ z ∷ []) ∷ []

-- a draft with one gate more, which these clauses define
abbrev pub gate_added : List (List Lit) → Draft → Draft
gate_added cs d = record d { gate = d.gate + 1; defs = d.defs ++ cs }

-- with the clauses of a rule for a step, or for an initial state
abbrev pub row_added : List (List Lit) → Draft → Draft
row_added cs d = record d { rows = d.rows ++ cs }

abbrev pub start_added : List (List Lit) → Draft → Draft
start_added cs d = record d { starts = d.starts ++ cs }

-- with the set of the states where x or y is true
abbrev pub set_added : Lit → Lit → Draft → Draft
set_added x y d =
    record d { gate = d.gate + 1; defs = d.defs ++ is_or (plain d.gate) x y; sets = d.sets ++ plain d.gate ∷ [] }

-- the rules of an operator, where b is its own bit and f its operand
abbrev pub unary_rules : UnaryOperator → Both → Both → Draft → Draft
unary_rules UnaryOperator.Not b f d = d
unary_rules UnaryOperator.Next b f d = row_added (is_same b.now f.next) d
unary_rules UnaryOperator.Finally b f d = set_added (negate b.here) f.here (row_added (is_or b.now f.now b.next) d)
unary_rules UnaryOperator.Globally b f d =
    set_added b.here (negate f.here) (row_added (is_or (negate b.now) (negate f.now) (negate b.next)) d)
unary_rules UnaryOperator.Yesterday b f d = start_added ((negate b.here ∷ []) ∷ []) (row_added (is_same b.next f.now) d)
unary_rules UnaryOperator.WeakYesterday b f d = start_added ((b.here ∷ []) ∷ []) (row_added (is_same b.next f.now) d)
unary_rules UnaryOperator.Once b f d = start_added (is_same b.here f.here) (row_added (is_or b.next f.next b.now) d)
unary_rules UnaryOperator.Historically b f d =
    start_added (is_same b.here f.here) (row_added (is_or (negate b.next) (negate f.next) (negate b.now)) d)
unary_rules UnaryOperator.NowOrNext b f d = row_added (is_or b.now f.now f.next) d
unary_rules UnaryOperator.NowAndNext b f d = row_added (is_or (negate b.now) (negate f.now) (negate f.next)) d
unary_rules UnaryOperator.NowOrBefore b f d = start_added (is_same b.here f.here) (row_added (is_or b.next f.next f.now) d)
unary_rules UnaryOperator.NowAndBefore b f d =
    start_added (is_same b.here f.here) (row_added (is_or (negate b.next) (negate f.next) (negate f.now)) d)

-- and where f and g are its operands
abbrev pub binary_rules : BinaryOperator → Both → Both → Both → Draft → Draft
binary_rules BinaryOperator.And b f g d = gate_added (is_or (plain d.gate) (negate f.here) (negate g.here)) d
binary_rules BinaryOperator.Or b f g d = gate_added (is_or (plain d.gate) f.here g.here) d
binary_rules BinaryOperator.Xor b f g d = gate_added (is_iff (plain d.gate) f.here g.here) d
binary_rules BinaryOperator.Xnor b f g d = gate_added (is_iff (plain d.gate) f.here g.here) d
binary_rules BinaryOperator.Implies b f g d = gate_added (is_or (plain d.gate) (negate f.here) g.here) d
binary_rules BinaryOperator.Iff b f g d = gate_added (is_iff (plain d.gate) f.here g.here) d
binary_rules BinaryOperator.Until b f g d =
    set_added (negate b.here) g.here (row_added (is_or_and b.now g.now f.now b.next) d)
binary_rules BinaryOperator.Releases b f g d =
    set_added b.here (negate g.here) (row_added (is_or_and (negate b.now) (negate g.now) (negate f.now) (negate b.next)) d)
binary_rules BinaryOperator.Since b f g d =
    start_added (is_same b.here g.here) (row_added (is_or_and b.next g.next f.next b.now) d)
binary_rules BinaryOperator.Triggered b f g d =
    start_added (is_same b.here g.here) (row_added (is_or_and (negate b.next) (negate g.next) (negate f.next) (negate b.now)) d)

-- an operator's literal: its own bit, or what its gate or its operand says
abbrev pub unary_lit : UnaryOperator → Lit → Lit → Lit
unary_lit UnaryOperator.Not b f = negate f
unary_lit UnaryOperator.Next b f = b
unary_lit UnaryOperator.Finally b f = b
unary_lit UnaryOperator.Globally b f = b
unary_lit UnaryOperator.Yesterday b f = b
unary_lit UnaryOperator.WeakYesterday b f = b
unary_lit UnaryOperator.Once b f = b
unary_lit UnaryOperator.Historically b f = b
unary_lit UnaryOperator.NowOrNext b f = b
unary_lit UnaryOperator.NowAndNext b f = b
unary_lit UnaryOperator.NowOrBefore b f = b
unary_lit UnaryOperator.NowAndBefore b f = b

abbrev pub binary_lit : BinaryOperator → Lit → Lit → Lit
binary_lit BinaryOperator.And b gate = negate gate
binary_lit BinaryOperator.Or b gate = gate
binary_lit BinaryOperator.Xor b gate = negate gate
binary_lit BinaryOperator.Xnor b gate = gate
binary_lit BinaryOperator.Implies b gate = gate
binary_lit BinaryOperator.Iff b gate = gate
binary_lit BinaryOperator.Until b gate = b
binary_lit BinaryOperator.Releases b gate = b
binary_lit BinaryOperator.Since b gate = b
binary_lit BinaryOperator.Triggered b gate = b

-- a draft, and the literal of the formula that was added to it last
pub record Drafted : Type 0 where
  pub draft : Draft
  pub lit : Lit

-- the bit of the next temporal operator
abbrev pub own_bit : Layout → Draft → Lit
own_bit p d = plain (p.given + d.node)

abbrev pub unary_drafted : Layout → UnaryOperator → Lit → Draft → Drafted
unary_drafted p o f d = record {
  draft = record (unary_rules o (both p (own_bit p d)) (both p f) d) { node = d.node + unary_bits o };
  lit = unary_lit o (own_bit p d) f;
}

abbrev pub binary_drafted : Layout → BinaryOperator → Lit → Lit → Draft → Drafted
binary_drafted p o f g d = record {
  draft = record (binary_rules o (both p (own_bit p d)) (both p f) (both p g) d) { node = d.node + binary_bits o };
  lit = binary_lit o (own_bit p d) (plain d.gate);
}

-- a formula added to a draft
abbrev pub drafted : Scene → Ltl → Draft → Drafted
drafted s (Ltl.Constant b) d =
    record { draft = gate_added ((plain d.gate ∷ []) ∷ []) d; lit = record { var = d.gate; positive = b } }
drafted s (Ltl.Atom a) d = record { draft = d; lit = at s.atoms a }
drafted s (Ltl.Unary o f) d = unary_drafted s.layout o (drafted s f d).lit (drafted s f d).draft
drafted s (Ltl.Binary o f g) d =
    binary_drafted s.layout o (drafted s f d).lit (drafted s g (drafted s f d).draft).lit
    (drafted s g (drafted s f d).draft).draft
