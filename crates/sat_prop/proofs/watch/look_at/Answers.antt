use Rattle.std.proofs.Common.{◌≡◌, ◌<◌, ℕ, length, List, true, map, take, get_or, arith, subst, sym, ◌∙◌, inl, inr}
use Rattle.std.specs.List.{All}
use Rattle.std.proofs.lemmas.Bool.{cases_Bool, both_ways}
use Rattle.std.proofs.lemmas.List.{take_all, length-map, get_or-map}
use Rattle.std.proofs.lemmas.List.Elements.{All-more}
use Rattle.clause_core.specs.declared.literal.Lit.{Lit}
use Rattle.clause_core.specs.Values.{holds}
use Rattle.clause_core.specs.Literals.{negate, none_lit, at}
use Rattle.sat_prop.specs.Trails.{is_literal}
use Rattle.sat_prop.specs.Words.{literal_of}
use Rattle.sat_prop.proofs.Ways.{lit_is_same, lit_is_itself}
use Rattle.sat_prop.proofs.watch.look_at.Goals as goal
use Rattle.sat_prop.proofs.watch.look_at.Goals.{then-not-is_false+else-not-is_same, else-not-is_false}

-- the word in hand is that of a literal of the row
read : (words : List ℕ) (j : ℕ) (l : Lit) → j < length words → l ≡ literal_of (get_or words j 0) → at (map literal_of words) j ≡ l
read words j l lt e = get_or-map literal_of words j 0 none_lit lt ∙ sym e

pub is_false-requires : goal.is_false-requires
is_false-requires c =
    let words = c.args.row.now in
    let j = c.loop-j.j in
    let lt : j < length words = omega (arith, c.loop-j-test.true) in
    let e = read words j c.literal-l.result lt c.literal-l.ensures in
    let P : Lit → Type 0 = λ l. l.var < length c.args.values.now in
    subst P e (c.requires.within j none_lit (omega (arith, lt, length-map words literal_of)))

pub loop-j-preserved : goal.loop-j-preserved
loop-j-preserved c =
    let t = holds c.args.values.now in
    let words = c.args.row.now in
    let xs = map literal_of words in
    let j = c.loop-j.j in
    let lw : j < length words = omega (arith, c.loop-j-test.true) in
    let lt : j < length xs = omega (arith, lw, length-map words literal_of) in
    let e = read words j c.literal-l.result lw c.literal-l.ensures in
    let P : Lit → Type 0 = λ m. (m ≡ c.args.other → ⊥) → t (negate m) ≡ true in
    let here : P c.literal-l.result = λ ne.
    elim c.if-not-is_false.branch [
      | then-not-is_false+else-not-is_same w ↦ absurd (ne w.if-not-is_same.ensures)
      | else-not-is_false w ↦ sym c.is_false.ensures ∙ w.if-not-is_false.false
    ] in
    All-more P xs j none_lit lt c.loop-j.invariant (subst P (sym e) here)

pub returns-then-is_false : goal.returns-then-is_false
returns-then-is_false c k d lt =
    let t = holds c.args.values.now in
    let words = c.args.row.now in
    let xs = map literal_of words in
    let e : take c.loop-j.j xs ≡ xs = take_all _ _ (omega (arith, c.loop-j-test.false, length-map words literal_of)) in
    let P : List Lit → Type 0 = All (λ m. (m ≡ c.args.other → ⊥) → t (negate m) ≡ true) in
    let all : P xs = subst P e c.loop-j.invariant in
    let m = get_or xs k d in
    elim (cases_Bool (is_literal m c.args.other)) [
      | inl on ↦
          let Q : Lit → Type 0 = λ x. t (negate x) ≡ true in
          subst Q (sym (lit_is_same m c.args.other on)) (sym c.is_false-2.ensures ∙ c.if-is_false.true)
      | inr off ↦ all k d lt (λ same. both_ways _ off (rw same (lit_is_itself c.args.other)))
    ]

pub returns-else-is_false : goal.returns-else-is_false
returns-else-is_false c =
    let t = holds c.args.values.now in
    let words = c.args.row.now in
    let xs = map literal_of words in
    let e : take c.loop-j.j xs ≡ xs = take_all _ _ (omega (arith, c.loop-j-test.false, length-map words literal_of)) in
    let P : List Lit → Type 0 = All (λ m. (m ≡ c.args.other → ⊥) → t (negate m) ≡ true) in
    let all : P xs = subst P e c.loop-j.invariant in
    ((c.requires.has, all), sym c.is_set.ensures ∙ c.if-is_set.false, sym c.is_false-2.ensures ∙ c.if-is_false.false)
