-- Which clauses were given, and which learned.
use Rattle.std.proofs.Common.{◌≡◌, ℕ, ◌<◌, ◌≤◌, ◌+◌, Bool, true, false, List, [], ◌∷◌, ◌++◌, length, get_or, refl, sym, ap, ◌∙◌, arith, length-append}
use Rattle.std.specs.List.{All, Contains}
use Rattle.std.proofs.lemmas.List.Elements.{All-append, All-weaker, All-contains, All-contains_itself, All-nil, All-cons, Contains-append_left, Contains-append_right}
use Rattle.clause_core.specs.declared.literal.Lit.{Lit}
use Rattle.sat_core.specs.Queries.{given_of, learned_of}
use Rattle.sat_core.specs.Searching.{SameMarks}

-- more clauses without marks are learned
pub given_append : (marks : List Bool) (cs xs : List (List Lit)) → length marks ≤ length cs → given_of marks (cs ++ xs) ≡ given_of marks cs
given_append [] cs xs le = refl
given_append (mark ∷ marks) [] xs le = absurd (omega (arith, le))
given_append (true ∷ marks) (c ∷ cs) xs le = ap (λ ys. c ∷ ys) (given_append marks cs xs (omega (arith, le)))
given_append (false ∷ marks) (c ∷ cs) xs le = given_append marks cs xs (omega (arith, le))

pub learned_append : (marks : List Bool) (cs xs : List (List Lit)) → length marks ≤ length cs →
    learned_of marks (cs ++ xs) ≡ learned_of marks cs ++ xs
learned_append [] cs xs le = refl
learned_append (mark ∷ marks) [] xs le = absurd (omega (arith, le))
learned_append (true ∷ marks) (c ∷ cs) xs le = learned_append marks cs xs (omega (arith, le))
learned_append (false ∷ marks) (c ∷ cs) xs le = ap (λ ys. c ∷ ys) (learned_append marks cs xs (omega (arith, le)))

-- a clause without mark may be marked as learned
pub same_push : (marks : List Bool) (cs : List (List Lit)) → length marks < length cs → SameMarks marks (marks ++ false ∷ []) cs
same_push [] [] lt = absurd (omega (arith, lt))
same_push [] (c ∷ cs) lt = (refl, refl)
same_push (mark ∷ marks) [] lt = absurd (omega (arith, lt))
same_push (true ∷ marks) (c ∷ cs) lt =
    let h = same_push marks cs (omega (arith, lt)) in (ap (λ ys. c ∷ ys) h.0, h.1)
same_push (false ∷ marks) (c ∷ cs) lt =
    let h = same_push marks cs (omega (arith, lt)) in (h.0, ap (λ ys. c ∷ ys) h.1)

-- one more clause, marked as given
pub given_push : (marks : List Bool) (cs : List (List Lit)) (c : List Lit) → length marks ≡ length cs →
    given_of (marks ++ true ∷ []) (cs ++ c ∷ []) ≡ given_of marks cs ++ c ∷ []
given_push [] [] c e = refl
given_push [] (d ∷ cs) c e = absurd (omega (arith, e))
given_push (mark ∷ marks) [] c e = absurd (omega (arith, e))
given_push (true ∷ marks) (d ∷ cs) c e = ap (λ ys. d ∷ ys) (given_push marks cs c (omega (arith, e)))
given_push (false ∷ marks) (d ∷ cs) c e = given_push marks cs c (omega (arith, e))

pub learned_push : (marks : List Bool) (cs : List (List Lit)) (c : List Lit) → length marks ≡ length cs →
    learned_of (marks ++ true ∷ []) (cs ++ c ∷ []) ≡ learned_of marks cs
learned_push [] [] c e = refl
learned_push [] (d ∷ cs) c e = absurd (omega (arith, e))
learned_push (mark ∷ marks) [] c e = absurd (omega (arith, e))
learned_push (true ∷ marks) (d ∷ cs) c e = learned_push marks cs c (omega (arith, e))
learned_push (false ∷ marks) (d ∷ cs) c e = ap (λ ys. d ∷ ys) (learned_push marks cs c (omega (arith, e)))

-- each clause was given or learned
pub count_both : (marks : List Bool) (cs : List (List Lit)) → length (given_of marks cs) + length (learned_of marks cs) ≡ length cs
count_both [] cs = omega arith
count_both (mark ∷ marks) [] = omega arith
count_both (true ∷ marks) (c ∷ cs) = omega (arith, count_both marks cs)
count_both (false ∷ marks) (c ∷ cs) = omega (arith, count_both marks cs)

-- how many were given, where the marks say the same, and where one more is marked so
pub count_same : (n : ℕ) (old new : List Bool) (cs cs' : List (List Lit)) → n ≡ length (given_of old cs) → SameMarks old new cs → cs' ≡ cs → n ≡ length (given_of new cs')
count_same n old new cs cs' count same e = count ∙ ap length (sym same.0) ∙ ap (λ xs. length (given_of new xs)) (sym e)

pub count_add : (n : ℕ) (old ms new : List Bool) (cs cs' : List (List Lit)) (c : List Lit) → n ≡ length (given_of old cs) → SameMarks old ms cs → length ms ≡ length cs →
    cs' ≡ cs ++ c ∷ [] → new ≡ ms ++ true ∷ [] → n + 1 ≡ length (given_of new cs')
count_add n old ms new cs cs' c count same full grown marked =
    let e : given_of new cs' ≡ given_of ms cs ++ c ∷ [] = ap (λ m. given_of m cs') marked ∙ ap (given_of (ms ++ true ∷ [])) grown ∙ given_push ms cs c full in
    omega (arith, count, ap length same.0, ap length e, length-append (given_of ms cs) (c ∷ []))

pub learned_nil : (marks : List Bool) → learned_of marks [] ≡ []
learned_nil [] = refl
learned_nil (mark ∷ marks) = refl

-- a clause that is marked as given, or is not
pub learned_skip : (marks : List Bool) (cs : List (List Lit)) (c : List Lit) → get_or marks (length cs) false ≡ true →
    learned_of marks (cs ++ c ∷ []) ≡ learned_of marks cs
learned_skip [] cs c e = let f : false ≡ true = e in cc
learned_skip (true ∷ marks) [] c e = learned_nil marks
learned_skip (false ∷ marks) [] c e = let f : false ≡ true = e in cc
learned_skip (true ∷ marks) (d ∷ cs) c e = learned_skip marks cs c e
learned_skip (false ∷ marks) (d ∷ cs) c e = ap (λ ys. d ∷ ys) (learned_skip marks cs c e)

pub learned_take : (marks : List Bool) (cs : List (List Lit)) (c : List Lit) → get_or marks (length cs) false ≡ false →
    learned_of marks (cs ++ c ∷ []) ≡ learned_of marks cs ++ c ∷ []
learned_take [] cs c e = refl
learned_take (true ∷ marks) [] c e = let f : true ≡ false = e in cc
learned_take (false ∷ marks) [] c e = ap (λ ys. c ∷ ys) (learned_nil marks)
learned_take (true ∷ marks) (d ∷ cs) c e = learned_take marks cs c e
learned_take (false ∷ marks) (d ∷ cs) c e = ap (λ ys. d ∷ ys) (learned_take marks cs c e)

pub given_nil : (marks : List Bool) → given_of marks [] ≡ []
given_nil [] = refl
given_nil (mark ∷ marks) = refl

-- the same, of the clauses that were given
pub given_take : (marks : List Bool) (cs : List (List Lit)) (c : List Lit) → get_or marks (length cs) false ≡ true →
    given_of marks (cs ++ c ∷ []) ≡ given_of marks cs ++ c ∷ []
given_take [] cs c e = let f : false ≡ true = e in cc
given_take (true ∷ marks) [] c e = ap (λ ys. c ∷ ys) (given_nil marks) ∙ ap (λ ys. ys ++ c ∷ []) (sym (given_nil (true ∷ marks)))
given_take (false ∷ marks) [] c e = let f : false ≡ true = e in cc
given_take (true ∷ marks) (d ∷ cs) c e = ap (λ ys. d ∷ ys) (given_take marks cs c e)
given_take (false ∷ marks) (d ∷ cs) c e = given_take marks cs c e

pub given_skip : (marks : List Bool) (cs : List (List Lit)) (c : List Lit) → get_or marks (length cs) false ≡ false →
    given_of marks (cs ++ c ∷ []) ≡ given_of marks cs
given_skip [] cs c e = refl
given_skip (true ∷ marks) [] c e = let f : true ≡ false = e in cc
given_skip (false ∷ marks) [] c e = given_nil marks
given_skip (true ∷ marks) (d ∷ cs) c e = ap (λ ys. d ∷ ys) (given_skip marks cs c e)
given_skip (false ∷ marks) (d ∷ cs) c e = given_skip marks cs c e

pub in_tail : (c : List Lit) (cs : List (List Lit)) (x : List Lit) → Contains cs x → Contains (c ∷ cs) x
in_tail c cs x h = Contains-append_right (c ∷ []) cs x h

pub sub_tail : (c : List Lit) (cs bs : List (List Lit)) → All (Contains bs) cs → All (Contains (c ∷ bs)) cs
sub_tail c cs bs h = All-weaker (Contains bs) (Contains (c ∷ bs)) (λ x i. in_tail c bs x i) cs h

pub in_head : (c : List Lit) (cs : List (List Lit)) → Contains (c ∷ cs) c
in_head c cs = (0, omega arith, refl)

pub given_in : (marks : List Bool) (cs : List (List Lit)) → All (Contains cs) (given_of marks cs)
given_in [] cs = All-nil (Contains cs)
given_in (mark ∷ marks) [] = All-nil (Contains [])
given_in (true ∷ marks) (c ∷ cs) =
    All-cons (Contains (c ∷ cs)) c (given_of marks cs) (in_head c cs) (sub_tail c (given_of marks cs) cs (given_in marks cs))
given_in (false ∷ marks) (c ∷ cs) = sub_tail c (given_of marks cs) cs (given_in marks cs)

pub learned_in : (marks : List Bool) (cs : List (List Lit)) → All (Contains cs) (learned_of marks cs)
learned_in [] cs = All-contains_itself cs
learned_in (mark ∷ marks) [] = All-nil (Contains [])
learned_in (true ∷ marks) (c ∷ cs) = sub_tail c (learned_of marks cs) cs (learned_in marks cs)
learned_in (false ∷ marks) (c ∷ cs) =
    All-cons (Contains (c ∷ cs)) c (learned_of marks cs) (in_head c cs) (sub_tail c (learned_of marks cs) cs (learned_in marks cs))

pub both_in : (marks : List Bool) (cs : List (List Lit)) → All (Contains cs) (given_of marks cs ++ learned_of marks cs)
both_in marks cs = All-append (Contains cs) (given_of marks cs) (learned_of marks cs) (given_in marks cs) (learned_in marks cs)

-- the clauses of one list may be put between those of another
pub sub_middle : (gs ls : List (List Lit)) (c : List Lit) → All (Contains (gs ++ c ∷ ls)) (gs ++ ls)
sub_middle gs ls c =
    let all = gs ++ c ∷ ls in
    let left : All (Contains all) gs = All-weaker (Contains gs) (Contains all) (λ x i. Contains-append_left gs (c ∷ ls) x i) gs (All-contains_itself gs) in
    let right : All (Contains all) ls = All-weaker (Contains ls) (Contains all) (λ x i. Contains-append_right gs (c ∷ ls) x (in_tail c ls x i)) ls (All-contains_itself ls) in
    All-append (Contains all) gs ls left right

pub covered : (marks : List Bool) (cs : List (List Lit)) → All (Contains (given_of marks cs ++ learned_of marks cs)) cs
covered [] cs = All-contains_itself cs
covered (mark ∷ marks) [] = All-nil (Contains [])
covered (true ∷ marks) (c ∷ cs) =
    let both = given_of marks cs ++ learned_of marks cs in
    All-cons (Contains (c ∷ both)) c cs (in_head c both) (sub_tail c cs both (covered marks cs))
covered (false ∷ marks) (c ∷ cs) =
    let gs = given_of marks cs in
    let ls = learned_of marks cs in
    let all = gs ++ c ∷ ls in
    All-cons (Contains all) c cs (Contains-append_right gs (c ∷ ls) c (in_head c ls))
    (All-weaker (Contains (gs ++ ls)) (Contains all) (λ x i. All-contains (Contains all) (gs ++ ls) x (sub_middle gs ls c) i) cs (covered marks cs))
