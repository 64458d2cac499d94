-- A test on each list of successors says that all of them are nodes.
use Rattle.std.proofs.Common.{◌≡◌, ◌↔◌, ◌∙◌, ℕ, Bool, true, nat_lt, List, [], length, get_or, subst, sym}
use Rattle.std.specs.List.{list_all}
use Rattle.std.proofs.lemmas.Bool.{ltb-true, lt-ltb}
use Rattle.std.proofs.lemmas.List.{get_or_default}
use Rattle.std.proofs.lemmas.List.Elements.{All-contains, Contains-get_or}
use Rattle.std.proofs.lemmas.List.Sums.{AllPass-from_list_all, list_all-from_AllPass}
use Rattle.digraph.specs.Cycles.{successors, Closed}
use Rattle.digraph.proofs.Rounds.{edge_from}

closed_if : (g : List (List ℕ)) → list_all (λ s. list_all (λ v. nat_lt v (length g)) s) g ≡ true → Closed g
closed_if g h a v e =
    let each : list_all (λ v. nat_lt v (length g)) (successors g a) ≡ true = AllPass-from_list_all (λ s. list_all (λ v. nat_lt v (length g)) s) g h a [] (edge_from g a v e) in
    let P : ℕ → Type 0 = λ v. nat_lt v (length g) ≡ true in
    ltb-true v (length g) (All-contains P (successors g a) v (AllPass-from_list_all (λ v. nat_lt v (length g)) (successors g a) each) e)

if_closed : (g : List (List ℕ)) → Closed g → list_all (λ s. list_all (λ v. nat_lt v (length g)) s) g ≡ true
if_closed g closed = list_all-from_AllPass (λ s. list_all (λ v. nat_lt v (length g)) s) g (λ a s within.
    let P : List ℕ → Type 0 = λ vs. list_all (λ v. nat_lt v (length g)) vs ≡ true in
    subst P (get_or_default g a [] s within) (list_all-from_AllPass (λ v. nat_lt v (length g)) (successors g a) (λ k d lt.
    lt-ltb (get_or (successors g a) k d) (length g) (closed a (get_or (successors g a) k d) (Contains-get_or (successors g a) k d lt)))))

pub closed_iff : (g : List (List ℕ)) (r : Bool) → r ≡ list_all (λ s. list_all (λ v. nat_lt v (length g)) s) g → (r ≡ true) ↔ Closed g
closed_iff g r is = (λ t. closed_if g (sym is ∙ t), λ c. is ∙ if_closed g c)
