-- What is known of what names share.
use Rattle.std.proofs.Common.{◌≡◌, ℕ, ◌==◌, Bool, true, false, ◌&&◌, List, [], Option, Some, refl, sym, ap, ◌∙◌, subst, ⊎_elim, arith, eq-eqb}
use Rattle.std.specs.Prelude.{IsSome, is_some}
use Rattle.std.specs.Bool.{beq}
use Rattle.std.specs.Map.{lookup, update}
use Rattle.std.proofs.lemmas.Bool.{and_parts, eqb-true, cases_Bool}
use Rattle.std.proofs.lemmas.Map.{update_same, update_other}
use Rattle.smv_tree.specs.declared.tree.Program.{Program}
use Rattle.smv_resolve.specs.declared.node.ExprNode.{ExprNode}
use Rattle.smv_scope.specs.declared.target.Shared.{Shared}
use Rattle.smv_resolve.specs.declared.memo.FoundNode.{FoundNode}
use Rattle.smv_resolve.specs.declared.memo.Memo.{Memo}
use Rattle.smv_scope.specs.Targets.{shared_eq}
use Rattle.smv_resolve.specs.Finding.{Grows, Known, AllKnown}

Known_grown : (p : Program) {old new : List ExprNode} (x : Shared) (found : FoundNode) → Grows old new → Known p old x found → Known p new x found
Known_grown p x found g k = (omega (arith, k.0, g.longer), record { value = λ n d w l. k.1.value n d w l ∙ sym (g.kept found.node k.0); stuck = k.1.stuck })

pub AllKnown_grown : (p : Program) (old new : Memo) → new.known ≡ old.known → Grows old.nodes new.nodes → AllKnown p old → AllKnown p new
unfolding AllKnown
AllKnown_grown p old new e g k = λ x found is. Known_grown p x found g (k x found (rw (← e) is))

same_parts : (a b : Bool) (i j k l : ℕ) → (beq a b && ((i == j) && (k == l))) ≡ true →
    let x : Shared = record { is_definition = a; at = i; number = k } in
    let y : Shared = record { is_definition = b; at = j; number = l } in
    x ≡ y
same_parts true true i j k l h =
    let p = and_parts (i == j) (k == l) h in
    let e : i ≡ j = eqb-true i j p.0 in
    let f : k ≡ l = eqb-true k l p.1 in
    cc
same_parts true false i j k l h = cc
same_parts false true i j k l h = cc
same_parts false false i j k l h =
    let p = and_parts (i == j) (k == l) h in
    let e : i ≡ j = eqb-true i j p.0 in
    let f : k ≡ l = eqb-true k l p.1 in
    cc

-- the test tells that two are one
same_shared : (x y : Shared) → shared_eq x y ≡ true → x ≡ y
same_shared x y h = same_parts x.is_definition y.is_definition x.at y.at x.number y.number h

itself : (a : Bool) (i k : ℕ) → (beq a a && ((i == i) && (k == k))) ≡ true
itself true i k = ap (λ b. b && (k == k)) (eq-eqb i i refl) ∙ eq-eqb k k refl
itself false i k = ap (λ b. b && (k == k)) (eq-eqb i i refl) ∙ eq-eqb k k refl

-- what is kept is known
pub kept_there : (old new : Shared → Option FoundNode) (x : Shared) (found : FoundNode) → ((q : Shared) → new q ≡ update shared_eq old x (Some found) q) → IsSome (new x)
kept_there old new x found e = ap is_some (e x ∙ update_same shared_eq old x (Some found) x (itself x.is_definition x.at x.number))

-- one more, which is right, leaves all right
pub known_more : (p : Program) (nodes : List ExprNode) (old new : Shared → Option FoundNode) (x : Shared) (found : FoundNode) →
    ((q : Shared) → new q ≡ update shared_eq old x (Some found) q) → Known p nodes x found → ((q : Shared) (r : FoundNode) → old q ≡ Some r → Known p nodes q r) →
    (q : Shared) (r : FoundNode) → new q ≡ Some r → Known p nodes q r
known_more p nodes old new x found e here before q r is =
    ⊎_elim
    (λ (h : shared_eq x q ≡ true).
    let same : x ≡ q = same_shared x q h in
    let one : Some found ≡ Some r = sym (update_same shared_eq old x (Some found) q h) ∙ sym (e q) ∙ is in
    let this : found ≡ r = cc in
    let P : Shared → Type 0 = λ y. Known p nodes y found in
    let Q : FoundNode → Type 0 = λ y. Known p nodes q y in
    subst Q this (subst P same here))
    (λ (h : shared_eq x q ≡ false). before q r (sym (update_other shared_eq old x (Some found) q h) ∙ sym (e q) ∙ is))
    (cases_Bool (shared_eq x q))

-- a table without entries knows nothing
pub none_known : (p : Program) (nodes : List ExprNode) (x : Shared) (found : FoundNode) (table : List (Shared × FoundNode)) → table ≡ [] → lookup (shared_eq x) table ≡ Some found → Known p nodes x found
none_known p nodes x found table none is =
    let no : lookup (shared_eq x) [] ≡ Some found = rw none at is in
    absurd cc
