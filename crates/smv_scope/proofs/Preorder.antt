-- The instances below roots that wait on a stack.
use Rattle.std.proofs.Common.{◌≡◌, ◌≢◌, ℕ, zero, suc, ◌+◌, ◌-◌, ◌<◌, ◌≤◌, List, [], ◌∷◌, ◌++◌, length, map, reverse, refl, sym, ap, ◌∙◌, arith, append_assoc, length-append, append-nil, add-zero}
use Rattle.std.proofs.lemmas.List.{reverse-append, length-reverse}
use Rattle.smv_tree.specs.declared.tree.Program.{Program}
use Rattle.smv_scope.specs.declared.instance.Instance.{Instance}
use Rattle.smv_scope.specs.declared.instances.Root.{Root}
use Rattle.smv_scope.specs.Instances.{in_preorder, subtree, children}

-- the instances below these roots, the first of which has number n, each to its own depth
abbrev pub forest : Program → ℕ → List Root → List Instance
forest p n [] = []
forest p n (r ∷ rs) = subtree p r.depth n r.instance ++ forest p (n + length (subtree p r.depth n r.instance)) rs

-- roots of one depth
abbrev pub rooted : ℕ → List Instance → List Root
rooted d xs = map (λ (x : Instance). record { instance = x; depth = d }) xs

in_order : (p : Program) (d k : ℕ) (xs : List Instance) (rs : List Root)
    → in_preorder (subtree p d) k xs ++ forest p (k + length (in_preorder (subtree p d) k xs)) rs ≡ forest p k (rooted d xs ++ rs)
in_order p d k [] rs = rw add-zero refl
in_order p d k (x ∷ xs) rs =
    let s = subtree p d k x in
    let below = in_preorder (subtree p d) (k + length (subtree p d k x)) xs in
    let long : k + length (subtree p d k x ++ in_preorder (subtree p d) (k + length (subtree p d k x)) xs)
    ≡ k + length (subtree p d k x) + length (in_preorder (subtree p d) (k + length (subtree p d k x)) xs) = omega (arith, length-append s below) in
    append_assoc s below _ ∙ ap (λ ys. s ++ ys) (ap (λ m. below ++ forest p m rs) long ∙ in_order p d (k + length s) xs rs)

-- the first root stands, and its children come in its place
pub forest-leaf : (p : Program) (n : ℕ) (r : Root) (rs : List Root) → r.depth ≡ 0 → forest p n (r ∷ rs) ≡ r.instance ∷ forest p (n + 1) rs
unfolding subtree
forest-leaf p n r rs none = ap (λ d. subtree p d n r.instance ++ forest p (n + length (subtree p d n r.instance)) rs) none

at_depth : (p : Program) (n d : ℕ) (x : Instance) (rs : List Root)
    → subtree p (suc d) n x ++ forest p (n + length (subtree p (suc d) n x)) rs ≡ x ∷ forest p (n + 1) (rooted d (children p n x) ++ rs)
unfolding subtree
at_depth p n d x rs =
    let below = in_preorder (subtree p d) (n + 1) (children p n x) in
    let long : n + suc (length (in_preorder (subtree p d) (n + 1) (children p n x))) ≡ n + 1 + length (in_preorder (subtree p d) (n + 1) (children p n x)) = omega arith in
    ap (λ ys. x ∷ ys) (ap (λ m. below ++ forest p m rs) long ∙ in_order p d (n + 1) (children p n x) rs)

pub forest-branch : (p : Program) (n : ℕ) (r : Root) (rs : List Root) → r.depth ≢ 0 → forest p n (r ∷ rs) ≡ r.instance ∷ forest p (n + 1) (rooted (r.depth - 1) (children p n r.instance) ++ rs)
forest-branch p n r rs some =
    let one : r.depth ≡ suc (r.depth - 1) = omega arith in
    ap (λ d. subtree p d n r.instance ++ forest p (n + length (subtree p d n r.instance)) rs) one ∙ at_depth p n (r.depth - 1) r.instance rs

-- each root gives an instance at least
pub length-subtree : (p : Program) (d n : ℕ) (x : Instance) → 0 < length (subtree p d n x)
unfolding subtree
length-subtree p zero n x = omega arith
length-subtree p (suc d) n x = omega arith

pub length-forest : (p : Program) (n : ℕ) (rs : List Root) → length rs ≤ length (forest p n rs)
length-forest p n [] = omega arith
length-forest p n (r ∷ rs) =
    let s = subtree p r.depth n r.instance in
    omega (arith, length-append s (forest p (n + length s) rs), length-forest p (n + length s) rs, length-subtree p r.depth n r.instance)

-- a turn of the loop: what stands and what is to come are the same as before
pub one_stands : (p : Program) (tree : List Instance) (before popped after : List Root) (r : Root) → before ≡ popped ++ r ∷ []
    → (r.depth ≡ 0 → after ≡ popped) → (r.depth ≢ 0 → reverse after ≡ rooted (r.depth - 1) (children p (length tree) r.instance) ++ reverse popped)
    → (tree ++ r.instance ∷ []) ++ forest p (length (tree ++ r.instance ∷ [])) (reverse after) ≡ tree ++ forest p (length tree) (reverse before)
one_stands p tree before popped after r is leaf branch =
    let long : length (tree ++ r.instance ∷ []) ≡ length tree + 1 = length-append tree (r.instance ∷ []) in
    let top : reverse before ≡ r ∷ reverse popped = ap reverse is ∙ reverse-append popped (r ∷ []) in
    append_assoc tree (r.instance ∷ []) _
    ∙ ap (λ ys. tree ++ ys) (ap (λ m. r.instance ∷ forest p m (reverse after)) long ∙ sym (by_depth r.depth refl) ∙ ap (forest p (length tree)) (sym top))
  where
    by_depth : (d : ℕ) → r.depth ≡ d → forest p (length tree) (r ∷ reverse popped) ≡ r.instance ∷ forest p (length tree + 1) (reverse after)
    by_depth zero e = forest-leaf p (length tree) r (reverse popped) e ∙ ap (λ rs. r.instance ∷ forest p (length tree + 1) (reverse rs)) (sym (leaf e))
    by_depth (suc d) e =
        let some : r.depth ≢ 0 = omega arith in
        forest-branch p (length tree) r (reverse popped) some ∙ ap (λ rs. r.instance ∷ forest p (length tree + 1) rs) (sym (branch some))

-- the same with what the code calls these
pub turn : (p : Program) (tree stands : List Instance) (at : ℕ) (before popped after : List Root) (r : Root) (whole : List Instance) → before ≡ popped ++ r ∷ [] → at ≡ length tree → stands ≡ tree ++ r.instance ∷ []
    → (r.depth ≡ 0 → after ≡ popped) → (r.depth ≢ 0 → reverse after ≡ rooted (r.depth - 1) (children p at r.instance) ++ reverse popped)
    → tree ++ forest p (length tree) (reverse before) ≡ whole → stands ++ forest p (length stands) (reverse after) ≡ whole
turn p tree stands at before popped after r whole is is_at is_stands leaf branch was =
    ap (λ ys. ys ++ forest p (length ys) (reverse after)) is_stands
    ∙ one_stands p tree before popped after r is leaf (λ some. branch some ∙ ap (λ n. rooted (r.depth - 1) (children p n r.instance) ++ reverse popped) is_at)
    ∙ was

-- one root stands
pub room : (tree stands : List Instance) (x : Instance) (before popped : List Root) (r : Root) → stands ≡ tree ++ x ∷ [] → before ≡ popped ++ r ∷ [] → length tree + length before ≤ 100000
    → (length stands ≡ length tree + 1) × (length stands ≤ 100000)
room tree stands x before popped r is_stands is few =
    let long : length stands ≡ length tree + 1 = ap length is_stands ∙ length-append tree (x ∷ []) in
    let some : length before ≡ length popped + 1 = ap length is ∙ length-append popped (r ∷ []) in
    (long, omega arith)

-- what stands and what is to come are too many
pub too_many : (p : Program) (stands : List Instance) (after : List Root) (whole : List Instance) → stands ++ forest p (length stands) (reverse after) ≡ whole → 100000 < length stands + length after → 100000 < length whole
too_many p stands after whole is many =
    let long : length whole ≡ length stands + length (forest p (length stands) (reverse after)) = ap length (sym is) ∙ length-append stands (forest p (length stands) (reverse after)) in
    omega (arith, length-forest p (length stands) (reverse after), length-reverse after)

-- the first root alone
pub at_first : (p : Program) (top : Root) (tree : List Instance) (none roots : List Root) → tree ≡ [] → none ≡ [] → roots ≡ none ++ top ∷ []
    → (tree ++ forest p (length tree) (reverse roots) ≡ subtree p top.depth 0 top.instance) × (length tree + length roots ≤ 100000)
at_first p top tree none roots e d f =
    let is : roots ≡ top ∷ [] = f ∙ ap (λ rs. rs ++ top ∷ []) d in
    let long : length tree ≡ 0 = ap length e in
    let one : length roots ≡ 1 = ap length is in (
      ap (λ ys. ys ++ forest p (length ys) (reverse roots)) e ∙ ap (λ (rs : List Root). forest p 0 (reverse rs)) is ∙ append-nil (subtree p top.depth 0 top.instance),
      omega arith,
    )

-- none is left
pub at_last : (p : Program) (tree whole : List Instance) (roots : List Root) → tree ++ forest p (length tree) (reverse roots) ≡ whole → roots ≡ [] → tree ≡ whole
at_last p tree whole roots is none = sym (append-nil tree) ∙ ap (λ (rs : List Root). tree ++ forest p (length tree) (reverse rs)) (sym none) ∙ is
