-- What is kept while expressions become nodes, and what is promised of each.
use Rattle.std.specs.Prelude.{◌≡◌, ℕ, ◌<◌, ◌≤◌, true, if◌then◌else◌, nat_lt, List, length, Option, None, Some, slice_get, Result, Ok, Err, IsSome}
use Rattle.std.specs.HashMap.{get}
use Rattle.smv_tree.specs.declared.place.Place.{Place}
use Rattle.smv_tree.specs.declared.tree.Program.{Program}
use Rattle.smv_tree.specs.declared.tree.Expr.{Expr}
use Rattle.smv_resolve.specs.declared.node.ExprNode.{ExprNode}
use Rattle.smv_scope.specs.declared.target.Shared.{Shared}
use Rattle.smv_resolve.specs.declared.memo.FoundNode.{FoundNode}
use Rattle.smv_resolve.specs.declared.memo.Memo.{Memo}
use Rattle.smv_resolve.specs.declared.memo.ResolveError.{ResolveError}
use Rattle.smv_resolve.specs.declared.memo.ResolveError.TheVariants as error
use Rattle.smv_scope.specs.Modules.{definitions_of}
use Rattle.smv_scope.specs.Instances.{module_at}
use Rattle.smv_scope.specs.Lookup.{Target, body_target, given_by, parent_at}
use Rattle.smv_scope.specs.Targets.{shared_eq}
use Rattle.smv_resolve.specs.Resolved.{Resolved, Levelled, opened, followed, is_stuck, part_of}

-- f, which says what is there by the number of names that are followed one in another, and by that of levels that may
-- be opened, is r where h levels or more may be opened, and stuck where fewer may
pub record Settles (f : ℕ → Levelled) (h : ℕ) (r : Resolved) : Type 0 where
  pub value : (n d : ℕ) → d ≤ n → h ≤ d → f n d ≡ r
  pub stuck : (n d : ℕ) → d ≤ n → is_stuck (f n d) ≡ nat_lt d h

-- a node stands for what f says, and not more levels are opened below it than this
pub record IsFound (nodes : List ExprNode) (most : ℕ) (f : ℕ → Levelled) (x : FoundNode) : Type 0 where
  pub stands : x.node < length nodes
  pub within : x.height ≤ most
  pub settles : Settles f x.height (part_of nodes x.node)

-- the node that stands for what f says; or that f is stuck where so many levels may be opened
abbrev pub Finds : List ExprNode → ℕ → (ℕ → Levelled) → Result FoundNode ResolveError → Type 0
Finds nodes most f (Ok x) = IsFound nodes most f x
Finds nodes most f (Err (error.Stuck place)) = (n : ℕ) → most ≤ n → is_stuck (f n most) ≡ true
Finds nodes most f (Err error.NoMemory) = Unit {0}

-- the same error, told at this place
abbrev pub error_at : ResolveError → Place → ResolveError
error_at (error.Stuck told) place = error.Stuck place
error_at error.NoMemory place = error.NoMemory

-- what holds unless memory ran out
abbrev pub UnlessMemory : {A : Type 0} → Result A ResolveError → Type 0 → Type 0
UnlessMemory (Ok x) holds = holds
UnlessMemory (Err (error.Stuck place)) holds = holds
UnlessMemory (Err error.NoMemory) holds = Unit {0}

-- new nodes behind the old ones
pub record Grows (old new : List ExprNode) : Type 0 where
  pub longer : length old ≤ length new
  pub kept : (k : ℕ) → k < length old → part_of new k ≡ part_of old k

abbrev pub definition_in : Program → ℕ → ℕ → Option ℕ → Target
definition_in p at k None = Target.Unknown
definition_in p at k (Some m) = body_target at k (slice_get (definitions_of p m) k)

-- what names share
unfoldable pub shared_target : Program → Shared → Target
shared_target p x = if x.is_definition then definition_in p x.at x.number (module_at p x.at) else given_by p x.at x.number (parent_at p x.at)

-- the expression that a target is, where `below` resolves it
abbrev pub below_target : (ℕ → Expr → Resolved) → Target → Resolved
below_target below (Target.Given at k owner e) = below owner e
below_target below (Target.Defined at k e) = below at e
below_target below other = Resolved.Stuck

-- what these names share is this expression, in the instance of this number
abbrev pub IsShared : Program → Shared → ℕ → Expr → Type 0
IsShared p shared at e = (below : ℕ → Expr → Resolved) → below_target below (shared_target p shared) ≡ below at e

-- a node stands for what names share, a level below them
abbrev pub Known : Program → List ExprNode → Shared → FoundNode → Type 0
Known p nodes x found =
    (found.node < length nodes)
    × Settles (λ n d. below_target (λ owner e. opened (followed p n owner e) d) (shared_target p x)) found.height (part_of nodes found.node)

-- whatever is known is right
unfoldable pub AllKnown : Program → Memo → Type 0
AllKnown p w = (x : Shared) (found : FoundNode) → get shared_eq w.known x ≡ Some found → Known p w.nodes x found

-- what these names share is known
abbrev pub IsKept : Memo → Shared → Type 0
IsKept w shared = IsSome (get shared_eq w.known shared)
