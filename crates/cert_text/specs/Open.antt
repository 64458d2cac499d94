-- Blocks that are being read, and what each line adds to them.
use Rattle.std.specs.Prelude.{◌≡◌, ℕ, ◌<◌, Bool, true, false, ◌&&◌, if◌then◌else◌, List, [], ◌∷◌, ◌++◌, length, nat_lt, nat_le, Option, None, Some, is_some, slice_index_or, slice_set}
use Rattle.std.specs.Option.{ForSome, is_none}
use Rattle.clause_core.specs.declared.literal.Lit.{Lit}
use Rattle.hinted_log.specs.Hints.{HintedLog}
use Rattle.cert_core.specs.declared.form.Form.{Form}
use Rattle.cert_core.specs.declared.form.Form.TheVariants.{Plain, Hinted}
use Rattle.cert_core.specs.declared.form.Part.{Part}
use Rattle.cert_core.specs.declared.form.Part.TheVariants.{Shared, First, Kept, Safe}
use Rattle.cert_core.specs.Blocks.{Block, with_clause, part_of, with_part, HasPlace, LogFits}
use Rattle.cert_text.specs.Lines.{Step}

-- a certificate that is being read: the number of its specification from 0, what was read, the part whose steps are
-- being read, and these steps
pub record OpenBlock : Type 0 where
  pub spec : ℕ
  pub block : Block
  pub part : Option Part
  pub steps : HintedLog

-- the same of a sound block
pub record OpenItems : Type 0 where
  pub items : List (Option HintedLog)
  pub item : Option ℕ
  pub steps : HintedLog

abbrev pub no_steps : HintedLog
no_steps = record { steps = []; hints = [] }

abbrev pub with_step : HintedLog → Step → HintedLog
with_step log s = record { steps = log.steps ++ s.lits ∷ []; hints = log.hints ++ s.hints ∷ [] }

-- parts stand in this order
abbrev pub rank : Part → ℕ
rank Shared = 0
rank (First k) = 1
rank (Kept k) = 2
rank Safe = 3

abbrev pub is_in_order : Option Part → Part → Bool
is_in_order None part = true
is_in_order (Some last) part = nat_le (rank last) (rank part)

abbrev pub is_hinted : Form → Bool
is_hinted Plain = false
is_hinted Hinted = true

-- a certificate of this form, with so many clauses, may have the part
abbrev pub has_place : Block → Part → Bool
has_place b Shared = is_hinted b.form
has_place b (First k) = nat_lt k (length b.clauses)
has_place b (Kept k) = nat_lt k (length b.clauses)
has_place b Safe = true

-- the part gets the steps that were read
abbrev pub with_open_part : Block → Option Part → HintedLog → Block
with_open_part b None steps = b
with_open_part b (Some part) steps = with_part b part steps

abbrev pub closed : OpenBlock → Block
closed o = with_open_part o.block o.part o.steps

-- the part may come next: it has a place, stands behind those of its order, and is not there yet
abbrev pub may_begin : OpenBlock → Part → Bool
may_begin o part = has_place o.block part && is_in_order o.part part && is_none (part_of (closed o) part)

abbrev pub with_begun : OpenBlock → Part → OpenBlock
with_begun o part = record { spec = o.spec; block = closed o; part = Some part; steps = no_steps }

-- a line that names this part
abbrev pub part_line : OpenBlock → Option Part → Option OpenBlock
part_line o None = None
part_line o (Some part) = if may_begin o part then Some (with_begun o part) else None

-- a line with this clause: clauses stand before all parts
abbrev pub clause_line : OpenBlock → Option (List Lit) → Option OpenBlock
clause_line o None = None
clause_line o (Some c) = if is_none o.part then Some (record o { block = with_clause o.block c }) else None

-- a line with this step: steps stand behind the line of their part
abbrev pub step_line : OpenBlock → Option Step → Option OpenBlock
step_line o None = None
step_line o (Some s) = if is_some o.part then Some (record o { steps = with_step o.steps s }) else None

abbrev pub with_open_item : List (Option HintedLog) → Option ℕ → HintedLog → List (Option HintedLog)
with_open_item items None steps = items
with_open_item items (Some j) steps = slice_set items j (Some steps)

abbrev pub closed_items : OpenItems → List (Option HintedLog)
closed_items o = with_open_item o.items o.item o.steps

-- a line that names this item
abbrev pub item_line : OpenItems → Option ℕ → Option OpenItems
item_line o None = None
item_line o (Some j) =
    if nat_lt j (length o.items) && is_none (slice_index_or (closed_items o) j None)
    then Some record { items = closed_items o; item = Some j; steps = no_steps }
    else None

abbrev pub item_step_line : OpenItems → Option Step → Option OpenItems
item_step_line o None = None
item_step_line o (Some s) = if is_some o.item then Some (record o { steps = with_step o.steps s }) else None

-- what the types of open blocks keep
pub record IsOpenBlock (o : OpenBlock) : Type 0 where
  pub place : ForSome o.part (HasPlace o.block)
  pub fits : LogFits o.block.form o.steps

pub record IsOpenItems (o : OpenItems) : Type 0 where
  pub place : ForSome o.item (λ j. j < length o.items)
  pub fits : LogFits Plain o.steps

-- true: this is what the line makes of the block; false: the line may not stand there
abbrev pub Makes : {A : Type 0} → Option A → A → Bool → Type 0
Makes made new true = made ≡ Some new
Makes made new false = made ≡ None
