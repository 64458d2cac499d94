-- What a purse of one thread holds.
use Rattle.std.specs.Prelude.{◌≡◌, ℕ, ◌+◌, ◌<◌, Bool}
use Rattle.effort_purse.specs.declared.draw.Draw.{Draw}
use Rattle.effort_purse.specs.declared.draw.Draw.TheVariants.{Ticket, Spent}
use Rattle.effort_purse.specs.declared.plain.PlainPurse.{PlainPurse}

-- how many tickets there are in all
abbrev pub plain_budget : PlainPurse → ℕ
plain_budget p = p.budget

-- how many tickets were drawn
abbrev pub plain_count : PlainPurse → ℕ
plain_count p = p.next

-- whether Spent was answered
abbrev pub plain_spent : PlainPurse → Bool
plain_spent p = p.spent

-- the next number in order, or Spent where each ticket is drawn
abbrev pub DrawsInOrder : ℕ → ℕ → Draw → ℕ → Type 0
DrawsInOrder budget before (Ticket n) after = (n ≡ before) × (before < budget) × (after ≡ before + 1)
DrawsInOrder budget before (Spent d b) after = (before ≡ budget) × (after ≡ before)
