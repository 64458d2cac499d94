-- What a worker is given under the lock.
use Rattle.std.specs.Prelude.{⊤}
use Rattle.work_crew.specs.declared.craft.Taking.{Taking}
use Rattle.work_crew.specs.declared.craft.Taking.TheVariants.{Task, Idle, Later, Ended}

-- this holds of the task, if there is one
abbrev pub IfTask : {T : Type 0} → Taking T → (T → Type 0) → Type 0
IfTask (Task t) P = P t
IfTask Idle P = ⊤
IfTask Later P = ⊤
IfTask Ended P = ⊤

-- this holds where there is none
abbrev pub IfNoTask : {T : Type 0} → Taking T → Type 0 → Type 0
IfNoTask (Task t) P = ⊤
IfNoTask Idle P = P
IfNoTask Later P = P
IfNoTask Ended P = P
