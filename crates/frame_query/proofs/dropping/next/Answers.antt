use Rattle.frame_query.proofs.dropping.next.Goals as goal

pub returns-in-Some-clause-steps : goal.returns-in-Some-clause-steps
returns-in-Some-clause-steps g c = c.hint_turn.ensures.steps

pub returns-in-Some-clause-states : goal.returns-in-Some-clause-states
returns-in-Some-clause-states g c = c.hint_turn.ensures.states

pub returns-in-Some-clause-known : goal.returns-in-Some-clause-known
returns-in-Some-clause-known g c = c.hint_turn.ensures.known

pub returns-in-Some-clause-kept : goal.returns-in-Some-clause-kept
returns-in-Some-clause-kept g c = c.hint_turn.ensures.kept

pub returns-in-Some-clause-ready : goal.returns-in-Some-clause-ready
returns-in-Some-clause-ready g c = c.hint_turn.ensures.ready

pub returns-in-Some-clause-budget : goal.returns-in-Some-clause-budget
returns-in-Some-clause-budget g c = c.hint_turn.ensures.budget

pub hint_turn-requires-clause-some : goal.hint_turn-requires-clause-some
hint_turn-requires-clause-some g c = c.requires.some

pub hint_turn-requires-clause-alike : goal.hint_turn-requires-clause-alike
hint_turn-requires-clause-alike g c = c.requires.alike

pub hint_turn-requires-clause-lemmas : goal.hint_turn-requires-clause-lemmas
hint_turn-requires-clause-lemmas g c = c.requires.lemmas

pub hint_turn-requires-clause-steps : goal.hint_turn-requires-clause-steps
hint_turn-requires-clause-steps g c = c.requires.steps

pub hint_turn-requires-clause-states : goal.hint_turn-requires-clause-states
hint_turn-requires-clause-states g c = c.requires.states

pub hint_turn-requires-clause-going : goal.hint_turn-requires-clause-going
hint_turn-requires-clause-going g c = c.requires.going

pub hint_turn-requires-clause-known : goal.hint_turn-requires-clause-known
hint_turn-requires-clause-known g c = c.requires.known

pub hint_turn-requires-clause-ready : goal.hint_turn-requires-clause-ready
hint_turn-requires-clause-ready g c = c.requires.ready

pub turn-requires-clause-some : goal.turn-requires-clause-some
turn-requires-clause-some g c = c.requires.some

pub turn-requires-clause-alike : goal.turn-requires-clause-alike
turn-requires-clause-alike g c = c.requires.alike

pub turn-requires-clause-lemmas : goal.turn-requires-clause-lemmas
turn-requires-clause-lemmas g c = c.requires.lemmas

pub turn-requires-clause-steps : goal.turn-requires-clause-steps
turn-requires-clause-steps g c = c.requires.steps

pub turn-requires-clause-states : goal.turn-requires-clause-states
turn-requires-clause-states g c = c.requires.states

pub turn-requires-clause-known : goal.turn-requires-clause-known
turn-requires-clause-known g c = c.requires.known

pub turn-requires-clause-ready : goal.turn-requires-clause-ready
turn-requires-clause-ready g c = c.requires.ready

pub returns-in-Some-pop-clause-steps : goal.returns-in-Some-pop-clause-steps
returns-in-Some-pop-clause-steps g c = c.turn.ensures.steps

pub returns-in-Some-pop-clause-states : goal.returns-in-Some-pop-clause-states
returns-in-Some-pop-clause-states g c = c.turn.ensures.states

pub returns-in-Some-pop-clause-known : goal.returns-in-Some-pop-clause-known
returns-in-Some-pop-clause-known g c = c.turn.ensures.known

pub returns-in-Some-pop-clause-kept : goal.returns-in-Some-pop-clause-kept
returns-in-Some-pop-clause-kept g c = c.turn.ensures.kept

pub returns-in-Some-pop-clause-ready : goal.returns-in-Some-pop-clause-ready
returns-in-Some-pop-clause-ready g c = c.turn.ensures.ready

pub returns-in-Some-pop-clause-budget : goal.returns-in-Some-pop-clause-budget
returns-in-Some-pop-clause-budget g c = c.turn.ensures.budget
