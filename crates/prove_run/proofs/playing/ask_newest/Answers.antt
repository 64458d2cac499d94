use Rattle.std.proofs.Common.{◌∙◌, ℕ, Bool, List, ap, sym, subst}
use Rattle.std.proofs.lemmas.Result.{IfOk-weaker}
use Rattle.clause_core.specs.declared.literal.Lit.{Lit}
use Rattle.frame_core.specs.FrameLaw.{FrameState}
use Rattle.frame_query.specs.Findings.{SolverView, IsOlder}
use Rattle.frame_claims.specs.Asking.{AnswersClaim}
use Rattle.frame_claims.specs.Outcomes.{IsAsked, IsUpToDate, PaysClaim}
use Rattle.prove_run.proofs.Going.{taken_asks, taken_asked, taken_pays, taken_older, taken_systems, taken_same}
use Rattle.prove_run.proofs.playing.ask_newest.Goals as goal

pub follow-requires-clause-systems : goal.follow-requires-clause-systems
follow-requires-clause-systems g c =
    taken_systems g.B.Begun.before c.args.book.now c.args.claim.now c.args.solver.now (g.Q.Purse.tickets c.args.purse.now) (g.Q.Purse.spent c.args.purse.now) c.requires.taken
    ∙ sym (ap (λ (f : FrameState). f.systems) c.frames.ensures.value)

pub follow-requires-clause-older : goal.follow-requires-clause-older
follow-requires-clause-older g c =
    subst (λ (f : FrameState). IsOlder c.args.solver.now.lemmas f.lemmas) (sym c.frames.ensures.value)
    (taken_older g.B.Begun.before c.args.book.now c.args.claim.now c.args.solver.now (g.Q.Purse.tickets c.args.purse.now) (g.Q.Purse.spent c.args.purse.now) c.requires.taken)

pub ask-requires-clause-systems : goal.ask-requires-clause-systems
ask-requires-clause-systems g c =
    let b = c.args.book.now in
    let t = c.requires.taken in
    let x : List ℕ = g.Q.Purse.tickets c.args.purse.now in
    let over : Bool = g.Q.Purse.spent c.args.purse.now in
    c.follow.ensures.systems ∙ taken_systems g.B.Begun.before b c.args.claim.now c.args.solver.now x over t
    ∙ taken_same g.B.Begun.before b c.args.claim.now c.args.solver.now x over t ∙ sym c.systems.ensures

pub ask-requires-clause-asked : goal.ask-requires-clause-asked
ask-requires-clause-asked g c =
    let b = c.args.book.now in
    let t = c.requires.taken in
    let x : List ℕ = g.Q.Purse.tickets c.args.purse.now in
    let over : Bool = g.Q.Purse.spent c.args.purse.now in
    let up : IsUpToDate b.state.frames c.follow.new.solver = record {
      systems = c.follow.ensures.systems ∙ taken_systems g.B.Begun.before b c.args.claim.now c.args.solver.now x over t;
      lemmas = c.in_ok-follow.ensures.lemmas ∙ ap (λ (f : FrameState). f.lemmas) c.frames.ensures.value;
    } in
    taken_asks g.B.Begun.before b c.args.claim.now c.args.solver.now x over t c.follow.new.solver up

pub returns-clause-answer : goal.returns-clause-answer
returns-clause-answer g c =
    let b = c.args.book.now in
    let t = c.requires.taken in
    let v = c.args.claim.now in
    let w : SolverView = c.follow.new.solver in
    let x : List ℕ = g.Q.Purse.tickets c.args.purse.now in
    let over : Bool = g.Q.Purse.spent c.args.purse.now in
    let later : Bool = g.Q.Purse.spent c.ask.new.purse in
    let up : IsUpToDate b.state.frames w = record {
      systems = c.follow.ensures.systems ∙ taken_systems g.B.Begun.before b v c.args.solver.now x over t;
      lemmas = c.in_ok-follow.ensures.lemmas ∙ ap (λ (f : FrameState). f.lemmas) c.frames.ensures.value;
    } in
    IfOk-weaker c.ask.result (AnswersClaim w v v.subject later) (IsAsked b.state.frames v later)
    (λ o answer. taken_asked g.B.Begun.before b v c.args.solver.now x over t w later o up answer) c.ask.ensures.answer

pub returns-clause-pays : goal.returns-clause-pays
returns-clause-pays g c =
    let b = c.args.book.now in
    let t = c.requires.taken in
    let v = c.args.claim.now in
    let w : SolverView = c.follow.new.solver in
    let x : List ℕ = g.Q.Purse.tickets c.args.purse.now in
    let y : List ℕ = g.Q.Purse.tickets c.ask.new.purse in
    let over : Bool = g.Q.Purse.spent c.args.purse.now in
    let later : Bool = g.Q.Purse.spent c.ask.new.purse in
    let up : IsUpToDate b.state.frames w = record {
      systems = c.follow.ensures.systems ∙ taken_systems g.B.Begun.before b v c.args.solver.now x over t;
      lemmas = c.in_ok-follow.ensures.lemmas ∙ ap (λ (f : FrameState). f.lemmas) c.frames.ensures.value;
    } in
    let pays : PaysClaim b.state.frames v w.known c.ask.new.solver.known x y =
    taken_pays g.B.Begun.before b v c.args.solver.now x over t w c.ask.new.solver x y up c.ask.ensures.pays in
    IfOk-weaker c.ask.result (AnswersClaim w v v.subject later) (λ _. PaysClaim b.state.frames v c.args.solver.now.known c.ask.new.solver.known x y)
    (λ o _. subst (λ (z : List (List Lit)). PaysClaim b.state.frames v z c.ask.new.solver.known x y) c.follow.ensures.known pays) c.ask.ensures.answer
