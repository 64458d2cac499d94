use Rattle.std.proofs.Common.{ℕ, ◌≡◌, ◌++◌, take, length, sym, subst, List, arith}
use Rattle.std.specs.List.{All, Any}
use Rattle.std.proofs.lemmas.List.{take_all}
use Rattle.std.proofs.lemmas.List.Elements.{All-append, All-take}
use Rattle.clause_core.specs.declared.literal.Lit.{Lit}
use Rattle.clause_core.specs.Literals.{Within}
use Rattle.clause_core.specs.Propagation.{AllFalse, Settled}
use Rattle.clause_core.proofs.Lists.{Closed-left, Closed-right}
use Rattle.clause_core.specs.Values.{holds, Consequent}
use Rattle.clause_core.proofs.Setting.{AllFalse-grows}
use Rattle.rup_check.proofs.Rounds.{conflict_left, conflict_right, not_follows}
use Rattle.rup_check.proofs.following.follows.Goals as goal

pub pass_over-requires : goal.pass_over-requires
pass_over-requires c =
    let same : length c.args.values.now ≡ length c.rounds.values = omega arith in
    let P : ℕ → Type 0 = λ n. All (Within n) (take c.len.result c.args.clauses.now) in
    record {
      in_list = omega arith;
      within = subst P same (All-take (Within (length c.args.values.now)) c.len.result c.args.clauses.now c.requires.in_clauses);
    }

pub rounds-init : goal.rounds-init
rounds-init c =
    record { done = c.if-assume_false.ensures.0; kept = λ t all closed. c.if-assume_false.ensures.1 t all }

pub returns-in-Conflict : goal.returns-in-Conflict
returns-in-Conflict c t all closed =
    let cs = c.args.clauses.now in
    let bs = take c.args.steps c.args.log.now in
    let whole : take c.len.result cs ≡ cs = take_all _ _ (omega arith) in
    let P : List (List Lit) → Type 0 = λ w. Consequent c.rounds.values w c.pass_over.new.values in
    let Q : List (List Lit) → Type 0 = Any (AllFalse (holds c.pass_over.new.values)) in
    conflict_left c.pass_over.new.values t cs bs
    ((subst P whole c.in-Conflict.ensures.kept) t (c.rounds.invariant.kept t all closed) (Closed-left t cs bs closed))
    (subst Q whole c.in-Conflict.ensures.says)

pub rounds-preserved-in-Changed : goal.rounds-preserved-in-Changed
rounds-preserved-in-Changed c =
    let cs = c.args.clauses.now in
    let bs = take c.args.steps c.args.log.now in
    let whole : take c.len.result cs ≡ cs = take_all _ _ (omega arith) in
    let P : List (List Lit) → Type 0 = λ w. Consequent c.rounds.values w c.pass_over.new.values in
    record {
      done = AllFalse-grows c.rounds.values c.pass_over.new.values c.args.c.now c.pass_over.ensures.grows c.rounds.invariant.done;
      kept = λ t all closed. (subst P whole c.pass_over.ensures.kept) t (c.rounds.invariant.kept t all closed) (Closed-left t cs bs closed);
    }

pub returns-in-Conflict-pass_over : goal.returns-in-Conflict-pass_over
returns-in-Conflict-pass_over c t all closed =
    let cs = c.args.clauses.now in
    let bs = take c.args.steps c.args.log.now in
    let whole : take c.len.result cs ≡ cs = take_all _ _ (omega arith) in
    let P : List (List Lit) → Type 0 = λ w. Consequent c.rounds.values w c.pass_over.new.values in
    let mid = (subst P whole c.in-Still.ensures.kept) t (c.rounds.invariant.kept t all closed) (Closed-left t cs bs closed) in
    conflict_right c.pass_over-in-Still.new.values t cs bs
    (c.in-Conflict-pass_over.ensures.kept t mid (Closed-right t cs bs closed))
    c.in-Conflict-pass_over.ensures.says

pub rounds-preserved : goal.rounds-preserved
rounds-preserved c =
    let cs = c.args.clauses.now in
    let bs = take c.args.steps c.args.log.now in
    let whole : take c.len.result cs ≡ cs = take_all _ _ (omega arith) in
    let P : List (List Lit) → Type 0 = λ w. Consequent c.rounds.values w c.pass_over.new.values in
    let p = c.in-Still.ensures in
    let q = c.in-Changed-pass_over.ensures in
    record {
      done =
          AllFalse-grows c.pass_over.new.values c.pass_over-in-Still.new.values c.args.c.now q.grows
          (AllFalse-grows c.rounds.values c.pass_over.new.values c.args.c.now p.grows c.rounds.invariant.done);
      kept = λ t all closed.
          q.kept t ((subst P whole p.kept) t (c.rounds.invariant.kept t all closed) (Closed-left t cs bs closed)) (Closed-right t cs bs closed);
    }

pub returns-in-Still-pass_over : goal.returns-in-Still-pass_over
returns-in-Still-pass_over c =
    let cs = c.args.clauses.now in
    let bs = take c.args.steps c.args.log.now in
    let whole : take c.len.result cs ≡ cs = take_all _ _ (omega arith) in
    let mid = c.pass_over.new.values in
    let end = c.pass_over-in-Still.new.values in
    let p = c.in-Still.ensures in
    let q = c.in-Still-pass_over.ensures in
    let P : List (List Lit) → Type 0 = All (Settled (holds mid)) in
    let Q : List ℕ → Type 0 = λ w. All (Settled (holds w)) cs in
    let left : Q end = subst Q (sym q.says.0) (subst P whole p.says.1) in
    let done =
    AllFalse-grows mid end c.args.c.now q.grows
    (AllFalse-grows c.rounds.values mid c.args.c.now p.grows c.rounds.invariant.done) in
    not_follows end (cs ++ bs) c.args.c.now done (All-append (Settled (holds end)) cs bs left q.says.1)
