-- The shared part, and the parts that follow with it.
use Rattle.std.proofs.Common.{◌≡◌, ℕ, ◌<◌, List, [], ◌∷◌, ◌++◌, Option, None, Some, length, get_or, refl, sym, subst, ap, ◌∙◌, append-nil}
use Rattle.std.specs.List.{All}
use Rattle.clause_core.specs.declared.literal.Lit.{Lit}
use Rattle.clause_core.specs.Literals.{Within}
use Rattle.clause_core.specs.Derivations.{AllStepsBelow, Derives}
use Rattle.clause_core.specs.Systems.{TransitionSystem}
use Rattle.hinted_log.specs.Hints.{HintedLog, IsHinted, Refutes}
use Rattle.rup_check.specs.Searches.{Covers}
use Rattle.cert_core.specs.declared.form.Form.{Form}
use Rattle.cert_core.specs.declared.form.Form.TheVariants.{Hinted}
use Rattle.cert_core.specs.declared.form.Part.TheVariants.{Shared, Kept, Safe}
use Rattle.cert_core.specs.Blocks.{Block, part_of, with_part}
use Rattle.cert_core.specs.Certificates.{unit_clauses, negated_next, shared_steps, SharedFollow, Shows}
use Rattle.cert_check.specs.Judgements.{EachBelow}
use Rattle.cert_check.specs.Upgrades.{Puts}
use Rattle.cert_make.specs.Making.{KeptFollows, SharedPut, SharedAndKept, FirstPut, IsMade}
use Rattle.cert_make.proofs.Refuting.{kept_by_shared}
use Rattle.cert_check.proofs.Verdicts.{shared_within}
use Rattle.sat_core.specs.Queries.{State, IsSound}
use Rattle.std.proofs.lemmas.List.Elements.{All-append}

-- no steps are left: the part stays missing
pub shared_none : (vars : ℕ) (given log : List (List Lit)) (old : Block) (h : HintedLog) → old.shared ≡ None → h.steps ≡ [] → Covers h.steps log →
    SharedPut vars given log old old
shared_none vars given log old h none empty covers =
    let P : Option HintedLog → Type 0 = SharedFollow Hinted vars given in
    let Q : Option HintedLog → Type 0 = λ w. Covers (shared_steps Hinted w) log in
    let R : List (List Lit) → Type 0 = λ w. Covers w log in
    record {
      follow = subst P (sym none) tt;
      covers = subst Q (sym none) (subst R empty covers);
      rest = refl;
    }

-- the part gets the steps
pub shared_some : (vars : ℕ) (given log : List (List Lit)) (old new : Block) (h : HintedLog) → new ≡ with_part old Shared h → 0 < length h.steps → IsHinted vars given h →
    Covers h.steps log → SharedPut vars given log old new
shared_some vars given log old new h e some follow covers =
    let P : Block → Type 0 = SharedPut vars given log old in
    subst P (sym e) (record { follow = (some, follow); covers = covers; rest = refl })

-- what the solver learned, for the clauses that it was given
pub learned_says : (vars n : ℕ) (given cs log : List (List Lit)) (old new : State) → old ≡ record { vars = vars; given = given; learned = [] } → new.vars ≡ old.vars → new.given ≡ old.given →
    IsSound new → log ≡ new.learned → EachBelow (λ j. KeptFollows n old.given new.learned (get_or cs j [])) (length cs) →
    AllStepsBelow vars given log (length log) × EachBelow (λ j. KeptFollows n given log (get_or cs j [])) (length cs)
learned_says vars n given cs log old new start ev eg sound el each =
    let e : new.vars ≡ vars = ev ∙ ap (λ (s : State). s.vars) start in
    let first : old.given ≡ given = ap (λ (s : State). s.given) start in
    let f : new.given ≡ given = eg ∙ first in
    let P : ℕ → Type 0 = λ w. AllStepsBelow w new.given new.learned (length new.learned) in
    let Q : List (List Lit) → Type 0 = λ w. AllStepsBelow vars w new.learned (length new.learned) in
    let R : List (List Lit) → Type 0 = λ w. AllStepsBelow vars given w (length w) in
    let S : List (List Lit) → Type 0 = λ w. EachBelow (λ j. KeptFollows n w new.learned (get_or cs j [])) (length cs) in
    let T : List (List Lit) → Type 0 = λ w. EachBelow (λ j. KeptFollows n given w (get_or cs j [])) (length cs) in
    (subst R (sym el) (subst Q f (subst P e sound)), subst T (sym el) (subst S first each))

-- with the shared steps each kept part is derived by the empty clause alone
pub kept_derive : (vars n : ℕ) (given cs log all : List (List Lit)) (shared : Option HintedLog) → all ≡ given ++ shared_steps Hinted shared → Covers (shared_steps Hinted shared) log →
    EachBelow (λ j. KeptFollows n given log (get_or cs j [])) (length cs) →
    EachBelow (λ j. Derives vars (all ++ unit_clauses (negated_next n (get_or cs j []))) ([] ∷ [])) (length cs)
kept_derive vars n given cs log all shared e covers each j lt =
    let us = unit_clauses (negated_next n (get_or cs j [])) in
    let P : List (List Lit) → Type 0 = λ w. Derives vars (w ++ us) ([] ∷ []) in
    subst P (sym e) (kept_by_shared vars given log (shared_steps Hinted shared) us (each j lt) covers)

-- what is given and the shared steps have variables alone that count
pub all_within : (vars : ℕ) (given all : List (List Lit)) (shared : Option HintedLog) → all ≡ given ++ shared_steps Hinted shared → All (Within vars) given →
    SharedFollow Hinted vars given shared → All (Within vars) all
all_within vars given all shared e within follow =
    let P : List (List Lit) → Type 0 = All (Within vars) in
    subst P (sym e) (All-append (Within vars) given (shared_steps Hinted shared) within (shared_within Hinted vars given shared follow))

-- both parts together
pub both_put : (vars n : ℕ) (given cs log all : List (List Lit)) (old one two : Block) → all ≡ given ++ shared_steps Hinted one.shared → SharedPut vars given log old one →
    EachBelow (λ j. Shows Hinted vars (all ++ unit_clauses (negated_next n (get_or cs j []))) (part_of two (Kept j))) (length cs) → two ≡ record one { kept = two.kept } →
    SharedAndKept vars n given cs old two
both_put vars n given cs log all old one two e put shown rest =
    let same : two.shared ≡ one.shared = ap (λ (b : Block). b.shared) rest in
    let P : Option HintedLog → Type 0 = SharedFollow Hinted vars given in
    let Q : List (List Lit) → Type 0 = λ w. EachBelow (λ j. Shows Hinted vars (w ++ unit_clauses (negated_next n (get_or cs j []))) (part_of two (Kept j))) (length cs) in
    let R : Option HintedLog → Type 0 = λ w. Q (given ++ shared_steps Hinted w) in
    let f : Option HintedLog → Block = λ w. record old { shared = w; kept = two.kept } in
    let g : Block → Block = λ w. record w { kept = two.kept } in
    record {
      follow = subst P (sym same) put.follow;
      shown = subst R (sym same) (subst Q e shown);
      rest = rest ∙ (ap g put.rest ∙ ap f (sym same));
    }

-- all parts together
pub certified : (sys : TransitionSystem) (cs given bad : List (List Lit)) (start one two made : Block) → All (Within sys.state_bits) cs → start.form ≡ Hinted → start.counter ≡ None →
    start.clauses ≡ cs → FirstPut sys cs start one → given ≡ cs ++ sys.step → SharedAndKept sys.all_bits sys.state_bits given cs one two → bad ≡ cs ++ sys.bad →
    Puts sys.all_bits (bad ++ []) Safe two made → IsMade sys cs made
certified sys cs given bad start one two made within form counter clauses first eg kept eb puts =
    let b : Block = record { form = Hinted; counter = None; clauses = cs; shared = two.shared; first = one.first; kept = two.kept; safe = Some puts.0 } in
    let form_two : two.form ≡ Hinted = ap (λ (w : Block). w.form) kept.rest ∙ (ap (λ (w : Block). w.form) first.rest ∙ form) in
    let counter_two : two.counter ≡ None = ap (λ (w : Block). w.counter) kept.rest ∙ (ap (λ (w : Block). w.counter) first.rest ∙ counter) in
    let clauses_two : two.clauses ≡ cs = ap (λ (w : Block). w.clauses) kept.rest ∙ (ap (λ (w : Block). w.clauses) first.rest ∙ clauses) in
    let first_two : two.first ≡ one.first = ap (λ (w : Block). w.first) kept.rest in
    let b₁ : Form → Block = λ w. record { form = w; counter = two.counter; clauses = two.clauses; shared = two.shared; first = two.first; kept = two.kept; safe = Some puts.0 } in
    let b₂ : Option ℕ → Block = λ w. record { form = Hinted; counter = w; clauses = two.clauses; shared = two.shared; first = two.first; kept = two.kept; safe = Some puts.0 } in
    let b₃ : List (List Lit) → Block = λ w. record { form = Hinted; counter = None; clauses = w; shared = two.shared; first = two.first; kept = two.kept; safe = Some puts.0 } in
    let b₄ : List (Option HintedLog) → Block = λ w. record { form = Hinted; counter = None; clauses = cs; shared = two.shared; first = w; kept = two.kept; safe = Some puts.0 } in
    let same : made ≡ b = puts.2 ∙ (ap b₁ form_two ∙ (ap b₂ counter_two ∙ (ap b₃ clauses_two ∙ ap b₄ first_two))) in
    let G : List (List Lit) → Type 0 = λ w. SharedAndKept sys.all_bits sys.state_bits w cs one two in
    let k = subst G eg kept in
    let B : List (List Lit) → Type 0 = λ w. Refutes sys.all_bits w puts.0 in
    let P : Block → Type 0 = IsMade sys cs in
    subst P (sym same) (record {
      certifies = record { within = within; shared = k.follow; first = first.shown; kept = k.shown; safe = subst B (append-nil bad ∙ eb) puts.1 };
      form = refl;
      clauses = refl;
      counter = refl;
    })
