-- Bytes are a model of one program at most, and are not refused where they are one.
use Rattle.std.proofs.Common.{◌≡◌, inl, inr, ℕ, List, [], ◌∷◌, Option, None, Some, Result, Ok, Err, IfOk, IfErr, sym, subst, ap, ◌∙◌, ◌≤◌, ◌<◌, arith}
use Rattle.digraph.specs.Cycles.{Acyclic, IsCycle}
use Rattle.smv_tree.specs.declared.token.Tokens.{Tokens}
use Rattle.smv_tree.specs.declared.refusal.Refusal.{Refusal}
use Rattle.smv_tree.specs.declared.refusal.Rule.TheVariants.{AssignCycle}
use Rattle.smv_tree.specs.declared.refusal.TextStop.{TextStop}
use Rattle.smv_tree.specs.declared.refusal.TextStop.TheVariants.{Refused, NoMemory}
use Rattle.smv_tree.specs.declared.tree.Program.{Program}
use Rattle.smv_text.specs.Texts.{IsText, IsTextStop}
use Rattle.smv_text.proofs.Cuts as text
use Rattle.smv_parse.proofs.ParsedOnce as parse
use Rattle.smv_parse.specs.Spelling.{IsSpelling, IsRefusedTokens, IsParseStop}
use Rattle.smv_names.specs.Reached.{too_many_instances}
use Rattle.smv_names.specs.Rules.{module_rules_verdict, instance_names_verdict}
use Rattle.smv_types.specs.Kinds.{too_deep}
use Rattle.smv_types.specs.Rules.{kinds_refusal, types_verdict}
use Rattle.smv_types.proofs.Ordered.{modules_refuse, instances_refuse, names_refuse, depth_refuses, kinds_refuse, none_refuses}
use Rattle.smv_verdicts.specs.Verdicts.{Gives, Judges}
use Rattle.smv_types.proofs.Once.{judged_once}
use Rattle.smv_flat.specs.declared.time.Time.{Time}
use Rattle.smv_flat.specs.declared.time.Time.TheVariants as when
use Rattle.smv_flat.specs.Assignments.{TellsCycle, dependencies, AreAssignable, IsRefusedByAssignments, twice_assigned, first_cycle, next_cycle, IsAssignmentStop}
use Rattle.bit_states.specs.Layouts.{bit_limit, bits_of}
use Rattle.smv_front.specs.Sources.{AreAlike, Spells, IsModel, IsRefusedBy, in_text, in_grammar, in_types, in_assignments, in_bits, IsSourceStop, IsWidthStop}

-- the stops of each part are stops of the whole
pub text_stop : (bytes : List ℕ) (stop : TextStop) → IsTextStop bytes stop → IsSourceStop bytes stop
text_stop bytes (Refused r) h = in_text h
text_stop bytes NoMemory h = h

pub grammar_stop : (bytes : List ℕ) (tokens : Tokens) (stop : TextStop) → IsText bytes tokens → IsParseStop tokens stop → IsSourceStop bytes stop
grammar_stop bytes tokens (Refused r) t h = in_grammar tokens t h
grammar_stop bytes tokens NoMemory t h = h

-- Bytes whose tokens spell this program.
module _ (bytes : List ℕ) (tokens : Tokens) (p : Program) (text : IsText bytes tokens) (spelled : IsSpelling tokens.items p) where
  is_spelled : Spells bytes tokens p
  is_spelled = record { text = text; spelled = spelled }

  refused_by_types : (r : Refusal) → types_verdict p (Some r) → IsSourceStop bytes (Refused r)
  refused_by_types r h = in_types tokens p is_spelled h

  pub modules_stop : (A : Type 0) (stop : TextStop) → (let answer : Result A TextStop = Err stop in Gives answer (module_rules_verdict p)) → IsSourceStop bytes stop
  modules_stop A (Refused r) h = refused_by_types r (modules_refuse p r h)
  modules_stop A NoMemory h = tt

  -- The modules break no rule.
  module _ (modules : module_rules_verdict p None) where
    pub instances_stop : (A : Type 0) (stop : TextStop) → (let answer : Result A TextStop = Err stop in Judges answer (too_many_instances p)) → IsSourceStop bytes stop
    instances_stop A (Refused r) h = refused_by_types r (instances_refuse p r modules h)
    instances_stop A NoMemory h = tt

    -- There are not too many instances, and these are of the program.
    module _ (few : too_many_instances p ≡ None) (q : Program) (same : q ≡ p) where
      pub names_stop : (A : Type 0) (stop : TextStop) → (let answer : Result A TextStop = Err stop in Gives answer (instance_names_verdict q)) → IsSourceStop bytes stop
      names_stop A (Refused r) h = refused_by_types r (names_refuse p r modules few (subst (λ (u : Program). instance_names_verdict u (Some r)) same h))
      names_stop A NoMemory h = tt

      -- Names break no rule.
      module _ (named : instance_names_verdict q None) where
        named_here : instance_names_verdict p None
        named_here = subst (λ (u : Program). instance_names_verdict u None) same named

        pub depth_stop : (A : Type 0) (stop : TextStop) → (let answer : Result A TextStop = Err stop in Judges answer (too_deep q)) → IsSourceStop bytes stop
        depth_stop A (Refused r) h = refused_by_types r (depth_refuses p r modules few named_here (subst (λ (u : Program). too_deep u ≡ Some r) same h))
        depth_stop A NoMemory h = tt

        -- No item nests too deep.
        module _ (shallow : too_deep q ≡ None) where
          shallow_here : too_deep p ≡ None
          shallow_here = subst (λ (u : Program). too_deep u ≡ None) same shallow

          pub kinds_stop : (A : Type 0) (stop : TextStop) → (let answer : Result A TextStop = Err stop in Judges answer (kinds_refusal q)) → IsSourceStop bytes stop
          kinds_stop A (Refused r) h = refused_by_types r (kinds_refuse p r modules few named_here shallow_here (subst (λ (u : Program). kinds_refusal u ≡ Some r) same h))
          kinds_stop A NoMemory h = tt

          pub right_types : kinds_refusal q ≡ None → types_verdict p None
          right_types h = none_refuses p modules few named_here shallow_here (subst (λ (u : Program). kinds_refusal u ≡ None) same h)

-- Bytes whose tokens spell this program, which breaks no rule up to those of kinds. Its instances are of the program s,
-- which is the same, and so is q.
module _ (bytes : List ℕ) (tokens : Tokens) (p s q : Program) (text : IsText bytes tokens) (spelled : IsSpelling tokens.items p) (modules : module_rules_verdict p None)
    (few : too_many_instances p ≡ None) (same : s ≡ p) (named : instance_names_verdict s None) (shallow : too_deep s ≡ None) (right : kinds_refusal s ≡ None) (as_laid : q ≡ s) where
  typed_is : types_verdict p None
  typed_is = right_types bytes tokens p text spelled modules few s same named shallow right

  q_is_p : q ≡ p
  q_is_p = as_laid ∙ same

  pub assignments_stop : (stop : TextStop) → IsAssignmentStop q stop → IsSourceStop bytes stop
  assignments_stop (Refused r) h =
      in_assignments tokens p (record { text = text; spelled = spelled }) typed_is (subst (λ (u : Program). IsRefusedByAssignments u r) q_is_p h)
  assignments_stop NoMemory h = h

  spelled_q : Spells bytes tokens q
  spelled_q = record { text = text; spelled = subst (IsSpelling tokens.items) (sym q_is_p) spelled }

  typed_q : types_verdict q None
  typed_q = subst (λ (u : Program). types_verdict u None) (sym q_is_p) typed_is

  pub bits_stop : (stop : TextStop) → AreAssignable q → IsWidthStop q stop → IsSourceStop bytes stop
  bits_stop (Refused r) a h = in_bits tokens q spelled_q typed_q a h.0 h.1
  bits_stop NoMemory a h = h

  pub model_read : AreAssignable q → bits_of q ≤ bit_limit → IsModel bytes q
  model_read a w = record { tokens = tokens; spelled = spelled_q; typed = typed_q; assignable = a; narrow = w }

-- What is given on is a model where what it is made of is.
pub told_model : (A : Type 0) (program_of : A → Program) (bytes : List ℕ) (x : A) (result : Result A TextStop) → (bits_of (program_of x) ≤ bit_limit → IsModel bytes (program_of x))
    → IfOk result (λ r. r ≡ x) → IfOk result (λ r. bits_of (program_of x) ≤ bit_limit) → IfOk result (λ r. IsModel bytes (program_of r))
told_model A program_of bytes x (Ok r) model same narrow = subst (λ (y : A). IsModel bytes (program_of y)) (sym same) (model narrow)
told_model A program_of bytes x (Err e) model same narrow = tt

-- and it is refused where that is
pub told_stop : (A : Type 0) (bytes : List ℕ) (q : Program) (result : Result A TextStop) → ((stop : TextStop) → IsWidthStop q stop → IsSourceStop bytes stop)
    → IfErr result (IsWidthStop q) → IfErr result (IsSourceStop bytes)
told_stop A bytes q (Ok r) stops wide = tt
told_stop A bytes q (Err e) stops wide = stops e wide

-- a graph without cycles has no round
round_apart : (g : List (List ℕ)) (round : List ℕ) → Acyclic g → IsCycle g round → ⊥
round_apart g [] a r = r
round_apart g (x ∷ xs) a r = a x (xs, r)

cycle_apart : (p : Program) (time : Time) (r : Refusal) → Acyclic (dependencies p time) → TellsCycle p time r → ⊥
cycle_apart p time r a t = round_apart (dependencies p time) t.0 a (t.1.leads)

none_some : {A : Type 0} (o : Option A) (x : A) → o ≡ None → o ≡ Some x → ⊥
none_some o x n s = cc (n, s)

assignable_apart : (p : Program) (r : Refusal) → AreAssignable p → IsRefusedByAssignments p r → ⊥
assignable_apart p r a (twice_assigned h) = none_some _ r a.once h
assignable_apart p r a (first_cycle n t) = cycle_apart p when.First r a.first_times t
assignable_apart p r a (next_cycle n f t) = cycle_apart p when.Next r a.next_times t

-- the bytes spell one program at most
spelled_once : (bytes : List ℕ) (t u : Tokens) (p q : Program) → Spells bytes t p → Spells bytes u q → p ≡ q
spelled_once bytes t u p q s r = parse.program_once t.items p q s.spelled (subst (λ (v : Tokens). IsSpelling v.items q) (text.one_text bytes u t r.text s.text) r.spelled)

pub program_once : (bytes : List ℕ) (p q : Program) → IsModel bytes p → IsModel bytes q → p ≡ q
program_once bytes p q m n = spelled_once bytes m.tokens n.tokens p q m.spelled n.spelled

pub never_both : (bytes : List ℕ) (p : Program) (r : Refusal) → IsModel bytes p → IsRefusedBy bytes r → ⊥
never_both bytes p r m (in_text h) = text.never_both bytes m.tokens r m.spelled.text h
never_both bytes p r m (in_grammar tokens t h) =
    parse.never_both m.tokens p r m.spelled.spelled (subst (λ (v : Tokens). IsRefusedTokens v r) (text.one_text bytes tokens m.tokens t m.spelled.text) h)
never_both bytes p r m (in_types tokens q s h) =
    let same : types_verdict p (Some r) = subst (λ (v : Program). types_verdict v (Some r)) (spelled_once bytes tokens m.tokens q p s m.spelled) h in
    let e : None ≡ Some r = judged_once p None (Some r) m.typed same in cc
never_both bytes p r m (in_assignments tokens q s n h) =
    assignable_apart p r m.assignable (subst (λ (v : Program). IsRefusedByAssignments v r) (spelled_once bytes tokens m.tokens q p s m.spelled) h)
never_both bytes p r m (in_bits tokens q s n a above e) =
    let narrow = m.narrow in
    let wide : bit_limit < bits_of p = subst (λ (v : Program). bit_limit < bits_of v) (spelled_once bytes tokens m.tokens q p s m.spelled) above in
    absurd (omega (arith, narrow, wide))

-- what is refused by the grammar spells no program
grammar_apart : (bytes : List ℕ) (t u : Tokens) (p : Program) (r : Refusal) → IsText bytes t → IsRefusedTokens t r → Spells bytes u p → ⊥
grammar_apart bytes t u p r text_is h s = parse.never_both u p r s.spelled (subst (λ (v : Tokens). IsRefusedTokens v r) (text.one_text bytes t u text_is s.text) h)

-- what is refused by names and kinds does not come to the rules of assignments
types_apart : (bytes : List ℕ) (t u : Tokens) (p q : Program) (r : Refusal) → Spells bytes t p → types_verdict p (Some r) → Spells bytes u q → types_verdict q None → ⊥
types_apart bytes t u p q r s v other n =
    let same : types_verdict p None = subst (λ (w : Program). types_verdict w None) (spelled_once bytes u t q p other s) n in
    let e : None ≡ Some r = judged_once p None (Some r) same v in cc

tells_rule : (p : Program) (time : Time) (r : Refusal) → TellsCycle p time r → r.rule ≡ AssignCycle
tells_rule p time r t = ap (λ (x : Refusal). x.rule) t.2

assignments_alike : (p : Program) (a b : Refusal) → IsRefusedByAssignments p a → IsRefusedByAssignments p b → AreAlike a b
assignments_alike p a b (twice_assigned h) (twice_assigned k) = let e : Some a ≡ Some b = sym h ∙ k in let same : a ≡ b = cc in inl same
assignments_alike p a b (twice_assigned h) (first_cycle n t) = absurd (none_some _ a n h)
assignments_alike p a b (twice_assigned h) (next_cycle n f t) = absurd (none_some _ a n h)
assignments_alike p a b (first_cycle n t) (twice_assigned k) = absurd (none_some _ b n k)
assignments_alike p a b (first_cycle n t) (first_cycle m u) = inr (tells_rule p when.First a t, tells_rule p when.First b u)
assignments_alike p a b (first_cycle n t) (next_cycle m f u) = inr (tells_rule p when.First a t, tells_rule p when.Next b u)
assignments_alike p a b (next_cycle n f t) (twice_assigned k) = absurd (none_some _ b n k)
assignments_alike p a b (next_cycle n f t) (first_cycle m u) = inr (tells_rule p when.Next a t, tells_rule p when.First b u)
assignments_alike p a b (next_cycle n f t) (next_cycle m g u) = inr (tells_rule p when.Next a t, tells_rule p when.Next b u)

-- nor to the rule on bits
bits_apart : (bytes : List ℕ) (t u : Tokens) (p q : Program) (r : Refusal) → Spells bytes t p → IsRefusedByAssignments p r → Spells bytes u q → AreAssignable q → ⊥
bits_apart bytes t u p q r s v other a = assignable_apart p r (subst AreAssignable (spelled_once bytes u t q p other s) a) v

-- two refusals of one source are alike
pub refusal_alike : (bytes : List ℕ) (a b : Refusal) → IsRefusedBy bytes a → IsRefusedBy bytes b → AreAlike a b
refusal_alike bytes a b (in_text x) (in_text y) = inl (text.one_refusal bytes a b x y)
refusal_alike bytes a b (in_text x) (in_grammar u k h) = absurd (text.never_both bytes u a k x)
refusal_alike bytes a b (in_text x) (in_types u q k w) = absurd (text.never_both bytes u a k.text x)
refusal_alike bytes a b (in_text x) (in_assignments u q k n w) = absurd (text.never_both bytes u a k.text x)
refusal_alike bytes a b (in_text x) (in_bits u q k n d w e) = absurd (text.never_both bytes u a k.text x)
refusal_alike bytes a b (in_grammar t s g) (in_text y) = absurd (text.never_both bytes t b s y)
refusal_alike bytes a b (in_grammar t s g) (in_grammar u k h) = inl (parse.refusal_once t a b g (subst (λ (v : Tokens). IsRefusedTokens v b) (text.one_text bytes u t k s) h))
refusal_alike bytes a b (in_grammar t s g) (in_types u q k w) = absurd (grammar_apart bytes t u q a s g k)
refusal_alike bytes a b (in_grammar t s g) (in_assignments u q k n w) = absurd (grammar_apart bytes t u q a s g k)
refusal_alike bytes a b (in_grammar t s g) (in_bits u q k n d w e) = absurd (grammar_apart bytes t u q a s g k)
refusal_alike bytes a b (in_types t p s v) (in_text y) = absurd (text.never_both bytes t b s.text y)
refusal_alike bytes a b (in_types t p s v) (in_grammar u k h) = absurd (grammar_apart bytes u t p b k h s)
refusal_alike bytes a b (in_types t p s v) (in_types u q k w) =
    let other : types_verdict p (Some b) = subst (λ (x : Program). types_verdict x (Some b)) (spelled_once bytes u t q p k s) w in
    let e : Some a ≡ Some b = judged_once p (Some a) (Some b) v other in
    let same : a ≡ b = cc in
    inl same
refusal_alike bytes a b (in_types t p s v) (in_assignments u q k n w) = absurd (types_apart bytes t u p q a s v k n)
refusal_alike bytes a b (in_types t p s v) (in_bits u q k n d w e) = absurd (types_apart bytes t u p q a s v k n)
refusal_alike bytes a b (in_assignments t p s n v) (in_text y) = absurd (text.never_both bytes t b s.text y)
refusal_alike bytes a b (in_assignments t p s n v) (in_grammar u k h) = absurd (grammar_apart bytes u t p b k h s)
refusal_alike bytes a b (in_assignments t p s n v) (in_types u q k w) = absurd (types_apart bytes u t q p b k w s n)
refusal_alike bytes a b (in_assignments t p s n v) (in_assignments u q k m w) =
    assignments_alike p a b v (subst (λ (x : Program). IsRefusedByAssignments x b) (spelled_once bytes u t q p k s) w)
refusal_alike bytes a b (in_assignments t p s n v) (in_bits u q k m d w e) = absurd (bits_apart bytes t u p q a s v k d)
refusal_alike bytes a b (in_bits t p s n d w e) (in_text y) = absurd (text.never_both bytes t b s.text y)
refusal_alike bytes a b (in_bits t p s n d w e) (in_grammar u k h) = absurd (grammar_apart bytes u t p b k h s)
refusal_alike bytes a b (in_bits t p s n d w e) (in_types u q k v) = absurd (types_apart bytes u t q p b k v s n)
refusal_alike bytes a b (in_bits t p s n d w e) (in_assignments u q k m v) = absurd (bits_apart bytes u t q p b k v s d)
refusal_alike bytes a b (in_bits t p s n d w e) (in_bits u q k m f v g) = inl (e ∙ sym g)
