-- Tokens spell one program, or are refused in one way, and never both.
use Rattle.std.proofs.Common.{◌≡◌, List, Option, Some, None, Result, Ok, Err, refl, sym, ap, subst, ◌∙◌, inl, inr}
use Rattle.std.specs.Prelude.{◌⊎◌}
use Rattle.phrase_forms.specs.declared.fault.Fault.{Fault}
use Rattle.phrase_forms.specs.Language.{read_all}
use Rattle.phrase_forms.specs.Levels.{SpellsWithin}
use Rattle.phrase_forms.proofs.OfLevels.{only_within}
use Rattle.smv_tree.specs.declared.token.Token.{Token}
use Rattle.smv_tree.specs.declared.token.Tokens.{Tokens}
use Rattle.smv_tree.specs.declared.refusal.Refusal.{Refusal}
use Rattle.smv_tree.specs.declared.tree.Program.{Program}
use Rattle.smv_parse.specs.Programs.{program}
use Rattle.smv_parse.specs.Spelling.{first_unsupported, IsSpelling, fault_refusal, unsupported_refusal, IsFaulty, IsRefusedFor, IsRefusedTokens}
use Rattle.smv_parse.proofs.OfPrograms.{program_lawful, program_alike}
use Rattle.smv_parse.proofs.OfParsing.{read_spelled, told_fault}
use Rattle.smv_parse.proofs.RefusedOnce.{refused_once, spelt_not_refused}

-- the tokens spell one program at most
pub program_once : (tokens : List Token) (p q : Program) → IsSpelling tokens p → IsSpelling tokens q → p ≡ q
program_once tokens p q s r = only_within program program_lawful program_alike tokens p q s.spelled r.spelled

faulty_once : (tokens : Tokens) (r s : Refusal) → IsFaulty tokens r → IsFaulty tokens s → r ≡ s
faulty_once tokens r s w v =
    let same = refused_once program program_lawful program_alike w.fault v.fault w.before w.rest v.before v.rest (sym w.split ∙ v.split) w.refused v.refused in
    w.told ∙ ap (λ (f : Fault). fault_refusal f w.rest tokens.end) same.0 ∙ ap (λ (us : List Token). fault_refusal v.fault us tokens.end) same.1 ∙ sym v.told

refused_for_once : (unsupported : Option Token) (tokens : Tokens) (r s : Refusal) → IsRefusedFor unsupported tokens r → IsRefusedFor unsupported tokens s → r ≡ s
refused_for_once (Some t) tokens r s w v = w ∙ sym v
refused_for_once None tokens r s w v = faulty_once tokens r s w v

-- the tokens are refused in one way at most
pub refusal_once : (tokens : Tokens) (r s : Refusal) → IsRefusedTokens tokens r → IsRefusedTokens tokens s → r ≡ s
refusal_once tokens r s w v = refused_for_once (first_unsupported tokens.items) tokens r s w v

faulty_not_spelled : (tokens : Tokens) (p : Program) (r : Refusal) → IsSpelling tokens.items p → IsFaulty tokens r → ⊥
faulty_not_spelled tokens p r s w =
    let P : List Token → Type 0 = λ ts. SpellsWithin program 0 ts p in
    spelt_not_refused program program_lawful program_alike w.fault w.before w.rest p (subst P w.split s.spelled) w.refused

refused_for_not_spelled : (unsupported : Option Token) (tokens : Tokens) (p : Program) (r : Refusal) → unsupported ≡ None → IsSpelling tokens.items p → IsRefusedFor unsupported tokens r → ⊥
refused_for_not_spelled (Some t) tokens p r e s w = cc
refused_for_not_spelled None tokens p r e s w = faulty_not_spelled tokens p r s w

-- tokens that spell a program are not refused
pub never_both : (tokens : Tokens) (p : Program) (r : Refusal) → IsSpelling tokens.items p → IsRefusedTokens tokens r → ⊥
never_both tokens p r s w = refused_for_not_spelled (first_unsupported tokens.items) tokens p r s.supported s w

-- a program that the tokens spell, or how they are refused
abbrev pub Either : Tokens → Type 0
Either tokens = ((p : Program) × IsSpelling tokens.items p) ⊎ ((r : Refusal) × IsRefusedTokens tokens r)

read_either : (tokens : Tokens) → first_unsupported tokens.items ≡ None → (read : Result Program (Fault × List Token)) → read_all (program 0) tokens.items ≡ read → Either tokens
read_either tokens supported (Ok p) e = inl (p, read_spelled tokens.items p supported e)
read_either tokens supported (Err w) e = inr (fault_refusal w.0 w.1 tokens.end, told_fault tokens tokens.items w.0 w.1 (fault_refusal w.0 w.1 tokens.end) refl supported e refl)

found_either : (tokens : Tokens) (unsupported : Option Token) → first_unsupported tokens.items ≡ unsupported → Either tokens
found_either tokens (Some t) e = inr (unsupported_refusal t, rw e refl)
found_either tokens None e = read_either tokens e (read_all (program 0) tokens.items) refl

-- tokens spell a program or are refused
pub one_of_both : (tokens : Tokens) → Either tokens
one_of_both tokens = found_either tokens (first_unsupported tokens.items) refl
