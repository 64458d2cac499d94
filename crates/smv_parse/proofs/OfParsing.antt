-- What is read from tokens is what they spell, and what is refused is refused as it is to be.
use Rattle.std.proofs.Common.{◌≡◌, List, None, Ok, Err, subst}
use Rattle.phrase_forms.specs.declared.fault.Fault.{Fault}
use Rattle.phrase_forms.specs.Language.{read_all}
use Rattle.phrase_forms.proofs.OfLevels.{found, refused_within}
use Rattle.smv_tree.specs.declared.token.Token.{Token}
use Rattle.smv_tree.specs.declared.token.Tokens.{Tokens}
use Rattle.smv_tree.specs.declared.refusal.Refusal.{Refusal}
use Rattle.smv_tree.specs.declared.tree.Program.{Program}
use Rattle.smv_parse.specs.Programs.{program}
use Rattle.smv_parse.specs.Spelling.{first_unsupported, IsSpelling, fault_refusal, IsRefusedTokens}
use Rattle.smv_parse.proofs.OfPrograms.{program_lawful, program_alike}

-- what is read where each token has a place in the language is spelled
pub read_spelled : (tokens : List Token) (p : Program) → first_unsupported tokens ≡ None → read_all (program 0) tokens ≡ Ok p → IsSpelling tokens p
read_spelled tokens p supported e = record { supported = supported; spelled = found program program_lawful program_alike tokens p e }

told : (tokens : Tokens) (fault : Fault) (rest : List Token) (refusal : Refusal) → first_unsupported tokens.items ≡ None → read_all (program 0) tokens.items ≡ Err (fault, rest)
    → refusal ≡ fault_refusal fault rest tokens.end → IsRefusedTokens tokens refusal
told tokens fault rest refusal supported e is =
    let refused = refused_within program program_lawful program_alike tokens.items fault rest e in
    rw supported (record { fault = fault; before = refused.before; rest = rest; split = refused.split; refused = refused.why; told = is })

-- a fault is told where each token has a place in the language
pub told_fault : (tokens : Tokens) (items : List Token) (fault : Fault) (rest : List Token) (refusal : Refusal) → items ≡ tokens.items → first_unsupported items ≡ None
    → read_all (program 0) items ≡ Err (fault, rest) → refusal ≡ fault_refusal fault rest tokens.end → IsRefusedTokens tokens refusal
told_fault tokens items fault rest refusal same supported e is =
    told tokens fault rest refusal (rw same at supported) (let P : List Token → Type 0 = λ ts. read_all (program 0) ts ≡ Err (fault, rest) in subst P same e) is
