-- The text of a sound block and of certificates.
use Rattle.std.proofs.Common.{◌≡◌, ℕ, ◌+◌, ◌≤◌, List, [], ◌∷◌, ◌++◌, length, set, replicate, Option, None, Some, Ok, refl, sym, subst, ap, ◌∙◌, arith, append_assoc, append-nil, length-append}
use Rattle.std.specs.List.{All}
use Rattle.std.specs.Option.{ForSome}
use Rattle.std.proofs.lemmas.List.{get_or_at, length_push, set_at}
use Rattle.std.proofs.lemmas.List.Elements.{All-head, All-tail}
use Rattle.hinted_log.specs.Hints.{HintedLog}
use Rattle.cert_core.specs.Blocks.{Block}
use Rattle.cert_text.specs.Tokens.{greatest}
use Rattle.cert_text.specs.Printed.{certificate_text, line_end, sound_text}
use Rattle.cert_text.specs.Reading.{ReadSoFar, lines_of, nothing_read, read_from, read_text}
use Rattle.cert_text_laws.specs.Readable.{AreBlocks, AreReadable, HasOtherLines, IsReadable, blocks_text, certificate_texts, only, sound_texts}
use Rattle.cert_text_laws.proofs.Leading.{Leads, leads_none, leads_same, leads_then}
use Rattle.cert_text_laws.proofs.Others.{others_lead}
use Rattle.cert_text_laws.proofs.Certificates.{missing, missing_are}
use Rattle.cert_text_laws.proofs.Whole.{certificate_ends}
use Rattle.cert_text_laws.proofs.Sounds.{sound_ends}

certificates_lead : (items : ℕ) (sound : Option (List (Option HintedLog))) (bs done : List (Option Block)) → length done + length bs ≤ greatest → All (λ b. ForSome b IsReadable) bs
    → Leads items (certificate_texts (length done + 1) bs) (only sound (done ++ missing bs)) (only sound (done ++ bs))
certificates_lead items sound [] done few all = leads_none items (only sound (done ++ []))
certificates_lead items sound (None ∷ bs) done few all =
    let more = done ++ None ∷ [] in
    let long : length more ≡ length done + 1 = length_push done None in
    let rest = certificates_lead items sound bs more (omega (arith, few, long)) (All-tail (λ b. ForSome b IsReadable) None bs all) in
    let counted = subst (λ m. Leads items (certificate_texts (m + 1) bs) (only sound (more ++ missing bs)) (only sound (more ++ bs))) long rest in
    let front = subst (λ (l : List (Option Block)). Leads items (certificate_texts (length done + 1 + 1) bs) (only sound l) (only sound (more ++ bs))) (append_assoc done (None ∷ []) (missing bs)) counted in
    subst (λ (l : List (Option Block)). Leads items (certificate_texts (length done + 1 + 1) bs) (only sound (done ++ None ∷ missing bs)) (only sound l)) (append_assoc done (None ∷ []) bs) front
certificates_lead items sound (Some b ∷ bs) done few all =
    let more = done ++ Some b ∷ [] in
    let long : length more ≡ length done + 1 = length_push done (Some b) in
    let n = length done in
    let xs = done ++ None ∷ missing bs in
    let whole = length-append done (None ∷ missing bs) in
    let first = certificate_ends items n (only sound xs) b (All-head (λ c. ForSome c IsReadable) (Some b) bs all b refl)
    (record { closed = refl; within = omega (arith, whole); few = omega (arith, few); none = get_or_at done None (missing bs) None n refl }) in
    let set_back : set xs n (Some b) ≡ more ++ missing bs = set_at done None (missing bs) (Some b) n refl ∙ sym (append_assoc done (Some b ∷ []) (missing bs)) in
    let here : Leads items (certificate_text (n + 1) b) (only sound xs) (only sound (more ++ missing bs)) =
    leads_same items (certificate_text (n + 1) b) (only sound xs) (only sound (set xs n (Some b))) _ (ap (only sound) set_back) first.leads in
    let rest = certificates_lead items sound bs more (omega (arith, few, long)) (All-tail (λ c. ForSome c IsReadable) (Some b) bs all) in
    let counted = subst (λ m. Leads items (certificate_texts (m + 1) bs) (only sound (more ++ missing bs)) (only sound (more ++ bs))) long rest in
    leads_same items (certificate_texts (n + 1) (Some b ∷ bs)) (only sound xs) _ _ (ap (only sound) (append_assoc done (Some b ∷ []) bs))
    (leads_then items (certificate_text (n + 1) b) (certificate_texts (n + 1 + 1) bs) (only sound xs) (only sound (more ++ missing bs)) (only sound (more ++ bs)) here counted)

sound_lead : (items : ℕ) (sound : Option (List (Option HintedLog))) (certificates : List (Option Block)) → ForSome sound (λ steps. length steps ≡ items) → ForSome sound AreReadable
    → Leads items (sound_texts sound) (only None certificates) (only sound certificates)
sound_lead items None certificates fits readable = leads_none items (only None certificates)
sound_lead items (Some xs) certificates fits readable =
    let ended = sound_ends (only None certificates) xs (readable xs refl) (record { closed = refl; none = refl }) in
    subst (λ n. Leads n (sound_text xs) (only None certificates) (only (Some xs) certificates)) (fits xs refl) ended.leads

-- what leads on to the end of a text is read
read_whole : (items : ℕ) (text : List ℕ) (r : ReadSoFar) (sound : Option (List (Option HintedLog))) (certificates : List (Option Block)) → Leads items text r (only sound certificates)
    → read_from items 1 1 r (lines_of text) ≡ Ok (only sound certificates)
read_whole items text r sound certificates h = ap (λ (l : List ℕ). read_from items 1 1 r (lines_of l)) (sym (append-nil text)) ∙ h.read 1 1 []

blocks_lead : (items : ℕ) (sound : Option (List (Option HintedLog))) (certificates : List (Option Block)) → AreBlocks items sound certificates
    → Leads (items + length certificates) (blocks_text sound certificates) (nothing_read (length certificates)) (only sound certificates)
blocks_lead items sound certificates h =
    let n = length certificates in
    let few : n ≤ greatest = h.few in
    let missed : List (Option Block) = replicate n None in
    let sounds = sound_lead (items + n) sound missed h.count h.parts in
    let given = certificates_lead (items + n) sound certificates [] (omega (arith, few)) h.blocks in
    let back = subst (λ (l : List (Option Block)). Leads (items + n) (certificate_texts 1 certificates) (only sound l) (only sound certificates)) (sym (missing_are certificates)) given in
    leads_then (items + n) (sound_texts sound) (certificate_texts 1 certificates) (nothing_read n) (only sound missed) (only sound certificates) sounds back

pub blocks_read : (items : ℕ) (sound : Option (List (Option HintedLog))) (certificates : List (Option Block)) → AreBlocks items sound certificates
    → read_text (length certificates) items (blocks_text sound certificates) ≡ Ok (only sound certificates)
blocks_read items sound certificates h =
    read_whole (items + length certificates) (blocks_text sound certificates) (nothing_read (length certificates)) sound certificates (blocks_lead items sound certificates h)

-- the same behind other lines
pub blocks_read_behind : (items : ℕ) (sound : Option (List (Option HintedLog))) (certificates : List (Option Block)) (others : List ℕ) → AreBlocks items sound certificates → HasOtherLines others
    → read_text (length certificates) items (others ++ line_end ++ blocks_text sound certificates) ≡ Ok (only sound certificates)
blocks_read_behind items sound certificates others h other =
    let n = length certificates in
    read_whole (items + n) (others ++ line_end ++ blocks_text sound certificates) (nothing_read n) sound certificates
    (leads_then (items + n) (others ++ line_end) (blocks_text sound certificates) (nothing_read n) (nothing_read n) (only sound certificates) (others_lead (items + n) (nothing_read n) others other) (blocks_lead items sound certificates h))
