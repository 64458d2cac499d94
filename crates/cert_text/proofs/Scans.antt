-- Words read one after another.
use Rattle.std.proofs.Common.{◌≡◌, ℕ, ◌+◌, ◌<◌, Bool, true, false, cond, List, [], ◌∷◌, ◌++◌, Option, None, Some, length, get_or, drop, refl, sym, ap, ◌∙◌, append_assoc, append-nil, ◌≤◌}
use Rattle.std.specs.Option.{option_map}
use Rattle.std.proofs.lemmas.List.{at_drop_all, at_drop_more}
use Rattle.clause_core.specs.declared.literal.Lit.{Lit}
use Rattle.cert_text.specs.declared.token.Token.{Token}
use Rattle.cert_text.specs.Tokens.{and_then, token_of, tokens_of}
use Rattle.cert_text.specs.Lines.{Literals, hint_of, hints_of, is_zero, literal_before, literal_of, literals_of}

-- these in front of a list that is there
abbrev pub behind : {A : Type 0} → List A → Option (List A) → Option (List A)
behind xs o = option_map (λ ys. xs ++ ys) o

pub behind_more : {A : Type 0} (xs : List A) (t : Option A) (x : A) (o : Option (List A)) → t ≡ Some x → behind xs (and_then t o) ≡ behind (xs ++ x ∷ []) o
behind_more xs None x o e = cc
behind_more xs (Some t) x None e = refl
behind_more xs (Some t) x (Some ys) e = let same : t ≡ x = cc in rw same (ap Some (sym (append_assoc xs (x ∷ []) ys)))

pub behind_none : {A : Type 0} (xs : List A) (t : Option A) (o : Option (List A)) → t ≡ None → behind xs (and_then t o) ≡ None
behind_none xs None o e = refl
behind_none xs (Some t) o e = cc

-- the list from place i on begins with the element there
pub drop_at : {A B : Type 0} (f : List A → B) (xs : List A) (i : ℕ) (x : A) → i < length xs → x ≡ get_or xs i x → f (drop i xs) ≡ f (x ∷ drop (i + 1) xs)
drop_at f xs i x lt e = let g = at_drop_more f xs i x lt in let h = ap (λ w. f (w ∷ drop (i + 1) xs)) (sym e) in g ∙ h

pub tokens_more : (ws : List (List ℕ)) (i : ℕ) (xs : List Token) (w : List ℕ) (x : Token) → i < length ws → w ≡ get_or ws i w → Some x ≡ token_of w →
    behind xs (tokens_of (drop i ws)) ≡ behind (xs ++ x ∷ []) (tokens_of (drop (i + 1) ws))
tokens_more ws i xs w x lt at e = ap (behind xs) (drop_at tokens_of ws i w lt at) ∙ behind_more xs (token_of w) x (tokens_of (drop (i + 1) ws)) (sym e)

pub tokens_stop : (ws : List (List ℕ)) (i : ℕ) (xs : List Token) (w : List ℕ) → i < length ws → w ≡ get_or ws i w → None ≡ token_of w → behind xs (tokens_of (drop i ws)) ≡ None
tokens_stop ws i xs w lt at e = ap (behind xs) (drop_at tokens_of ws i w lt at) ∙ behind_none xs (token_of w) (tokens_of (drop (i + 1) ws)) (sym e)

-- the same of literals
abbrev pub lits_behind : List Lit → Option Literals → Option Literals
lits_behind xs None = None
lits_behind xs (Some l) = Some record { lits = xs ++ l.lits; rest = l.rest }

hint_more : (xs : List ℕ) (ended : Bool) (t : Option ℕ) (x : ℕ) (end o : Option (List ℕ)) → false ≡ ended → Some x ≡ t →
    behind xs (cond ended end (and_then t o)) ≡ behind (xs ++ x ∷ []) o
hint_more xs true t x end o e f = cc
hint_more xs false t x end o e f = behind_more xs t x o (sym f)

pub hints_more : (ts : List Token) (i : ℕ) (xs : List ℕ) (d : Token) (x : ℕ) → i < length ts → false ≡ is_zero (get_or ts i d) → Some x ≡ hint_of (get_or ts i d) →
    behind xs (hints_of (drop i ts)) ≡ behind (xs ++ x ∷ []) (hints_of (drop (i + 1) ts))
hints_more ts i xs d x lt e f = ap (behind xs) (at_drop_more hints_of ts i d lt) ∙ hint_more xs (is_zero (get_or ts i d)) (hint_of (get_or ts i d)) x _ (hints_of (drop (i + 1) ts)) e f

literal_more : (xs : List Lit) (ended : Bool) (t : Option Lit) (x : Lit) (end o : Option Literals) → false ≡ ended → Some x ≡ t →
    lits_behind xs (cond ended end (literal_before t o)) ≡ lits_behind (xs ++ x ∷ []) o
literal_more xs true t x end o e f = cc
literal_more xs false None x end o e f = cc
literal_more xs false (Some t) x end None e f = refl
literal_more xs false (Some t) x end (Some more) e f =
    let same : t ≡ x = cc in
    let joined : List Lit → Option Literals = λ lits. Some record { lits = lits; rest = more.rest } in
    rw same (ap joined (sym (append_assoc xs (x ∷ []) more.lits)))

pub literals_more : (ts : List Token) (i : ℕ) (xs : List Lit) (d : Token) (x : Lit) → i < length ts → false ≡ is_zero (get_or ts i d) → Some x ≡ literal_of (get_or ts i d) →
    lits_behind xs (literals_of (drop i ts)) ≡ lits_behind (xs ++ x ∷ []) (literals_of (drop (i + 1) ts))
literals_more ts i xs d x lt e f =
    ap (lits_behind xs) (at_drop_more literals_of ts i d lt) ∙ literal_more xs (is_zero (get_or ts i d)) (literal_of (get_or ts i d)) x _ (literals_of (drop (i + 1) ts)) e f

no_hint : (xs : List ℕ) (ended : Bool) (t : Option ℕ) (end o : Option (List ℕ)) → false ≡ ended → None ≡ t → behind xs (cond ended end (and_then t o)) ≡ None
no_hint xs true t end o e f = cc
no_hint xs false t end o e f = behind_none xs t o (sym f)

pub hints_stop : (ts : List Token) (i : ℕ) (xs : List ℕ) (d : Token) → i < length ts → false ≡ is_zero (get_or ts i d) → None ≡ hint_of (get_or ts i d) → behind xs (hints_of (drop i ts)) ≡ None
hints_stop ts i xs d lt e f = ap (behind xs) (at_drop_more hints_of ts i d lt) ∙ no_hint xs (is_zero (get_or ts i d)) (hint_of (get_or ts i d)) _ (hints_of (drop (i + 1) ts)) e f

pub hints_over : (ts : List Token) (i : ℕ) (xs : List ℕ) → length ts ≤ i → behind xs (hints_of (drop i ts)) ≡ None
hints_over ts i xs le = ap (behind xs) (at_drop_all hints_of ts i le)

no_literal : (xs : List Lit) (ended : Bool) (t : Option Lit) (end o : Option Literals) → false ≡ ended → None ≡ t → lits_behind xs (cond ended end (literal_before t o)) ≡ None
no_literal xs true t end o e f = cc
no_literal xs false None end o e f = refl
no_literal xs false (Some t) end o e f = cc

pub literals_stop : (ts : List Token) (i : ℕ) (xs : List Lit) (d : Token) → i < length ts → false ≡ is_zero (get_or ts i d) → None ≡ literal_of (get_or ts i d) → lits_behind xs (literals_of (drop i ts)) ≡ None
literals_stop ts i xs d lt e f = ap (lits_behind xs) (at_drop_more literals_of ts i d lt) ∙ no_literal xs (is_zero (get_or ts i d)) (literal_of (get_or ts i d)) _ (literals_of (drop (i + 1) ts)) e f

pub literals_over : (ts : List Token) (i : ℕ) (xs : List Lit) → length ts ≤ i → lits_behind xs (literals_of (drop i ts)) ≡ None
literals_over ts i xs le = ap (lits_behind xs) (at_drop_all literals_of ts i le)

literals_ended : (xs : List Lit) (ended : Bool) (rest : List Token) (o : Option Literals) → true ≡ ended → lits_behind xs (cond ended (Some record { lits = []; rest = rest }) o) ≡ Some record { lits = xs; rest = rest }
literals_ended xs true rest o e = let read : List Lit → Option Literals = λ lits. Some record { lits = lits; rest = rest } in ap read (append-nil xs)
literals_ended xs false rest o e = cc

pub literals_end : (ts : List Token) (i : ℕ) (xs : List Lit) (d : Token) → i < length ts → true ≡ is_zero (get_or ts i d) → lits_behind xs (literals_of (drop i ts)) ≡ Some record { lits = xs; rest = drop (i + 1) ts }
literals_end ts i xs d lt e =
    ap (lits_behind xs) (at_drop_more literals_of ts i d lt)
    ∙ literals_ended xs (is_zero (get_or ts i d)) (drop (i + 1) ts) (literal_before (literal_of (get_or ts i d)) (literals_of (drop (i + 1) ts))) e
