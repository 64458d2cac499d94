-- Rows of words, and what they keep as watches move.
use Rattle.std.proofs.Common.{◌≡◌, ℕ, ◌<◌, ◌≤◌, ◌+◌, ◌-◌, ◌*◌, ◌/◌, ◌%◌, Bool, true, false, eqb, List, [], ◌∷◌, ◌++◌, length, take, drop, map, get_or, set, refl, sym, subst, ap, ◌∙◌, inl, inr, ◌⊎◌, arith, get_or-set_other, get_or-set_same, length-append, length-set, length-drop}
use Rattle.std.proofs.Math.Seq.{get_or-append_seam, drop-append_seam, take-set-lt}
use Rattle.std.proofs.lemmas.Bool.{cases_eq, cases_lt}
use Rattle.std.proofs.lemmas.List.{ext_get_or, get_or-map, get_or_append_left, length-map, length-take, map-append, map-set, drop-set-lt, drop-set-add, take-set-le, take-append-le, drop-append-le, take_all, take-append-drop}
use Rattle.std.proofs.lemmas.List.Elements.{All-head, All-tail, All-push, All-weaker}
use Rattle.clause_core.specs.declared.literal.Lit.{Lit}
use Rattle.clause_core.proofs.Lists.{lit_same}
use Rattle.sat_prop.specs.declared.rows.Span.{Span}
use Rattle.sat_prop.specs.Watches.{one, cell}
use Rattle.sat_prop.specs.Words.{literal_of}
use Rattle.sat_prop.specs.Packing.{row_words, row_at, rows_at, SpansIn, SpansApart}

half : (v : ℕ) (b : Bool) → (2 * v + one b) / 2 ≡ v
half v true = omega arith
half v false = omega arith

odd : (v : ℕ) (b : Bool) → eqb ((2 * v + one b) % 2) 1 ≡ b
odd v true = let e : (2 * v + 1) % 2 ≡ 1 = omega arith in rw e refl
odd v false = let e : (2 * v + 0) % 2 ≡ 0 = omega arith in rw e refl

pub literal_cell : (l : Lit) → literal_of (cell l) ≡ l
literal_cell l = lit_same (literal_of (cell l)) l (half l.var l.positive) (odd l.var l.positive)

pub literals_back : (r : List Lit) → map literal_of (map cell r) ≡ r
literals_back [] = refl
literals_back (l ∷ r) =
    let e : literal_of (cell l) ≡ l = literal_cell l in
    let f : map literal_of (map cell r) ≡ r = literals_back r in
    cc

pub row_kept : (words more : List ℕ) (s : Span) → s.from + s.len ≤ length words → row_at (words ++ more) s ≡ row_at words s
row_kept words more s h =
    let a : s.from ≤ length words = omega arith in
    let b : s.len ≤ length (drop s.from words) = simp length-drop (omega arith) in
    let e : row_words (words ++ more) s ≡ row_words words s = rw drop-append-le (take-append-le s.len (drop s.from words) more b) in
    ap (map literal_of) e

pub rows_kept : (words more : List ℕ) (spans : List Span) → SpansIn words spans → rows_at (words ++ more) spans ≡ rows_at words spans
rows_kept words more [] h = refl
rows_kept words more (s ∷ ss) h =
    let e : row_at (words ++ more) s ≡ row_at words s = row_kept words more s (All-head (λ s. s.from + s.len ≤ length words) s ss h) in
    let f : rows_at (words ++ more) ss ≡ rows_at words ss = rows_kept words more ss (All-tail (λ s. s.from + s.len ≤ length words) s ss h) in
    cc

pub rows_push : (words : List ℕ) (row : List Lit) (spans : List Span) (s : Span) → s.from ≡ length words → s.len ≡ length row → SpansIn words spans →
    rows_at (words ++ map cell row) (spans ++ s ∷ []) ≡ rows_at words spans ++ row ∷ []
rows_push words row spans s ef el h =
    let more = map cell row in
    let e : rows_at (words ++ more) (spans ++ s ∷ []) ≡ rows_at (words ++ more) spans ++ row_at (words ++ more) s ∷ [] = map-append _ _ _ in
    let lm : length more ≡ length row = length-map row cell in
    let W : ℕ → ℕ → Type 0 = λ n m. take m (drop n (words ++ more)) ≡ more in
    let whole : W (length words) (length more) = rw drop-append_seam (take_all (length more) more (omega arith)) in
    let AtFront : ℕ → Type 0 = λ n. W n s.len in
    let AtLength : ℕ → Type 0 = λ m. W (length words) m in
    let g : row_words (words ++ more) s ≡ more = subst AtFront (sym ef) (subst AtLength (lm ∙ sym el) whole) in
    let f : row_at (words ++ more) s ≡ row = ap (map literal_of) g ∙ literals_back row in
    e ∙ (rw (f, rows_kept words more spans h) refl)

pub apart_push : (words : List ℕ) (spans : List Span) (s : Span) → s.from ≡ length words → SpansIn words spans → SpansApart spans → SpansApart (spans ++ s ∷ [])
apart_push words spans s ef within apart j k d d' jk lk =
    let lj : j < length spans = omega (arith, jk, lk, length-append spans (s ∷ [])) in
    let ej : get_or (spans ++ s ∷ []) j d ≡ get_or spans j d = get_or_append_left spans (s ∷ []) d j lj in
    let P : Span → Type 0 = λ t. t.from + t.len ≤ (get_or (spans ++ s ∷ []) k d').from in
    subst P (sym ej) (elim (cases_lt k (length spans)) [
      | inl lt ↦
          let ek : get_or (spans ++ s ∷ []) k d' ≡ get_or spans k d' = get_or_append_left spans (s ∷ []) d' k lt in
          let Q : Span → Type 0 = λ t. (get_or spans j d).from + (get_or spans j d).len ≤ t.from in
          subst Q (sym ek) (apart j k d d' jk lt)
      | inr ge ↦
          let last : k ≡ length spans = omega (arith, lk, ge, length-append spans (s ∷ [])) in
          let ek : get_or (spans ++ s ∷ []) k d' ≡ s = rw last (get_or-append_seam spans s [] d') in
          let Q : Span → Type 0 = λ t. (get_or spans j d).from + (get_or spans j d).len ≤ t.from in
          let here : Q s = omega (arith, ef, within j d lj) in
          subst Q (sym ek) here
    ])

-- a word of another row changes
row_other : (words : List ℕ) (t : Span) (p w : ℕ) → (p < t.from) ⊎ (t.from + t.len ≤ p) → row_at (set words p w) t ≡ row_at words t
row_other words t p w h =
    elim h [
      | inl before ↦ ap (λ v. map literal_of (take t.len v)) (drop-set-lt t.from words p w before)
      | inr after ↦
          let q = p - t.from in
          let e : p ≡ t.from + q = omega (arith, after) in
          let D : ℕ → Type 0 = λ n. drop t.from (set words n w) ≡ set (drop t.from words) q w in
          let d : D p = subst D (sym e) (drop-set-add t.from words q w) in
          let s : take t.len (set (drop t.from words) q w) ≡ take t.len (drop t.from words) = take-set-le t.len (drop t.from words) q w (omega (arith, after, e)) in
          ap (λ v. map literal_of (take t.len v)) d ∙ ap (map literal_of) s
    ]

-- a word of this row changes
row_here : (words : List ℕ) (s : Span) (i w : ℕ) → i < s.len → row_at (set words (s.from + i) w) s ≡ set (row_at words s) i (literal_of w)
row_here words s i w li =
    let d : drop s.from (set words (s.from + i) w) ≡ set (drop s.from words) i w = drop-set-add s.from words i w in
    let t : take s.len (set (drop s.from words) i w) ≡ set (take s.len (drop s.from words)) i w = take-set-lt s.len (drop s.from words) i w li in
    ap (λ v. map literal_of (take s.len v)) d ∙ ap (map literal_of) t ∙ map-set literal_of (take s.len (drop s.from words)) i w

pub rows_set : (words : List ℕ) (spans : List Span) (k i w : ℕ) (s : Span) → k < length spans → s ≡ get_or spans k s → i < s.len → SpansApart spans →
    rows_at (set words (s.from + i) w) spans ≡ set (rows_at words spans) k (set (row_at words s) i (literal_of w))
rows_set words spans k i w s lk es li apart =
    let p = s.from + i in
    let f : Span → List Lit = row_at words in
    let g : Span → List Lit = row_at (set words p w) in
    let row : List Lit = set (f s) i (literal_of w) in
    let lf : length (map f spans) ≡ length spans = length-map spans f in
    let lg : length (map g spans) ≡ length spans = length-map spans g in
    let ls : length (set (map f spans) k row) ≡ length (map f spans) = length-set (map f spans) k row in
    ext_get_or [] (map g spans) (set (map f spans) k row) (omega (arith, lf, lg, ls)) (λ j lj.
    let lj' : j < length spans = omega (arith, lj, lg) in
    let a : get_or (map g spans) j [] ≡ g (get_or spans j s) = get_or-map g spans j s [] lj' in
    elim (cases_eq j k) [
      | inl same ↦
          let P : ℕ → Type 0 = λ n. get_or (map g spans) n [] ≡ get_or (set (map f spans) k row) n [] in
          let gk : get_or (map g spans) k [] ≡ g (get_or spans k s) = get_or-map g spans k s [] lk in
          let now : get_or (set (map f spans) k row) k [] ≡ row = get_or-set_same (map f spans) k row [] (omega (arith, lk, lf)) in
          let here : P k = gk ∙ ap g (sym es) ∙ row_here words s i w li ∙ sym now in
          subst P (sym same) here
      | inr ne ↦
          let t = get_or spans j s in
          let b : get_or (set (map f spans) k row) j [] ≡ get_or (map f spans) j [] = (rw get_or-set_other refl) in
          let c : get_or (map f spans) j [] ≡ f t = get_or-map f spans j s [] lj' in
          let far : (p < t.from) ⊎ (t.from + t.len ≤ p) = elim (cases_lt j k) [
            | inl lt ↦
                let Q : Span → Type 0 = λ x. t.from + t.len ≤ x.from in
                let h : Q s = subst Q (sym es) (apart j k s s lt lk) in
                inr (omega (arith, h))
            | inr ge ↦
                let Q : Span → Type 0 = λ x. x.from + x.len ≤ t.from in
                let h : Q s = subst Q (sym es) (apart k j s s (omega (arith, ge, ne)) lj') in
                inl (omega (arith, h, li))
          ] in
          a ∙ row_other words t p w far ∙ sym (b ∙ c)
    ])

pub row_length : (words : List ℕ) (s : Span) (i : ℕ) (row : List Lit) → row ≡ row_at words s → i < length row → i < s.len
row_length words s i row e li =
    omega (arith, li, ap length e, length-map (take s.len (drop s.from words)) literal_of, length-take s.len (drop s.from words))

-- words that were written behind the rows
pub rows_later : (words new : List ℕ) (spans : List Span) → take (length words) new ≡ words → SpansIn words spans → rows_at new spans ≡ rows_at words spans
rows_later words new spans same h =
    let e : new ≡ words ++ drop (length words) new = sym (take-append-drop (length words) new) ∙ ap (λ v. v ++ drop (length words) new) same in
    ap (λ v. rows_at v spans) e ∙ rows_kept words (drop (length words) new) spans h

pub spans_in_push : (words new : List ℕ) (spans : List Span) (s : Span) → length words ≤ length new → s.from + s.len ≤ length new → SpansIn words spans → SpansIn new (spans ++ s ∷ [])
spans_in_push words new spans s more here h =
    All-push (λ t. t.from + t.len ≤ length new) spans s (All-weaker (λ t. t.from + t.len ≤ length words) (λ t. t.from + t.len ≤ length new) (λ t le. omega (arith, le, more)) spans h) here
