-- The claims that were made stay in order.
use Rattle.std.proofs.Common.{◌≡◌, ◌⊎◌, inl, inr, ℕ, zero, suc, ◌+◌, ◌<◌, ◌≤◌, Bool, true, false, List, [], ◌∷◌, ◌++◌, length, set, refl, sym, ap, subst, ◌∙◌, arith, length-append, length-set}
use Rattle.std.specs.Prelude.{Option, Some, None, if◌then◌else◌}
use Rattle.std.proofs.lemmas.Bool.{cases_eq}
use Rattle.frame_history.specs.declared.entries.Subject.{Subject}
use Rattle.frame_history.specs.declared.entries.Subject.TheVariants.{Bad, Block, Push}
use Rattle.frame_history.specs.declared.entries.Made.{Made}
use Rattle.frame_history.specs.History.{claim_at, ended}
use Rattle.book_agenda.specs.Register.{Claims, IsNewIn, is_out, outs, IsUpTo, Precedes, AreOrderly, IsLatest}

-- ---- Lists of claims

pub in_range : (ms : List (Option Made)) (n : ℕ) (c : Made) → claim_at ms n ≡ Some c → n < length ms
in_range [] n c e = absurd (cc)
in_range (m ∷ ms) zero c e = omega arith
in_range (m ∷ ms) (suc n) c e = omega (arith, in_range ms n c e)

pub claim_old : (ms : List (Option Made)) (x : Option Made) (n : ℕ) → n < length ms → claim_at (ms ++ x ∷ []) n ≡ claim_at ms n
claim_old [] x n lt = absurd (omega arith)
claim_old (m ∷ ms) x zero lt = refl
claim_old (m ∷ ms) x (suc n) lt = claim_old ms x n (omega arith)

pub claim_last : (ms : List (Option Made)) (x : Option Made) → claim_at (ms ++ x ∷ []) (length ms) ≡ x
claim_last [] x = refl
claim_last (m ∷ ms) x = claim_last ms x

pub claim_snoc : (ms : List (Option Made)) (x : Option Made) (n : ℕ) (c : Made) → claim_at (ms ++ x ∷ []) n ≡ Some c →
    (claim_at ms n ≡ Some c) ⊎ ((n ≡ length ms) × (x ≡ Some c))
claim_snoc [] x zero c e = inr (refl, e)
claim_snoc [] x (suc n) c e = absurd (cc)
claim_snoc (m ∷ ms) x zero c e = inl e
claim_snoc (m ∷ ms) x (suc n) c e = elim (claim_snoc ms x n c e) [ inl h ↦ inl h | inr h ↦ inr (ap suc h.0, h.1) ]

pub claim_set : (ms : List (Option Made)) (n : ℕ) (x : Option Made) (k : ℕ) (c : Made) → claim_at (set ms n x) k ≡ Some c →
    ((k ≡ n) × (x ≡ Some c)) ⊎ (claim_at ms k ≡ Some c)
claim_set [] n x k c e = inr e
claim_set (m ∷ ms) zero x zero c e = inl (refl, e)
claim_set (m ∷ ms) zero x (suc k) c e = inr e
claim_set (m ∷ ms) (suc n) x zero c e = inr e
claim_set (m ∷ ms) (suc n) x (suc k) c e = elim (claim_set ms n x k c e) [ inl h ↦ inl (ap suc h.0, h.1) | inr h ↦ inr h ]

pub claim_set_here : (ms : List (Option Made)) (n : ℕ) (x : Option Made) → n < length ms → claim_at (set ms n x) n ≡ x
claim_set_here [] n x lt = absurd (omega arith)
claim_set_here (m ∷ ms) zero x lt = refl
claim_set_here (m ∷ ms) (suc n) x lt = claim_set_here ms n x (omega arith)

pub claim_set_other : (ms : List (Option Made)) (n : ℕ) (x : Option Made) (k : ℕ) → (k ≡ n → ⊥) → claim_at (set ms n x) k ≡ claim_at ms k
claim_set_other [] n x k ne = refl
claim_set_other (m ∷ ms) zero x zero ne = absurd (ne refl)
claim_set_other (m ∷ ms) zero x (suc k) ne = refl
claim_set_other (m ∷ ms) (suc n) x zero ne = refl
claim_set_other (m ∷ ms) (suc n) x (suc k) ne = claim_set_other ms n x k (λ e. ne (ap suc e))

pub outs-push : (ms : List (Option Made)) (x : Option Made) → outs (ms ++ x ∷ []) ≡ outs ms + (if is_out x then 1 else 0)
outs-push [] x = omega arith
outs-push (m ∷ ms) x = omega (arith, outs-push ms x)

pub outs-end : (ms : List (Option Made)) (n : ℕ) (c d : Made) → claim_at ms n ≡ Some c → c.out ≡ true → d.out ≡ false →
    outs (set ms n (Some d)) + 1 ≡ outs ms
outs-end [] n c d at out off = absurd (cc)
outs-end (m ∷ ms) zero c d at out off =
    let here : is_out m ≡ true = ap is_out at ∙ out in
    rw (here, off) (omega arith)
outs-end (m ∷ ms) (suc n) c d at out off = omega (arith, outs-end ms n c d at out off)

pub outs_le : (ms : List (Option Made)) → outs ms ≤ length ms
outs_le [] = omega arith
outs_le (None ∷ ms) = omega (arith, outs_le ms)
outs_le (Some c ∷ ms) = elim c.out as (λ (b : Bool). (if b then 1 else 0) + outs ms ≤ suc (length ms)) [ true ↦ omega (arith, outs_le ms) | false ↦ omega (arith, outs_le ms) ]

pub outs_some : (ms : List (Option Made)) (n : ℕ) (c : Made) → claim_at ms n ≡ Some c → c.out ≡ true → 1 ≤ outs ms
outs_some [] n c at out = absurd (cc)
outs_some (m ∷ ms) zero c at out =
    let here : is_out m ≡ true = ap is_out at ∙ out in
    rw here (omega arith)
outs_some (m ∷ ms) (suc n) c at out = omega (arith, outs_some ms n c at out)

-- ---- One claim more

pub subject_cases : (u v : Subject) → (u ≡ v) ⊎ (u ≡ v → ⊥)
subject_cases (Bad j) (Bad k) = elim (cases_eq j k) [ inl e ↦ inl (ap Bad e) | inr ne ↦ inr (λ e. ne (cc)) ]
subject_cases (Bad j) (Block k) = inr (λ e. absurd (cc))
subject_cases (Bad j) (Push k) = inr (λ e. absurd (cc))
subject_cases (Block j) (Bad k) = inr (λ e. absurd (cc))
subject_cases (Block j) (Block k) = elim (cases_eq j k) [ inl e ↦ inl (ap Block e) | inr ne ↦ inr (λ e. ne (cc)) ]
subject_cases (Block j) (Push k) = inr (λ e. absurd (cc))
subject_cases (Push j) (Bad k) = inr (λ e. absurd (cc))
subject_cases (Push j) (Block k) = inr (λ e. absurd (cc))
subject_cases (Push j) (Push k) = elim (cases_eq j k) [ inl e ↦ inl (ap Push e) | inr ne ↦ inr (λ e. ne (cc)) ]

abbrev pub with_claim : Claims → Made → Claims
with_claim s c = record { made = s.made ++ Some c ∷ []; growth = s.growth }

pub some_is : (c d : Made) → Some c ≡ Some d → c ≡ d
some_is c d e = cc

precedes_new : (s : Claims) (c d : Made) (m : ℕ) → AreOrderly s → IsNewIn s d.subject d.level → IsUpTo s d.subject d.level → d.growth ≡ s.growth →
    claim_at s.made m ≡ Some c → c.subject ≡ d.subject → Precedes c d
precedes_new s c d m h new up now at su =
    let past : c.growth ≤ s.growth = h.past m c at in
    record {
      growth = omega arith;
      level = λ e. up m c at su (e ∙ now);
      void = λ e l. new m c (in_range s.made m c at) at su l (e ∙ now);
    }

-- the number of a claim that is out
abbrev one_claim : ℕ
one_claim = 1

out_one : (b : Bool) → b ≡ true → (if b then 1 else 0) ≡ one_claim
out_one b e = rw e refl

pub orderly_claim : (s : Claims) (d : Made) → AreOrderly s → IsNewIn s d.subject d.level → IsUpTo s d.subject d.level → d.growth ≡ s.growth →
    d.out ≡ true → d.void ≡ false → AreOrderly (with_claim s d)
orderly_claim s d h new up now out off =
    record {
      past = λ n c at. elim (claim_snoc s.made (Some d) n c at) [
        | inl old ↦ h.past n c old
        | inr last ↦ let e : d ≡ c = some_is d c last.1 in omega (arith, now, ap (λ (z : Made). z.growth) e)
      ];
      order = λ m n a b lt am bn su. elim (claim_snoc s.made (Some d) n b bn) [
        | inl old ↦
            let inside : n < length s.made = in_range s.made n b old in
            let am' : claim_at s.made m ≡ Some a = sym (claim_old s.made (Some d) m (omega arith)) ∙ am in
            h.order m n a b lt am' old su
        | inr last ↦
            let am' : claim_at s.made m ≡ Some a = sym (claim_old s.made (Some d) m (omega (arith, last.0))) ∙ am in
            let e : d ≡ b = some_is d b last.1 in
            subst (Precedes a) e (precedes_new s a d m h new up now am' (su ∙ ap (λ (z : Made). z.subject) (sym e)))
      ];
      out = λ n c at is. elim (claim_snoc s.made (Some d) n c at) [
        | inl old ↦ h.out n c old is
        | inr last ↦ ap (λ (z : Made). z.void) (sym (some_is d c last.1)) ∙ off
      ];
      slow =
          let o : outs (s.made ++ Some d ∷ []) ≡ outs s.made + (if d.out then 1 else 0) = outs-push s.made (Some d) in
          let one = out_one d.out out in
          let l : length (s.made ++ Some d ∷ []) ≡ length s.made + 1 = length-append s.made (Some d ∷ []) in
          let slow = h.slow in
          omega (arith, o, one, l, slow);
    }

-- ---- A claim ends

-- claim k after claim n ended
pub record Was (ms : List (Option Made)) (k : ℕ) (d : Made) : Type 0 where
  pub before : Made
  pub at' : claim_at ms k ≡ Some before
  pub subject : d.subject ≡ before.subject
  pub level : d.level ≡ before.level
  pub growth : d.growth ≡ before.growth
  pub same : (d ≡ before) ⊎ ((before.out ≡ true) × (d.out ≡ false))

abbrev pub end_of : Bool → Made → Made
end_of void c = record c { out = false; void = void }

abbrev pub with_end : Claims → ℕ → Bool → Made → ℕ → Claims
with_end s n void c grown = record { made = set s.made n (ended void (Some c)) ++ None ∷ []; growth = s.growth + grown }

pub was : (ms : List (Option Made)) (n : ℕ) (void : Bool) (c : Made) → claim_at ms n ≡ Some c → c.out ≡ true → (k : ℕ) (d : Made) →
    claim_at (set ms n (ended void (Some c)) ++ None ∷ []) k ≡ Some d → Was ms k d
was ms n void c at out k d is =
    let e : Option Made = ended void (Some c) in
    elim (claim_snoc (set ms n e) None k d is) [
      | inl old ↦ elim (claim_set ms n e k d old) [
        | inl here ↦
            let f : end_of void c ≡ d = some_is (end_of void c) d here.1 in
            record {
              before = c;
              at' = ap (claim_at ms) here.0 ∙ at;
              subject = ap (λ (z : Made). z.subject) (sym f);
              level = ap (λ (z : Made). z.level) (sym f);
              growth = ap (λ (z : Made). z.growth) (sym f);
              same = inr (out, ap (λ (z : Made). z.out) (sym f));
            }
        | inr other ↦ record { before = d; at' = other; subject = refl; level = refl; growth = refl; same = inl refl }
      ]
      | inr last ↦ let none : None ≡ Some d = last.1 in absurd (cc)
    ]

precedes_was : (ms : List (Option Made)) (m n : ℕ) (a b : Made) (x : Was ms m a) (y : Was ms n b) →
    (x.before.out ≡ true → x.before.void ≡ false) → Precedes x.before y.before → Precedes a b
precedes_was ms m n a b x y out p =
    record {
      growth = let g = p.growth in let e = x.growth in let f = y.growth in omega arith;
      level = λ e. let l = p.level (sym x.growth ∙ e ∙ y.growth) in let i = x.level in let j = y.level in omega arith;
      void = λ e l.
          let v : x.before.void ≡ true = p.void (sym x.growth ∙ e ∙ y.growth) (sym x.level ∙ l ∙ y.level) in
          elim x.same [
            | inl same ↦ ap (λ (z : Made). z.void) same ∙ v
            | inr ended' ↦ let f : x.before.void ≡ false = out ended'.0 in absurd (cc)
          ];
    }

pub orderly_end : (s : Claims) (n : ℕ) (void : Bool) (c : Made) (grown : ℕ) → AreOrderly s → claim_at s.made n ≡ Some c → c.out ≡ true →
    grown ≤ 1 → AreOrderly (with_end s n void c grown)
orderly_end s n void c grown h at out small =
    record {
      past = λ k d is.
          let w : Was s.made k d = was s.made n void c at out k d is in
          let p : w.before.growth ≤ s.growth = h.past k w.before w.at' in
          let g = w.growth in omega arith;
      order = λ k l a b lt ak bl su.
          let x : Was s.made k a = was s.made n void c at out k a ak in
          let y : Was s.made l b = was s.made n void c at out l b bl in
          precedes_was s.made k l a b x y (h.out k x.before x.at')
          (h.order k l x.before y.before lt x.at' y.at' (sym x.subject ∙ su ∙ y.subject));
      out = λ k d is on.
          let w : Was s.made k d = was s.made n void c at out k d is in
          elim w.same [
            | inl same ↦ ap (λ (z : Made). z.void) same ∙ h.out k w.before w.at' (ap (λ (z : Made). z.out) (sym same) ∙ on)
            | inr ended' ↦ let off : d.out ≡ false = ended'.1 in absurd (cc)
          ];
      slow =
          let e : Option Made = ended void (Some c) in
          let o : outs (set s.made n e ++ None ∷ []) ≡ outs (set s.made n e) + 0 = outs-push (set s.made n e) None in
          let p : outs (set s.made n e) + 1 ≡ outs s.made = outs-end s.made n c (end_of void c) at out refl in
          let l : length (set s.made n e ++ None ∷ []) ≡ length (set s.made n e) + 1 = length-append (set s.made n e) (None ∷ []) in
          let m : length (set s.made n e) ≡ length s.made = length-set s.made n e in
          let slow = h.slow in
          omega arith;
    }

-- ---- The last claim of a subject

pub new_without : (s : Claims) (u : Subject) (level : ℕ) → IsLatest s.made u None → IsNewIn s u level
new_without s u level none n c lt at su l g = absurd (none n c at su)

pub new_after : (s : Claims) (u : Subject) (level l : ℕ) (c : Made) → AreOrderly s → IsUpTo s u level → IsLatest s.made u (Some l) →
    claim_at s.made l ≡ Some c → (c.growth ≡ s.growth → c.level ≡ level → c.void ≡ true) → IsNewIn s u level
new_after s u level l c h up latest at lets n d lt dn su sl sg =
    let last : Made = latest.0.0 in
    let same : c ≡ last = some_is c last (sym at ∙ latest.0.1) in
    let cu : c.subject ≡ u = ap (λ (z : Made). z.subject) same ∙ latest.0.2 in
    let le : n ≤ l = latest.1 n d dn su in
    elim (cases_eq n l) [
      | inl e ↦
          let f : c ≡ d = some_is c d (sym at ∙ ap (claim_at s.made) (sym e) ∙ dn) in
          ap (λ (z : Made). z.void) (sym f) ∙ lets (ap (λ (z : Made). z.growth) f ∙ sg) (ap (λ (z : Made). z.level) f ∙ sl)
      | inr ne ↦
          let p : Precedes d c = h.order n l d c (omega (arith, ne)) dn at (su ∙ sym cu) in
          let past : c.growth ≤ s.growth = h.past l c at in
          let pg = p.growth in
          let g : c.growth ≡ s.growth = omega arith in
          let pl : d.level ≤ c.level = p.level (sg ∙ sym g) in
          let ul : c.level ≤ level = up l c at cu g in
          let e : c.level ≡ level = omega arith in
          p.void (sg ∙ sym g) (sl ∙ sym e)
    ]

pub new_back : (s : Claims) (u : Subject) (level l : ℕ) (c : Made) → IsLatest s.made u (Some l) → claim_at s.made l ≡ Some c → IsNewIn s u level →
    c.growth ≡ s.growth → c.level ≡ level → c.void ≡ true
new_back s u level l c latest at new g e =
    let last : Made = latest.0.0 in
    let same : c ≡ last = some_is c last (sym at ∙ latest.0.1) in
    new l c (in_range s.made l c at) at (ap (λ (z : Made). z.subject) same ∙ latest.0.2) e g

pub latest_claim_here : (ms : List (Option Made)) (d : Made) (u : Subject) → d.subject ≡ u → IsLatest (ms ++ Some d ∷ []) u (Some (length ms))
latest_claim_here ms d u su = (
  (d, claim_last ms (Some d), su),
  λ n c at cu. let lt : n < length (ms ++ Some d ∷ []) = in_range (ms ++ Some d ∷ []) n c at in omega (arith, length-append ms (Some d ∷ [])),
)

pub latest_claim_other : (ms : List (Option Made)) (d : Made) (u : Subject) (l : Option ℕ) → (d.subject ≡ u → ⊥) → IsLatest ms u l →
    IsLatest (ms ++ Some d ∷ []) u l
latest_claim_other ms d u None ne latest = λ n c at cu.
    elim (claim_snoc ms (Some d) n c at) [
      | inl old ↦ latest n c old cu
      | inr last ↦ ne (ap (λ (z : Made). z.subject) (some_is d c last.1) ∙ cu)
    ]
latest_claim_other ms d u (Some l) ne latest = (
  (latest.0.0, claim_old ms (Some d) l (in_range ms l latest.0.0 latest.0.1) ∙ latest.0.1, latest.0.2),
  λ n c at cu. elim (claim_snoc ms (Some d) n c at) [
    | inl old ↦ latest.1 n c old cu
    | inr last ↦ absurd (ne (ap (λ (z : Made). z.subject) (some_is d c last.1) ∙ cu))
  ],
)

-- claim k stands after claim n ended, with its subject
still : (ms : List (Option Made)) (n : ℕ) (void : Bool) (c : Made) → claim_at ms n ≡ Some c → (k : ℕ) (d : Made) → claim_at ms k ≡ Some d →
    (e : Made) × (claim_at (set ms n (ended void (Some c)) ++ None ∷ []) k ≡ Some e) × (e.subject ≡ d.subject)
still ms n void c at k d is =
    let x : Option Made = ended void (Some c) in
    let lt : k < length ms = in_range ms k d is in
    let inside : k < length (set ms n x) = omega (arith, length-set ms n x) in
    let front : claim_at (set ms n x ++ None ∷ []) k ≡ claim_at (set ms n x) k = claim_old (set ms n x) None k inside in
    elim (cases_eq k n) [
      | inl e ↦
          let here : claim_at (set ms n x) k ≡ x = ap (claim_at (set ms n x)) e ∙ claim_set_here ms n x (in_range ms n c at) in
          let same : c ≡ d = some_is c d (sym at ∙ ap (claim_at ms) (sym e) ∙ is) in
          (end_of void c, front ∙ here, ap (λ (z : Made). z.subject) same)
      | inr ne ↦ (d, front ∙ claim_set_other ms n x k ne ∙ is, refl)
    ]

pub latest_end : (ms : List (Option Made)) (n : ℕ) (void : Bool) (c : Made) → claim_at ms n ≡ Some c → c.out ≡ true → (u : Subject) (l : Option ℕ) →
    IsLatest ms u l → IsLatest (set ms n (ended void (Some c)) ++ None ∷ []) u l
latest_end ms n void c at out u None latest = λ k d is du.
    let w : Was ms k d = was ms n void c at out k d is in
    latest k w.before w.at' (sym w.subject ∙ du)
latest_end ms n void c at out u (Some l) latest =
    let s = still ms n void c at l latest.0.0 latest.0.1 in (
      (s.0, s.1, s.2 ∙ latest.0.2),
      λ k d is du. let w : Was ms k d = was ms n void c at out k d is in latest.1 k w.before w.at' (sym w.subject ∙ du),
    )
