-- One more record.
use Rattle.std.proofs.Common.{◌≡◌, ℕ, ◌+◌, List, [], ◌∷◌, ◌++◌, length, take, drop, sym, ap, subst, ◌∙◌, arith, refl, append_assoc, append-nil, get_or, take-append-drop, length-take, length-append, take_all, ◌<◌, Bool, true, false, ◌||◌, ap₂}
use Rattle.std.proofs.lemmas.List.{take_more}
use Rattle.std.proofs.lemmas.List.Folds.{list_any-append}
use Rattle.std.specs.Prelude.{if◌then◌else◌}
use Rattle.std.specs.declared.option.Option.{Option}
use Rattle.std.specs.List.{flat_map}
use Rattle.std.proofs.Math.Seq.{take-append-add}
use Rattle.std.proofs.KnownBytes.{Appends-nil, Appends-trans}
use Rattle.std.specs.Io.KnownBytes.{Appends}
use Rattle.smv_tree.specs.declared.tree.SpecificationKind.{SpecificationKind}
use Rattle.smv_resolve.specs.declared.item.ItemKind.{ItemKind}
use Rattle.smv_resolve.specs.declared.item.ItemKind.TheVariants as item
use Rattle.smv_resolve.specs.Items.{ResolvedItem}
use Rattle.smv_meaning.specs.Runs.{is_claim}
use Rattle.smv_cli.specs.declared.record.SpecVerdict.{SpecVerdict}
use Rattle.smv_cli.specs.declared.record.SpecVerdict.TheVariants.{True, False, Unknown}
use Rattle.smv_cli.specs.declared.record.Record.{Record}
use Rattle.smv_cli.specs.Streams.{AppendsFront}
use Rattle.smv_cli.specs.Records.{RecordsFrom, is_false, is_unknown, status_of}
use Rattle.smv_cli.specs.Texts.{record_text}
use Rattle.smv_cli.specs.Written.{WritesRecordsBy, WritesSomeRecordsBy, status_with}

-- a record of the specification of this number, of which this is so
abbrev pub IsRecordOf : (SpecificationKind → ResolvedItem → SpecVerdict → Type 0) → ℕ → ResolvedItem → Record → Type 0
IsRecordOf IsSo number spec r = (r.number ≡ number) × (spec.kind ≡ item.Specification r.kind) × IsSo r.kind spec r.verdict

-- what is a claim is a specification
pub claimed : (kind : ItemKind) → is_claim kind ≡ true → (k : SpecificationKind) × (kind ≡ item.Specification k)
claimed (item.Specification k) e = (k, refl)
claimed (item.Constraint k) e = cc
claimed (item.Assignment k) e = cc

-- what was taken in one call, and a front of what came in the next
pub AppendsFront-after : (old mid new : Option (List ℕ)) (first second : List ℕ) → Appends old mid first → AppendsFront mid new second → AppendsFront old new (first ++ second)
AppendsFront-after old mid new first second p (n, q) =
    (length first + n, subst (Appends old new) (sym (take-append-add first second n)) (Appends-trans old mid new first (take n second) p q))

pub AppendsFront-whole : (old new : Option (List ℕ)) (piece : List ℕ) → Appends old new piece → AppendsFront old new piece
AppendsFront-whole old new piece took = (length piece, subst (Appends old new) (sym (take_all (length piece) piece (omega arith))) took)

module _ (IsSo : SpecificationKind → ResolvedItem → SpecVerdict → Type 0) where
  RecordsFrom-more : (i : ℕ) (xs ys : List ResolvedItem) (rs : List Record) → RecordsFrom IsSo i xs rs → RecordsFrom IsSo i (xs ++ ys) rs
  RecordsFrom-more i xs ys [] h = tt
  RecordsFrom-more i [] ys (r ∷ rs) h = absurd h
  RecordsFrom-more i (x ∷ xs) ys (r ∷ rs) (n, o, h, k) = (n, o, h, RecordsFrom-more (i + 1) xs ys rs k)

  RecordsFrom-push : (i : ℕ) (xs : List ResolvedItem) (x : ResolvedItem) (rs : List Record) (r : Record) → RecordsFrom IsSo i xs rs → length rs ≡ length xs
      → IsRecordOf IsSo (i + length xs) x r → RecordsFrom IsSo i (xs ++ x ∷ []) (rs ++ r ∷ [])
  RecordsFrom-push i [] x [] r h e (n, o, k) = (n ∙ (let same : i + 0 ≡ i = omega arith in same), o, k, tt)
  RecordsFrom-push i [] x (q ∷ rs) r h e k = absurd h
  RecordsFrom-push i (y ∷ xs) x [] r h e k = absurd (omega (arith, e))
  RecordsFrom-push i (y ∷ xs) x (q ∷ rs) r (n, o, h, k) e m =
      (n, o, h, RecordsFrom-push (i + 1) xs x rs r k (omega (arith, e)) (subst (λ (n : ℕ). IsRecordOf IsSo n x r) (omega arith) m))

flat_map-push : (rs : List Record) (r : Record) → flat_map record_text (rs ++ r ∷ []) ≡ flat_map record_text rs ++ record_text r
flat_map-push [] r = append-nil (record_text r)
flat_map-push (q ∷ rs) r = ap (λ (l : List ℕ). record_text q ++ l) (flat_map-push rs r) ∙ sym (append_assoc (record_text q) (flat_map record_text rs) (record_text r))

-- the status where some record is false, and where some is unknown
abbrev status_by : Bool → Bool → ℕ
status_by some_false some_unknown = if some_false then 1 else if some_unknown then 2 else 0

status_by-next : (some_false some_unknown : Bool) (v : SpecVerdict)
    → status_by (some_false || (is_false v || false)) (some_unknown || (is_unknown v || false)) ≡ status_with (status_by some_false some_unknown) v
status_by-next true b (True shown) = refl
status_by-next true b (False trace) = refl
status_by-next true b (Unknown cause) = refl
status_by-next false true (True shown) = refl
status_by-next false true (False trace) = refl
status_by-next false true (Unknown cause) = refl
status_by-next false false (True shown) = refl
status_by-next false false (False trace) = refl
status_by-next false false (Unknown cause) = refl

status-push : (rs : List Record) (r : Record) → status_of (rs ++ r ∷ []) ≡ status_with (status_of rs) r.verdict
status-push rs r =
    ap₂ status_by (list_any-append (λ (q : Record). is_false q.verdict) rs (r ∷ [])) (list_any-append (λ (q : Record). is_unknown q.verdict) rs (r ∷ []))
    ∙ status_by-next _ _ r.verdict

module _ (IsSo : SpecificationKind → ResolvedItem → SpecVerdict → Type 0) (specs : List ResolvedItem) (i : ℕ) where
  right-whole : (rs : List Record) → RecordsFrom IsSo 1 (take i specs) rs → RecordsFrom IsSo 1 specs rs
  right-whole rs right = subst (λ (xs : List ResolvedItem). RecordsFrom IsSo 1 xs rs) (take-append-drop i specs) (RecordsFrom-more IsSo 1 (take i specs) (drop i specs) rs right)

  -- right records of the first i specifications and one more
  right-push : (rs : List Record) (spec : ResolvedItem) (r : Record) → i < length specs → IsRecordOf IsSo (i + 1) (get_or specs i spec) r
      → RecordsFrom IsSo 1 (take i specs) rs → length rs ≡ length (take i specs) → RecordsFrom IsSo 1 (take (i + 1) specs) (rs ++ r ∷ [])
  right-push rs spec r h k right each =
      let front : take (i + 1) specs ≡ take i specs ++ get_or specs i spec ∷ [] = take_more specs i spec h in
      let n : i + 1 ≡ 1 + length (take i specs) = omega (arith, length-take i specs) in
      subst (λ (xs : List ResolvedItem). RecordsFrom IsSo 1 xs (rs ++ r ∷ [])) (sym front)
      (RecordsFrom-push IsSo 1 (take i specs) (get_or specs i spec) rs r right each (subst (λ (m : ℕ). IsRecordOf IsSo m (get_or specs i spec) r) n k))

  pub WritesRecords-push : (spec : ResolvedItem) (r : Record) (old mid new : Option (List ℕ)) (status next : ℕ) → i < length specs
      → IsRecordOf IsSo (i + 1) (get_or specs i spec) r → WritesRecordsBy IsSo (take i specs) old mid status → Appends mid new (record_text r)
      → next ≡ status_with status r.verdict → WritesRecordsBy IsSo (take (i + 1) specs) old new next
  WritesRecords-push spec r old mid new status next h k so_far took e = record {
    records = so_far.records ++ r ∷ [];
    right = right-push so_far.records spec r h k so_far.right so_far.each;
    each = omega (arith, so_far.each, length-append so_far.records (r ∷ []), length-take i specs, length-take (i + 1) specs);
    took = subst (Appends old new) (sym (flat_map-push so_far.records r)) (Appends-trans old mid new _ _ so_far.took took);
    worst = e ∙ ap (λ (a : ℕ). status_with a r.verdict) so_far.worst ∙ sym (status-push so_far.records r);
  }

  pub WritesSomeRecords-whole : (old new : Option (List ℕ)) (status : ℕ) → WritesRecordsBy IsSo (take i specs) old new status → WritesSomeRecordsBy IsSo specs old new
  WritesSomeRecords-whole old new status so_far = record {
    records = so_far.records;
    right = right-whole so_far.records so_far.right;
    took = AppendsFront-whole old new (flat_map record_text so_far.records) so_far.took;
  }

-- nothing is written
pub WritesSomeRecords-none : (IsSo : SpecificationKind → ResolvedItem → SpecVerdict → Type 0) (specs : List ResolvedItem) (old : Option (List ℕ)) → WritesSomeRecordsBy IsSo specs old old
WritesSomeRecords-none IsSo specs old = record { records = []; right = tt; took = (0, Appends-nil old) }

pub WritesSomeRecords-push : (IsSo : SpecificationKind → ResolvedItem → SpecVerdict → Type 0) (specs : List ResolvedItem) (i : ℕ) (spec : ResolvedItem) (r : Record) (old mid new : Option (List ℕ)) (status : ℕ) → i < length specs
    → IsRecordOf IsSo (i + 1) (get_or specs i spec) r → WritesRecordsBy IsSo (take i specs) old mid status → AppendsFront mid new (record_text r)
    → WritesSomeRecordsBy IsSo specs old new
WritesSomeRecords-push IsSo specs i spec r old mid new status h k so_far took = record {
  records = so_far.records ++ r ∷ [];
  right = right-whole IsSo specs (i + 1) (so_far.records ++ r ∷ []) (right-push IsSo specs i so_far.records spec r h k so_far.right so_far.each);
  took = subst (AppendsFront old new) (sym (flat_map-push so_far.records r)) (AppendsFront-after old mid new (flat_map record_text so_far.records) (record_text r) so_far.took took);
}
