-- Every command line says a command.
use Rattle.std.proofs.Common.{◌≡◌, ◌&&◌, ◌||◌, not, ℕ, zero, suc, Bool, true, false, cond, if◌then◌else◌, List, [], ◌∷◌, ◌++◌, length, Option, Some, None, refl, sym, ap, arith, subst, ◌∙◌}
use Rattle.std.proofs.lemmas.Slice.Eq.{bytes_eq-Decides}
use Rattle.std.proofs.lemmas.Bool.{eqb-true}
use Rattle.std.specs.Prelude.{◌==◌, drop, encode_utf8, find, fold, is_some, map, option_map, option_and_then, slice_get}
use Rattle.std.specs.Option.{option_map_or}
use Rattle.std.specs.Str.{bytes_eq, chars}
use Rattle.std.specs.Str.Parse.{digits_value, without_leading_plus}
use Rattle.clap.specs.Lexer.{long_of, short_of}
use Rattle.clap.specs.ValueTests.{accepts}
use Rattle.clap.specs.Values.{read_as, refused_kind}
use Rattle.clap.specs.Takes.{is_given}
use Rattle.clap.specs.Facts.{explicit_source}
use Rattle.clap.specs.Kinds.{Kinds, check_kinds, or_else, range_kinds, value_kinds, values_kinds}
use Rattle.clap.specs.Walk.{Held, Outcome, Row, Rule, one_of, reacted, row_text, Step, Text, Waiting, Walk, done, waits, plain, refused, idle, option, positional, next, trailing, subcommand, value, after_flag, after_step, arg_by_id, arg_by_index, arg_by_long, arg_by_short, is_pending, positional_held, pushed, takes_several, bundle, bundle_met, bundle_step, finished, first_of, has_row, long_met, long_or_other, more_values, nothing_held, option_word, plain_word, reading_by, settled, settled_rows, short_met, short_or_plain, subcommand_met, subcommand_or_other, to_positional, used, used_by_id, walk, walk_from, walked, walked_from, with_default, with_values, without, word_met}
use Rattle.clap.specs.Simple.{App, Shape, built, entered, filled, names_of, rows_at}
use Rattle.clap.specs.Faults.{check_fault, defaults_fault, entered_fault, flag_word_fault, level_fault, long_fault, other_fault, positional_fault, react_fault, repeat_fault, set_fault, settle_fault, step_fault, stray_fault, turn_fault, use_fault, walk_fault, word_fault}
use Rattle.clap.specs.declared.builder.value_parser.ValueParser.{ValueParser}
use Rattle.clap.specs.declared.builder.value_parser.ValueParser.TheVariants as parser
use Rattle.clap.specs.declared.builder.value_parser.ValueParser.TheVariants.{Unsigned}
use Rattle.clap.specs.declared.builder.value_parser.Reading.{Reading}
use Rattle.clap.specs.declared.builder.value_parser.Reading.TheVariants.{AsWritten}
use Rattle.clap.specs.declared.error.kind.ErrorKind.{ErrorKind}
use Rattle.clap.specs.declared.error.kind.ErrorKind.TheVariants.{WrongNumberOfValues}
use Rattle.clap.specs.declared.parser.matches.ValueSource.{ValueSource}
use Rattle.clap.specs.declared.parser.matches.ValueSource.TheVariants.{DefaultValue, CommandLine}
use Rattle.clap.proofs.ValueTestLemmas.{accepts-Accepts}
use Rattle.command_words.specs.declared.command.Command.{Command}
use Rattle.command_words.specs.declared.command.Command.TheVariants.{Check, Recheck, Flat, Ring}
use Rattle.command_words.specs.Grammar.{OptionRow, PlaceRow, cells_place, seed_place, place_rule, workers_option, conflicts_option, bound_option, frames_option, counter_option, together_flag, cert_flag, upgrade_flag, option_rule, flag_rule, flag_text, program, HasEffort, HasFlag, HasNumber, HasRing, Tells, Says, IsCommandLine, check_row, default_effort}

-- an option that takes a number, a flag, or a number in the place of this index
data Entry : Type 0 where
  number : OptionRow → Entry
  flag : Text → Entry
  place : ℕ → PlaceRow → Entry

-- each entry of the list is so
abbrev Each : (Entry → Type 0) → List Entry → Type 0
Each P [] = Unit {0}
Each P (e ∷ es) = P e × Each P es

each_map : {P Q : Entry → Type 0} → ((e : Entry) → P e → Q e) → (es : List Entry) → Each P es → Each Q es
each_map f [] all = tt
each_map f (e ∷ es) (here, all) = (f e here, each_map f es all)

abbrev word_of : Entry → Text
word_of (number row) = row.word
word_of (flag word) = word
word_of (place i row) = row.name

-- what its values are read by
abbrev parser_of : Entry → ValueParser
parser_of (number row) = Unsigned row.least row.greatest
parser_of (flag word) = parser.Bool
parser_of (place i row) = Unsigned row.least row.greatest

-- what stands for its value where it is left out; a number in its place may not be left out
abbrev default_of : Entry → Option Text
default_of (number row) = Some row.default
default_of (flag word) = Some (flag_text false)
default_of (place i row) = None

-- its rule as a parse has it
abbrev ready : Entry → Rule
ready (number row) = filled (option_rule row)
ready (flag word) = filled (flag_rule word)
ready (place i row) = record (filled (place_rule row)) { index = Some i }

abbrev workers : Entry
workers = number workers_option

abbrev conflicts : Entry
conflicts = number conflicts_option

abbrev bound : Entry
bound = number bound_option

abbrev frames : Entry
frames = number frames_option

abbrev counter : Entry
counter = number counter_option

abbrev together : Entry
together = flag together_flag

abbrev cert : Entry
cert = flag cert_flag

abbrev upgrade : Entry
upgrade = flag upgrade_flag

abbrev cells : Entry
cells = place 1 cells_place

abbrev seed : Entry
seed = place 2 seed_place

-- those of `check`, those of `recheck`, and those of `self`
abbrev check_entries : List Entry
check_entries = workers ∷ conflicts ∷ bound ∷ frames ∷ counter ∷ together ∷ cert ∷ []

abbrev recheck_entries : List Entry
recheck_entries = upgrade ∷ []

abbrev ring_entries : List Entry
ring_entries = cells ∷ seed ∷ workers ∷ []

-- the program as a parse has it
abbrev app : App
app = built program

-- and `check` below it
abbrev check_shapes : List Shape
check_shapes = app.subs

abbrev first_shape : List Shape → Shape
first_shape [] = app.top
first_shape (s ∷ ss) = s

abbrev check_shape : Shape
check_shape = first_shape check_shapes

abbrev later_shapes : List Shape → List Shape
later_shapes [] = []
later_shapes (s ∷ ss) = ss

-- and `recheck`
abbrev recheck_shape : Shape
recheck_shape = first_shape (later_shapes check_shapes)

-- and `flat`
abbrev flat_shape : Shape
flat_shape = first_shape (later_shapes (later_shapes check_shapes))

-- and `self`
abbrev ring_shape : Shape
ring_shape = first_shape (later_shapes (later_shapes (later_shapes check_shapes)))

-- a command of this name with these entries
abbrev shape_with : Text → List Entry → Shape
shape_with name es = record check_shape { name = name; rules = map ready es }

-- the text is one that the entry takes
abbrev Reads : Entry → Text → Type 0
Reads e v = accepts false (parser_of e) v ≡ true

-- the first of the values is such a text
abbrev HasFirst : Entry → List Text → Type 0
HasFirst e [] = ⊥
HasFirst e (v ∷ vs) = Reads e v

-- and the values are read as they are written
abbrev Fits : Entry → Row → Type 0
Fits e r = HasFirst e r.values × (r.reading ≡ AsWritten)

-- each row of the entry fits
abbrev Keeps : Entry → List Row → Type 0
Keeps e [] = Unit {0}
Keeps e (r ∷ rs) = (bytes_eq r.id (word_of e) ≡ true → Fits e r) × Keeps e rs

-- where the words of two entries are the same, what one takes the other takes
abbrev Agrees : Entry → Entry → Type 0
Agrees to from = bytes_eq (word_of from) (word_of to) ≡ true → (v : Text) → Reads from v → Reads to v

first : (a b : Kinds) → or_else a b ≡ [] → a ≡ []
first [] b e = refl
first (k ∷ ks) b e = e

second : (a b : Kinds) → or_else a b ≡ [] → b ≡ []
second [] b e = e
second (k ∷ ks) b e = cc

accepted : (b : Bool) (k : ErrorKind) → (if b then [] else k ∷ []) ≡ [] → b ≡ true
accepted true k e = refl
accepted false k e = cc

fits_more : (e : Entry) (vs ws : List Text) → HasFirst e vs → HasFirst e (vs ++ ws)
fits_more e [] ws h = absurd h
fits_more e (v ∷ vs) ws h = h

as_written : (e : Entry) → reading_by (ready e) ≡ AsWritten
as_written (number row) = refl
as_written (flag word) = refl
as_written (place i row) = refl

keeps_without : (e : Entry) (id : Text) (rows : List Row) → Keeps e rows → Keeps e (without id rows)
keeps_without e id [] k = k
keeps_without e id (r ∷ rs) (h, k) = elim (bytes_eq r.id id) as (λ b. Keeps e (if b then [] ++ rs else r ∷ without id rs)) [ true ↦ k | false ↦ (h, keeps_without e id rs k) ]

keeps_with : (e : Entry) (id : Text) (how : Reading) (s : ValueSource) (v : Text) (vs : List Text) (rows : List Row) → how ≡ AsWritten → (bytes_eq id (word_of e) ≡ true → Reads e v) → Keeps e rows
    → Keeps e (with_values id how s (v ∷ vs) rows)
keeps_with e id how s v vs [] w h k = ((λ same. (h same, w)), tt)
keeps_with e id how s v vs (r ∷ rs) w h (g, k) =
    elim (bytes_eq r.id id) as (λ b. Keeps e (if b then more_values s (v ∷ vs) r ++ rs else r ∷ with_values id how s (v ∷ vs) rs))
    [ true ↦ ((λ same. (fits_more e r.values (v ∷ vs) (g same).0, (g same).1)), k) | false ↦ (g, keeps_with e id how s v vs rs w h k) ]

-- the first of the values that were checked is taken
value_reads : (again : Bool) (id : Text) (p : ValueParser) (v : Text) (vs : List Text) (rows : List Row) → or_else (repeat_fault again id rows) (values_kinds false p (v ∷ vs)) ≡ [] → accepts false p v ≡ true
value_reads again id p v vs rows e =
    let values = second (repeat_fault again id rows) (values_kinds false p (v ∷ vs)) e in
    accepted (accepts false p v) (refused_kind p) (first (value_kinds false p v) (values_kinds false p vs) values)

-- a use of an option has a value
no_values : (row : OptionRow) (rows : List Row) → use_fault false (ready (number row)) [] rows ≡ [] → ⊥
no_values row rows e = cc

no_value_here : (i : ℕ) (row : PlaceRow) (rows : List Row) → use_fault false (ready (place i row)) [] rows ≡ [] → ⊥
no_value_here i row rows e = cc

-- and one of a flag has none
some_values : (word v : Text) (vs : List Text) (rows : List Row) → use_fault false (ready (flag word)) (v ∷ vs) rows ≡ [] → ⊥
some_values word v vs rows e =
    let counted = first (range_kinds 0 0 (length (v ∷ vs))) (set_fault false (ready (flag word)) (v ∷ vs) rows) e in
    let none : 0 ≡ length (v ∷ vs) = eqb-true 0 (length (v ∷ vs)) (accepted (0 == length (v ∷ vs)) WrongNumberOfValues counted) in
    absurd (omega arith)

keeps_used : (to from : Entry) → Agrees to from → (values : List Text) (rows : List Row) → use_fault false (ready from) values rows ≡ [] → Keeps to rows → Keeps to (used (ready from) values rows)
keeps_used to (number row) agrees [] rows e k = absurd (no_values row rows e)
keeps_used to (number row) agrees (v ∷ vs) rows e k =
    let counted = range_kinds 1 1 (length (v ∷ vs)) in
    let checked = set_fault false (ready (number row)) (v ∷ vs) rows in
    let reads = value_reads false row.word (Unsigned row.least row.greatest) v vs rows (second counted checked e) in
    keeps_with to row.word (reading_by (ready (number row))) CommandLine v vs (without row.word rows) refl (λ same. agrees same v reads) (keeps_without to row.word rows k)
keeps_used to (flag word) agrees [] rows e k =
    keeps_with to word (reading_by (ready (flag word))) CommandLine (flag_text true) [] (without word rows) refl (λ same. agrees same (flag_text true) refl) (keeps_without to word rows k)
keeps_used to (flag word) agrees (v ∷ vs) rows e k = absurd (some_values word v vs rows e)
keeps_used to (place i row) agrees [] rows e k = absurd (no_value_here i row rows e)
keeps_used to (place i row) agrees (v ∷ vs) rows e k =
    let counted = range_kinds 1 1 (length (v ∷ vs)) in
    let checked = set_fault false (ready (place i row)) (v ∷ vs) rows in
    let reads = value_reads false row.name (Unsigned row.least row.greatest) v vs rows (second counted checked e) in
    keeps_with to row.name (reading_by (ready (place i row))) CommandLine v vs (without row.name rows) refl (λ same. agrees same v reads) (keeps_without to row.name rows k)

-- what an entry is found by
found_by_id : (P : Option Rule → Type 0) (id : Text) → P None → (es : List Entry) → Each (λ (e : Entry). P (Some (ready e))) es → P (arg_by_id (map ready es) id)
found_by_id P id none [] all = none
found_by_id P id none (number row ∷ es) (here, all) =
    elim (bytes_eq row.word id) as (λ x. P (cond x (Some (ready (number row))) (arg_by_id (map ready es) id))) [ true ↦ here | false ↦ found_by_id P id none es all ]
found_by_id P id none (flag word ∷ es) (here, all) =
    elim (bytes_eq word id) as (λ x. P (cond x (Some (ready (flag word))) (arg_by_id (map ready es) id))) [ true ↦ here | false ↦ found_by_id P id none es all ]
found_by_id P id none (place i row ∷ es) (here, all) =
    elim (bytes_eq row.name id) as (λ x. P (cond x (Some (ready (place i row))) (arg_by_id (map ready es) id))) [ true ↦ here | false ↦ found_by_id P id none es all ]

found_by_long : (P : Option Rule → Type 0) (name : Text) → P None → (es : List Entry) → Each (λ (e : Entry). P (Some (ready e))) es → P (arg_by_long (map ready es) name)
found_by_long P name none [] all = none
found_by_long P name none (number row ∷ es) (here, all) =
    elim (bytes_eq row.word name) as (λ x. P (cond (x || false) (Some (ready (number row))) (arg_by_long (map ready es) name))) [ true ↦ here | false ↦ found_by_long P name none es all ]
found_by_long P name none (flag word ∷ es) (here, all) =
    elim (bytes_eq word name) as (λ x. P (cond (x || false) (Some (ready (flag word))) (arg_by_long (map ready es) name))) [ true ↦ here | false ↦ found_by_long P name none es all ]
found_by_long P name none (place i row ∷ es) (here, all) = found_by_long P name none es all

found_by_index : (P : Option Rule → Type 0) (position : ℕ) → P None → (es : List Entry) → Each (λ (e : Entry). P (Some (ready e))) es → P (arg_by_index (map ready es) position)
found_by_index P position none [] all = none
found_by_index P position none (number row ∷ es) (here, all) = found_by_index P position none es all
found_by_index P position none (flag word ∷ es) (here, all) = found_by_index P position none es all
found_by_index P position none (place i row ∷ es) (here, all) =
    elim (i == position) as (λ x. P (cond x (Some (ready (place i row))) (arg_by_index (map ready es) position))) [ true ↦ here | false ↦ found_by_index P position none es all ]

-- ---- what a word that is no option leaves

-- no entry has a short name
no_short : (es : List Entry) (x : ℕ) → arg_by_short (map ready es) x ≡ None
no_short [] x = refl
no_short (number row ∷ es) x = no_short es x
no_short (flag word ∷ es) x = no_short es x
no_short (place i row ∷ es) x = no_short es x

module _ (es : List Entry) where
  abbrev entry_rules : List Rule
  entry_rules = map ready es

  option_word_rows : (found : Option Rule) (id word : Text) (h : Held) → (option_word found id word h).0.rows ≡ h.rows
  option_word_rows None id word h = refl
  option_word_rows (Some a) id word h = refl

  plain_rows : (waiting : Waiting) (word : Text) (h : Held) → (plain_word entry_rules waiting word h).0.rows ≡ h.rows
  plain_rows idle word h = refl
  plain_rows (option id) word h = option_word_rows (arg_by_id entry_rules id) id word h
  plain_rows positional word h = refl

  after_flag_rows : (waiting : Waiting) (word : Text) (h : Held) (o : Outcome) → (after_flag entry_rules waiting word h o).0.rows ≡ h.rows
  after_flag_rows waiting word h done = refl
  after_flag_rows waiting word h (waits id) = refl
  after_flag_rows waiting word h plain = plain_rows waiting word h
  after_flag_rows waiting word h refused = plain_rows waiting word h

  flag_rows : (x : Option ℕ) (flags : Text) (skip : ℕ) (so_far : Outcome) (h : Held) (more : Text → ℕ → Outcome → Held → Held × Outcome)
      → ((f : Text) (n : ℕ) (o : Outcome) (g : Held) → (more f n o g).0.rows ≡ g.rows) → (bundle_step entry_rules x flags skip so_far h more).0.rows ≡ h.rows
  flag_rows None flags skip so_far h more each = refl
  flag_rows (Some x) flags zero so_far h more each =
      let rest = drop (length (encode_utf8 x)) flags in
      subst (λ (a : Option Rule). (short_met entry_rules a rest h (more rest 0 done)).0.rows ≡ h.rows) (sym (no_short es x)) refl
  flag_rows (Some x) flags (suc skip) so_far h more each = each _ skip so_far h

  bundle_rows : (k : ℕ) (flags : Text) (skip : ℕ) (so_far : Outcome) (h : Held) → (bundle_met entry_rules k flags skip so_far h).0.rows ≡ h.rows
  unfolding bundle_met
  bundle_rows zero flags skip so_far h = refl
  bundle_rows (suc k) flags skip so_far h = flag_rows (slice_get (chars flags) 0) flags skip so_far h (bundle_met entry_rules k) (λ f n o g. bundle_rows k f n o g)

  short_rows : (flags : Option Text) (waiting : Waiting) (word : Text) (h : Held) → (short_or_plain entry_rules waiting word flags h).0.rows ≡ h.rows
  short_rows None waiting word h = plain_rows waiting word h
  short_rows (Some flags) waiting word h =
      after_flag_rows waiting word (bundle entry_rules flags h).0 (bundle entry_rules flags h).1 ∙ bundle_rows (length flags) flags h.skip plain (record h { skip = 0 })

no_subcommand : (waiting : Waiting) (word : Text) → subcommand_met [] waiting word ≡ None
no_subcommand idle word = refl
no_subcommand (option id) word = refl
no_subcommand positional word = refl

-- ---- each row keeps its value, whatever word comes

module _ (name : Text) (es : List Entry) (to : Entry) (agree : Each (Agrees to) es) where
  abbrev rules : List Rule
  rules = map ready es

  abbrev shape : Shape
  shape = shape_with name es

  keeps_pending : (p : Option (Text × List Text)) (rows : List Row) → option_map_or (λ (q : Text × List Text). option_map_or (λ (a : Rule). use_fault false a q.1 rows) (arg_by_id rules q.0) []) p [] ≡ []
      → Keeps to rows → Keeps to (settled_rows rules p rows)
  keeps_pending None rows e k = k
  keeps_pending (Some p) rows e k = found_by_id
      (λ (found : Option Rule). option_map_or (λ (a : Rule). use_fault false a p.1 rows) found [] ≡ [] → Keeps to (used_by_id found p.1 rows))
      p.0 (λ _. k) es (each_map {P = Agrees to} {Q = λ from. use_fault false (ready from) p.1 rows ≡ [] → Keeps to (used (ready from) p.1 rows)} (λ from agrees fault. keeps_used to from agrees p.1 rows fault k) es agree) e

  keeps_settled : (h : Held) → settle_fault rules false h ≡ [] → Keeps to h.rows → Keeps to (settled rules h).rows
  keeps_settled h e k = keeps_pending h.pending h.rows e k

  keeps_reacted : (from : Entry) → Agrees to from → (values : List Text) (h : Held) → react_fault rules false (ready from) values h ≡ [] → Keeps to h.rows → Keeps to (reacted rules (ready from) values h).rows
  keeps_reacted from agrees values h e k =
      let before = settle_fault rules false h in
      let using_it = use_fault false (ready from) values (settled rules h).rows in
      keeps_used to from agrees values (settled rules h).rows (second before using_it e) (keeps_settled h (first before using_it e) k)

  keeps_long : (from : Entry) → Agrees to from → (v : Option Text) (h : Held) → long_fault rules false (Some (ready from)) v h ≡ [] → Keeps to h.rows → Keeps to (long_met rules (Some (ready from)) v h).0.rows
  keeps_long (number row) agrees None h e k = keeps_settled h e k
  keeps_long (number row) agrees (Some v) h e k = keeps_reacted (number row) agrees (v ∷ []) h e k
  keeps_long (flag word) agrees None h e k = keeps_reacted (flag word) agrees [] h e k
  keeps_long (flag word) agrees (Some v) h e k = k
  keeps_long (place i row) agrees None h e k = keeps_settled h e k
  keeps_long (place i row) agrees (Some v) h e k = keeps_reacted (place i row) agrees (v ∷ []) h e k

  keeps_named : (word : Text) (v : Option Text) (h : Held) → long_fault rules false (arg_by_long rules word) v h ≡ [] → Keeps to h.rows → Keeps to (long_met rules (arg_by_long rules word) v h).0.rows
  keeps_named word v h e k = found_by_long
      (λ (found : Option Rule). long_fault rules false found v h ≡ [] → Keeps to (long_met rules found v h).0.rows)
      word (λ _. k) es (each_map {P = Agrees to} {Q = λ from. long_fault rules false (Some (ready from)) v h ≡ [] → Keeps to (long_met rules (Some (ready from)) v h).0.rows} (λ from agrees fault. keeps_long from agrees v h fault k) es agree) e

  keeps_flag : (found : Option (Text × Option Text)) (waiting : Waiting) (word : Text) (h : Held) → flag_word_fault rules false found word h ≡ [] → Keeps to h.rows → Keeps to (long_or_other rules waiting word found h).0.rows
  keeps_flag None waiting word h e k = subst (Keeps to) (sym (short_rows es (short_of word) waiting word h)) k
  keeps_flag (Some p) waiting word h e k =
      let met = long_met rules (arg_by_long rules p.0) p.1 h in
      subst (Keeps to) (sym (after_flag_rows es waiting word met.0 met.1)) (keeps_named p.0 p.1 h e k)

  keeps_other : (waiting : Waiting) (position : ℕ) (word : Text) (h : Held) → other_fault shape None word h ≡ [] → Keeps to h.rows → Keeps to (subcommand_or_other rules None waiting position word h).0.rows
  keeps_other waiting position word h e k =
      elim (bytes_eq word (45 ∷ 45 ∷ [])) as (λ x. (if x then [] else flag_word_fault rules false (long_of word) word h) ≡ []
      → Keeps to (if x then (h, trailing position) else long_or_other rules waiting word (long_of word) h).0.rows)
      [ true ↦ λ _. k | false ↦ λ fault. keeps_flag (long_of word) waiting word h fault k ] e

  keeps_met : (is_trailing : Bool) (waiting : Waiting) (position : ℕ) (word : Text) (h : Held) → word_fault shape [] is_trailing waiting word h ≡ [] → Keeps to h.rows → Keeps to (word_met rules [] is_trailing waiting position word h).0.rows
  keeps_met true waiting position word h e k = k
  keeps_met false waiting position word h e k =
      subst (λ (m : Option Text). other_fault shape m word h ≡ [] → Keeps to (subcommand_or_other rules m waiting position word h).0.rows)
      (sym (no_subcommand waiting word)) (λ fault. keeps_other waiting position word h fault k) e

  -- a word in its place is held; unless it is one more value of what is held, what is held is used before
  keeps_placed : (more : Bool) (id word : Text) (h : Held) → (if more then [] else settle_fault rules false h) ≡ [] → Keeps to h.rows → Keeps to (pushed id word (if more then h else settled rules h)).rows
  keeps_placed true id word h e k = k
  keeps_placed false id word h e k = keeps_settled h e k

  keeps_step : (w : Walk) (word : Text) (h : Held) (step : Step) → step_fault shape w.position h step ≡ [] → Keeps to h.rows → Keeps to (after_step rules word w h step).held.rows
  keeps_step w word h (next waiting) e k = k
  keeps_step w word h (trailing position) e k = k
  keeps_step w word h (subcommand name) e k = k
  keeps_step w word h value e k = found_by_index
      (λ (found : Option Rule). option_map_or (λ (a : Rule). positional_fault rules false a h) found (stray_fault shape) ≡ [] → Keeps to (to_positional rules found word w h).held.rows)
      w.position (λ _. k) es (each_map {P = Agrees to} {Q = λ from. positional_fault rules false (ready from) h ≡ [] → Keeps to (positional_held rules (ready from) word h).rows}
      (λ from _ fault. keeps_placed (is_pending (ready from) h.pending && takes_several (ready from)) (ready from).id word h fault k) es agree) e

  keeps_turn : (stopped : Option (Text × List Text)) (w : Walk) (word : Text)
      → (let met = word_met rules [] w.is_trailing w.waiting w.position word w.held in
      (if is_some stopped then [] else or_else (word_fault shape [] w.is_trailing w.waiting word w.held) (step_fault shape w.position met.0 met.1)) ≡ [])
      → Keeps to w.held.rows → Keeps to (walked_from rules [] stopped w word).held.rows
  keeps_turn (Some p) w word e k = k
  keeps_turn None w word e k =
      let met = word_met rules [] w.is_trailing w.waiting w.position word w.held in
      let of_word = word_fault shape [] w.is_trailing w.waiting word w.held in
      let of_step = step_fault shape w.position met.0 met.1 in
      keeps_step w word met.0 met.1 (second of_word of_step e) (keeps_met w.is_trailing w.waiting w.position word w.held (first of_word of_step e) k)

  keeps_walk : (w : Walk) (words : List Text) → walk_fault shape [] w words ≡ [] → Keeps to w.held.rows → Keeps to (fold (walked rules []) w words).held.rows
  unfolding walk_fault walked
  keeps_walk w [] e k = k
  keeps_walk w (word ∷ rest) e k =
      let turn = turn_fault shape [] w word in
      let later = walk_fault shape [] (walked rules [] w word) rest in
      keeps_walk (walked rules [] w word) rest (second turn later e) (keeps_turn w.stopped w word (first turn later e) k)

-- ---- and where it is left out it has its default

abbrev defaulted : Entry → Option Text → List Row → List Row
defaulted e None rows = rows
defaulted e (Some v) rows = with_values (word_of e) (reading_by (ready e)) DefaultValue (v ∷ []) rows

abbrev default_row : Entry → List Row → List Row
default_row e rows = if has_row (word_of e) rows then rows else defaulted e (default_of e) rows

default_is : (e : Entry) (rows : List Row) → with_default rows (ready e) ≡ default_row e rows
default_is (number row) rows = refl
default_is (flag word) rows = refl
default_is (place i row) rows = refl

-- what stands for its value is one that the entry takes
abbrev ReadsDefault : Entry → Option Text → Type 0
ReadsDefault e None = Unit {0}
ReadsDefault e (Some v) = Reads e v

keeps_defaulted : (to from : Entry) → Agrees to from → (default : Option Text) → ReadsDefault from default → (rows : List Row) → Keeps to rows → Keeps to (defaulted from default rows)
keeps_defaulted to from agrees None reads rows k = k
keeps_defaulted to from agrees (Some v) reads rows k = keeps_with to (word_of from) (reading_by (ready from)) DefaultValue v [] rows (as_written from) (λ same. agrees same v reads) k

keeps_default : (to from : Entry) → Agrees to from → ReadsDefault from (default_of from) → (rows : List Row) → Keeps to rows → Keeps to (with_default rows (ready from))
keeps_default to from agrees reads rows k = subst (Keeps to) (sym (default_is from rows)) (
    elim (has_row (word_of from) rows) as (λ x. Keeps to (if x then rows else defaulted from (default_of from) rows))
    [ true ↦ k | false ↦ keeps_defaulted to from agrees (default_of from) reads rows k ])

keeps_defaults : (to : Entry) (es : List Entry) → Each (λ (from : Entry). Agrees to from × ReadsDefault from (default_of from)) es → (rows : List Row) → Keeps to rows → Keeps to (fold with_default rows (map ready es))
keeps_defaults to [] all rows k = k
keeps_defaults to (e ∷ es) (here, all) rows k = keeps_defaults to es all (with_default rows (ready e)) (keeps_default to e here.0 here.1 rows k)

has_with : (id : Text) (how : Reading) (s : ValueSource) (values : List Text) (rows : List Row) → bytes_eq id id ≡ true → has_row id (with_values id how s values rows) ≡ true
has_with id how s values [] same = rw same refl
has_with id how s values (r ∷ rs) same =
    elim (bytes_eq r.id id) as (λ x. bytes_eq r.id id ≡ x → has_row id (if x then more_values s values r ++ rs else r ∷ with_values id how s values rs) ≡ true)
    [ true ↦ λ e. rw e refl | false ↦ λ e. rw e (has_with id how s values rs same) ] refl

still_has : (other id : Text) (how : Reading) (s : ValueSource) (values : List Text) (rows : List Row) → has_row other rows ≡ true → has_row other (with_values id how s values rows) ≡ true
still_has other id how s values [] h = cc
still_has other id how s values (r ∷ rs) h =
    elim (bytes_eq r.id id) as (λ x. has_row other (if x then more_values s values r ++ rs else r ∷ with_values id how s values rs) ≡ true) [
      | true ↦ h
      | false ↦ elim (bytes_eq r.id other) as (λ x. (x || has_row other rs) ≡ true → (x || has_row other (with_values id how s values rs)) ≡ true)
          [ true ↦ λ _. refl | false ↦ λ later. still_has other id how s values rs later ] h
    ]

-- something stands for its value where it is left out, and its word is the same as itself
abbrev IsDefaulted : Entry → Type 0
IsDefaulted e = (is_some (default_of e) ≡ true) × (bytes_eq (word_of e) (word_of e) ≡ true)

has_defaulted : (e : Entry) (default : Option Text) (rows : List Row) → is_some default ≡ true → bytes_eq (word_of e) (word_of e) ≡ true → has_row (word_of e) (defaulted e default rows) ≡ true
has_defaulted e None rows some same = cc
has_defaulted e (Some v) rows some same = has_with (word_of e) (reading_by (ready e)) DefaultValue (v ∷ []) rows same

has_default : (e : Entry) (rows : List Row) → IsDefaulted e → has_row (word_of e) (with_default rows (ready e)) ≡ true
has_default e rows is = subst (λ (r : List Row). has_row (word_of e) r ≡ true) (sym (default_is e rows)) (
    elim (has_row (word_of e) rows) as (λ x. has_row (word_of e) rows ≡ x → has_row (word_of e) (if x then rows else defaulted e (default_of e) rows) ≡ true)
    [ true ↦ λ there. there | false ↦ λ _. has_defaulted e (default_of e) rows is.0 is.1 ] refl)

still_defaulted : (other : Text) (e : Entry) (default : Option Text) (rows : List Row) → has_row other rows ≡ true → has_row other (defaulted e default rows) ≡ true
still_defaulted other e None rows h = h
still_defaulted other e (Some v) rows h = still_has other (word_of e) (reading_by (ready e)) DefaultValue (v ∷ []) rows h

keeps_having : (other : Text) (e : Entry) (rows : List Row) → has_row other rows ≡ true → has_row other (with_default rows (ready e)) ≡ true
keeps_having other e rows h = subst (λ (r : List Row). has_row other r ≡ true) (sym (default_is e rows)) (
    elim (has_row (word_of e) rows) as (λ x. has_row other (if x then rows else defaulted e (default_of e) rows) ≡ true)
    [ true ↦ h | false ↦ still_defaulted other e (default_of e) rows h ])

having_all : (other : Text) (es : List Entry) (rows : List Row) → has_row other rows ≡ true → has_row other (fold with_default rows (map ready es)) ≡ true
having_all other [] rows h = h
having_all other (e ∷ es) rows h = having_all other es (with_default rows (ready e)) (keeps_having other e rows h)

-- the entry of this list that the number counts, from 0, has a row in the end
has_each : (es : List Entry) (rows : List Row) → Each IsDefaulted es → Each (λ (e : Entry). has_row (word_of e) (fold with_default rows (map ready es)) ≡ true) es
has_each [] rows all = tt
has_each (e ∷ es) rows (here, all) =
    (having_all (word_of e) es (with_default rows (ready e)) (has_default e rows here), has_each es (with_default rows (ready e)) all)

-- what is given has a row
given_row : (id : Text) (rows : List Row) → is_given id rows ≡ true → has_row id rows ≡ true
given_row id [] given = cc
given_row id (r ∷ rs) given =
    elim (bytes_eq r.id id) as (λ x. option_map_or (λ (q : Row). explicit_source q.source) (cond x (Some r) (find (λ (q : Row). bytes_eq q.id id) rs)) false ≡ true → (x || has_row id rs) ≡ true)
    [ true ↦ λ _. refl | false ↦ λ later. given_row id rs later ] given

-- ---- its value

first_value : (e : Entry) (r : Row) → Fits e r → (v : Text) × (slice_get r.values 0 ≡ Some v) × (row_text r ≡ Some v) × Reads e v
first_value e r h = go r.values r.reading h.0 h.1 where
  go : (vs : List Text) (how : Reading) → HasFirst e vs → how ≡ AsWritten → (v : Text) × (slice_get vs 0 ≡ Some v) × (option_map (read_as how) (slice_get vs 0) ≡ Some v) × Reads e v
  go [] how has w = absurd has
  go (v ∷ vs) how has w = (v, refl, rw w refl, has)

first_reads : (e : Entry) (rows : List Row) → Keeps e rows → has_row (word_of e) rows ≡ true → (v : Text) × (first_of (word_of e) rows ≡ Some v) × (one_of (word_of e) rows ≡ Some v) × Reads e v
first_reads e [] k h = cc
first_reads e (r ∷ rs) (fits, k) h =
    elim (bytes_eq r.id (word_of e)) as (λ x. (x ≡ true → Fits e r) → (x || has_row (word_of e) rs) ≡ true
    → (v : Text) × (option_and_then (λ (q : Row). slice_get q.values 0) (cond x (Some r) (find (λ (q : Row). bytes_eq q.id (word_of e)) rs)) ≡ Some v)
    × (option_and_then row_text (cond x (Some r) (find (λ (q : Row). bytes_eq q.id (word_of e)) rs)) ≡ Some v) × Reads e v)
    [ true ↦ λ g _. first_value e r (g refl) | false ↦ λ _ later. first_reads e rs k later ] fits h

number_read : (word : Text) (least most : ℕ) (rows : List Row) (v : Text) → first_of word rows ≡ Some v → accepts false (Unsigned least most) v ≡ true → HasNumber rows word least most (digits_value 10 (without_leading_plus v))
number_read word least most rows v found reads =
    let taken = accepts-Accepts false (Unsigned least most) v reads in
    record { text = v; given = found; read = ((taken.0, taken.1), refl); enough = taken.2; within = taken.3 }

number_in : (row : OptionRow) (rows : List Row) → Keeps (number row) rows → has_row row.word rows ≡ true → (n : ℕ) × HasNumber rows row.word row.least row.greatest n
number_in row rows k h =
    let found = first_reads (number row) rows k h in
    (_, number_read row.word row.least row.greatest rows found.0 found.1 found.3)

number_placed : (i : ℕ) (row : PlaceRow) (rows : List Row) → Keeps (place i row) rows → has_row row.name rows ≡ true → (n : ℕ) × HasNumber rows row.name row.least row.greatest n
number_placed i row rows k h =
    let found = first_reads (place i row) rows k h in
    (_, number_read row.name row.least row.greatest rows found.0 found.1 found.3)

bytes_are : (a b : Text) → bytes_eq a b ≡ true → a ≡ b
bytes_are a b is = (bytes_eq-Decides a b).0 is

flag_in : (word : Text) (rows : List Row) → Keeps (flag word) rows → has_row word rows ≡ true → (is_there : Bool) × HasFlag rows word is_there
flag_in word rows k h =
    let found = first_reads (flag word) rows k h in
    let one_is = found.2 in
    let reads : (bytes_eq found.0 (flag_text true) || bytes_eq found.0 (flag_text false)) ≡ true = found.3 in
    elim (bytes_eq found.0 (flag_text true)) as (λ x. bytes_eq found.0 (flag_text true) ≡ x → (x || bytes_eq found.0 (flag_text false)) ≡ true → (is_there : Bool) × HasFlag rows word is_there) [
      | true ↦ λ is _. (true, one_is ∙ ap Some (bytes_are _ _ is))
      | false ↦ λ _ is. (false, one_is ∙ ap Some (bytes_are _ _ is))
    ] refl reads

-- ---- the command

-- entries of different words agree
apart : (to from : Entry) → bytes_eq (word_of from) (word_of to) ≡ false → Agrees to from
apart to from e same = let no : true ≡ false = sym same ∙ e in cc

itself : (e : Entry) → Agrees e e
itself e same v h = h

agree_workers : Each (Agrees workers) check_entries
agree_workers = (itself workers, (apart workers conflicts refl, (apart workers bound refl, (apart workers frames refl, (apart workers counter refl, (apart workers together refl, (apart workers cert refl, tt)))))))

agree_conflicts : Each (Agrees conflicts) check_entries
agree_conflicts = (apart conflicts workers refl, (itself conflicts, (apart conflicts bound refl, (apart conflicts frames refl, (apart conflicts counter refl, (apart conflicts together refl, (apart conflicts cert refl, tt)))))))

agree_bound : Each (Agrees bound) check_entries
agree_bound = (apart bound workers refl, (apart bound conflicts refl, (itself bound, (apart bound frames refl, (apart bound counter refl, (apart bound together refl, (apart bound cert refl, tt)))))))

agree_frames : Each (Agrees frames) check_entries
agree_frames = (apart frames workers refl, (apart frames conflicts refl, (apart frames bound refl, (itself frames, (apart frames counter refl, (apart frames together refl, (apart frames cert refl, tt)))))))

agree_counter : Each (Agrees counter) check_entries
agree_counter = (apart counter workers refl, (apart counter conflicts refl, (apart counter bound refl, (apart counter frames refl, (itself counter, (apart counter together refl, (apart counter cert refl, tt)))))))

agree_together : Each (Agrees together) check_entries
agree_together = (apart together workers refl, (apart together conflicts refl, (apart together bound refl, (apart together frames refl, (apart together counter refl, (itself together, (apart together cert refl, tt)))))))

agree_cert : Each (Agrees cert) check_entries
agree_cert = (apart cert workers refl, (apart cert conflicts refl, (apart cert bound refl, (apart cert frames refl, (apart cert counter refl, (apart cert together refl, (itself cert, tt)))))))

agree_upgrade : Each (Agrees upgrade) recheck_entries
agree_upgrade = (itself upgrade, tt)

agree_cells : Each (Agrees cells) ring_entries
agree_cells = (itself cells, (apart cells seed refl, (apart cells workers refl, tt)))

agree_seed : Each (Agrees seed) ring_entries
agree_seed = (apart seed cells refl, (itself seed, (apart seed workers refl, tt)))

agree_crew : Each (Agrees workers) ring_entries
agree_crew = (apart workers cells refl, (apart workers seed refl, (itself workers, tt)))

-- each default is one that its entry takes
abbrev DefaultsRead : List Entry → Type 0
DefaultsRead es = Each (λ (e : Entry). ReadsDefault e (default_of e)) es

-- each default is taken
with_reads : (to : Entry) (es : List Entry) → Each (Agrees to) es → DefaultsRead es → Each (λ (from : Entry). Agrees to from × ReadsDefault from (default_of from)) es
with_reads to [] agree reads = tt
with_reads to (e ∷ es) (a, agree) (r, reads) = ((a, r), with_reads to es agree reads)

module _ (name : Text) (es : List Entry) (reads : DefaultsRead es) where
  abbrev rows_found : List Text → List Row
  rows_found words = fold with_default (settled (map ready es) (walk (map ready es) [] nothing_held words).held).rows (map ready es)

  kept : (to : Entry) → Each (Agrees to) es → (words : List Text) → level_fault (shape_with name es) [] nothing_held words false [] ≡ [] → Keeps to (rows_found words)
  kept to agree words e =
      let shape = shape_with name es in
      let rules = map ready es in
      let end = (walk rules [] nothing_held words).held in
      let walking = walk_fault shape [] (walk_from nothing_held) words in
      let settling = settle_fault rules false end in
      let late = or_else (defaults_fault (settled rules end).rows rules) (check_fault shape (finished rules end) false) in
      let walked_well = first walking (or_else settling late) e in
      let settled_well = first settling late (second walking (or_else settling late) e) in
      let walked_rows = keeps_walk name es to agree (walk_from nothing_held) words walked_well tt in
      keeps_defaults to es (with_reads to es agree reads) (settled rules end).rows (keeps_settled name es to agree end settled_well walked_rows)

  has_rows : Each IsDefaulted es → (words : List Text) → Each (λ (e : Entry). has_row (word_of e) (rows_found words) ≡ true) es
  has_rows same words = has_each es (settled (map ready es) (walk (map ready es) [] nothing_held words).held).rows same

  -- what has to be there is there
  checked : (words : List Text) → level_fault (shape_with name es) [] nothing_held words false [] ≡ [] → check_fault (shape_with name es) (rows_found words) false ≡ []
  checked words e =
      let shape = shape_with name es in
      let rules = map ready es in
      let end = (walk rules [] nothing_held words).held in
      let settling = settle_fault rules false end in
      let defaulting = defaults_fault (settled rules end).rows rules in
      let checking = check_fault shape (finished rules end) false in
      let past_walk = second (walk_fault shape [] (walk_from nothing_held) words) (or_else settling (or_else defaulting checking)) e in
      second defaulting checking (second settling (or_else defaulting checking) past_walk)

check_reads : DefaultsRead check_entries
check_reads = (refl, (refl, (refl, (refl, (refl, (refl, (refl, tt)))))))

check_same : Each IsDefaulted check_entries
check_same = ((refl, refl), ((refl, refl), ((refl, refl), ((refl, refl), ((refl, refl), ((refl, refl), ((refl, refl), tt)))))))

told : (words : List Text) → level_fault check_shape [] nothing_held words false [] ≡ [] → (command : Command) × Tells (Some (rows_at check_shape words)) command
told words e =
    let name = check_shape.name in
    let rows = rows_found name check_entries check_reads words in
    let has = has_rows name check_entries check_reads check_same words in
    let keeps : (to : Entry) → Each (Agrees to) check_entries → Keeps to rows = λ to agree. kept name check_entries check_reads to agree words e in
    let crew = number_in workers_option rows (keeps workers agree_workers) has.0 in
    let budget = number_in conflicts_option rows (keeps conflicts agree_conflicts) has.1.0 in
    let steps = number_in bound_option rows (keeps bound agree_bound) has.1.1.0 in
    let level = number_in frames_option rows (keeps frames agree_frames) has.1.1.1.0 in
    let signals = number_in counter_option rows (keeps counter agree_counter) has.1.1.1.1.0 in
    let shared = flag_in together_flag rows (keeps together agree_together) has.1.1.1.1.1.0 in
    let shown = flag_in cert_flag rows (keeps cert agree_cert) has.1.1.1.1.1.1.0 in
    let has_effort : HasEffort rows (record { workers = crew.0; conflicts = budget.0; bound = steps.0; frames = level.0; counter = signals.0; together = shared.0; cert = shown.0 }) =
    record { workers = crew.1; conflicts = budget.1; bound = steps.1; frames = level.1; counter = signals.1; together = shared.1; cert = shown.1 } in
    (Check (record { workers = crew.0; conflicts = budget.0; bound = steps.0; frames = level.0; counter = signals.0; together = shared.0; cert = shown.0 }), (refl, has_effort))

told_again : (words : List Text) → level_fault recheck_shape [] nothing_held words false [] ≡ [] → (command : Command) × Tells (Some (rows_at recheck_shape words)) command
told_again words e =
    let name = recheck_shape.name in
    let rows = rows_found name recheck_entries (refl, tt) words in
    let has = has_rows name recheck_entries (refl, tt) ((refl, refl), tt) words in
    let anew = flag_in upgrade_flag rows (kept name recheck_entries (refl, tt) upgrade agree_upgrade words e) has.0 in
    (Recheck anew.0, (refl, anew.1))

wanted_first : (x y : Bool) → check_kinds false false ((not x) || ((not y) || false)) ≡ [] → x ≡ true
wanted_first true y e = refl
wanted_first false y e = cc

wanted_second : (x y : Bool) → check_kinds false false ((not x) || ((not y) || false)) ≡ [] → y ≡ true
wanted_second true true e = refl
wanted_second true false e = cc
wanted_second false y e = cc

-- each default of `self` is taken
ring_reads : DefaultsRead ring_entries
ring_reads = (tt, (tt, (refl, tt)))

-- its option has a row in the end
has_crew : (rows : List Row) → has_row workers_option.word (fold with_default rows (map ready ring_entries)) ≡ true
has_crew rows = has_default workers (with_default (with_default rows (ready cells)) (ready seed)) (refl, refl)

told_ring : (words : List Text) → level_fault ring_shape [] nothing_held words false [] ≡ [] → (command : Command) × Tells (Some (rows_at ring_shape words)) command
told_ring words e =
    let name = ring_shape.name in
    let rows = rows_found name ring_entries ring_reads words in
    let checking = checked name ring_entries ring_reads words e in
    let keeps : (to : Entry) → Each (Agrees to) ring_entries → Keeps to rows = λ to agree. kept name ring_entries ring_reads to agree words e in
    let given = is_given cells_place.name rows in
    let given_too = is_given seed_place.name rows in
    let size = number_placed 1 cells_place rows (keeps cells agree_cells) (given_row cells_place.name rows (wanted_first given given_too checking)) in
    let pick = number_placed 2 seed_place rows (keeps seed agree_seed) (given_row seed_place.name rows (wanted_second given given_too checking)) in
    let crew = number_in workers_option rows (keeps workers agree_crew) (has_crew (settled (map ready ring_entries) (walk (map ready ring_entries) [] nothing_held words).held).rows) in
    let has_ring : HasRing rows (record { cells = size.0; seed = pick.0; workers = crew.0 }) = record { cells = size.1; seed = pick.1; workers = crew.1 } in
    (Ring (record { cells = size.0; seed = pick.0; workers = crew.0 }), (refl, has_ring))

-- the shape of `self`, if it is named
abbrev of_ring : Text → Option Shape
of_ring word = cond (bytes_eq ring_shape.name word || false) (Some ring_shape) None

-- the shape of `flat` or of `self`, if it is named
abbrev of_flat : Text → Option Shape
of_flat word = cond (bytes_eq flat_shape.name word || false) (Some flat_shape) (of_ring word)

-- the shape of `recheck`, of `flat` or of `self`, if it is named
abbrev of_later : Text → Option Shape
of_later word = cond (bytes_eq recheck_shape.name word || false) (Some recheck_shape) (of_flat word)

ring_told : (p : Text × List Text) → option_map_or (λ (s : Shape). level_fault s [] nothing_held p.1 false []) (of_ring p.0) [] ≡ []
    → is_some (option_map (λ (s : Shape). rows_at s p.1) (of_ring p.0)) ≡ true → (command : Command) × Tells (option_map (λ (s : Shape). rows_at s p.1) (of_ring p.0)) command
ring_told p e some =
    elim (bytes_eq ring_shape.name p.0) as (λ x. option_map_or (λ (s : Shape). level_fault s [] nothing_held p.1 false []) (cond (x || false) (Some ring_shape) None) [] ≡ []
    → is_some (option_map (λ (s : Shape). rows_at s p.1) (cond (x || false) (Some ring_shape) None)) ≡ true
    → (command : Command) × Tells (option_map (λ (s : Shape). rows_at s p.1) (cond (x || false) (Some ring_shape) None)) command)
    [ true ↦ λ fault _. told_ring p.1 fault | false ↦ λ _ none. cc ] e some

flat_told : (p : Text × List Text) → option_map_or (λ (s : Shape). level_fault s [] nothing_held p.1 false []) (of_flat p.0) [] ≡ []
    → is_some (option_map (λ (s : Shape). rows_at s p.1) (of_flat p.0)) ≡ true → (command : Command) × Tells (option_map (λ (s : Shape). rows_at s p.1) (of_flat p.0)) command
flat_told p e some =
    elim (bytes_eq flat_shape.name p.0) as (λ x. option_map_or (λ (s : Shape). level_fault s [] nothing_held p.1 false []) (cond (x || false) (Some flat_shape) (of_ring p.0)) [] ≡ []
    → is_some (option_map (λ (s : Shape). rows_at s p.1) (cond (x || false) (Some flat_shape) (of_ring p.0))) ≡ true
    → (command : Command) × Tells (option_map (λ (s : Shape). rows_at s p.1) (cond (x || false) (Some flat_shape) (of_ring p.0))) command)
    [ true ↦ λ _ _. (Flat, refl) | false ↦ ring_told p ] e some

later_told : (p : Text × List Text) → option_map_or (λ (s : Shape). level_fault s [] nothing_held p.1 false []) (of_later p.0) [] ≡ []
    → is_some (option_map (λ (s : Shape). rows_at s p.1) (of_later p.0)) ≡ true → (command : Command) × Tells (option_map (λ (s : Shape). rows_at s p.1) (of_later p.0)) command
later_told p e some =
    elim (bytes_eq recheck_shape.name p.0) as (λ x. option_map_or (λ (s : Shape). level_fault s [] nothing_held p.1 false []) (cond (x || false) (Some recheck_shape) (of_flat p.0)) [] ≡ []
    → is_some (option_map (λ (s : Shape). rows_at s p.1) (cond (x || false) (Some recheck_shape) (of_flat p.0))) ≡ true
    → (command : Command) × Tells (option_map (λ (s : Shape). rows_at s p.1) (cond (x || false) (Some recheck_shape) (of_flat p.0))) command)
    [ true ↦ λ fault _. told_again p.1 fault | false ↦ flat_told p ] e some

found_told : (stop : Option (Text × List Text)) → entered_fault app stop ≡ [] → is_some (entered app stop) ≡ true → (command : Command) × Tells (entered app stop) command
found_told None e some = cc
found_told (Some p) e some =
    elim (bytes_eq check_shape.name p.0) as (λ x. option_map_or (λ (s : Shape). level_fault s [] nothing_held p.1 false []) (cond (x || false) (Some check_shape) (of_later p.0)) [] ≡ []
    → is_some (option_map (λ (s : Shape). rows_at s p.1) (cond (x || false) (Some check_shape) (of_later p.0))) ≡ true
    → (command : Command) × Tells (option_map (λ (s : Shape). rows_at s p.1) (cond (x || false) (Some check_shape) (of_later p.0))) command)
    [ true ↦ λ fault _. told p.1 fault | false ↦ later_told p ] e some

wanted : (rows : List Row) (has : Bool) → check_fault app.top rows has ≡ [] → has ≡ true
wanted rows true e = refl
wanted rows false e = cc

pub is_said : (words : List Text) → IsCommandLine words → (command : Command) × Says words command
is_said words e =
    let names = names_of app in
    let stop = (walk app.top.rules names nothing_held words).stopped in
    let end = (walk app.top.rules names nothing_held words).held in
    let has = is_some (entered app stop) in
    let walking = walk_fault app.top names (walk_from nothing_held) words in
    let settling = settle_fault app.top.rules false end in
    let defaulting = defaults_fault (settled app.top.rules end).rows app.top.rules in
    let checking = check_fault app.top (finished app.top.rules end) has in
    let below = entered_fault app stop in
    let late = or_else settling (or_else defaulting checking) in
    let past_walk = second walking (or_else below late) e in
    let past_below = second below late past_walk in
    let past_settling = second settling (or_else defaulting checking) past_below in
    let some = wanted (finished app.top.rules end) has (second defaulting checking past_settling) in
    let found = found_told stop (first below late past_walk) some in
    (found.0, (e, found.1))

-- the word `check` alone says the default effort
pub check_alone : Says (check_row.word ∷ []) (Check default_effort)
unfolding walk_fault walked defaults_fault
check_alone =
    let rows = (rows_at check_shape []).1 in
    let told : HasEffort rows default_effort = record {
      workers = number_read workers_option.word workers_option.least workers_option.greatest rows workers_option.default refl refl;
      conflicts = number_read conflicts_option.word conflicts_option.least conflicts_option.greatest rows conflicts_option.default refl refl;
      bound = number_read bound_option.word bound_option.least bound_option.greatest rows bound_option.default refl refl;
      frames = number_read frames_option.word frames_option.least frames_option.greatest rows frames_option.default refl refl;
      counter = number_read counter_option.word counter_option.least counter_option.greatest rows counter_option.default refl refl;
      together = refl;
      cert = refl;
    } in
    (refl, (refl, told))
