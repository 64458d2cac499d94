use Rattle.std.proofs.Common.{◌<◌, ℕ, arith}
use Rattle.smv_text.proofs.Longest.{IsPlain, NoSymbol, no_symbol, symbol_longest, byte_longest, up_to_three}
use Rattle.smv_text.proofs.front.symbol.Goals as goal

pub returns-in-Some : goal.returns-in-Some
returns-in-Some c =
    let plain : IsPlain c.args.bytes.now = record { no_word = c.requires.no_word; no_number = c.requires.no_number; no_line = c.requires.no_line_comment; no_comment = c.requires.no_comment } in
    symbol_longest c.args.bytes.now 3 c.in-Some.kind plain (omega arith) c.in-Some.ensures (λ m lt le. absurd (omega arith))

pub returns-in-Some-symbol_of_len : goal.returns-in-Some-symbol_of_len
returns-in-Some-symbol_of_len c =
    let plain : IsPlain c.args.bytes.now = record { no_word = c.requires.no_word; no_number = c.requires.no_number; no_line = c.requires.no_line_comment; no_comment = c.requires.no_comment } in
    let three : NoSymbol c.args.bytes.now 3 = no_symbol c.args.bytes.now 3 c.symbol_of_len.result c.symbol_of_len.ensures c.in_default.not-Some in
    let P : ℕ → Type 0 = λ m. 2 < m → NoSymbol c.args.bytes.now m in
    symbol_longest c.args.bytes.now 2 c.in-Some-symbol_of_len.kind plain (omega arith) c.in-Some-symbol_of_len.ensures
    (λ m lt le. up_to_three P (λ l. absurd (omega arith)) (λ l. absurd (omega arith)) (λ l. absurd (omega arith)) (λ l. three) m le lt)

pub returns-in-Some-symbol_of_len-2 : goal.returns-in-Some-symbol_of_len-2
returns-in-Some-symbol_of_len-2 c =
    let plain : IsPlain c.args.bytes.now = record { no_word = c.requires.no_word; no_number = c.requires.no_number; no_line = c.requires.no_line_comment; no_comment = c.requires.no_comment } in
    let three : NoSymbol c.args.bytes.now 3 = no_symbol c.args.bytes.now 3 c.symbol_of_len.result c.symbol_of_len.ensures c.in_default.not-Some in
    let two : NoSymbol c.args.bytes.now 2 = no_symbol c.args.bytes.now 2 c.symbol_of_len-2.result c.symbol_of_len-2.ensures c.in_default-symbol_of_len.not-Some in
    let P : ℕ → Type 0 = λ m. 1 < m → NoSymbol c.args.bytes.now m in
    symbol_longest c.args.bytes.now 1 c.in-Some-symbol_of_len-2.kind plain (omega arith) c.in-Some-symbol_of_len-2.ensures
    (λ m lt le. up_to_three P (λ l. absurd (omega arith)) (λ l. absurd (omega arith)) (λ l. two) (λ l. three) m le lt)

pub returns : goal.returns
returns c =
    let plain : IsPlain c.args.bytes.now = record { no_word = c.requires.no_word; no_number = c.requires.no_number; no_line = c.requires.no_line_comment; no_comment = c.requires.no_comment } in
    let three : NoSymbol c.args.bytes.now 3 = no_symbol c.args.bytes.now 3 c.symbol_of_len.result c.symbol_of_len.ensures c.in_default.not-Some in
    let two : NoSymbol c.args.bytes.now 2 = no_symbol c.args.bytes.now 2 c.symbol_of_len-2.result c.symbol_of_len-2.ensures c.in_default-symbol_of_len.not-Some in
    let one : NoSymbol c.args.bytes.now 1 = no_symbol c.args.bytes.now 1 c.symbol_of_len-3.result c.symbol_of_len-3.ensures c.in_default-symbol_of_len-2.not-Some in
    let P : ℕ → Type 0 = λ m. 0 < m → NoSymbol c.args.bytes.now m in
    byte_longest c.args.bytes.now c.byte_lexeme.result c.requires.some plain c.byte_lexeme.ensures (λ m lt le. up_to_three P (λ l. absurd (omega arith)) (λ l. one) (λ l. two) (λ l. three) m le lt)
