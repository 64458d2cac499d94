use Rattle.std.proofs.Common.{◌≡◌, ◌∷◌, ◌++◌, [], map, ap, ◌∙◌, append_assoc}
use Rattle.std.specs.List.{filter}
use Rattle.std.proofs.lemmas.Result.{on_ok_weaker}
use Rattle.sat_prop.specs.Watches.{cell}
use Rattle.sat_prop.specs.Packing.{is_beside}
use Rattle.sat_prop.proofs.Writing.{front_kept, front_kept_on}
use Rattle.sat_prop.proofs.rows.write_row.Goals as goal

pub returns-in_err-push-2-clause-kept : goal.returns-in_err-push-2-clause-kept
returns-in_err-push-2-clause-kept c =
    front_kept c.args.words.now.items (c.word_of.result ∷ []) c.push-2.new.self.items (c.in_err-push-2.ensures.items ∙ c.in_ok-push.ensures.items)

pub returns-clause-done : goal.returns-clause-done
returns-clause-done c =
    let words = c.args.words.now.items in
    let a = c.word_of.result in
    let b = c.word_of-2.result in
    let first : c.push.new.self.items ≡ words ++ a ∷ [] = c.in_ok-push.ensures.items in
    let both : c.push-2.new.self.items ≡ words ++ a ∷ b ∷ [] = c.in_ok-push-2.ensures.items ∙ ap (λ v. v ++ b ∷ []) first ∙ append_assoc words (a ∷ []) (b ∷ []) in
    let rest = map cell (filter (is_beside c.args.h) c.args.c.now) in
    let named : words ++ a ∷ b ∷ rest ≡ words ++ cell c.args.h.a ∷ cell c.args.h.b ∷ rest =
    ap (λ n. words ++ n ∷ b ∷ rest) c.word_of.ensures ∙ ap (λ n. words ++ cell c.args.h.a ∷ n ∷ rest) c.word_of-2.ensures in
    on_ok_weaker c.write_beside.result (λ e. e ∙ ap (λ v. v ++ rest) both ∙ append_assoc words (a ∷ b ∷ []) rest ∙ named) c.write_beside.ensures.done

pub returns-clause-kept : goal.returns-clause-kept
returns-clause-kept c =
    let words = c.args.words.now.items in
    let a = c.word_of.result in
    let b = c.word_of-2.result in
    let first : c.push.new.self.items ≡ words ++ a ∷ [] = c.in_ok-push.ensures.items in
    let both : c.push-2.new.self.items ≡ words ++ a ∷ b ∷ [] = c.in_ok-push-2.ensures.items ∙ ap (λ v. v ++ b ∷ []) first ∙ append_assoc words (a ∷ []) (b ∷ []) in
    front_kept_on words (a ∷ b ∷ []) c.push-2.new.self.items c.write_beside.new.words.items both c.write_beside.ensures.kept
