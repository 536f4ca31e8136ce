use Rattle.std.proofs.Common.{◌-◌, ◌∷◌, ◌∙◌, length, take, drop, map, string_bytes, Some, arith, sym, ap}
use Rattle.std.proofs.lemmas.Str.Pattern.{split_once_first}
use Rattle.bal_options.proofs.WordFacts.{first-word, front-one, read-front}
use Rattle.bal_options.proofs.words.read_option.Goals as goal

pub returns-in-Some : goal.returns-in-Some
returns-in-Some c =
    let split = split_once_first 61 c.deref.result.now (Some (c.in-Some.name, c.in-Some.value)) c.in-Some.ensures.cases (omega arith) in
    let rest = take (length c.args.words.now - 1) (drop 1 c.args.words.now) in
    let whole = ap (map string_bytes) (first-word c.args.words.now c.word-item.result c.in-len1-up.len_at_least c.word-item.is) in
    let words = whole ∙ ap (λ w. w ∷ map string_bytes rest) (sym c.deref.ensures) in
    let front = front-one (map string_bytes c.args.words.now) c.deref.result.now (map string_bytes rest) c.in-Some.name.now c.in-Some.value.now words split in
    read-front (map string_bytes c.args.words.now) c.in-Some.name.now c.in-Some.value.now rest front c.read_given.result c.read_given.ensures
