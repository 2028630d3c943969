use Rattle.std.proofs.Common.{◌≡◌, map}
use Rattle.std.specs.Char.{to_ascii_lowercase}
use Rattle.hl_time.specs.Words.{is_word, same_text}
use Rattle.hl_time.proofs.TextLaws.{same_bools, same_text_self, text_from_same}
use Rattle.csv_rules.proofs.words.is_same_word.Goals as goal

pub returns : goal.returns
unfolding is_word
returns c =
    let word = map to_ascii_lowercase c.args.word.now in
    let name = map to_ascii_lowercase c.args.name.now in
    let test = c.eq_ignore_ascii_case.ensures.test in
    same_bools c.eq_ignore_ascii_case.result (same_text word name)
    (λ h. (let same : word ≡ name = test.0 h in rw same (same_text_self name)))
    (λ h. test.1 (text_from_same word name h))
