-- Lines with spaces between them.
use Rattle.std.proofs.Common.{◌≡◌, ℕ, ◌<◌, ◌≤◌, true, false, List, [], ◌∷◌, ◌++◌, length, get_or, take, refl, sym, ◌∙◌}
use Rattle.std.specs.Str.{is_utf8}
use Rattle.std.proofs.lemmas.List.{append_assoc}
use Rattle.entry_reader.specs.Lines.{has_byte, before_byte, after_byte}
use Rattle.entry_reader.proofs.Texts as texts
use Rattle.csv_rules.specs.Columns.{pieces}
use Rattle.csv_rules.proofs.ColumnLaws.{cut, whole}
use Rattle.csv_entries.specs.Judging.{without_return, spaced, one_line}
use Rattle.csv_rules.proofs.Remainders.{first_and_others}

-- a text may end before an ASCII byte
pub front_utf8 : (text : List ℕ) (n : ℕ) → n ≤ length text → get_or text n 0 < 128 → is_utf8 text ≡ true → is_utf8 (take n text) ≡ true
front_utf8 text n le ascii e = texts.front_utf8 text n (texts.cut_before text n le (λ _. ascii)) e

-- the first line, and the others behind a space
spaced_more : (l : List ℕ) (text : List ℕ) → spaced (l ∷ pieces 10 text) ≡ without_return l ++ 32 ∷ one_line text
spaced_more l text =
    let e = first_and_others 10 text in
    rw e refl

pub one_more : (whole line rest now : List ℕ) → whole ≡ line ++ one_line rest → has_byte 10 rest ≡ true
    → now ≡ (line ++ without_return (before_byte 10 rest)) ++ 32 ∷ [] → whole ≡ now ++ one_line (after_byte 10 rest)
one_more whole line rest now e h n =
    let k : one_line rest ≡ without_return (before_byte 10 rest) ++ 32 ∷ one_line (after_byte 10 rest) =
    rw (cut 10 rest h) (spaced_more (before_byte 10 rest) (after_byte 10 rest)) in
    rw (e, k, n) (sym (append_assoc (line ++ without_return (before_byte 10 rest)) (32 ∷ []) (one_line (after_byte 10 rest))
    ∙ append_assoc line (without_return (before_byte 10 rest)) (32 ∷ one_line (after_byte 10 rest))))

pub last_one : (all line rest now : List ℕ) → all ≡ line ++ one_line rest → has_byte 10 rest ≡ false → now ≡ line ++ rest → now ≡ all
last_one all line rest now e h n = rw (e, n, whole 10 rest h) refl
