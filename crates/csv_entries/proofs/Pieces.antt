-- A value with its columns put in, piece by piece.
use Rattle.std.proofs.Common.{◌≡◌, ℕ, true, false, List, [], ◌++◌, refl, sym}
use Rattle.std.specs.List.{flat_map}
use Rattle.std.proofs.lemmas.List.{append-nil, append_assoc}
use Rattle.entry_reader.specs.Lines.{has_byte, before_byte, after_byte}
use Rattle.csv_entries.specs.Values.{piece_text, expanded}
use Rattle.csv_rules.proofs.Remainders.{others, others_more, others_none, first_and_others}

-- what the pieces behind the first become
abbrev pub rest_text : List (List ℕ) → List (List ℕ) → List ℕ → List ℕ
rest_text names columns text = flat_map (piece_text names columns) (others 37 text)

pub first_piece : (names columns : List (List ℕ)) (written front : List ℕ) → front ≡ [] ++ before_byte 37 written
    → expanded names columns written ≡ front ++ rest_text names columns written
first_piece names columns written front e = rw (e, first_and_others 37 written) refl

pub one_more : (names columns : List (List ℕ)) (whole text rest now : List ℕ) → whole ≡ text ++ rest_text names columns rest → has_byte 37 rest ≡ true
    → now ≡ text ++ piece_text names columns (before_byte 37 (after_byte 37 rest)) → whole ≡ now ++ rest_text names columns (after_byte 37 rest)
one_more names columns whole text rest now e h n =
    rw (e, others_more 37 rest h, first_and_others 37 (after_byte 37 rest), n)
    (sym (append_assoc text (piece_text names columns (before_byte 37 (after_byte 37 rest))) (rest_text names columns (after_byte 37 rest))))

pub all_done : (names columns : List (List ℕ)) (whole text rest : List ℕ) → whole ≡ text ++ rest_text names columns rest → has_byte 37 rest ≡ false → text ≡ whole
all_done names columns whole text rest e h = sym (rw (e, others_none 37 rest h) (append-nil text))
