-- Columns between commas.
use Rattle.std.proofs.Common.{◌≡◌, ℕ, ◌+◌, ◌<◌, ◌≤◌, List, [], ◌∷◌, ◌++◌, length, get_or, drop, sym, ap, ◌∙◌}
use Rattle.std.specs.List.{flat_map, join_with_byte}
use Rattle.std.proofs.lemmas.List.{append-nil, append_assoc, drop_all}
use Rattle.query_terms.proofs.Walks.{left_here}

-- columns, each behind a comma
abbrev pub behind_commas : List (List ℕ) → List ℕ
behind_commas columns = flat_map (λ column. 44 ∷ column) columns

joins : (first : List ℕ) (more : List (List ℕ)) → join_with_byte 44 (first ∷ more) ≡ first ++ behind_commas more
joins first [] = sym (append-nil first)
joins first (column ∷ more) = ap (λ x. first ++ 44 ∷ x) (joins column more)

pub starts : (columns : List (List ℕ)) (first text : List ℕ) (more : List (List ℕ)) → columns ≡ first ∷ more → text ≡ [] ++ first
    → join_with_byte 44 columns ≡ text ++ behind_commas (drop 0 more)
starts columns first text more e is = rw (e, is) (joins first more)

pub one_more : (whole text column now : List ℕ) (more : List (List ℕ)) (i : ℕ) → whole ≡ text ++ behind_commas (drop i more) → i < length more
    → column ≡ get_or more i column → now ≡ (text ++ 44 ∷ []) ++ column → whole ≡ now ++ behind_commas (drop (i + 1) more)
one_more whole text column now more i e lt is n =
    rw (e, left_here more i column lt is, n)
    (sym (append_assoc (text ++ 44 ∷ []) column (behind_commas (drop (i + 1) more)) ∙ append_assoc text (44 ∷ []) (column ++ behind_commas (drop (i + 1) more))))

pub all_done : (whole text : List ℕ) (more : List (List ℕ)) (i : ℕ) → whole ≡ text ++ behind_commas (drop i more) → length more ≤ i → text ≡ whole
all_done whole text more i e le = sym (rw (e, drop_all i more le) (append-nil text))
