-- Names cut at commas, and the fields that columns assign.
use Rattle.std.proofs.Common.{◌≡◌, ℕ, suc, ◌+◌, ◌<◌, ◌≤◌, ◌==◌, ◌||◌, Bool, true, false, cond, not, List, [], ◌∷◌, ◌++◌, length, get_or, drop, refl, sym, append_assoc, arith}
use Rattle.std.specs.List.{prefix_len}
use Rattle.std.proofs.lemmas.List.{append-nil, drop_all, length-drop}
use Rattle.query_terms.proofs.Walks.{left_here}
use Rattle.entry_reader.specs.Lines.{trimmed, has_byte, before_byte, after_byte}
use Rattle.csv_rules.specs.Columns.{pieces, names_of, column, columns_from}
use Rattle.csv_rules.specs.declared.kinds.Assignment.{Assignment}

or_false : (t u : Bool) → t ≡ false → (t || u) ≡ true → u ≡ true
or_false true u e h = absurd cc
or_false false u e h = h

both_false : (t u : Bool) → (t || u) ≡ false → (t ≡ false) × (u ≡ false)
both_false true u h = absurd cc
both_false false u h = (refl, h)

cut_by : (t : Bool) (byte b : ℕ) (bs : List ℕ) → (b == byte) ≡ t → (t ≡ false → pieces byte bs ≡ before_byte byte bs ∷ pieces byte (after_byte byte bs))
    → pieces byte (b ∷ bs) ≡ before_byte byte (b ∷ bs) ∷ pieces byte (after_byte byte (b ∷ bs))
cut_by true byte b bs e more = rw e refl
cut_by false byte b bs e more =
    let k : 1 + prefix_len (λ c. not (c == byte)) bs ≡ suc (prefix_len (λ c. not (c == byte)) bs) = omega arith in
    let j : suc (prefix_len (λ c. not (c == byte)) bs) + 1 ≡ suc (prefix_len (λ c. not (c == byte)) bs + 1) = omega arith in
    rw (e, k, j, more refl) refl

-- the first piece and the others
pub cut : (byte : ℕ) (text : List ℕ) → has_byte byte text ≡ true → pieces byte text ≡ before_byte byte text ∷ pieces byte (after_byte byte text)
cut byte [] h = absurd cc
cut byte (b ∷ bs) h = cut_by (b == byte) byte b bs refl (λ e. cut byte bs (or_false (b == byte) (has_byte byte bs) e h))

-- one piece
pub whole : (byte : ℕ) (text : List ℕ) → has_byte byte text ≡ false → pieces byte text ≡ text ∷ []
whole byte [] h = refl
whole byte (b ∷ bs) h = let p = both_false (b == byte) (has_byte byte bs) h in rw (p.0, whole byte bs p.1) refl

length_by : (t : Bool) (n m : ℕ) → (t ≡ false → n < m) → cond (not t) (1 + n) 0 < 1 + m
length_by true n m h = omega arith
length_by false n m h = omega (arith, h refl)

place_inside : (byte : ℕ) (text : List ℕ) → has_byte byte text ≡ true → prefix_len (λ c. not (c == byte)) text < length text
place_inside byte [] h = absurd cc
place_inside byte (b ∷ bs) h =
    let n : cond (not (b == byte)) (1 + prefix_len (λ c. not (c == byte)) bs) 0 < 1 + length bs = length_by (b == byte) (prefix_len (λ c. not (c == byte)) bs) (length bs) (λ e. place_inside byte bs (or_false (b == byte) (has_byte byte bs) e h)) in
    omega (arith, n)

-- what follows the first such byte is shorter
pub shorter : (byte : ℕ) (text : List ℕ) → has_byte byte text ≡ true → length (after_byte byte text) < length text
shorter byte text h = omega (arith, place_inside byte text h, length-drop (prefix_len (λ c. not (c == byte)) text + 1) text)

pub one_more : (whole : List (List ℕ)) (names : List (List ℕ)) (text : List ℕ) → whole ≡ names ++ names_of text → has_byte 44 text ≡ true → whole ≡ (names ++ trimmed (before_byte 44 text) ∷ []) ++ names_of (after_byte 44 text)
one_more whole names text e h = rw (e, cut 44 text h) (sym (append_assoc names (trimmed (before_byte 44 text) ∷ []) (names_of (after_byte 44 text))))

pub last_one : (all : List (List ℕ)) (names : List (List ℕ)) (text : List ℕ) → all ≡ names ++ names_of text → has_byte 44 text ≡ false → names ++ trimmed text ∷ [] ≡ all
last_one all names text e h = rw (e, whole 44 text h) refl

-- the columns, one after the other
pub columns_more : (whole found : List Assignment) (names : List (List ℕ)) (i number : ℕ) (name : List ℕ) (now : List Assignment) → whole ≡ found ++ columns_from number (drop i names) → i < length names → name ≡ get_or names i name → now ≡ found ++ column number name
    → whole ≡ now ++ columns_from (number + 1) (drop (i + 1) names)
columns_more whole found names i number name now e lt is f = rw (e, left_here names i name lt is, f) (sym (append_assoc found (column number name) (columns_from (number + 1) (drop (i + 1) names))))

pub columns_done : (whole found : List Assignment) (names : List (List ℕ)) (i number : ℕ) → whole ≡ found ++ columns_from number (drop i names) → length names ≤ i → found ≡ whole
columns_done whole found names i number e le = sym (rw (e, drop_all i names le) (append-nil found))
