-- The pieces of a text behind its first.
use Rattle.std.proofs.Common.{◌≡◌, ℕ, suc, ◌+◌, ◌==◌, ◌||◌, not, Bool, true, false, List, [], ◌∷◌, drop, refl, ap, arith}
use Rattle.std.specs.List.{prefix_len}
use Rattle.entry_reader.specs.Lines.{has_byte, before_byte, after_byte}
use Rattle.csv_rules.specs.Columns.{pieces}
use Rattle.csv_rules.proofs.ColumnLaws.{cut, whole}

abbrev pub others : ℕ → List ℕ → List (List ℕ)
others byte text = drop 1 (pieces byte text)

before_cons : (byte b : ℕ) (bs : List ℕ) (t : Bool) → (b == byte) ≡ t → (t || has_byte byte bs) ≡ false
    → (has_byte byte bs ≡ false → before_byte byte bs ≡ bs) → before_byte byte (b ∷ bs) ≡ b ∷ bs
before_cons byte b bs true e h more = absurd cc
before_cons byte b bs false e h more =
    let k : 1 + prefix_len (λ c. not (c == byte)) bs ≡ suc (prefix_len (λ c. not (c == byte)) bs) = omega arith in
    rw (e, k) (ap (λ x. b ∷ x) (more h))

-- what stands before the first such byte where there is none
before_by : (byte : ℕ) (text : List ℕ) → has_byte byte text ≡ false → before_byte byte text ≡ text
before_by byte [] h = refl
before_by byte (b ∷ bs) h = before_cons byte b bs (b == byte) refl h (before_by byte bs)

-- the others of a text that has such a byte, and of one that has none
pub others_more : (byte : ℕ) (text : List ℕ) → has_byte byte text ≡ true → others byte text ≡ pieces byte (after_byte byte text)
others_more byte text h = rw (cut byte text h) refl

pub others_none : (byte : ℕ) (text : List ℕ) → has_byte byte text ≡ false → others byte text ≡ []
others_none byte text h = rw (whole byte text h) refl

first_by : (byte : ℕ) (text : List ℕ) (t : Bool) → has_byte byte text ≡ t → pieces byte text ≡ before_byte byte text ∷ others byte text
first_by byte text true h = rw (cut byte text h) refl
first_by byte text false h = rw (whole byte text h, before_by byte text h) refl

-- the first piece and the others
pub first_and_others : (byte : ℕ) (text : List ℕ) → pieces byte text ≡ before_byte byte text ∷ others byte text
first_and_others byte text = first_by byte text (has_byte byte text) refl
