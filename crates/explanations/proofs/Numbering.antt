-- The line of a number, line by line.
use Rattle.std.proofs.Common.{◌≡◌, ℕ, ◌-◌, ◌≤◌, nat_le, Bool, true, false, List, [], ◌∷◌, length, if◌then◌else◌, refl, sym, ap, ◌∙◌, arith}
use Rattle.std.proofs.lemmas.List.{nil_from_length}
use Rattle.entry_reader.specs.Lines.{contents_of}
use Rattle.explanations.specs.Explained.{numbered}

abbrev by_test : ℕ → List ℕ → List ℕ → Bool → List ℕ
by_test left content after b = if b then content else numbered (left - 1) (contents_of after)

pub line_more : (whole : List ℕ) (left : ℕ) (rest content after : List ℕ) → whole ≡ numbered left (contents_of rest) → contents_of rest ≡ content ∷ contents_of after → nat_le left 1 ≡ false
    → whole ≡ numbered (left - 1) (contents_of after)
line_more whole left rest content after e cut other = e ∙ (ap (numbered left) cut ∙ ap (by_test left content after) other)

pub line_here : (whole : List ℕ) (left : ℕ) (rest content after : List ℕ) → whole ≡ numbered left (contents_of rest) → contents_of rest ≡ content ∷ contents_of after → nat_le left 1 ≡ true
    → content ≡ whole
line_here whole left rest content after e cut here = sym (e ∙ (ap (numbered left) cut ∙ ap (by_test left content after) here))

none_in : (left : ℕ) (rest : List ℕ) → rest ≡ [] → numbered left (contents_of rest) ≡ rest
none_in left rest e = rw e refl

pub line_none : (whole : List ℕ) (left : ℕ) (rest : List ℕ) → whole ≡ numbered left (contents_of rest) → length rest ≤ 0 → rest ≡ whole
line_none whole left rest e empty = sym (e ∙ none_in left rest (nil_from_length rest (omega arith)))
