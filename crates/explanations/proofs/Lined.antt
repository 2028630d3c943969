-- The first line of a text.
use Rattle.std.proofs.Common.{◌≡◌, ℕ, ◌≤◌, List, [], ◌∷◌, length, refl, sym, ap, arith}
use Rattle.std.proofs.lemmas.List.{nil_from_length}
use Rattle.entry_reader.specs.Lines.{contents_of}
use Rattle.explanations.specs.Explained.{first_content, first_of}

pub first_cut : (text content after : List ℕ) → contents_of text ≡ content ∷ contents_of after → content ≡ first_content text
first_cut text content after cut = sym (ap first_of cut)

first_in : (text : List ℕ) → text ≡ [] → text ≡ first_content text
first_in text e = rw e refl

pub first_none : (text : List ℕ) → length text ≤ 0 → text ≡ first_content text
first_none text empty = first_in text (nil_from_length text (omega arith))
