-- The words of a query, as they stand in a rule.
use Rattle.std.specs.Prelude.{ℕ, Bool, false, ◌&&◌, ◌||◌, not, List, [], ◌∷◌, ◌==◌, nat_lt, if◌then◌else◌, length}
use Rattle.std.specs.List.{filter}
use Rattle.hl_base.specs.Ascii.{quote}
use Rattle.hl_base.specs.Items.{is_white}
use Rattle.hl_base.specs.Lines.{onto}
use Rattle.entry_reader.specs.Lines.{has_byte}

-- The words of a text, of which the first goes on with a word before it, inside quotes or not. White space divides words,
-- but between two double quotes, which aren't kept themselves; a quote that no other follows stands for itself.
unfoldable pub words_from : Bool → List ℕ → List (List ℕ)
words_from inside [] = [] ∷ []
words_from inside (b ∷ bs) =
    if (b == quote) && (inside || has_byte quote bs) then words_from (not inside) bs
    else if not inside && is_white b then [] ∷ words_from false bs
    else onto b (words_from inside bs)

-- those that have a byte
abbrev pub filled : List (List ℕ) → List (List ℕ)
filled words = filter (λ word. nat_lt 0 (length word)) words

abbrev pub query_words : List ℕ → List (List ℕ)
query_words text = filled (words_from false text)

-- a byte that goes on with a word outside quotes
abbrev pub is_plain : ℕ → Bool
is_plain b = not (is_white b || (b == quote))

-- some bytes before the first of some words
abbrev pub joins : List ℕ → List (List ℕ) → List (List ℕ)
joins [] words = words
joins (b ∷ bs) words = onto b (joins bs words)
