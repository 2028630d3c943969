-- The words that the lines of directives and rules begin with.
use Rattle.std.specs.Prelude.{ℕ, Bool, ◌&&◌, ◌||◌, List, nat_eq, if◌then◌else◌, length, drop, codes}
use Rattle.std.specs.List.{starts_with}
use Rattle.hl_base.specs.Ascii.{equals, tilde}
use Rattle.hl_base.specs.Items.{begins_entry}
use Rattle.entry_reader.specs.Heads.{ends_word}
use Rattle.entry_reader.specs.Lines.{begins, after_white}
use Rattle.directive_reader.specs.declared.keyword.Keyword.{Keyword}
use Rattle.directive_reader.specs.declared.keyword.Keyword.TheVariants as keywords

-- the text begins with this word
unfoldable pub has_word : List ℕ → List ℕ → Bool
has_word word text = starts_with nat_eq text word && ends_word (drop (length word) text)

-- what follows it and white space
unfoldable pub after_word : List ℕ → List ℕ → List ℕ
after_word word text = after_white (drop (length word) text)

-- the text begins with these two words
unfoldable pub has_two : List ℕ → List ℕ → List ℕ → Bool
has_two one two text = has_word one text && has_word two (after_word one text)

unfoldable pub after_two : List ℕ → List ℕ → List ℕ → List ℕ
after_two one two text = after_word two (after_word one text)

-- the text begins with `end apply account`
unfoldable pub ends_apply : List ℕ → Bool
ends_apply text = has_word (codes "end") text && has_two (codes "apply") (codes "account") (after_word (codes "end") text)

unfoldable pub after_end_apply : List ℕ → List ℕ
after_end_apply text = after_two (codes "apply") (codes "account") (after_word (codes "end") text)

-- it begins with a `Y` that is a word, or that a digit follows
abbrev pub is_year_letter : List ℕ → Bool
is_year_letter text = begins text 89 && (ends_word (drop 1 text) || begins_entry (drop 1 text))

-- what follows a letter or a mark, and white space
abbrev pub behind : List ℕ → List ℕ
behind text = after_white (drop 1 text)

-- the keywords of declarations
unfoldable pub declared_word : List ℕ → Keyword × List ℕ
declared_word text =
    if has_word (codes "commodity") text then (keywords.Commodity, after_word (codes "commodity") text)
    else if has_word (codes "account") text then (keywords.Account, after_word (codes "account") text)
    else if has_word (codes "payee") text then (keywords.Payee, after_word (codes "payee") text)
    else if has_word (codes "tag") text then (keywords.Tag, after_word (codes "tag") text)
    else (keywords.Other, text)

-- the keywords that change how later items are read, and those of declarations
unfoldable pub changing_word : List ℕ → Keyword × List ℕ
changing_word text =
    if has_word (codes "year") text then (keywords.Year, after_word (codes "year") text)
    else if has_two (codes "apply") (codes "account") text then (keywords.Apply, after_two (codes "apply") (codes "account") text)
    else if ends_apply text then (keywords.EndApply, after_end_apply text)
    else if has_word (codes "alias") text then (keywords.Alias, after_word (codes "alias") text)
    else if has_two (codes "end") (codes "aliases") text then (keywords.EndAliases, after_two (codes "end") (codes "aliases") text)
    else if has_word (codes "decimal-mark") text then (keywords.DecimalMark, after_word (codes "decimal-mark") text)
    else declared_word text

-- What a text begins with, a letter, the mark of a rule or a word, and what follows it and white space.
unfoldable pub keyword_at : List ℕ → Keyword × List ℕ
keyword_at text =
    if has_word (codes "P") text then (keywords.Price, after_word (codes "P") text)
    else if begins text tilde then (keywords.Periodic, behind text)
    else if begins text equals then (keywords.Auto, behind text)
    else if has_word (codes "D") text then (keywords.Default, after_word (codes "D") text)
    else if is_year_letter text then (keywords.Year, behind text)
    else changing_word text
