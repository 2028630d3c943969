-- The page that a run may show.
use Rattle.std.specs.Prelude.{◌≡◌, ℕ, Bool, true, false, List, codes}
use Rattle.std.specs.List.{list_any}
use Rattle.std.specs.Str.{bytes_eq}
use Rattle.page_text.specs.Policies.{IsBuilt}
use Rattle.web_messages.specs.declared.page.Page.{Page}
use Rattle.web_messages.specs.declared.page.Page.TheVariants as pages

-- the word that asks for the page
abbrev pub is_page_word : List ℕ → Bool
is_page_word word = bytes_eq word (codes "--page")

-- the program's page, if it is asked for
abbrev pub IsPageIf : Bool → Page → Type 0
IsPageIf true page = IsBuilt page
IsPageIf false page = page ≡ pages.Absent

-- the page of a run of these words
abbrev pub IsPageFor : List (List ℕ) → Page → Type 0
IsPageFor words page = IsPageIf (list_any is_page_word words) page
