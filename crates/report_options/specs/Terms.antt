-- The words of a query that options stand for.
use Rattle.std.specs.Prelude.{ℕ, Bool, List, [], ◌∷◌, ◌++◌, codes, Option, Some, None, if◌then◌else◌}
use Rattle.std.specs.Fmt.{decimal}
use Rattle.report_options.specs.declared.options.Options.{Options}

-- a word, if it is asked for
abbrev pub asked : Bool → List ℕ → List (List ℕ)
asked is_asked word = if is_asked then word ∷ [] else []

abbrev pub depth_word : ℕ → List ℕ
depth_word depth = codes "depth:" ++ decimal depth

abbrev pub depth_words : Option ℕ → List (List ℕ)
depth_words None = []
depth_words (Some depth) = depth_word depth ∷ []

-- no mark, pending and cleared, real postings, and a depth
abbrev pub terms_of_options : Options → List (List ℕ)
terms_of_options options =
    asked options.unmarked (codes "status:") ++ asked options.pending (codes "status:!") ++ asked options.cleared (codes "status:*")
    ++ asked options.real_only (codes "real:1") ++ depth_words options.depth
