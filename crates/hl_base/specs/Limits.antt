-- The limits of a journal: each stands here once, and contracts cite it by its name.
use Rattle.std.specs.Prelude.{ℕ}

-- the most bytes that a journal's text has
abbrev pub text_limit : ℕ
text_limit = 16777216

-- the most items that a journal's text has
abbrev pub item_limit : ℕ
item_limit = 200000

-- the most bytes that an entry has, or a directive; gaps, comment blocks and stray lines have no limit of their own
abbrev pub entry_limit : ℕ
entry_limit = 65536
