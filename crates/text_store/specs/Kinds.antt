-- The kinds of records, each a letter.
use Rattle.std.specs.Prelude.{ℕ}

-- C: the text and the import states
abbrev pub image_kind : ℕ
image_kind = 67

-- T: a text in the place of the one before
abbrev pub text_kind : ℕ
text_kind = 84

-- S: a splice
abbrev pub splice_kind : ℕ
splice_kind = 83

-- I: an import's state and its splice
abbrev pub import_kind : ℕ
import_kind = 73
