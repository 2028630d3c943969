-- Words of a connection, and of anything else.
use Rattle.std.specs.Prelude.{ℕ, Bool, false, List, [], ◌∷◌, codes, Result, Ok, Err}
use Rattle.std.specs.Str.{bytes_eq}
use Rattle.command_words.specs.declared.task.Task.{Task}
use Rattle.command_words.specs.declared.task.Task.TheVariants as task
use Rattle.command_words.specs.declared.usage.UsageFault.{UsageFault}

-- the words are those of a connection: the first is `talk`
abbrev pub talks : List (List ℕ) → Bool
talks [] = false
talks (word ∷ words) = bytes_eq word (codes "talk")

-- something else than a connection is asked for
abbrev pub IsPlain : Task → Type 0
IsPlain (task.Talk what) = ⊥
IsPlain other = Unit {0}

-- so it is where the words have a reading
abbrev pub IsPlainRead : Result Task UsageFault → Type 0
IsPlainRead (Ok what) = IsPlain what
IsPlainRead (Err fault) = Unit {0}
