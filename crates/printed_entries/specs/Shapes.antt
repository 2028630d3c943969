-- The shapes in which a number reads as it is.
use Rattle.std.specs.Prelude.{◌≡◌, ℕ, true, Option, Some, None}
use Rattle.hl_num.specs.Reading.{is_mark, other_mark}
use Rattle.book.specs.declared.amount.Written.{Written}
use Rattle.book.specs.Printed.{mark_of}

-- no groups, or with the mark that isn't the decimal one between them
abbrev pub IsApart : Option ℕ → ℕ → Type 0
IsApart None mark = Unit {0}
IsApart (Some group) mark = group ≡ other_mark mark

-- none is decided, or this one
abbrev pub IsOf : Option ℕ → ℕ → Type 0
IsOf None mark = Unit {0}
IsOf (Some decided) mark = decided ≡ mark

-- A shape's decimal mark is `.` or `,`, its group mark the other one, and no other decimal mark is decided.
pub record IsShape (known : Option ℕ) (shape : Written) : Type 0 where
  pub mark : is_mark (mark_of shape.mark shape.group) ≡ true
  pub group : IsApart shape.group (mark_of shape.mark shape.group)
  pub decided : IsOf known (mark_of shape.mark shape.group)
