-- What a contract sees of a journal, and of an edit of it that is planned.
use Rattle.std.specs.Prelude.{ℕ, Bool, List, Option}
use Rattle.hl_base.specs.declared.change.Splice.{Splice}

-- a text that loads, the year that it begins in if it has one, and how many edits it has had
pub record Journal : Type 0 where
  pub text : List ℕ
  pub year : Option ℕ
  pub revision : ℕ

-- an edit of a journal: the new text, how it is made from the old one, and whether it is the old one
pub record Planned : Type 0 where
  pub from : Journal
  pub text : List ℕ
  pub splice : Splice
  pub same : Bool
