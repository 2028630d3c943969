-- A walk of an edit.
use Rattle.std.specs.Prelude.{List}
use Rattle.std.specs.List.{AllByRecursion}
use Rattle.book.specs.Bounds.{TurnoverFits}
use Rattle.book.specs.Postings.{postings_of}
use Rattle.book.specs.declared.transaction.Txn.{Txn}
use Rattle.balancing.specs.Solves.{Solves}
use Rattle.reached_walk.specs.Spots.{AreOnce}
use Rattle.walked_edits.specs.Forms.{IsInside, put_forms, spots_of, with_room}
use Rattle.kept_books.specs.Keeping.{AreWalks}
use Rattle.kept_books.specs.Rewriting.{Rewrite, rewritten}
use Rattle.kept_books.specs.declared.walk.Walk.{Walk}

-- A book, with room for what the new text has behind the old one, that got these forms: it solves what is written, and this is kept of it.
pub record IsWalkOf (written room : List Txn) (w : Walk) : Type 0 where
  pub inside : AllByRecursion (IsInside room) w.forms.items
  pub once : AreOnce (spots_of w.forms.items)
  pub solves : Solves written (put_forms room w.forms.items)
  pub walks : AreWalks written (put_forms room w.forms.items) w.walks
  pub fits : TurnoverFits (postings_of (put_forms room w.forms.items))

-- what a walk tells of a text whose book this is
abbrev pub IsWalk : List Txn → List Txn → Rewrite → Walk → Type 0
IsWalk written book r w = IsWalkOf (rewritten written r) (with_room (rewritten written r) book) w
