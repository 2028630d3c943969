-- Postings as they are written, one after another.
use Rattle.std.proofs.Common.{◌≡◌, ℕ, ◌+◌, ◌<◌, List, map, ◌++◌, length, drop, get_or, sym, ap, ◌∙◌, append_assoc}
use Rattle.std.proofs.lemmas.List.{at_drop_more, map-append}
use Rattle.book.specs.declared.transaction.Posting.{Posting}
use Rattle.journal_printer.specs.Layout.{Fields, unless_of_one, written_after}

-- one posting on
pub written_next : (shown : Posting → Fields) (all : List Fields) (before : Posting) (rest : List Posting) (i : ℕ) (d : Posting) → i < length rest
    → (all ++ map shown (unless_of_one before (get_or rest i d))) ++ map shown (written_after (get_or rest i d) (drop (i + 1) rest))
    ≡ all ++ map shown (written_after before (drop i rest))
written_next shown all before rest i d h =
    append_assoc all _ _
    ∙ ap (λ (more : List Fields). all ++ more)
    (sym (map-append shown (unless_of_one before (get_or rest i d)) (written_after (get_or rest i d) (drop (i + 1) rest)))
    ∙ sym (at_drop_more (λ more. map shown (written_after before more)) rest i d h))
