-- Names of transactions, one after another.
use Rattle.std.proofs.Common.{◌≡◌, ℕ, ◌+◌, ◌<◌, List, [], ◌∷◌, ◌++◌, length, drop, get_or, sym, ap, ◌∙◌, append_assoc}
use Rattle.std.proofs.lemmas.List.{at_drop_more}
use Rattle.book.specs.declared.transaction.Txn.{Txn}
use Rattle.journal_printer.specs.Order.{Name, names_from}

-- one transaction on
pub names_next : (names : List Name) (txns : List Txn) (i : ℕ) (d : Txn) → i < length txns
    → (names ++ ((get_or txns i d).day.0, i) ∷ []) ++ names_from (i + 1) (drop (i + 1) txns) ≡ names ++ names_from i (drop i txns)
names_next names txns i d h =
    append_assoc names _ _
    ∙ ap (λ (rest : List Name). names ++ rest) (sym (at_drop_more (λ rest. names_from i rest) txns i d h))
