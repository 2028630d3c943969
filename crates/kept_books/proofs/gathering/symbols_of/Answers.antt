use Rattle.std.proofs.Common.{◌≡◌, List, IfOk, subst, ◌∙◌, ℕ}
use Rattle.book_laws.specs.Writing.{symbols_at}
use Rattle.kept_books.proofs.Renewing.{lent_of}
use Rattle.kept_books.proofs.Sets.{from_none}
use Rattle.kept_books.proofs.gathering.symbols_of.Goals as goal

pub returns : goal.returns
returns c =
    subst (λ (keys : List (List ℕ)). IfOk c.copied.result (λ symbols. symbols ≡ keys))
    (c.in_ok-put_entries.ensures ∙ from_none c.new-found.result.keys (symbols_at (lent_of c.args.txns.now)) c.new-found.ensures.empty) c.copied.ensures
