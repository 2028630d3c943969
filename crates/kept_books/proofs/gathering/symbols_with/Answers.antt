use Rattle.std.proofs.Common.{◌≡◌, ◌++◌, List, IfOk, ap, sym, subst, ◌∙◌, ℕ}
use Rattle.book_laws.specs.Writing.{symbols_at}
use Rattle.kept_books.specs.Gathering.{with_all}
use Rattle.kept_books.proofs.Renewing.{lent_of}
use Rattle.kept_books.proofs.Sets.{from_none, with_both}
use Rattle.kept_books.proofs.gathering.symbols_with.Goals as goal

pub returns : goal.returns
returns c =
    let more = symbols_at (lent_of c.args.txns.now) in
    subst (λ (keys : List (List ℕ)). IfOk c.copied.result (λ symbols. symbols ≡ keys))
    (c.in_ok-put_entries.ensures
    ∙ ap (λ (xs : List (List ℕ)). with_all xs more) c.in_ok-put_names.ensures
    ∙ sym (with_both c.new-found.result.keys more c.args.symbols.now)
    ∙ from_none c.new-found.result.keys (more ++ c.args.symbols.now) c.new-found.ensures.empty) c.copied.ensures
