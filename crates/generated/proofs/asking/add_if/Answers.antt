use Rattle.std.proofs.Common.{◌≡◌, List, ◌++◌, map, OnOk, sym, ap, ◌∙◌, subst}
use Rattle.std.proofs.lemmas.List.{append-nil}
use Rattle.book.specs.declared.transaction.Posting.{Posting}
use Rattle.rule_entries.specs.Added.{made_posting}
use Rattle.generated.specs.Asking.{asked_of}
use Rattle.generated.proofs.Keeping.{if_asked, unless_asked}
use Rattle.generated.proofs.asking.add_if.Goals as goal

pub returns-then-means : goal.returns-then-means
returns-then-means c =
    let posting = c.args.posting.now in
    subst (λ (ps : List Posting). OnOk c.push_made.result (c.push_made.new.postings.items ≡ c.args.postings.now.items ++ ps))
    (ap (map (made_posting posting)) c.as_slice.ensures ∙ if_asked c.args.means posting (asked_of c.args.asker.now) c.if-means.true)
    c.push_made.ensures

pub returns-else-means : goal.returns-else-means
returns-else-means c =
    sym (append-nil c.args.postings.now.items)
    ∙ ap (λ (ps : List Posting). c.args.postings.now.items ++ ps) (unless_asked c.args.means c.args.posting.now (asked_of c.args.asker.now) c.if-means.false)
