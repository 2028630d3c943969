use Rattle.std.proofs.Common.{◌≡◌, ◌-◌, min, length, List, ℕ, IfOk, sym, subst, ◌∙◌, arith}
use Rattle.kept_books.specs.Beginning.{lent, renewed_in}
use Rattle.kept_books.proofs.Gathered.{all_renewed, none_left, number_back}
use Rattle.kept_books.proofs.Renewing.{lent_size}
use Rattle.kept_books.proofs.gathering.gathered.Goals as goal

pub loop-at-init : goal.loop-at-init
loop-at-init c =
    let x = c.args.renewal.now in
    let former = lent_size x.former.txns.items in
    let forms = lent_size x.forms.txns.items in
    all_renewed c.new-found.result.keys (min x.first (length x.former.txns.items)) (lent x.former) (lent x.forms) _ c.new-found.ensures.empty (omega (arith, former, forms))

pub loop-at-preserved : goal.loop-at-preserved
loop-at-preserved c =
    let i = c.loop-at.at - 1 in
    number_back c.loop-at.found.keys c.put_number.new.found.keys (renewed_in c.args.renewal.now) i c.loop-at.at (omega arith) c.in_ok-put_number.ensures ∙ c.loop-at.invariant

pub returns : goal.returns
returns c =
    subst (λ (keys : List (List ℕ)). IfOk c.copied.result (λ symbols. symbols ≡ keys))
    (sym (none_left c.loop-at.found.keys (renewed_in c.args.renewal.now) c.loop-at.at (omega arith)) ∙ c.loop-at.invariant) c.copied.ensures
