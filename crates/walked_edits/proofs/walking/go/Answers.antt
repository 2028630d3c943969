use Rattle.std.proofs.Common.{◌≡◌, ◌+◌, ◌≤◌, [], List, OnOk, length, sym, subst, ◌∙◌}
use Rattle.std.proofs.lemmas.Result.{err_from_is_err_and}
use Rattle.walked_edits.specs.Counting.{AreChecked, nodes_on}
use Rattle.walked_edits.specs.Forms.{put_back, spots_of}
use Rattle.walked_edits.specs.Walking.{IsPutting}
use Rattle.walked_edits.specs.declared.replaced.Replaced.{Replaced}
use Rattle.walked_edits.proofs.Going.{none_checked, still_inside}
use Rattle.walked_edits.proofs.walking.go.Goals as goal

pub put_all-requires : goal.put_all-requires
put_all-requires g c =
    subst (λ (rs : List Replaced). IsPutting c.args.edit.now c.take_all.new.book.items c.take_all.new.walking.kept [] rs) (sym c.as_slice.ensures.value) c.in_ok-take_all.ensures.taken

pub returns-clause-put : goal.returns-clause-put
returns-clause-put g c =
    subst (λ (rs : List Replaced). OnOk c.put_all.result (IsPutting c.args.edit.now c.put_all.new.book.items c.put_all.new.kept rs [])) c.as_slice.ensures.value c.put_all.ensures.put

pub returns-clause-back : goal.returns-clause-back
returns-clause-back g c =
    subst (λ (rs : List Replaced). put_back c.put_all.new.book.items rs ≡ put_back c.take_all.new.book.items rs) c.as_slice.ensures.value c.put_all.ensures.back ∙ c.take_all.ensures.back

pub returns-clause-inside : goal.returns-clause-inside
returns-clause-inside g c =
    still_inside c.take_all.new.book.items c.put_all.new.book.items c.take_all.new.walking.taken.items
    (subst (λ (rs : List Replaced). put_back c.put_all.new.book.items rs ≡ put_back c.take_all.new.book.items rs) c.as_slice.ensures.value c.put_all.ensures.back) c.take_all.ensures.inside

pub returns-clause-counted : goal.returns-clause-counted
returns-clause-counted g c =
    subst (λ (rs : List Replaced). OnOk c.put_all.result (AreChecked (length rs) c.args.steps.now c.put_all.new.steps)) c.as_slice.ensures.value c.put_all.ensures.counted

pub returns-clause-few : goal.returns-clause-few
returns-clause-few g c =
    subst (λ (rs : List Replaced). OnOk c.put_all.result (c.put_all.new.steps.nodes ≤ c.args.steps.now.nodes + nodes_on c.args.edit.now (spots_of rs))) c.as_slice.ensures.value c.put_all.ensures.few

pub returns-in_err-take_all-clause-load : goal.returns-in_err-take_all-clause-load
returns-in_err-take_all-clause-load g c =
    let p = err_from_is_err_and c.from_residual.result c.from_residual.ensures.1 in
    rw (p.1, p.2) c.in_err-take_all.ensures.load

pub returns-clause-most : goal.returns-clause-most
returns-clause-most g c = c.put_all.ensures.most

pub returns-in_err-take_all-clause-most : goal.returns-in_err-take_all-clause-most
returns-in_err-take_all-clause-most g c = none_checked c.args.edit.now c.args.steps.now
