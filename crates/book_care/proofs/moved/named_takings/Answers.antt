use Rattle.std.proofs.Common.{◌≤◌, length, ap, ◌∙◌, arith}
use Rattle.std.specs.List.{flat_map}
use Rattle.std.proofs.lemmas.List.{take_all}
use Rattle.book_care.specs.Asked.{asked_of}
use Rattle.book_care.specs.Kept.{kept_in}
use Rattle.book_care.proofs.Keeping.{all_kept}
use Rattle.book_care.proofs.moved.named_takings.Goals as goal

pub returns : goal.returns
returns c =
    let past : length c.as_slice-txn-items.result.now ≤ c.loop-txn.txn-index = omega arith in
    let all = take_all c.loop-txn.txn-index c.as_slice-txn-items.result.now past ∙ c.as_slice-txn-items.ensures in
    c.loop-txn.invariant
    ∙ ap (flat_map (kept_in c.args.names.now c.args.closing.now.into.now)) all
    ∙ all_kept c.args.names.now (asked_of c.args.closing.now) c.requires
