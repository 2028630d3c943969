use Rattle.std.proofs.Common.{◌^◌, ◌≤◌, List, ℕ, sym, subst, arith}
use Rattle.text_store.specs.Image.{checkpointed}
use Rattle.text_store.specs.Parsed.{IsImageIn}
use Rattle.text_store.proofs.Opened.{if_ok_map}
use Rattle.follower.proofs.Readied.{snapshot_read, snapshot_good}
use Rattle.follower.proofs.Texts.{not_within}
use Rattle.follower.proofs.preparing.snapshot_of.Goals as goal

pub returns-then-frame-gt-LAST-clause-image : goal.returns-then-frame-gt-LAST-clause-image
returns-then-frame-gt-LAST-clause-image c = sym (not_within c.args.frame.now.revision (checkpointed c.args.frame.now.payload) (omega arith))

pub returns-clause-image : goal.returns-clause-image
returns-clause-image c =
    let frame = c.args.frame.now in
    let small : frame.revision ≤ 2 ^ 62 = omega arith in
    if_ok_map c.read.result (λ found. IsImageIn c.as_slice.result.now frame.revision found) _
    (λ found is. snapshot_read frame found small (subst (λ (l : List ℕ). IsImageIn l frame.revision found) c.as_slice.ensures is)) c.read.ensures

pub returns-clause-writable : goal.returns-clause-writable
returns-clause-writable c =
    let frame = c.args.frame.now in
    let small : frame.revision ≤ 2 ^ 62 = omega arith in
    if_ok_map c.read.result (λ found. IsImageIn c.as_slice.result.now frame.revision found) _
    (λ found is. snapshot_good frame found small (subst (λ (l : List ℕ). IsImageIn l frame.revision found) c.as_slice.ensures is)) c.read.ensures
