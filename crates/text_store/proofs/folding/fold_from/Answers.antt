use Rattle.std.proofs.Common.{◌≡◌, ◌∙◌, Bool, Some, None, MatchBool, ap, subst}
use Rattle.text_store.specs.Contents.{content_in_code}
use Rattle.text_store.specs.Currents.{current_in_code}
use Rattle.text_store.specs.Entries.{Entry}
use Rattle.text_store.specs.Image.{changed}
use Rattle.text_store.proofs.Walking.{walk_stops, walk_on, walk_ends, entry_is, sliced}
use Rattle.text_store.proofs.folding.fold_from.Goals as goal

pub returns-then-not-branch-clause-folds : goal.returns-then-not-branch-clause-folds
returns-then-not-branch-clause-folds c =
    let file = c.args.file.now in
    let r = c.in-Some.record in
    let content = current_in_code c.loop-record.current in
    walk_stops file c.args.start c.loop-record.at c.loop-record.count (content_in_code c.args.content) content c.loop-record.invariant.0 r c.in-Some.ensures
    (ap (λ (e : Entry). changed content e) (entry_is file r)
    ∙ subst (λ (b : Bool). MatchBool b (changed content (sliced file r) ≡ Some (current_in_code c.make_change.new.content)) (changed content (sliced file r) ≡ None)) c.if-not-branch.true (c.in_ok-make_change.ensures.changed r.at))

pub loop-record-preserved : goal.loop-record-preserved
loop-record-preserved c =
    let file = c.args.file.now in
    let r = c.in-Some.record in
    let content = current_in_code c.loop-record.current in (
      walk_on file c.args.start c.loop-record.at c.loop-record.count (content_in_code c.args.content) content c.loop-record.invariant.0 r c.in-Some.ensures (current_in_code c.make_change.new.content)
          (ap (λ (e : Entry). changed content e) (entry_is file r)
          ∙ subst (λ (b : Bool). MatchBool b (changed content (sliced file r) ≡ Some (current_in_code c.make_change.new.content)) (changed content (sliced file r) ≡ None)) c.if-not-branch.false (c.in_ok-make_change.ensures.changed r.at)),
      λ writable. c.in_ok-make_change.ensures.writable c.if-not-branch.false (c.loop-record.invariant.1 writable),
    )

pub returns-clause-ends : goal.returns-clause-ends
returns-clause-ends c =
    (walk_ends c.args.file.now c.args.start c.loop-record.at c.loop-record.count (content_in_code c.args.content) (current_in_code c.loop-record.current) c.loop-record.invariant.0 c.in_default.ensures).1
