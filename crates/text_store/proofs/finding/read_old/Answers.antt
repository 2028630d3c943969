use Rattle.std.proofs.Common.{◌∙◌, ◌≤◌, ◌^◌, ◌+◌, Result, Ok, ℕ, IfOk, List, refl, ap, sym, subst, arith}
use Rattle.hl_base.specs.declared.change.Latest.{Latest}
use Rattle.text_store.specs.declared.folding.Folded.{Folded}
use Rattle.text_store.specs.declared.image.Image.{Image}
use Rattle.text_store.specs.Contents.{content_in_code, end_in_code, IsEnd}
use Rattle.text_store.specs.Files.{AreWritable, IsWritable}
use Rattle.text_store.specs.Image.{image_at}
use Rattle.text_store.proofs.Choosing.{old_none, old_kind, old_shows, writable_image}
use Rattle.text_store.proofs.finding.read_old.Goals as goal

pub returns-in_default-clause-refused : goal.returns-in_default-clause-refused
returns-in_default-clause-refused c = old_none c.args.file.now c.if-file-lt17.false c.in_default.ensures

pub returns-then-record-ne84-clause-refused : goal.returns-then-record-ne84-clause-refused
returns-then-record-ne84-clause-refused c = old_kind c.args.file.now c.if-file-lt17.false c.in-Some.record c.in-Some.ensures c.if-record-ne84.true

pub returns-in-Err-clause-refused : goal.returns-in-Err-clause-refused
returns-in-Err-clause-refused c =
    old_shows c.args.file.now c.if-file-lt17.false c.in-Some.record c.in-Some.ensures c.if-record-ne84.false (content_in_code c.in_ok-start.start) _
    c.in_ok-start.ensures.0 c.in_ok-start.ensures.1 (c.in_ok-at.ensures.folds ∙ ap end_in_code c.in-Err.is)

pub returns-in-Ok-clause-found : goal.returns-in-Ok-clause-found
returns-in-Ok-clause-found c =
    let file = c.args.file.now in
    let at = c.in-Some.record.payload + c.in-Some.record.len in
    let end = c.in-Ok.end in
    let ends : IsEnd file at end.gate end.count = subst (λ (r : Result Folded ℕ). IfOk r (λ all. IsEnd file at all.gate all.count)) c.in-Ok.is c.in_ok-at.ensures.ends in
    let none : AreWritable c.in_ok-start.start.latest.states.items = subst (λ (l : List Latest). AreWritable l) (sym c.in_ok-start.ensures.1) (omega arith, tt, refl) in
    let writable : AreWritable end.content.latest.states.items =
    subst (λ (r : Result Folded ℕ). IfOk r (λ all. AreWritable c.in_ok-start.start.latest.states.items → AreWritable all.content.latest.states.items)) c.in-Ok.is c.in_ok-at.ensures.writable none in
    let few : end.count ≤ 2 ^ 62 = omega (arith, ends.few) in
    let made : Image = record { text = end.content.text.items; latest = end.content.latest.states.items; revision = end.count } in (
      old_shows file c.if-file-lt17.false c.in-Some.record c.in-Some.ensures c.if-record-ne84.false (content_in_code c.in_ok-start.start) _
          c.in_ok-start.ensures.0 c.in_ok-start.ensures.1 (c.in_ok-at.ensures.folds ∙ ap end_in_code c.in-Ok.is)
          ∙ ap (λ (n : ℕ). image_at n (Ok (content_in_code end.content))) (sym ends.counted) ∙ ap (λ (i : Image). Ok i) (sym c.image_of.ensures),
      subst (λ (i : Image). IsWritable i) (sym c.image_of.ensures) (writable_image made writable),
      subst (λ (i : Image). i.revision ≤ 2 ^ 62) (sym c.image_of.ensures) few,
      omega (arith, c.if-file-lt17.false),
    )
