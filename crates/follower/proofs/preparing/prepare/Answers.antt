use Rattle.std.proofs.Common.{◌≡◌, ◌∙◌, ◌^◌, ◌≤◌, ℕ, List, length, Option, None, Some, ap, subst, arith}
use Rattle.text_store.specs.declared.change.Change.{Change}
use Rattle.text_store.specs.Edits.{edited}
use Rattle.text_store.specs.Parsed.{IsChangeIn}
use Rattle.follower.specs.declared.puts.Next.{Next}
use Rattle.follower.specs.Changing.{IsNextOf}
use Rattle.follower.proofs.Readied.{unread, is_edit}
use Rattle.follower.proofs.Texts.{late_change}
use Rattle.follower.proofs.preparing.prepare.Goals as goal

pub returns-then-frame-gt-LAST : goal.returns-then-frame-gt-LAST
returns-then-frame-gt-LAST c = late_change c.args.image.now c.args.frame.now c.requires.kind (omega arith)

pub returns-in_default : goal.returns-in_default
returns-in_default c =
    let frame = c.args.frame.now in
    let small : frame.revision ≤ 2 ^ 62 = omega arith in
    unread c.args.image.now frame c.requires.kind small c.requires.next c.as_slice.result.now c.as_slice.ensures
    (subst (λ (o : Option Change). IsChangeIn frame.kind c.as_slice.result.now o) c.in_default.is c.in_ok-change.ensures)

pub returns-in_default-2 : goal.returns-in_default-2
returns-in_default-2 c =
    let frame = c.args.frame.now in
    let image = c.args.image.now in
    let change = c.in-Some.change in
    let small : frame.revision ≤ 2 ^ 62 = omega arith in
    let none : edited image change ≡ None = subst (λ (o : Option Next). IsNextOf image change o) c.in_default-2.is c.in_ok-next.ensures in
    is_edit image frame c.requires.kind small c.requires.next c.as_slice.result.now c.as_slice.ensures change
    (subst (λ (o : Option Change). IsChangeIn frame.kind c.as_slice.result.now o) c.in-Some.is c.in_ok-change.ensures)
    ∙ none

pub returns : goal.returns
returns c =
    let frame = c.args.frame.now in
    let image = c.args.image.now in
    let change = c.in-Some.change in
    let small : frame.revision ≤ 2 ^ 62 = omega arith in
    let made : IsNextOf image change (Some c.in-Some-2.next) = subst (λ (o : Option Next). IsNextOf image change o) c.in-Some-2.is c.in_ok-next.ensures in
    let reads : IsChangeIn frame.kind c.as_slice.result.now (Some change) = subst (λ (o : Option Change). IsChangeIn frame.kind c.as_slice.result.now o) c.in-Some.is c.in_ok-change.ensures in
    record {
      edits = made.1;
      after = is_edit image frame c.requires.kind small c.requires.next c.as_slice.result.now c.as_slice.ensures change reads ∙ made.1;
      inside = made.0;
      name = reads.1;
      size = reads.2 ∙ ap (λ (l : List ℕ). length l) c.as_slice.ensures;
      below = omega (arith, small, c.requires.next);
    }
