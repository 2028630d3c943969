use Rattle.std.proofs.Common.{◌≡◌, ◌+◌, ◌++◌, ◌∷◌, [], List, suc, take, drop, refl, sym, ap, ◌∙◌, arith}
use Rattle.book.specs.declared.item.Placed.{Placed}
use Rattle.text_ends.specs.Ends.{last_of}
use Rattle.changed_texts.specs.OneEntry.{first_of, is_gap_item}
use Rattle.kept_texts.proofs.Gapped.{all_kept}
use Rattle.kept_texts.proofs.around.styles_met.Goals as goal

pub returns : goal.returns
returns c =
    let items = c.args.items.now in
    let met = c.args.met.now in
    let front = c.split_at.result.0.now in
    let rest = c.split_at-2.result.1.now in
    let next : c.args.number + 1 ≡ suc c.args.number = omega arith in
    let back : rest ≡ drop (suc c.args.number) items = c.split_at-2.ensures.back ∙ ap (λ k. drop k items) next in
    all_kept c.args.number items front c.beside-ahead.result.now (met.placed ∷ []) c.beside-after.result.now rest met c.in_ok-all.all c.requires.met
    c.split_at.ensures.front
    (c.beside-ahead.ensures (last_of (take c.args.number items)) (sym (c.ends_gap.ensures ∙ ap (λ (xs : List Placed). is_gap_item (last_of xs)) c.split_at.ensures.front)))
    refl
    (c.beside-after.ensures (first_of (drop (suc c.args.number) items)) (sym (c.begins_gap.ensures ∙ ap (λ (xs : List Placed). is_gap_item (first_of xs)) back)))
    back
    (c.in_ok-all.ensures (front ++ c.beside-ahead.result.now) c.in_ok-styles.ensures)
