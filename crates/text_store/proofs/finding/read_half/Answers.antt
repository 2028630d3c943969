use Rattle.std.proofs.Common.{◌∙◌, Result, Ok, ℕ, IfOk, refl, ap, sym, subst}
use Rattle.text_store.specs.declared.folding.Folded.{Folded}
use Rattle.text_store.specs.Contents.{content_in_code, end_in_code, IsEnd}
use Rattle.text_store.specs.Found.{half_in_code}
use Rattle.text_store.proofs.Choosing.{half_shows, half_up_to}
use Rattle.text_store.proofs.finding.read_half.Goals as goal

pub returns-in-Ok-clause-found : goal.returns-in-Ok-clause-found
returns-in-Ok-clause-found c beside is_chosen =
    let file = c.args.file.now in
    let h = c.args.half in
    let end = c.in-Ok.end in
    let ends : IsEnd file h.at end.gate end.count = subst (λ (r : Result Folded ℕ). IfOk r (λ all. IsEnd file h.at all.gate all.count)) c.in-Ok.is c.in_ok-at.ensures.ends in (
      refl,
      record {
        half = half_in_code file h;
        is_live = c.requires.is_live;
        limit = refl;
        generation = refl;
        one_of_three = c.requires.generation;
        is_chosen = is_chosen;
        gives = half_shows file h c.requires (content_in_code end.content) end.count (c.in_ok-at.ensures.folds ∙ ap end_in_code c.in-Ok.is) ends.counted ∙ ap (λ i. Ok i) (sym c.image_of-image.ensures);
        is_half = half_up_to file h c.requires end.gate end.count ends;
        inside = ends.inside;
        shut = ends.shut;
      },
    )
