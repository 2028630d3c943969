use Rattle.std.proofs.Common.{ℕ, List, ap, ◌∙◌}
use Rattle.std.proofs.lemmas.Result.{IfOk-weaker}
use Rattle.desk.specs.Previews.{added_to}
use Rattle.store_commands.proofs.preview.added.Goals as goal

pub returns : goal.returns
returns g c =
    let before = c.in_ok-before.before in
    IfOk-weaker c.added_text.result _ _ (λ bytes h. record {
      before = before;
      after = c.in_ok-after.after;
      was = c.in_ok-before.ensures;
      now = c.in_ok-after.ensures;
      is = h ∙ ap (λ (x : List ℕ). added_to x c.as_slice-2.result.now) c.as_slice.ensures
          ∙ ap (λ (x : List ℕ). added_to before x) c.as_slice-2.ensures;
    }) c.added_text.ensures
