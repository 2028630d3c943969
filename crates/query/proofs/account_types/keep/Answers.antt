use Rattle.std.proofs.Common.{◌∙◌, ap}
use Rattle.std.specs.Prelude.{ℕ, List, Option}
use Rattle.query.specs.Types.{greater_letter}
use Rattle.std.specs.HashMap.{get_by_text}
use Rattle.query.proofs.Names.{kept}
use Rattle.query.proofs.account_types.keep.Goals as goal

pub returns : goal.returns
returns c =
    let found = c.letter_in-before.ensures ∙ ap (λ (l : List ℕ). get_by_text c.args.letters.now l) c.as_str.ensures in
    let given = c.greater_letter.ensures ∙ ap (λ (o : Option ℕ). greater_letter o c.args.letter) found in
    kept c.put.result (get_by_text c.args.letters.now) (get_by_text c.put.new.letters) c.args.name.now c.args.letter c.greater_letter.result given c.put.ensures
