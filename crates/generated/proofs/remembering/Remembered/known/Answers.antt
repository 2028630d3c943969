use Rattle.std.proofs.Common.{refl, sym, ap, ◌∙◌, List, [], ℕ, Option, Bool, get_or}
use Rattle.std.specs.HashMap.{get_by_text}
use Rattle.generated.proofs.Keeping.{known_placed, verdicts_none}
use Rattle.generated.proofs.remembering.Remembered.known.Goals as goal

pub returns-in-Some : goal.returns-in-Some
returns-in-Some c = λ asked so.
    known_placed asked c.args.self.now c.args.account.now c.in-Some.at c.listed.result.now
    (ap (λ (name : List ℕ). get_by_text c.args.self.now.places name) (sym c.as_str.ensures) ∙ sym c.place_under.ensures ∙ c.in-Some.is)
    (c.listed.ensures ∙ ap (λ (vs : List (List (Option Bool))). get_or vs c.in-Some.at []) c.as_slice.ensures.value) so

pub returns-in-None : goal.returns-in-None
returns-in-None c = λ asked so. verdicts_none c.args.account.now asked [] refl
