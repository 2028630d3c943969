-- The first field that isn't valid.
use Rattle.std.proofs.Common.{◌≡◌, Bool, true, false, not, cond, List, [], ◌∷◌, Option, Some, None, sym, ap, ◌∙◌}
use Rattle.entry_reader.specs.Contexts.{Context}
use Rattle.csv_rules.specs.declared.kinds.EntryField.{EntryField}
use Rattle.csv_entries.specs.declared.fields.Fields.{Fields}
use Rattle.bank_explanations.specs.Parts.{first_bad, is_valid}

abbrev by_test : Context → Fields → EntryField → List EntryField → Bool → Option EntryField
by_test before g first more valid = cond (not valid) (Some first) (first_bad before g more)

pub not_this : (before : Context) (g : Fields) (whole : Option EntryField) (rest more : List EntryField) (first : EntryField) → whole ≡ first_bad before g rest → rest ≡ first ∷ more
    → is_valid before g first ≡ true → whole ≡ first_bad before g more
not_this before g whole rest more first w cut valid = w ∙ (ap (first_bad before g) cut ∙ ap (by_test before g first more) valid)

pub this_one : (before : Context) (g : Fields) (whole : Option EntryField) (rest more : List EntryField) (first : EntryField) → whole ≡ first_bad before g rest → rest ≡ first ∷ more
    → is_valid before g first ≡ false → Some first ≡ whole
this_one before g whole rest more first w cut valid = sym (w ∙ (ap (first_bad before g) cut ∙ ap (by_test before g first more) valid))

pub no_more : (before : Context) (g : Fields) (whole : Option EntryField) (rest : List EntryField) → whole ≡ first_bad before g rest → rest ≡ [] → None ≡ whole
no_more before g whole rest w none = sym (w ∙ ap (first_bad before g) none)
