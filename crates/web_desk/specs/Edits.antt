-- The edits and imports that the parameters of forms ask for.
use Rattle.std.specs.Prelude.{ℕ, ◌||◌, Bool, List, option_map, Option, Some, None, Result, Ok, Err, if◌then◌else◌, codes}
use Rattle.std.specs.List.{list_all, list_any}
use Rattle.std.specs.Str.{bytes_eq}
use Rattle.desk.specs.declared.request.Request.{Request}
use Rattle.desk.specs.declared.request.Request.TheVariants.{Change, Replace, Import}
use Rattle.web_messages.specs.declared.form.Parameter.{Parameter}
use Rattle.web_messages.specs.declared.refusal.Refusal.{Refusal}
use Rattle.web_messages.specs.declared.refusal.Refusal.TheVariants as refusal
use Rattle.web_messages.specs.Forms.{number_at, one_of, values_at}

-- the parameters of an edit, and those of an import
abbrev pub is_edit_name : List ℕ → Bool
is_edit_name name = bytes_eq name (codes "base") || bytes_eq name (codes "item") || bytes_eq name (codes "text")

abbrev pub is_import_name : List ℕ → Bool
is_import_name name = bytes_eq name (codes "name") || bytes_eq name (codes "rules") || bytes_eq name (codes "csv")

-- the number of the item that is named, if one is; None where it isn't one number
abbrev pub item_at : List Parameter → Option (Option ℕ)
item_at ps = if list_any (λ p. bytes_eq p.name (codes "item")) ps then option_map Some (number_at (codes "item") ps) else Some None

-- an entry in the place of an item, or a text in the place of all
abbrev pub edit_by : ℕ → Option ℕ → List ℕ → Request
edit_by base None text = Replace base text
edit_by base (Some item) text = Change base item text

abbrev pub edit_made : Option ℕ → Option (Option ℕ) → Option (List ℕ) → Result Request Refusal
edit_made (Some base) (Some item) (Some text) = Ok (edit_by base item text)
edit_made base item text = Err refusal.Form

-- An edit has a base and a text, and the number of an item or not; each stands once, and nothing else does.
abbrev pub edit_of : List Parameter → Result Request Refusal
edit_of ps =
    if list_all (λ p. is_edit_name p.name) ps
    then edit_made (number_at (codes "base") ps) (item_at ps) (one_of (values_at (codes "text") ps))
    else Err refusal.Form

abbrev pub import_made : Option (List ℕ) → Option (List ℕ) → Option (List ℕ) → Result Request Refusal
import_made (Some name) (Some rules) (Some csv) = Ok (Import name rules csv)
import_made name rules csv = Err refusal.Form

-- An import has a name, rules and a file; each stands once, and nothing else does.
abbrev pub import_of : List Parameter → Result Request Refusal
import_of ps =
    if list_all (λ p. is_import_name p.name) ps
    then import_made (one_of (values_at (codes "name") ps)) (one_of (values_at (codes "rules") ps)) (one_of (values_at (codes "csv") ps))
    else Err refusal.Form
