-- What a request may do, as a word.
use Rattle.std.specs.Prelude.{ℕ, List, codes}
use Rattle.desk.specs.declared.request.Allow.{Allow}
use Rattle.desk.specs.declared.request.Allow.TheVariants as allow

abbrev pub allow_word : Allow → List ℕ
allow_word allow.View = codes "view"
allow_word allow.Add = codes "add"
allow_word allow.Edit = codes "edit"
