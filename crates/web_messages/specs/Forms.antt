-- The parameters of a query and of a form.
use Rattle.std.specs.Prelude.{ℕ, List, [], ◌∷◌, map, Option, Some, None, if◌then◌else◌}
use Rattle.std.specs.List.{filter, list_all}
use Rattle.std.specs.Str.{bytes_eq}
use Rattle.std.specs.Str.Lossy.{utf8_lossy}
use Rattle.form_urlencoded.specs.Form.{raw_pairs, decode}
use Rattle.web_messages.specs.declared.form.Parameter.{Parameter}
use Rattle.web_messages.specs.Fields.{number_of}

-- the text that an encoded name or value stands for, with U+FFFD for what isn't UTF-8
abbrev pub decoded : List ℕ → List ℕ
decoded bytes = utf8_lossy (decode bytes)

abbrev pub parameter_of : List ℕ × List ℕ → Parameter
parameter_of pair = record { name = decoded pair.0; value = decoded pair.1 }

-- the parameters, in order
abbrev pub parameters_of : List ℕ → List Parameter
parameters_of text = map parameter_of (raw_pairs text)

-- the value of a form's one parameter, of this name
abbrev pub only_value : List ℕ → List Parameter → Option (List ℕ)
only_value name [] = None
only_value name (p ∷ []) = if bytes_eq p.name name then Some p.value else None
only_value name (p ∷ q ∷ ps) = None

-- the number that a value is, if there is one
abbrev pub number_in : Option (List ℕ) → Option ℕ
number_in None = None
number_in (Some text) = number_of text

-- the values of the parameters of a name, in order
abbrev pub values_at : List ℕ → List Parameter → List (List ℕ)
values_at name ps = map (λ p. p.value) (filter (λ p. bytes_eq p.name name) ps)

-- the only one of some values
abbrev pub one_of : List (List ℕ) → Option (List ℕ)
one_of [] = None
one_of (v ∷ []) = Some v
one_of (v ∷ w ∷ vs) = None

-- the number that the one parameter of a name is
abbrev pub number_at : List ℕ → List Parameter → Option ℕ
number_at name ps = number_in (one_of (values_at name ps))

-- the values of parameters that all have this name
abbrev pub all_values : List ℕ → List Parameter → Option (List (List ℕ))
all_values name ps = if list_all (λ p. bytes_eq p.name name) ps then Some (map (λ p. p.value) ps) else None
