-- Regexes that are built one by one.
use Rattle.std.proofs.Common.{◌≡◌, ◌∷◌, [], List, ℕ, Option, Some, None, refl, ap, inl, inr}
use Rattle.std.proofs.lemmas.List.Elements.{All-nil}
use Rattle.query_terms.specs.Reading.{source_of}
use Rattle.query_terms.specs.declared.kinds.Pattern.{Pattern}
use Rattle.query_terms.specs.declared.kinds.Pattern.TheVariants as pattern
use Rattle.csv_rules.specs.Building.{AreBuilt, IsCaseless, IsOneOf, first_sources, form_sources}
use Rattle.csv_rules.specs.declared.forms.Form.{Form}
use Rattle.csv_rules.specs.declared.forms.Form.TheVariants as forms
use Rattle.csv_rules.specs.declared.kinds.Condition.{Condition}

pub built_start : AreBuilt [] []
built_start = record { named = refl; caseless = All-nil IsCaseless }

-- a line needs one regex at most
only_of : (p : Pattern) (source : List ℕ) → IsOneOf source (source_of p) → source_of p ≡ source ∷ []
only_of (pattern.Word word) source h = absurd h
only_of (pattern.Special text) source (inl e) = ap (λ (s : List ℕ). s ∷ []) e
only_of (pattern.Special text) source (inr h) = absurd h

only_first : (condition : Option Condition) (source : List ℕ) → IsOneOf source (first_sources condition) → first_sources condition ≡ source ∷ []
only_first None source h = absurd h
only_first (Some c) source h = only_of c.pattern source h

pub only_source : (form : Form) (source : List ℕ) → IsOneOf source (form_sources form) → form_sources form ≡ source ∷ []
only_source forms.Remark source h = absurd h
only_source (forms.Ask condition) source h = only_of condition.pattern source h
only_source (forms.Act action) source h = absurd h
only_source (forms.Set setting) source h = absurd h
only_source (forms.Fields names) source h = absurd h
only_source (forms.DateFormat parts) source h = absurd h
only_source (forms.Assign a) source h = absurd h
only_source (forms.If condition) source h = only_first condition source h
