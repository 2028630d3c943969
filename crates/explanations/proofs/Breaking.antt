-- A no-break space, byte by byte.
use Rattle.std.proofs.Common.{◌≡◌, ℕ, Bool, true, false, ◌||◌, List, [], ◌∷◌, sym, ap, ◌∙◌}
use Rattle.explanations.specs.Explained.{has_no_break, is_no_break}

pub break_more : (whole : Bool) (rest more : List ℕ) (first : ℕ) → whole ≡ has_no_break rest → rest ≡ first ∷ more → is_no_break first more ≡ false → whole ≡ has_no_break more
break_more whole rest more first e here other = e ∙ (ap has_no_break here ∙ ap (λ (b : Bool). b || has_no_break more) other)

pub break_here : (whole : Bool) (rest more : List ℕ) (first : ℕ) → whole ≡ has_no_break rest → rest ≡ first ∷ more → is_no_break first more ≡ true → true ≡ whole
break_here whole rest more first e here found = sym (e ∙ (ap has_no_break here ∙ ap (λ (b : Bool). b || has_no_break more) found))

pub break_none : (whole : Bool) (rest : List ℕ) → whole ≡ has_no_break rest → rest ≡ [] → false ≡ whole
break_none whole rest e none = sym (e ∙ ap has_no_break none)
