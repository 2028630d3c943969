-- What was sent over a link.
use Rattle.std.specs.Prelude.{◌≡◌, ℕ, List, ◌++◌, Option, Some, IfSome}

-- Some bytes of which P holds were sent: where the link tells what was sent, they stand behind what was sent before.
abbrev pub Sends : Option (List ℕ) → Option (List ℕ) → (List ℕ → Type 0) → Type 0
Sends sent sent_now P = (text : List ℕ) × IfSome sent (λ before. sent_now ≡ Some (before ++ text)) × P text
