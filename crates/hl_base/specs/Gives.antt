-- The words by which a contract says that a function answers what a definition gives.
use Rattle.std.specs.Prelude.{◌≡◌, Result, Ok, Err, Option, IfSome}

-- The function answered what the definition gives, its value seen by view and its error by cause, or want of
-- memory, which has no cause.
abbrev pub Gives : {X Y E F : Type 0} → (X → Y) → (E → Option F) → Result X E → Result Y F → Type 0
Gives view cause (Ok x) told = told ≡ Ok (view x)
Gives view cause (Err e) told = IfSome (cause e) (λ f. told ≡ Err f)
