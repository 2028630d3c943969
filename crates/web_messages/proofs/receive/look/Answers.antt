use Rattle.std.proofs.Common.{◌≡◌, ◌∙◌, ℕ, List, Bool, Option, Result, IfOk, IfSome, ap, subst}
use Rattle.web_messages.specs.declared.head.Judged.{Judged}
use Rattle.web_messages.specs.Receipt.{SettledSo}
use Rattle.web_messages.specs.Streams.{front}
use Rattle.web_messages.proofs.receive.look.Goals as goal

-- the same of equal flags and bytes
settled_in : {E : Type 0} (result : Result (Option Judged) E) (settled settled_now : Bool) (bytes bytes_now : List ℕ)
    → settled ≡ settled_now → bytes ≡ bytes_now
    → IfOk result (λ found. IfSome found (λ judged. SettledSo settled bytes judged))
    → IfOk result (λ found. IfSome found (λ judged. SettledSo settled_now bytes_now judged))
settled_in result settled settled_now bytes bytes_now e f p =
    let G : Bool → Type 0 = λ s. IfOk result (λ found. IfSome found (λ judged. SettledSo s bytes judged)) in
    let H : List ℕ → Type 0 = λ b. IfOk result (λ found. IfSome found (λ judged. SettledSo settled_now b judged)) in
    subst H f (subst G e p)

pub returns-then-settled-clause-found : goal.returns-then-settled-clause-found
returns-then-settled-clause-found c =
    settled_in c.settle.result _ _ _ _ c.has_settled-settled.ensures
    (c.front_of-bytes.ensures.value ∙ ap front c.as_slice.ensures) c.settle.ensures.found
