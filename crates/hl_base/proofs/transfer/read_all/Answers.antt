use Rattle.std.proofs.Common.{ℕ}
use Rattle.std.proofs.lemmas.Result.{err_from_is_err_and}
use Rattle.hl_base.specs.declared.transfer.ReadAllFault.{ReadAllFault}
use Rattle.hl_base.specs.declared.transfer.ReadAllFault.TheVariants as fault
use Rattle.hl_base.specs.ReadAll.{IfTooLong}
use Rattle.hl_base.proofs.transfer.read_all.Goals as goal

-- a fault that isn't one of length meets whatever is said of one
never_long : (e : ReadAllFault) (P : ℕ → ℕ → Type 0) → IfTooLong e (λ limit seen. ⊥) → IfTooLong e P
never_long fault.ReadFault P h = tt
never_long (fault.TooLong limit seen) P h = absurd h
never_long fault.Memory P h = tt

pub returns-in_err-read_more-clause-too_long : goal.returns-in_err-read_more-clause-too_long
returns-in_err-read_more-clause-too_long g c =
    let p = err_from_is_err_and c.from_residual-in_err-read_more.result c.from_residual-in_err-read_more.ensures.1 in
    rw (p.1, p.2) (never_long _ _ c.in_err-read_more.ensures.not_long)
