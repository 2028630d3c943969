-- The first of several reasons.
use Rattle.std.proofs.Common.{◌≡◌, Option, None, sym, ap, subst, ◌∙◌}
use Rattle.std.specs.Option.{option_or}
use Rattle.book_care.specs.Judged.{IsFault}
use Rattle.book_care.specs.declared.faults.CloseFault.{CloseFault}
use Rattle.book_care.specs.declared.faults.CloseFault.TheVariants as faults

-- the first is told
pub first_told : (told more : Option CloseFault) (fault : CloseFault) → IsFault told fault → IsFault (option_or told more) fault
first_told told more (faults.Later line day) h = ap (λ o. option_or o more) h
first_told told more (faults.Renamed account) h = ap (λ o. option_or o more) h
first_told told more (faults.Bare account) h = ap (λ o. option_or o more) h
first_told told more (faults.Fine account symbol) h = ap (λ o. option_or o more) h
first_told told more faults.Memory h = tt

-- there is no first one
pub next_told : (told more : Option CloseFault) (fault : CloseFault) → told ≡ None → IsFault more fault → IsFault (option_or told more) fault
next_told told more fault none h = subst (λ (o : Option CloseFault). IsFault (option_or o more) fault) (sym none) h

pub none_told : (told more : Option CloseFault) → told ≡ None → more ≡ None → option_or told more ≡ None
none_told told more none next = ap (λ o. option_or o more) none ∙ next

-- want of memory tells nothing
pub memory_told : (told : Option CloseFault) (fault : CloseFault) → fault ≡ faults.Memory → IsFault told fault
memory_told told fault is = subst (IsFault told) (sym is) tt
