-- Houses with one kit.
use Rattle.std.proofs.Common.{◌≡◌, ◌∙◌, ℕ, ◌+◌, ◌==◌, Bool, true, if◌then◌else◌, List, [], ◌∷◌, Option, Some, None, IfSome, Result, Ok, refl, sym, ap, subst, arith}
use Rattle.std.proofs.lemmas.Bool.Decides.{nat_tests}
use Rattle.desk_team.specs.Houses.{Bound, HouseTold, mem_faultless}
use Rattle.serve_commands.specs.declared.answer.Serving.{Serving as Asked}
use Rattle.serve_line.specs.declared.words.NoReading.{NoReading}
use Rattle.serve_rows.specs.Rooms.{IsSound}

-- a house that tells this, with one sound kit and no call that is to fail, is sound for one worker
pub one_sound : {A : Type 0} (sound : A → Bool) (house : HouseTold A) (fails : List ℕ) (kits : List A) (kit : A) (bound : Bound)
    → house ≡ record { coming = Some kits; given = Some []; back = Some []; faultless = mem_faultless sound fails kits; bound = bound; faults = 0; refusals = 0 }
    → fails ≡ [] → kits ≡ kit ∷ [] → sound kit ≡ true → IsSound house 1
one_sound {A} sound house fails kits kit bound told none one well =
    let first : mem_faultless sound fails kits ≡ mem_faultless sound [] kits = ap (λ (f : List ℕ). mem_faultless sound f kits) none in
    let second : mem_faultless sound [] kits ≡ mem_faultless sound [] (kit ∷ []) = ap (λ (k : List A). mem_faultless sound [] k) one in
    let third : mem_faultless sound [] (kit ∷ []) ≡ 1 = ap (λ (b : Bool). if b then 1 + 0 else 0) well in
    let faultless : house.faultless ≡ 1 = ap (λ (h : HouseTold A). h.faultless) told ∙ first ∙ second ∙ third in
    let faults : house.faults ≡ 0 = ap (λ (h : HouseTold A). h.faults) told in
    record { faultless = (omega (arith, faultless), omega (arith, faultless)); counts = omega (arith, faults) }

-- the same for as many workers as are asked for, which is one
pub sound_with : {A : Type 0} (house : HouseTold A) (workers : ℕ) → workers ≡ 1 → IsSound house 1 → IsSound house workers
sound_with house workers one sound = subst (λ (n : ℕ). IsSound house n) (sym one) sound

pub one_is : (n : ℕ) → (n == 1) ≡ true → n ≡ 1
one_is n is = grind (arith, nat_tests)

abbrev asks : Asked → Result Asked NoReading
asks asked = Ok asked

-- what was read is kept where it asks for one worker
pub kept_is : (read : Result Asked NoReading) (asked : Asked) (kept : Option Asked) → read ≡ Ok asked
    → IfSome kept (λ k. (k ≡ asked) × (k.crew.workers ≡ 1)) → IfSome kept (λ k. (read ≡ Ok k) × (k.crew.workers ≡ 1))
kept_is read asked None is h = tt
kept_is read asked (Some k) is h = (is ∙ ap asks (sym h.0), h.1)

-- a fact beside those of what is kept
pub beside : {A : Type 0} (P : Type 0) (Q R : A → Type 0) (kept : Option A) → P → IfSome kept (λ k. Q k × R k) → IfSome kept (λ k. P × Q k × R k)
beside P Q R None p h = tt
beside P Q R (Some k) p h = (p, h.0, h.1)
