use Rattle.std.proofs.Common.{ℕ, refl, subst, sym}
use Rattle.desk_team.specs.Houses.{IsNew}
use Rattle.serve_rows.proofs.case.kit_of.Goals as goal

pub returns : goal.returns
returns c = (subst (λ (n : ℕ). IsNew c.args.door n) (sym c.new-maker.ensures.refusals) c.requires, refl)
