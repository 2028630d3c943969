-- The ways in which an account's sum enters what an assignment comes to.
use Rattle.hl_num.specs.Decimal.{Decimal}
use Rattle.balancing.specs.declared.form.Form.{Form}
use Rattle.balancing.specs.declared.form.Form.TheVariants as form
use Rattle.balancing.specs.Assigned.{shortened, whole}

-- a sum as it enters in each form
abbrev pub entering : Form → Decimal → Decimal
entering form.Shortened = shortened
entering form.Whole = whole
