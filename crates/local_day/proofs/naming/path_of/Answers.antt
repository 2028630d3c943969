use Rattle.std.proofs.Common.{◌≡◌, subst, IfOk}
use Rattle.local_day.specs.Naming.{path_of_name}
use Rattle.local_day.proofs.naming.path_of.Goals as goal

pub returns-in-Some : goal.returns-in-Some
returns-in-Some c =
    rw c.in-Some.is
    (subst (λ name. IfOk c.path_of_name.result (λ path. path ≡ path_of_name name)) c.name_of.ensures c.path_of_name.ensures)
