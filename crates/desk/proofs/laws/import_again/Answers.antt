use Rattle.desk.proofs.Again.{adds_nothing}
use Rattle.desk.proofs.laws.import_again.Goals as goal

pub returns : goal.returns
returns c old new faults faults_now earlier between later first again name rules csv legal is =
    adds_nothing old new faults faults_now earlier between later first again name rules csv legal is
