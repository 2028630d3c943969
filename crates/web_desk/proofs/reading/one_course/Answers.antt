use Rattle.web_desk.proofs.CourseLemmas.{served_follows}
use Rattle.web_desk.proofs.reading.one_course.Goals as goal

pub returns : goal.returns
returns c page bytes end entries text s = served_follows page bytes end entries text s
