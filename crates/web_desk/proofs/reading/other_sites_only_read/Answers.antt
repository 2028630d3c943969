use Rattle.web_desk.proofs.CallLemmas.{only_reads}
use Rattle.web_desk.proofs.reading.other_sites_only_read.Goals as goal

pub returns : goal.returns
returns c page m cross = only_reads page m.head m.body cross
