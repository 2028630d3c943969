use Rattle.web_messages.proofs.EachReads.{each_reads}
use Rattle.web_messages.proofs.reading.each_stream_reads.Goals as goal

pub returns : goal.returns
returns c bytes = each_reads bytes
