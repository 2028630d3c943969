use Rattle.entry_reader.proofs.Texts.{end_line_utf8}
use Rattle.entry_reader.proofs.comment.joined_comment.Goals as goal

pub append-requires-in-Some : goal.append-requires-in-Some
append-requires-in-Some c = end_line_utf8
