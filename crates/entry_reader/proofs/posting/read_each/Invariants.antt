use Rattle.std.proofs.Common.{◌≡◌, ◌+◌, ◌≤◌, true, length}
use Rattle.std.specs.Str.{is_utf8}
use Rattle.entry_reader.specs.Lines.{contents_of}
use Rattle.entry_reader.specs.Postings.{each_of, posting_of}
use Rattle.entry_reader.proofs.Entries.{with_front}
use Rattle.entry_reader.proofs.posting.read_each.Given as goal

abbrev pub invariant-loop-rest : goal.invariant-loop-rest
invariant-loop-rest l = record {
  so_far : with_front l.postings.items (each_of (posting_of l.holder l.context) l.next (contents_of l.rest)) ≡ each_of (posting_of l.holder l.context) l.fn.line (contents_of l.text);
  room : l.next + length (contents_of l.rest) ≤ l.fn.line + length (contents_of l.text);
  utf8 : is_utf8 l.rest ≡ true;
}

abbrev pub decreases-loop-rest : goal.decreases-loop-rest
decreases-loop-rest l = length l.rest
