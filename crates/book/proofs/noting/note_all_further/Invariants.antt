use Rattle.std.proofs.Common.{◌≡◌, take}
use Rattle.std.specs.List.{flat_map}
use Rattle.book.specs.Standing.{noted_all, IsSameBut}
use Rattle.book.specs.Style.{further_styles}
use Rattle.book.proofs.noting.note_all_further.Given as goal

abbrev pub invariant-loop-posting : goal.invariant-loop-posting
invariant-loop-posting l = record {
  noted : l.table ≡ noted_all l.number l.initial.table (flat_map further_styles (take l.posting-index l.postings));
  others : IsSameBut l.number l.initial.table l.table;
}
