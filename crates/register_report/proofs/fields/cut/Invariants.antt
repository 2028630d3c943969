use Rattle.std.proofs.Common.{◌≡◌, ◌++◌}
use Rattle.std.specs.Str.{IsUtf8}
use Rattle.std.specs.Str.Iter.{chars_rest}
use Rattle.std.specs.String.{string_bytes}
use Rattle.register_report.specs.Fields.{cut}
use Rattle.register_report.proofs.fields.cut.Given as goal

abbrev pub invariant-loop-c : goal.invariant-loop-c
invariant-loop-c l = record {
  so_far : string_bytes l.front ++ cut l.left (chars_rest l.c-iterator) ≡ cut l.room l.text;
  utf8 : IsUtf8 (chars_rest l.c-iterator);
}
