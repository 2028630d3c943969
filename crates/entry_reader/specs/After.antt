-- The context after one more item.
use Rattle.std.specs.List.{fold}
use Rattle.book.specs.declared.directive.Directive.{Directive}
use Rattle.book.specs.declared.item.Item.{Item}
use Rattle.entry_reader.specs.Contexts.{Context, directive_in, year_after, mark_after, usual_after, applied_after, aliases_after, marks_after}

-- what a context becomes by a directive
abbrev pub context_said : Context → Directive → Context
context_said context d = record {
  year = year_after context.year d;
  mark = mark_after context.mark d;
  usual = usual_after context.usual d;
  applied = applied_after context.applied d;
  aliases = aliases_after context.aliases d;
  marks = marks_after context.marks d;
}

-- what a context becomes by an item
abbrev pub context_after : Context → Item → Context
context_after context i = record {
  year = fold year_after context.year (directive_in i);
  mark = fold mark_after context.mark (directive_in i);
  usual = fold usual_after context.usual (directive_in i);
  applied = fold applied_after context.applied (directive_in i);
  aliases = fold aliases_after context.aliases (directive_in i);
  marks = fold marks_after context.marks (directive_in i);
}
