use Rattle.std.proofs.lemmas.Str.{IsUtf8-past_char}
use Rattle.register_report.proofs.Cutting.{fits_more, fits_not, fits_all}
use Rattle.register_report.proofs.fields.cut.Goals as goal

pub loop-c-preserved : goal.loop-c-preserved
loop-c-preserved c =
    let held = c.loop-c.invariant in
    let parts = c.in-Some.ensures.steps.0 in
    record {
      so_far = fits_more _ _ c.loop-c.left c.columns_of-columns.result _ _ c.in-Some.c held.so_far held.utf8 parts c.columns_of-columns.ensures _ c.in_ok-push.ensures.bytes c.if-left-columns.false;
      utf8 = IsUtf8-past_char _ _ c.in-Some.c held.utf8 parts;
    }

pub returns-then-left-columns : goal.returns-then-left-columns
returns-then-left-columns c =
    let held = c.loop-c.invariant in
    fits_not _ _ c.loop-c.left c.columns_of-columns.result _ _ c.in-Some.c held.so_far held.utf8 c.in-Some.ensures.steps.0 c.columns_of-columns.ensures c.if-left-columns.true

pub returns : goal.returns
returns c = fits_all _ _ c.loop-c.left _ c.loop-c.invariant.so_far c.in-None.ensures.steps.0.0
