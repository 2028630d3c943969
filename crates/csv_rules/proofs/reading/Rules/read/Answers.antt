use Rattle.std.proofs.Common.{rules, ◌≡◌, ℕ, List, [], Option, Some, None, length, ap, sym, ◌∙◌, subst, arith}
use Rattle.std.proofs.lemmas.List.{nil_from_length}
use Rattle.entry_reader.specs.Lines.{contents_of}
use Rattle.csv_rules.specs.Building.{AreBuilt}
use Rattle.csv_rules.specs.Drafts.{progress_of, finished}
use Rattle.csv_rules.specs.Reading.{ended}
use Rattle.csv_rules.specs.declared.kinds.Sheet.{Sheet}
use Rattle.csv_rules.proofs.Progresses.{reached_more, reached_before, reached_end, tidy_more, built_more, finished_sources, stays_then, line_told}
use Rattle.csv_rules.proofs.reading.Rules.read.Goals as goal

pub returns-in-Err : goal.returns-in-Err
returns-in-Err g c =
    line_told (Unit {0}) c.args.text.now c.loop-rest.rest.now c.cut_line.result.0.now c.cut_line.result.1.now c.loop-rest.line (progress_of c.loop-rest.draft) (progress_of c.take_line.new.draft) c.loop-rest.regexes.items c.take_line.new.regexes.items
    (g.M.Maker.refusals c.args.maker.now) (g.M.Maker.refusals c.loop-rest.maker) (g.M.Maker.refusals c.take_line.new.maker) (g.M.Maker.last_refused c.args.maker.now) (g.M.Maker.last_refused c.loop-rest.maker) (g.M.Maker.last_refused c.take_line.new.maker)
    c.in-Err.fault c.loop-rest.invariant.reached c.loop-rest.invariant.built c.cut_line.ensures.cut c.loop-rest.invariant.stays c.in-Err.ensures

pub loop-rest-preserved : goal.loop-rest-preserved
loop-rest-preserved g c =
    let content = c.cut_line.result.0.now in
    let p = progress_of c.loop-rest.draft in
    let q = progress_of c.take_line.new.draft in
    let taken = c.in-Ok.ensures.0 in
    record {
      reached = reached_more c.args.text.now c.loop-rest.rest.now content c.cut_line.result.1.now c.loop-rest.line p q c.loop-rest.regexes.items c.take_line.new.regexes.items c.loop-rest.invariant.reached c.cut_line.ensures.cut taken;
      tidy = tidy_more content p q c.loop-rest.regexes.items c.take_line.new.regexes.items taken c.loop-rest.invariant.tidy;
      built = built_more content p q c.loop-rest.regexes.items c.take_line.new.regexes.items taken c.loop-rest.invariant.built;
      stays = stays_then (g.M.Maker.refusals c.args.maker.now) (g.M.Maker.refusals c.loop-rest.maker) (g.M.Maker.refusals c.take_line.new.maker) (g.M.Maker.last_refused c.args.maker.now) (g.M.Maker.last_refused c.loop-rest.maker) (g.M.Maker.last_refused c.take_line.new.maker) c.loop-rest.invariant.stays c.in-Ok.ensures.1;
      room = omega (arith, c.cut_line.ensures.shorter, c.loop-rest.invariant.room);
    }

pub returns-in-Ok-Some : goal.returns-in-Ok-Some
returns-in-Ok-Some g c =
    let p = progress_of c.loop-rest.draft in
    let sheet = c.in-Ok-Some.sheet in
    let over : length c.loop-rest.rest.now ≡ 0 = search rules in
    let none : contents_of c.loop-rest.rest.now ≡ [] = ap contents_of (nil_from_length c.loop-rest.rest.now over) in
    let done : Some sheet ≡ finished p = rw c.in-Ok-Some.field-0-is at c.in-Ok-Some.ensures in (
      record {
        read = reached_end c.args.text.now c.loop-rest.rest.now c.loop-rest.line p c.loop-rest.invariant.reached none ∙ ap (λ (o : Option Sheet). ended c.loop-rest.line o) (sym done);
        built = subst (λ (sources : List (List ℕ)). AreBuilt sources c.loop-rest.regexes.items) (sym (finished_sources p sheet c.loop-rest.invariant.tidy (sym done))) c.loop-rest.invariant.built;
      },
      c.loop-rest.invariant.stays,
    )

pub returns-in-Ok-None : goal.returns-in-Ok-None
returns-in-Ok-None g c =
    let p = progress_of c.loop-rest.draft in
    let over : length c.loop-rest.rest.now ≡ 0 = search rules in
    let none : contents_of c.loop-rest.rest.now ≡ [] = ap contents_of (nil_from_length c.loop-rest.rest.now over) in
    let open_still : None ≡ finished p = rw c.in-Ok-None.field-0-is at c.in-Ok-None.ensures in (
      record {
        is = reached_end c.args.text.now c.loop-rest.rest.now c.loop-rest.line p c.loop-rest.invariant.reached none ∙ ap (λ (o : Option Sheet). ended c.loop-rest.line o) (sym open_still);
        later = contents_of c.loop-rest.rest.now;
        progress = p;
        before = reached_before c.args.text.now c.loop-rest.rest.now c.loop-rest.line p c.loop-rest.regexes.items c.loop-rest.invariant.reached c.loop-rest.invariant.built;
      },
      c.loop-rest.invariant.stays,
    )
