use Rattle.std.proofs.Common.{◌<◌, length, get_or, arith}
use Rattle.std.proofs.lemmas.List.{get_or_default}
use Rattle.query.proofs.Built.{as_many, words_told}
use Rattle.query.proofs.building.build_all.Goals as goal

pub bounds-words-i : goal.bounds-words-i
bounds-words-i g c = omega (arith, as_many c.args.day.0 c.args.words.now c.args.terms.now c.requires, c.loop-i-test.true)

pub returns-in-Err-clause-tells : goal.returns-in-Err-clause-tells
returns-in-Err-clause-tells g c =
    let inside : c.loop-i.i < length c.args.words.now = omega (arith, as_many c.args.day.0 c.args.words.now c.args.terms.now c.requires, c.loop-i-test.true) in
    let same = get_or_default c.args.terms.now c.loop-i.i c.index-terms-i.result (get_or c.args.terms.now c.loop-i.i c.index-terms-i.result) c.loop-i-test.true in
    words_told (Unit {0}) (Unit {0}) c.args.day.0 c.args.words.now c.args.terms.now c.loop-i.i c.index-words-i.result (get_or c.args.terms.now c.loop-i.i c.index-terms-i.result) c.loop-i.regexes.items (g.M.Maker.refusals c.args.maker.now) (g.M.Maker.refusals c.loop-i.maker) (g.M.Maker.refusals c.build_word.new.maker) (g.M.Maker.last_refused c.args.maker.now) (g.M.Maker.last_refused c.loop-i.maker) (g.M.Maker.last_refused c.build_word.new.maker) c.in-Err.fault c.loop-i.invariant.stays c.requires inside c.index-words-i.is same c.loop-i.invariant.built c.in-Err.ensures.tells
